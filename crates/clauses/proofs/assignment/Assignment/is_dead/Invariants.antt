use Rattle.std.proofs.Common.{◌≡◌, drop}
use Rattle.steps.specs.Clauses.{dead}
use Rattle.steps.specs.Steps.{codes_of}
use Rattle.clauses.proofs.assignment.Assignment.is_dead.Given as goal

abbrev pub invariant-loop-literal : goal.invariant-loop-literal
invariant-loop-literal l =
    dead (codes_of l.self.trail) (drop l.literal-index l.clause) ≡ dead (codes_of l.self.trail) l.clause
