use Rattle.std.proofs.Common.{◌≡◌, drop}
use Rattle.steps.specs.Clauses.{due}
use Rattle.steps.specs.Steps.{codes_of}
use Rattle.clauses.proofs.Scans.{due_with}
use Rattle.clauses.proofs.assignment.Assignment.due.Given as goal

abbrev pub invariant-loop-literal : goal.invariant-loop-literal
invariant-loop-literal l =
    due_with (codes_of l.self.trail) l.due (drop l.literal-index l.clause) ≡ due (codes_of l.self.trail) l.clause
