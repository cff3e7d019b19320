use Rattle.std.proofs.Common.{◌≡◌, length}
use Rattle.steps.specs.Calls.{atom_twice}
use Rattle.clauses.proofs.posted.names_twice.Given as goal

abbrev pub invariant-loop-rest : goal.invariant-loop-rest
invariant-loop-rest l = atom_twice l.rest ≡ atom_twice l.clause

abbrev pub decreases-loop-rest : goal.decreases-loop-rest
decreases-loop-rest l = length l.rest
