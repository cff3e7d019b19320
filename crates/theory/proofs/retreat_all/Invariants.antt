use Rattle.std.proofs.Common.{◌≡◌, length}
use Rattle.theory.proofs.retreat_all.Given as goal

abbrev pub invariant-loop : goal.invariant-loop
invariant-loop g l = g.T.Theory.meaning l.theory ≡ g.T.Theory.meaning l.initial.theory

abbrev pub decreases-loop : goal.decreases-loop
decreases-loop g l = length (g.T.Theory.stack l.theory)
