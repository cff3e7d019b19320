use Rattle.std.proofs.Common.{◌≡◌, length}
use Rattle.question.proofs.asked.searching.Solver.clear.Given as goal

abbrev pub invariant-loop : goal.invariant-loop
invariant-loop g l = g.T.Theory.meaning l.self.theory ≡ g.T.Theory.meaning l.initial.self.theory

abbrev pub decreases-loop : goal.decreases-loop
decreases-loop g l = length l.self.assignment.trail
