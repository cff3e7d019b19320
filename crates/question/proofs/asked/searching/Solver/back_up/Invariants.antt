use Rattle.std.proofs.Common.{◌≡◌, length}
use Rattle.question.proofs.Rules.{Backing}
use Rattle.question.proofs.asked.searching.Solver.back_up.Given as goal

abbrev pub invariant-loop-entry : goal.invariant-loop-entry
invariant-loop-entry g l =
    record {
      same : g.T.Theory.meaning l.self.theory ≡ g.T.Theory.meaning l.initial.self.theory;
      backing : Backing (g.T.Theory.meaning l.initial.self.theory) l.initial.self.assignment.trail l.self.assignment.trail;
    }

abbrev pub decreases-loop-entry : goal.decreases-loop-entry
decreases-loop-entry g l = length l.self.assignment.trail
