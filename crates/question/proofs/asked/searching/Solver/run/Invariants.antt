use Rattle.std.proofs.Common.{◌≡◌, ◌≤◌}
use Rattle.steps.specs.Steps.{looking, Steps}
use Rattle.steps.proofs.Weight.{weight}
use Rattle.question.proofs.asked.searching.Solver.run.Given as goal

abbrev pub invariant-loop-counted : goal.invariant-loop-counted
invariant-loop-counted g l =
    record {
      same : g.T.Theory.meaning l.self.theory ≡ g.T.Theory.meaning l.initial.self.theory;
      steps : Steps (g.T.Theory.meaning l.initial.self.theory) l.clauses l.grant (looking l.initial.self.assignment.trail 0) (looking l.self.assignment.trail l.count);
      granted : l.count ≤ l.grant;
    }

abbrev pub decreases-loop-counted : goal.decreases-loop-counted
decreases-loop-counted g l = weight (g.T.Theory.meaning l.initial.self.theory).atoms (looking l.self.assignment.trail l.count)
