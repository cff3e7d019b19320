use Rattle.question.proofs.Staged.{still_there}
use Rattle.question.proofs.asked.Question.conclude.Goals as goal

pub invariant_of-self : goal.invariant_of-self
invariant_of-self g c = record { atoms_there = still_there _ c.run-verdict.ensures.same c.args.self.now.atoms_there; resting = tt }

pub invariant_of-self-in-Paused : goal.invariant_of-self-in-Paused
invariant_of-self-in-Paused g c = record { atoms_there = still_there _ c.run-verdict.ensures.same c.args.self.now.atoms_there; resting = tt }
