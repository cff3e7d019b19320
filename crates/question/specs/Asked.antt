-- A question as its calls see it: its state, and what its theory means.
use Rattle.std.specs.Prelude.{List}
use Rattle.steps.specs.Calls.{State}
use Rattle.steps.specs.Clauses.{Clause}
use Rattle.steps.specs.Steps.{Trail}
use Rattle.theory.specs.Meaning.{Meaning}
use Rattle.theory.specs.declared.Theory.{Ghosts}
use Rattle.question.specs.Stages.{state_in}
use Rattle.question.specs.declared.asked.Question.{Question}

module _ {T : Type 0} {theory : Ghosts T} where
  abbrev pub clauses_of : Question T theory → List Clause
  clauses_of q = q.clauses

  -- the trail, newest first
  abbrev pub trail_of : Question T theory → Trail
  trail_of q = q.solver.assignment.trail

  abbrev pub state_of : Question T theory → State
  state_of q = state_in q.stage (clauses_of q) (trail_of q)

  abbrev pub meaning_of : Question T theory → Meaning
  meaning_of q = theory.meaning q.solver.theory
