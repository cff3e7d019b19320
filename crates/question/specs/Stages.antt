-- The stages of a question, and what a call makes of them.
use Rattle.std.specs.Prelude.{List, Ok, Err, Result}
use Rattle.refusals.specs.declared.Refusal.{Refusal}
use Rattle.refusals.specs.declared.Refusal.TheVariants.{StageForbids}
use Rattle.question.specs.declared.Ask.{Ask}
use Rattle.question.specs.declared.Ask.TheVariants.{Post, Search, Resume, World, End, Close}
use Rattle.question.specs.declared.Stage.{Stage}
use Rattle.question.specs.declared.Stage.TheVariants.{Open, Paused, Found, Closed}
use Rattle.steps.specs.Calls.{State, open_with, paused_at, found_at, closed}
use Rattle.steps.specs.Clauses.{Clause}
use Rattle.steps.specs.Steps.{Trail}

abbrev pub state_in : Stage → List Clause → Trail → State
state_in Open clauses trail = open_with clauses
state_in Paused clauses trail = paused_at clauses trail
state_in Found clauses trail = found_at clauses trail
state_in Closed clauses trail = closed

-- The stage that a call leads to, or the refusal where the stage does not allow it. A search leaves its question paused
-- until its verdict is known.
abbrev pub stage_after : Stage → Ask → Result Stage Refusal
stage_after Open Post = Ok Open
stage_after Open Search = Ok Paused
stage_after Open Resume = Err StageForbids
stage_after Open World = Err StageForbids
stage_after Open End = Err StageForbids
stage_after Open Close = Ok Closed
stage_after Paused Post = Err StageForbids
stage_after Paused Search = Err StageForbids
stage_after Paused Resume = Ok Paused
stage_after Paused World = Err StageForbids
stage_after Paused End = Ok Open
stage_after Paused Close = Err StageForbids
stage_after Found Post = Err StageForbids
stage_after Found Search = Err StageForbids
stage_after Found Resume = Err StageForbids
stage_after Found World = Ok Found
stage_after Found End = Ok Open
stage_after Found Close = Err StageForbids
stage_after Closed ask = Err StageForbids
