-- The stages of a question, as far as passes tell them.
use Rattle.std.specs.Prelude.{◌≡◌, Bool, true, false}
use Rattle.steps.specs.Calls.{State, open_with, paused_at, found_at, closed}
use Rattle.question.specs.declared.Outcome.{Outcome}
use Rattle.question.specs.declared.Outcome.TheVariants as outcome

abbrev pub is_open : State → Bool
is_open (open_with clauses) = true
is_open (paused_at clauses trail) = false
is_open (found_at clauses trail) = false
is_open closed = false

-- a search is under way: paused, or with something found
abbrev pub is_searched : State → Bool
is_searched (open_with clauses) = false
is_searched (paused_at clauses trail) = true
is_searched (found_at clauses trail) = true
is_searched closed = false

-- the stage is the one of the outcome's pass
abbrev pub MeetsPass : Outcome → State → Type 0
MeetsPass (outcome.Found pass count) s = is_searched s ≡ true
MeetsPass (outcome.NoneExist pass count) s = is_open s ≡ true
MeetsPass (outcome.Paused pass count) s = is_searched s ≡ true
