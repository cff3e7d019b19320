-- What each call of a question answers and does, by the one relation over all calls.
use Rattle.std.specs.Prelude.{◌≡◌, ℕ, List, [], ◌++◌, length, drop, ℤ, Ok, Err, Result}
use Rattle.std.specs.declared.alloc.AllocFailed.{AllocFailed}
use Rattle.refusals.specs.declared.Refusal.{Refusal}
use Rattle.steps.specs.Calls.{State, open_with, Call, Post, Search, Resume, World, End, Close, Refused, Posted, Searched, Resumed, Read, Ended, Closed, Does}
use Rattle.steps.specs.Clauses.{Clause}
use Rattle.steps.specs.Promises.{Promises}
use Rattle.steps.specs.declared.Verdict.{Verdict}
use Rattle.steps.specs.declared.Verdict.TheVariants.{Found, NoneExist, Paused}
use Rattle.theory.specs.Meaning.{Meaning}
use Rattle.theory.specs.declared.Theory.{Ghosts}
use Rattle.question.specs.Asked.{state_of, meaning_of}
use Rattle.question.specs.declared.Denied.{Denied}
use Rattle.question.specs.declared.EndPass.{EndPass}
use Rattle.question.specs.declared.OpenPass.{OpenPass}
use Rattle.question.specs.declared.Outcome.{Outcome}
use Rattle.question.specs.declared.Outcome.TheVariants as outcome
use Rattle.question.specs.declared.PausedPass.{PausedPass}
use Rattle.question.specs.declared.asked.Question.{Question}

abbrev pub verdict_of : Outcome → Verdict
verdict_of (outcome.Found pass count) = Found
verdict_of (outcome.NoneExist pass count) = NoneExist
verdict_of (outcome.Paused pass count) = Paused

abbrev pub count_of : Outcome → ℕ
count_of (outcome.Found pass count) = count
count_of (outcome.NoneExist pass count) = count
count_of (outcome.Paused pass count) = count

-- a question was opened, or the theory is given back as it was, for want of memory
pub record Opened {T : Type 0} (theory : Ghosts T) (t : T) (q : Question T theory) : Type 0 where
  pub opens : state_of q ≡ open_with []
  pub same : meaning_of q ≡ theory.meaning t
  pub promises : Promises (theory.meaning t)

abbrev pub OpenBy : {T : Type 0} (theory : Ghosts T) → T → Result (Question T theory × OpenPass) (AllocFailed T) → Type 0
OpenBy theory t (Ok opened) = Opened theory t opened.0
OpenBy theory t (Err back) = back.value ≡ t

-- a call that was refused hands its pass back
pub record HandedBack {P : Type 0} (m : Meaning) (s : State) (call : Call) (pass : P) (denied : Denied P) (s' : State) : Type 0 where
  pub same_pass : denied.pass ≡ pass
  pub does : Does m s (Refused call denied.refusal) s'

abbrev pub PostBy : Meaning → State → Clause → Result (Unit {0}) Refusal → State → Type 0
PostBy m s clause (Ok done) s' = Does m s (Posted clause) s'
PostBy m s clause (Err why) s' = Does m s (Refused (Post clause) why) s'

abbrev pub SearchBy : Meaning → State → ℕ → OpenPass → Result Outcome (Denied OpenPass) → State → Type 0
SearchBy m s grant pass (Ok out) s' = Does m s (Searched grant (verdict_of out) (count_of out)) s'
SearchBy m s grant pass (Err denied) s' = HandedBack m s (Search grant) pass denied s'

abbrev pub ResumeBy : Meaning → State → ℕ → PausedPass → Result Outcome (Denied PausedPass) → State → Type 0
ResumeBy m s grant pass (Ok out) s' = Does m s (Resumed grant (verdict_of out) (count_of out)) s'
ResumeBy m s grant pass (Err denied) s' = HandedBack m s (Resume grant) pass denied s'

-- the world is written to the front of the list, or the list is as it was
pub record WorldRead (m : Meaning) (s : State) (world list list' : List ℤ) : Type 0 where
  pub does : Does m s (Read (length list) world) s
  pub written : list' ≡ world ++ drop m.variables list

pub record WorldRefused (m : Meaning) (s : State) (list : List ℤ) (why : Refusal) (list' : List ℤ) : Type 0 where
  pub does : Does m s (Refused (World (length list)) why) s
  pub unchanged : list' ≡ list

abbrev pub WorldBy : Meaning → State → List ℤ → List ℤ → Result (Unit {0}) Refusal → List ℤ → Type 0
WorldBy m s world list (Ok done) list' = WorldRead m s world list list'
WorldBy m s world list (Err why) list' = WorldRefused m s list why list'

abbrev pub EndBy : Meaning → State → EndPass → Result OpenPass (Denied EndPass) → State → Type 0
EndBy m s pass (Ok done) s' = Does m s Ended s'
EndBy m s pass (Err denied) s' = HandedBack m s End pass denied s'

abbrev pub CloseBy : Meaning → State → OpenPass → Result (Unit {0}) (Denied OpenPass) → State → Type 0
CloseBy m s pass (Ok done) s' = Does m s Closed s'
CloseBy m s pass (Err denied) s' = HandedBack m s Close pass denied s'
