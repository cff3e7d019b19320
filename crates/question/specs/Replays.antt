-- Calls and answers as data, and which events they are.
use Rattle.std.specs.Prelude.{◌≡◌, ◌⊎◌, ℕ, List, [], ◌∷◌, map, reverse, ℤ, Some, None, Ok, Err, vec_items, Option, Result}
use Rattle.std.specs.declared.alloc.AllocFailed.{AllocFailed}
use Rattle.steps.specs.Calls.{Call, Post, Search, Resume, World, End, Close, Event, Refused, Posted, Searched, Resumed, Read, Ended, Closed, State, Does, History}
use Rattle.steps.specs.Promises.{AllRight}
use Rattle.steps.specs.declared.Verdict.{Verdict}
use Rattle.steps.specs.declared.Verdict.TheVariants.{Found, NoneExist, Paused}
use Rattle.theory.specs.Meaning.{Meaning}
use Rattle.theory.specs.declared.Theory.{Ghosts}
use Rattle.question.specs.declared.Outcome.{Outcome}
use Rattle.question.specs.declared.Outcome.TheVariants as outcome
use Rattle.question.specs.declared.asked.replay.Answer.{Answer}
use Rattle.question.specs.declared.asked.replay.Answer.TheVariants as answer
use Rattle.question.specs.declared.asked.replay.Call as data_call
use Rattle.question.specs.declared.asked.replay.Call.TheVariants as call
use Rattle.question.specs.declared.asked.replay.Replayed.{Replayed}

-- a call as data; a world is asked for with as many places as there are variables
abbrev pub call_of : ℕ → data_call.Call → Call
call_of variables (call.Post clause) = Post clause.now
call_of variables (call.Search grant) = Search grant
call_of variables (call.Resume grant) = Resume grant
call_of variables call.World = World variables
call_of variables call.End = End
call_of variables call.Close = Close

abbrev pub outcome_answer : Outcome → Answer
outcome_answer (outcome.Found pass count) = answer.Found count
outcome_answer (outcome.NoneExist pass count) = answer.NoneExist count
outcome_answer (outcome.Paused pass count) = answer.Paused count

abbrev pub posted_event : Call → Option Event
posted_event (Post clause) = Some (Posted clause)
posted_event (Search grant) = None
posted_event (Resume grant) = None
posted_event (World places) = None
posted_event End = None
posted_event Close = None

abbrev pub verdict_event : Verdict → ℕ → Call → Option Event
verdict_event verdict count (Post clause) = None
verdict_event verdict count (Search grant) = Some (Searched grant verdict count)
verdict_event verdict count (Resume grant) = Some (Resumed grant verdict count)
verdict_event verdict count (World places) = None
verdict_event verdict count End = None
verdict_event verdict count Close = None

abbrev pub read_event : List ℤ → Call → Option Event
read_event world (Post clause) = None
read_event world (Search grant) = None
read_event world (Resume grant) = None
read_event world (World places) = Some (Read places world)
read_event world End = None
read_event world Close = None

abbrev pub ended_event : Call → Option Event
ended_event (Post clause) = None
ended_event (Search grant) = None
ended_event (Resume grant) = None
ended_event (World places) = None
ended_event End = Some Ended
ended_event Close = None

abbrev pub closed_event : Call → Option Event
closed_event (Post clause) = None
closed_event (Search grant) = None
closed_event (Resume grant) = None
closed_event (World places) = None
closed_event End = None
closed_event Close = Some Closed

-- the event that a call with an answer is, if the answer is one to this call
abbrev pub event_of : Call → Answer → Option Event
event_of c (answer.Refused why) = Some (Refused c why)
event_of c answer.Accepted = posted_event c
event_of c (answer.Found count) = verdict_event Found count c
event_of c (answer.NoneExist count) = verdict_event NoneExist count c
event_of c (answer.Paused count) = verdict_event Paused count c
event_of c (answer.World world) = read_event (vec_items world) c
event_of c answer.Ended = ended_event c
event_of c answer.Closed = closed_event c

-- an answer is what the question gives to the call
pub record Performed (m : Meaning) (s : State) (c : Call) (a : Answer) (s' : State) : Type 0 where
  pub event : Event
  pub told : event_of c a ≡ Some event
  pub does : Does m s event s'

-- for want of memory a call changes nothing
abbrev pub PerformBy : {E : Type 0} → Meaning → State → Call → Result Answer E → State → Type 0
PerformBy m s c (Ok a) s' = Performed m s c a s'
PerformBy m s c (Err e) s' = s' ≡ s

-- answers to calls, one for each, as events, oldest first
abbrev pub TellsAll : List Call → List Answer → List Event → Type 0
TellsAll [] [] [] = Unit {0}
TellsAll [] [] (e ∷ events) = ⊥
TellsAll [] (a ∷ answers) events = ⊥
TellsAll (c ∷ calls) [] events = ⊥
TellsAll (c ∷ calls) (a ∷ answers) [] = ⊥
TellsAll (c ∷ calls) (a ∷ answers) (e ∷ events) = (event_of c a ≡ Some e) × TellsAll calls answers events

-- The answers are what a question gives to the calls from its opening on, and all that is promised of every list of calls
-- holds of them. Events are newest first.
pub record Answered (m : Meaning) (calls : List data_call.Call) (answers : List Answer) : Type 0 where
  pub events : List Event
  pub state : State
  pub history : History m events state
  pub told : TellsAll (map (call_of m.variables) calls) answers (reverse events)
  pub right : AllRight m events

-- the theory comes back: it means what it meant
pub record ReplayedRight {T : Type 0} (theory : Ghosts T) (t : T) (calls : List data_call.Call) (done : Replayed T) : Type 0 where
  pub answered : Answered (theory.meaning t) calls (vec_items done.answers)
  pub same : theory.meaning done.theory ≡ theory.meaning t
  pub empty : theory.stack done.theory ≡ []

-- for want of memory only the theory comes back: as it was, or with the same meaning and nothing set
abbrev pub ReplayBy : {T : Type 0} → Ghosts T → T → List data_call.Call → Result (Replayed T) (AllocFailed T) → Type 0
ReplayBy theory t calls (Ok done) = ReplayedRight theory t calls done
ReplayBy theory t calls (Err back) = (back.value ≡ t) ⊎ ((theory.meaning back.value ≡ theory.meaning t) × (theory.stack back.value ≡ []))
