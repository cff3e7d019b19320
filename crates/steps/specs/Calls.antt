-- The calls of a question, and what each does.
use Rattle.std.specs.Prelude.{◌≡◌, ℕ, ◌+◌, Bool, true, false, cond, not, ◌&&◌, ◌||◌, List, [], ◌∷◌, ◌++◌, length, ℤ, Some, None, Option, nat_lt}
use Rattle.refusals.specs.declared.Refusal.{Refusal}
use Rattle.refusals.specs.declared.Refusal.TheVariants.{StageForbids, NoSuchAtom, AtomTwice, QuestionFull, WorldListShort}
use Rattle.theory.specs.Meaning.{Meaning, atom_of, names, WorldOf}
use Rattle.steps.specs.Clauses.{Clause}
use Rattle.steps.specs.Steps.{Trail, codes_of, Runs}
use Rattle.steps.specs.declared.Verdict.{Verdict}
use Rattle.steps.specs.declared.Verdict.TheVariants.{Found, NoneExist, Paused}

pub data Call : Type 0 where
  Post : Clause → Call
  -- with the decisions that are granted
  Search : ℕ → Call
  Resume : ℕ → Call
  -- with the places of the list that the world is to be written to
  World : ℕ → Call
  End : Call
  Close : Call

-- A call with its answer.
pub data Event : Type 0 where
  Refused : Call → Refusal → Event
  Posted : Clause → Event
  -- with the grant, the verdict, and the decisions counted in this call
  Searched : ℕ → Verdict → ℕ → Event
  Resumed : ℕ → Verdict → ℕ → Event
  -- with the places of the list, and the numbers written to its front
  Read : ℕ → List ℤ → Event
  Ended : Event
  Closed : Event

-- The state of a question in each of its stages: the clauses posted, and the trail of a search that is not over.
pub data State : Type 0 where
  open_with : List Clause → State
  paused_at : List Clause → Trail → State
  found_at : List Clause → Trail → State
  closed : State

abbrev pub are_atoms_below : ℕ → Clause → Bool
are_atoms_below atoms [] = true
are_atoms_below atoms (literal ∷ clause) = nat_lt (atom_of literal) atoms && are_atoms_below atoms clause

abbrev pub atom_twice : Clause → Bool
atom_twice [] = false
atom_twice (literal ∷ clause) = names clause (atom_of literal) || atom_twice clause

abbrev pub literals_in : List Clause → ℕ
literals_in [] = 0
literals_in (clause ∷ clauses) = length clause + literals_in clauses

-- why a clause is not posted, in checking order
abbrev pub post_ground : ℕ → List Clause → Clause → Option Refusal
post_ground atoms clauses clause =
    cond (not (are_atoms_below atoms clause)) (Some NoSuchAtom)
    (cond (atom_twice clause) (Some AtomTwice)
    (cond (nat_lt 256 (length clauses + 1) || nat_lt 2048 (literals_in clauses + length clause)) (Some QuestionFull) None))

-- why a call is refused: the stage and the call decide together
abbrev pub refusal : Meaning → State → Call → Option Refusal
refusal m (open_with clauses) (Post clause) = post_ground m.atoms clauses clause
refusal m (open_with clauses) (Search grant) = None
refusal m (open_with clauses) (Resume grant) = Some StageForbids
refusal m (open_with clauses) (World places) = Some StageForbids
refusal m (open_with clauses) End = Some StageForbids
refusal m (open_with clauses) Close = None
refusal m (paused_at clauses trail) (Post clause) = Some StageForbids
refusal m (paused_at clauses trail) (Search grant) = Some StageForbids
refusal m (paused_at clauses trail) (Resume grant) = None
refusal m (paused_at clauses trail) (World places) = Some StageForbids
refusal m (paused_at clauses trail) End = None
refusal m (paused_at clauses trail) Close = Some StageForbids
refusal m (found_at clauses trail) (Post clause) = Some StageForbids
refusal m (found_at clauses trail) (Search grant) = Some StageForbids
refusal m (found_at clauses trail) (Resume grant) = Some StageForbids
refusal m (found_at clauses trail) (World places) = cond (nat_lt places m.variables) (Some WorldListShort) None
refusal m (found_at clauses trail) End = None
refusal m (found_at clauses trail) Close = Some StageForbids
refusal m closed call = Some StageForbids

-- the state that a verdict leads to
abbrev pub state_after : Verdict → List Clause → Trail → State
state_after Found clauses trail = found_at clauses trail
state_after Paused clauses trail = paused_at clauses trail
state_after NoneExist clauses trail = open_with clauses

-- What a call does: the state before, the call with its answer, the state after.
pub data Does (m : Meaning) : State → Event → State → Type 0 where
  refused : {s : State} {c : Call} {why : Refusal} → refusal m s c ≡ Some why → Does m s (Refused c why) s
  posted : {ks : List Clause} {k : Clause} → refusal m (open_with ks) (Post k) ≡ None → Does m (open_with ks) (Posted k) (open_with (ks ++ (k ∷ [])))
  searched : {ks : List Clause} {grant count : ℕ} {v : Verdict} {t : Trail} → Runs m ks grant [] v count t
      → Does m (open_with ks) (Searched grant v count) (state_after v ks t)
  resumed : {ks : List Clause} {grant count : ℕ} {v : Verdict} {t t' : Trail} → Runs m ks grant t v count t'
      → Does m (paused_at ks t) (Resumed grant v count) (state_after v ks t')
  read : {ks : List Clause} {t : Trail} {places : ℕ} {world : List ℤ} → refusal m (found_at ks t) (World places) ≡ None → WorldOf m (codes_of t) world
      → Does m (found_at ks t) (Read places world) (found_at ks t)
  ended_paused : {ks : List Clause} {t : Trail} → Does m (paused_at ks t) Ended (open_with ks)
  ended_found : {ks : List Clause} {t : Trail} → Does m (found_at ks t) Ended (open_with ks)
  closing : {ks : List Clause} → Does m (open_with ks) Closed closed

-- What can happen to a question from its opening on: calls with their answers, newest first, and the state they lead to.
pub data History (m : Meaning) : List Event → State → Type 0 where
  opening : History m [] (open_with [])
  next : {events : List Event} {e : Event} {s s' : State} → History m events s → Does m s e s' → History m (e ∷ events) s'
