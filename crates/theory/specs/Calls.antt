-- What each call of a theory does to its meaning, whichever world and conflict it chooses to give.
use Rattle.std.specs.Prelude.{◌≡◌, ℕ, ◌-◌, cond, List, [], ◌∷◌, ◌++◌, length, take, drop, ℤ, Some, None, Ok, Err, Option, Result, MatchOption, nat_le, nat_lt}
use Rattle.refusals.specs.Grounds.{clash_count}
use Rattle.refusals.specs.declared.Refusal.{Refusal}
use Rattle.refusals.specs.declared.Refusal.TheVariants.{NoSuchAtom, AtomSet, ConflictListShort, MoreThanSet, WorldListShort}
use Rattle.theory.specs.Meaning.{Meaning, atom_of, names, NoWorld}

-- why a literal is not even looked at, in checking order
abbrev pub set_ground : ℕ → List ℕ → ℕ → ℕ → Option Refusal
set_ground atoms stack code places =
    cond (nat_le atoms (atom_of code)) (Some NoSuchAtom)
    (cond (names stack (atom_of code)) (Some AtomSet)
    (cond (nat_lt places atoms) (Some ConflictListShort) None))

abbrev pub ground_answer : Option Refusal → Result (Unit {0}) Refusal
ground_answer None = Ok tt
ground_answer (Some why) = Err why

-- some of the elements of a list, in its order
pub data Picked {X : Type 0} : List X → List X → Type 0 where
  none : Picked [] []
  keep : {x : X} {xs ys : List X} → Picked xs ys → Picked (x ∷ xs) (x ∷ ys)
  skip : {y : X} {xs ys : List X} → Picked xs ys → Picked xs (y ∷ ys)

-- a true conflict: the new literal and some set literals in stack order, which have no world together
pub record Conflict (m : Meaning) (stack : List ℕ) (code : ℕ) (conflict : List ℕ) : Type 0 where
  pub others : List ℕ
  pub begins : conflict ≡ code ∷ others
  pub in_order : Picked others stack
  pub no_world : NoWorld m conflict

-- `set` put the literal on the end of the stack
pub record Gained (m : Meaning) (stack : List ℕ) (code : ℕ) (list stack' list' : List ℕ) : Type 0 where
  pub reason : set_ground m.atoms stack code (length list) ≡ None
  pub grown : stack' ≡ stack ++ (code ∷ [])
  pub list_same : list' ≡ list

-- `set` met a clash: the conflict stands at the front of the list, and the answer says how long it is
pub record Clashed (m : Meaning) (stack conflict : List ℕ) (code : ℕ) (list : List ℕ) (count : ℕ) (stack' list' : List ℕ) : Type 0 where
  pub reason : set_ground m.atoms stack code (length list) ≡ None
  pub stack_same : stack' ≡ stack
  pub counted : count ≡ length conflict
  pub written : list' ≡ conflict ++ drop (length conflict) list
  pub true_conflict : Conflict m stack code conflict

-- `set` refused on another ground
pub record NotLookedAt (m : Meaning) (stack : List ℕ) (code : ℕ) (list : List ℕ) (why : Refusal) (stack' list' : List ℕ) : Type 0 where
  pub reason : set_ground m.atoms stack code (length list) ≡ Some why
  pub stack_same : stack' ≡ stack
  pub list_same : list' ≡ list

-- What `set` does: the meaning, the stack before, the conflict that would be given, the code, the list before, the
-- answer, the stack and the list after.
abbrev pub SetBy : Meaning → List ℕ → List ℕ → ℕ → List ℕ → Result (Unit {0}) Refusal → List ℕ → List ℕ → Type 0
SetBy m stack conflict code list (Ok _) stack' list' = Gained m stack code list stack' list'
SetBy m stack conflict code list (Err why) stack' list' =
    MatchOption (clash_count why)
    (NotLookedAt m stack code list why stack' list')
    (λ count. Clashed m stack conflict code list count stack' list')

-- dropping the newest literals
abbrev pub retreat_answer : {X : Type 0} → List X → ℕ → Result (Unit {0}) Refusal
retreat_answer stack count = cond (nat_lt (length stack) count) (Err MoreThanSet) (Ok tt)

abbrev pub retreated : {X : Type 0} → List X → ℕ → List X
retreated stack count = cond (nat_lt (length stack) count) stack (take (length stack - count) stack)

-- writing a world to the front of a list
abbrev pub world_answer : ℕ → List ℤ → Result (Unit {0}) Refusal
world_answer variables list = cond (nat_lt (length list) variables) (Err WorldListShort) (Ok tt)

abbrev pub world_written : ℕ → List ℤ → List ℤ → List ℤ
world_written variables world list = cond (nat_lt (length list) variables) list (world ++ drop variables list)
