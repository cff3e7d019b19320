-- Clauses that stand one after another in one list of literals.
use Rattle.std.specs.Prelude.{◌≡◌, ℕ, ◌≤◌, Bool, true, ◌&&◌, List, [], ◌∷◌, ◌++◌, map, length, slice_range, Some, None, Option, nat_le}
use Rattle.std.specs.declared.ops.Range.{Range}
use Rattle.refusals.specs.declared.Refusal.{Refusal}
use Rattle.steps.specs.Calls.{literals_in}
use Rattle.steps.specs.Clauses.{Clause}

abbrev pub clause_at : List ℕ → Range ℕ → Clause
clause_at literals place = slice_range literals place.start place.end

abbrev pub clauses_at : List ℕ → List (Range ℕ) → List Clause
clauses_at literals places = map (clause_at literals) places

-- every place lies within so many literals
abbrev pub within : ℕ → List (Range ℕ) → Bool
within literals [] = true
within literals (place ∷ places) = nat_le place.start place.end && (nat_le place.end literals && within literals places)

-- there is room for all that may be posted, every place lies within the literals, and the clauses hold all of them
pub record Placed (capacity clause_capacity : ℕ) (literals : List ℕ) (places : List (Range ℕ)) : Type 0 where
  pub room : 2048 ≤ capacity
  pub clause_room : 256 ≤ clause_capacity
  pub inside : within (length literals) places ≡ true
  pub total : literals_in (clauses_at literals places) ≡ length literals

-- the clauses after a post, by the ground on which it is refused
abbrev pub posted_to : List Clause → Clause → Option Refusal → List Clause
posted_to clauses clause None = clauses ++ (clause ∷ [])
posted_to clauses clause (Some why) = clauses
