-- Clauses under set literals: true and false literals, dead clauses, due literals.
use Rattle.std.specs.Prelude.{◌≡◌, ℕ, ◌+◌, ◌-◌, ◌%◌, ◌<◌, Bool, true, false, cond, not, ◌&&◌, ◌||◌, List, [], ◌∷◌, length, ℤ, Some, None, Option, ◌==◌}
use Rattle.std.specs.List.{AllByRecursion}
use Rattle.theory.specs.Meaning.{Meaning, has, names}

-- A clause is a list of literal codes. It asks that one of them holds.
abbrev pub Clause : Type 0
Clause = List ℕ

abbrev pub opposite : ℕ → ℕ
opposite code = cond (code % 2 == 0) (code + 1) (code - 1)

-- A literal is true when it is set, and false when its opposite is set.
abbrev pub is_true : List ℕ → ℕ → Bool
is_true set literal = has set literal

abbrev pub is_false : List ℕ → ℕ → Bool
is_false set literal = has set (opposite literal)

-- whether every literal of the clause is false
abbrev pub dead : List ℕ → Clause → Bool
dead set [] = true
dead set (literal ∷ clause) = is_false set literal && dead set clause

-- the clause's due literal: its one unset literal, when all its others are false
abbrev pub due : List ℕ → Clause → Option ℕ
due set [] = None
due set (literal ∷ clause) =
    cond (is_false set literal) (due set clause)
    (cond (is_true set literal || not (dead set clause)) None (Some literal))

abbrev pub some_dead : List ℕ → List Clause → Bool
some_dead set [] = false
some_dead set (clause ∷ clauses) = dead set clause || some_dead set clauses

abbrev pub or_else : Option ℕ → Option ℕ → Option ℕ
or_else (Some literal) later = Some literal
or_else None later = later

-- the due literal of the first clause that has one
abbrev pub first_due : List ℕ → List Clause → Option ℕ
first_due set [] = None
first_due set (clause ∷ clauses) = or_else (due set clause) (first_due set clauses)

-- every atom is set
abbrev pub AllSet : ℕ → List ℕ → Type 0
AllSet atoms set = (atom : ℕ) → atom < atoms → names set atom ≡ true

pub record LowestUnset (atoms : ℕ) (set : List ℕ) (atom : ℕ) : Type 0 where
  pub there : atom < atoms
  pub unset : names set atom ≡ false
  pub lowest : (lower : ℕ) → lower < atom → names set lower ≡ true

-- one of the clause's literals holds in the world
abbrev pub holds_in : Meaning → List ℤ → Clause → Bool
holds_in m world [] = false
holds_in m world (literal ∷ clause) = m.holds literal world || holds_in m world clause

-- whole numbers in which every clause has a literal that holds
pub record Satisfies (m : Meaning) (clauses : List Clause) (world : List ℤ) : Type 0 where
  pub whole : length world ≡ m.variables
  pub all_hold : AllByRecursion (λ clause. holds_in m world clause ≡ true) clauses

abbrev pub Unsatisfiable : Meaning → List Clause → Type 0
Unsatisfiable m clauses = (world : List ℤ) → Satisfies m clauses world → ⊥
