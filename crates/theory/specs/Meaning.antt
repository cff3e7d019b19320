-- What a theory means, and the law that each theory shows.
use Rattle.std.specs.Prelude.{◌≡◌, ℕ, ◌+◌, ◌*◌, ◌/◌, ◌<◌, ◌≤◌, Bool, true, false, not, ◌&&◌, ◌||◌, List, [], ◌∷◌, length, ℤ, ◌==◌, nat_lt}
use Rattle.std.specs.List.{AllByRecursion}

-- Atoms and variables are numbered from 0. A literal's code is twice its atom's number for the atom itself, and one more
-- for the opposite. A world gives each variable a whole number.
pub record Meaning : Type 0 where
  pub atoms : ℕ
  pub variables : ℕ
  -- whether the literal with a code holds in a world
  pub holds : ℕ → List ℤ → Bool

abbrev pub atom_of : ℕ → ℕ
atom_of code = code / 2

-- The law: at most 512 atoms and variables, and in every world exactly one of a literal and its opposite holds.
pub record Lawful (m : Meaning) : Type 0 where
  pub few_atoms : m.atoms ≤ 512
  pub few_variables : m.variables ≤ 512
  pub one_of_two : (a : ℕ) → a < m.atoms → (world : List ℤ) → length world ≡ m.variables
      → m.holds (2 * a + 1) world ≡ not (m.holds (2 * a) world)

-- all of the literals hold in the world
abbrev pub AllHold : Meaning → List ℕ → List ℤ → Type 0
AllHold m literals world = AllByRecursion (λ code. m.holds code world ≡ true) literals

-- a world in which all of the literals hold
pub record WorldOf (m : Meaning) (literals : List ℕ) (world : List ℤ) : Type 0 where
  pub whole : length world ≡ m.variables
  pub all_hold : AllHold m literals world

-- the literals have a world together
pub record HasWorld (m : Meaning) (literals : List ℕ) : Type 0 where
  pub world : List ℤ
  pub is_world : WorldOf m literals world

-- the literals have no world together
abbrev pub NoWorld : Meaning → List ℕ → Type 0
NoWorld m literals = (world : List ℤ) → WorldOf m literals world → ⊥

-- whether the literal with a code is among the literals
abbrev pub has : List ℕ → ℕ → Bool
has [] code = false
has (x ∷ codes) code = x == code || has codes code

-- whether one of the literals is of the atom
abbrev pub names : List ℕ → ℕ → Bool
names [] atom = false
names (code ∷ codes) atom = atom_of code == atom || names codes atom

-- whether the literals are of different atoms that there are
abbrev pub different : ℕ → List ℕ → Bool
different atoms [] = true
different atoms (code ∷ codes) = nat_lt (atom_of code) atoms && (not (names codes (atom_of code)) && different atoms codes)
