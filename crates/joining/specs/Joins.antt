-- Variables that are to be equal or to differ, and which of them equalities join.
use Rattle.std.specs.Prelude.{◌≡◌, ℕ, zero, suc, ◌<◌, ◌≤◌, Bool, true, cond, not, ◌&&◌, List, [], ◌∷◌, map, length, ℤ, pos, int_le, slice_index_or}
use Rattle.std.specs.Int.{int_max, int_min}
use Rattle.std.specs.List.{ContainsAt as Has, AllByRecursion}
use Rattle.joining.specs.declared.Join.{Join}

-- the number of a variable
abbrev pub at : List ℤ → ℕ → ℤ
at world x = slice_index_or world x (pos 0)

abbrev pub same : ℤ → ℤ → Bool
same x y = int_le x y && int_le y x

-- what a join says of a world
abbrev pub join_holds : List ℤ → Join → Bool
join_holds world j = cond j.equal (same (at world j.a) (at world j.b)) (not (same (at world j.a) (at world j.b)))

-- a join of variables that there are
pub record Fits (variables : ℕ) (j : Join) : Type 0 where
  pub a_below : j.a < variables
  pub b_below : j.b < variables

abbrev pub Holds : List Join → List ℤ → Type 0
Holds joins world = AllByRecursion (λ j. join_holds world j ≡ true) joins

-- no world of so many variables is as the joins say
abbrev pub NoWorld : List Join → ℕ → Type 0
NoWorld joins variables = (world : List ℤ) → length world ≡ variables → Holds joins world → ⊥

-- two variables that equalities among the joins join, directly or one after the other
pub data Joined (joins : List Join) : ℕ → ℕ → Type 0 where
  itself : {x : ℕ} → Joined joins x x
  onward : {x : ℕ} (j : Join) → Has joins j → j.equal ≡ true → Joined joins x j.a → Joined joins x j.b
  back : {x : ℕ} (j : Join) → Has joins j → j.equal ≡ true → Joined joins x j.b → Joined joins x j.a

-- Each variable has the lowest number that is joined to it.
pub record Lowest (joins : List Join) (labels : List ℤ) : Type 0 where
  pub label : ℕ → ℕ
  pub shown : (x : ℕ) → x < length labels → at labels x ≡ pos (label x)
  pub is_joined : (x : ℕ) → x < length labels → Joined joins x (label x)
  pub is_lowest : (x y : ℕ) → x < length labels → Joined joins x y → label x ≤ y

-- How the labels are found: each variable begins with its own number, and an equality leaves the lower of two labels.

abbrev pub relabelled : ℤ → ℤ → List ℤ → List ℤ
relabelled from to labels = map (λ label. cond (same label from) to label) labels

abbrev pub joined_by : Join → List ℤ → List ℤ
joined_by j labels =
    cond
    j.equal
    (relabelled
    (int_max (at labels j.a) (at labels j.b))
    (int_min (at labels j.a) (at labels j.b))
    labels)
    labels

abbrev pub joined_by_all : List Join → List ℤ → List ℤ
joined_by_all [] labels = labels
joined_by_all (j ∷ js) labels = joined_by_all js (joined_by j labels)

-- the numbers from a number on, so many
abbrev pub numbers : ℕ → ℕ → List ℤ
numbers from zero = []
numbers from (suc n) = pos from ∷ numbers (suc from) n

abbrev pub labelled : List Join → ℕ → List ℤ
labelled joins variables = joined_by_all joins (numbers 0 variables)

abbrev pub agrees : List Join → List ℤ → Bool
agrees [] labels = true
agrees (j ∷ js) labels = join_holds labels j && agrees js labels
