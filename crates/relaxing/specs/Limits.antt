-- Limits on the differences of times, and the latest times that meet them.
use Rattle.std.specs.Prelude.{◌≡◌, ℕ, zero, suc, ◌-◌, ◌<◌, Bool, false, cond, ◌||◌, List, [], ◌∷◌, length, replicate, ℤ, pos, negsuc, ◌+ℤ◌, ◌-ℤ◌, neg_ℤ, ◌≤ℤ◌, int_lt, slice_index_or, slice_set}
use Rattle.std.specs.List.{AllByRecursion}
use Rattle.relaxing.specs.declared.Limit.{Limit}

-- the time of a variable
abbrev pub at : List ℤ → ℕ → ℤ
at times x = slice_index_or times x (pos 0)

-- what a limit says
abbrev pub Met : List ℤ → Limit → Type 0
Met times l = (at times l.a -ℤ at times l.b) ≤ℤ l.weight

-- a limit on variables that there are, from -1,000,001 to 1,000,001
pub record Fits (variables : ℕ) (l : Limit) : Type 0 where
  pub a_below : l.a < variables
  pub b_below : l.b < variables
  pub low : negsuc 1000000 ≤ℤ l.weight
  pub high : l.weight ≤ℤ pos 1000001

-- no time above 0
abbrev pub NotAbove : List ℤ → Type 0
NotAbove times = AllByRecursion (λ z. z ≤ℤ pos 0) times

-- The latest times: they meet the limits, none is above 0, and no other such times are later anywhere.
pub record Latest (limits : List Limit) (times : List ℤ) : Type 0 where
  pub met : AllByRecursion (Met times) limits
  pub not_above : NotAbove times
  pub latest_of_all : (others : List ℤ) → length others ≡ length times → NotAbove others → AllByRecursion (Met others) limits
      → (x : ℕ) → x < length times → at others x ≤ℤ at times x

-- no times at all meet the limits
abbrev pub NoTimes : List Limit → ℕ → Type 0
NoTimes limits variables = (times : List ℤ) → length times ≡ variables → AllByRecursion (Met times) limits → ⊥

-- How the latest times are found: where a limit is not met, the time of a is lowered until it is.

abbrev pub lowers : List ℤ → Limit → Bool
lowers times l = int_lt (at times l.b +ℤ l.weight) (at times l.a)

abbrev pub relaxed : List ℤ → Limit → List ℤ
relaxed times l = cond (lowers times l) (slice_set times l.a (at times l.b +ℤ l.weight)) times

abbrev pub pass : List Limit → List ℤ → List ℤ
pass [] times = times
pass (l ∷ ls) times = pass ls (relaxed times l)

-- whether a pass changes a time
abbrev pub moves : List Limit → List ℤ → Bool
moves [] times = false
moves (l ∷ ls) times = lowers times l || moves ls (relaxed times l)

abbrev pub passes : ℕ → List Limit → List ℤ → List ℤ
passes zero ls times = times
passes (suc n) ls times = passes n ls (pass ls times)

-- from zeros, one pass less than there are times
abbrev pub latest : List Limit → ℕ → List ℤ
latest limits variables = passes (variables - 1) limits (replicate variables (pos 0))

-- no time above 0, and none more than so many ticks below
abbrev pub Shallow : ℕ → List ℤ → Type 0
Shallow deep times = AllByRecursion (λ z. (neg_ℤ (pos deep) ≤ℤ z) × (z ≤ℤ pos 0)) times
