-- Which entries a table takes, in the order in which the grounds are looked at.
use Rattle.std.specs.Prelude.{ℕ, ◌<◌, Bool, cond, ◌&&◌, List, length, ℤ, pos, negsuc, ◌≤ℤ◌, is_ok, Ok, Err, Result, int_le, nat_le, nat_lt}
use Rattle.std.specs.List.{list_all}
use Rattle.refusals.specs.Grounds.{and_then}
use Rattle.refusals.specs.declared.Refusal.{Refusal}
use Rattle.refusals.specs.declared.Refusal.TheVariants.{NoSuchVariable, LimitOutOfRange}
use Rattle.tables.specs.declared.DifferenceEntry.{DifferenceEntry}
use Rattle.tables.specs.declared.EqualityEntry.{EqualityEntry}

-- the most variables, and the most atoms
abbrev pub most : ℕ
most = 512

-- from -1,000,000 to 1,000,000
abbrev pub limit_fits : ℤ → Bool
limit_fits k = int_le (negsuc 999999) k && int_le k (pos 1000000)

-- both variables are below the count of their theory
abbrev pub variables_check : ℕ → ℕ → ℕ → Result (Unit {0}) Refusal
variables_check variables a b = cond (nat_lt a variables && nat_lt b variables) (Ok tt) (Err NoSuchVariable)

abbrev pub difference_check : ℕ → DifferenceEntry → Result (Unit {0}) Refusal
difference_check variables e =
    and_then
    (variables_check variables e.a e.b)
    (λ _. cond (limit_fits e.limit) (Ok tt) (Err LimitOutOfRange))

abbrev pub equality_check : ℕ → EqualityEntry → Result (Unit {0}) Refusal
equality_check variables e = variables_check variables e.a e.b

-- The same in plain words: an entry that fits a table over so many variables.
pub record DifferenceFits (variables : ℕ) (e : DifferenceEntry) : Type 0 where
  pub a_below : e.a < variables
  pub b_below : e.b < variables
  pub low : negsuc 999999 ≤ℤ e.limit
  pub high : e.limit ≤ℤ pos 1000000

pub record EqualityFits (variables : ℕ) (e : EqualityEntry) : Type 0 where
  pub a_below : e.a < variables
  pub b_below : e.b < variables

-- whether a table over so many variables takes every entry
abbrev pub all_fit : {E : Type 0} → (E → Bool) → List E → Bool
all_fit fits es = list_all fits es

-- whether a table is taken: not too many variables, not too many entries, and each entry fits
abbrev pub all_entries_fit : {E : Type 0} → (ℕ → E → Bool) → ℕ → List E → Bool
all_entries_fit fits variables table = nat_le variables most && (nat_le (length table) most && all_fit (fits variables) table)

abbrev pub difference_fits : ℕ → DifferenceEntry → Bool
difference_fits variables e = is_ok (difference_check variables e)

abbrev pub equality_fits : ℕ → EqualityEntry → Bool
equality_fits variables e = is_ok (equality_check variables e)
