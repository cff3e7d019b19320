-- What the entries of a table mean as the atoms of a theory: a literal of an entry asks for a record, and the record holds of
-- a world or does not.
use Rattle.std.specs.Prelude.{◌≡◌, ℕ, ◌+◌, ◌*◌, Bool, true, cond, not, ◌&&◌, List, [], map, length, ℤ, is_ok, Result, nat_le, slice_index_or}
use Rattle.std.specs.List.{AllByRecursion}
use Rattle.refusals.specs.declared.Refusal.{Refusal}
use Rattle.tables.specs.Entries.{all_entries_fit}
use Rattle.theory.specs.Meaning.{Meaning, atom_of}

-- whether a table over so many variables takes an entry
abbrev pub fits_by : {E : Type 0} → (ℕ → E → Result (Unit {0}) Refusal) → ℕ → E → Bool
fits_by checked variables e = is_ok (checked variables e)

-- the record that a literal asks for; past the table's end, one of an entry that nothing asks for
abbrev pub record_of : {E R : Type 0} → (E → ℕ → R) → E → List E → ℕ → R
record_of asked spare table code = asked (slice_index_or table (atom_of code) spare) code

-- the records that literals ask for
abbrev pub records_of : {E R : Type 0} → (E → ℕ → R) → E → List E → List ℕ → List R
records_of asked spare table codes = map (record_of asked spare table) codes

abbrev pub table_meaning : {E R : Type 0} → (E → ℕ → R) → (R → List ℤ → Bool) → E → ℕ → List E → Meaning
table_meaning asked holds spare variables table =
    record { atoms = length table; variables = variables; holds = λ code world. holds (record_of asked spare table code) world }

-- all of the records hold of the world
abbrev pub AllRecordsHold : {R : Type 0} → (R → List ℤ → Bool) → List R → List ℤ → Type 0
AllRecordsHold holds records world = AllByRecursion (λ r. holds r world ≡ true) records

-- What a decision procedure shows: a record knows its literal's code and is over variables that there are; of a literal and its opposite,
-- exactly one holds; and the solution is one, wherever there is any.
pub record ProcedureLaws {E R : Type 0} (checked : ℕ → E → Result (Unit {0}) Refusal) (coded : R → ℕ) (asked : E → ℕ → R) (Fits : ℕ → R → Type 0)
    (holds : R → List ℤ → Bool) (solved : List R → ℕ → Bool) (solution : List R → ℕ → List ℤ) : Type 0 where
  pub asked_code : (e : E) (code : ℕ) → coded (asked e code) ≡ code
  pub asked_fits : (variables : ℕ) (e : E) (code : ℕ) → fits_by checked variables e ≡ true → Fits variables (asked e code)
  pub one_of_two : (e : E) (a : ℕ) (world : List ℤ) → holds (asked e (2 * a + 1)) world ≡ not (holds (asked e (2 * a)) world)
  pub whole : (records : List R) (variables : ℕ) → length (solution records variables) ≡ variables
  pub sound : (records : List R) (variables : ℕ) → solved records variables ≡ true → AllRecordsHold holds records (solution records variables)
  pub complete : (records : List R) (variables : ℕ) → AllByRecursion (Fits variables) records → (world : List ℤ) → length world ≡ variables
      → AllRecordsHold holds records world → solved records variables ≡ true

-- what is shown of a table and a count of variables, with so many places for the stack: all, or nothing
abbrev pub is_shown : {E : Type 0} → (ℕ → E → Bool) → ℕ → List E → ℕ → Bool
is_shown fits variables table places = all_entries_fit fits variables table && nat_le (length table) places

abbrev pub shown_table : {E : Type 0} → (ℕ → E → Bool) → ℕ → List E → ℕ → List E
shown_table fits variables table places = cond (is_shown fits variables table places) table []

abbrev pub shown_variables : {E : Type 0} → (ℕ → E → Bool) → ℕ → List E → ℕ → ℕ
shown_variables fits variables table places = cond (is_shown fits variables table places) variables 0
