-- What the equality theory shows of its joins: in every world exactly one of a literal and its opposite holds, and the lowest
-- joined variables are as the joins say wherever any numbers are. These are proofs; nothing in them has to be believed.
use Rattle.std.specs.Prelude.{◌≡◌, ℕ, ◌+◌, ◌*◌, true, not, List, map, ℤ, refl}
use Rattle.std.proofs.Common.{arith}
use Rattle.std.proofs.lemmas.Bool.Decides.{nat_tests}
use Rattle.std.specs.List.{AllByRecursion}
use Rattle.joining.proofs.Labelled.{length_labelled, holds_labelled, agrees_from_world, lowest_labelled}
use Rattle.joining.specs.declared.Join.{Join}
use Rattle.joining.specs.Joins.{Fits, labelled}
use Rattle.table_theory.specs.Drawing.{records_of, ProcedureLaws}
use Rattle.table_theory.specs.Laws as laws
use Rattle.tables.specs.declared.EqualityEntry.{EqualityEntry}
use Rattle.tables.specs.Entries.{equality_check, equality_fits}
use Rattle.theory.specs.Meaning.{WorldOf}
use Rattle.equality.specs.Equalities.{spare_entry, entry_join, holds_in, equality_meaning, have_numbers, LowestWorld}

one_of_two : (e : EqualityEntry) (a : ℕ) (world : List ℤ) → holds_in (entry_join e (2 * a + 1)) world ≡ not (holds_in (entry_join e (2 * a)) world)
one_of_two e a world = grind (arith, nat_tests)

join_fits : (variables : ℕ) (e : EqualityEntry) (code : ℕ) → equality_fits variables e ≡ true → Fits variables (entry_join e code)
join_fits variables e code h = record { a_below = grind (arith, nat_tests); b_below = grind (arith, nat_tests) }

pub join_laws : ProcedureLaws equality_check (λ (j : Join). j.code) entry_join Fits holds_in have_numbers labelled
join_laws =
    record {
      asked_code = λ _ _. refl;
      asked_fits = join_fits;
      one_of_two = one_of_two;
      whole = length_labelled;
      sound = holds_labelled;
      complete = λ joins variables fit world whole h. agrees_from_world joins variables fit world h;
    }

pub lowest_world : (variables : ℕ) (table : List EqualityEntry) (joins : List Join)
    → joins ≡ records_of entry_join spare_entry table (map (λ (j : Join). j.code) joins) → AllByRecursion (Fits variables) joins → have_numbers joins variables ≡ true
    → LowestWorld (equality_meaning variables table) joins (labelled joins variables)
lowest_world variables table joins drawn fit h =
    record { is_world = laws.worldly join_laws spare_entry variables table joins drawn h; lowest = lowest_labelled joins variables fit }

-- the labels of the set joins are a world of the set literals
pub worldly : (variables : ℕ) (table : List EqualityEntry) (joins : List Join)
    → joins ≡ records_of entry_join spare_entry table (map (λ (j : Join). j.code) joins) → have_numbers joins variables ≡ true
    → WorldOf (equality_meaning variables table) (map (λ (j : Join). j.code) joins) (labelled joins variables)
worldly variables table joins drawn settled = laws.worldly join_laws spare_entry variables table joins drawn settled
