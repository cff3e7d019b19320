-- The interface's laws of a theory over a table, from what its decision procedure shows. These are proofs; nothing in them has to be
-- believed.
use Rattle.std.specs.Prelude.{◌≡◌, ℕ, ◌+◌, ◌*◌, Bool, true, not, ◌&&◌, List, map, length, ℤ, Result, nat_le, slice_index_or}
use Rattle.std.proofs.Common.{sym, ap, ◌∙◌, arith}
use Rattle.std.proofs.lemmas.Bool.{and_parts, leb-true}
use Rattle.refusals.specs.declared.Refusal.{Refusal}
use Rattle.tables.specs.Entries.{most, all_entries_fit, all_fit}
use Rattle.theory.specs.Meaning.{Lawful, WorldOf, AllHold, atom_of}
use Rattle.theory.proofs.Drawn.{all_codes}
use Rattle.table_theory.specs.Drawing.{fits_by, record_of, records_of, table_meaning, AllRecordsHold, ProcedureLaws}

module _ {E R : Type 0} {checked : ℕ → E → Result (Unit {0}) Refusal} {coded : R → ℕ} {asked : E → ℕ → R} {Fits : ℕ → R → Type 0} {holds : R → List ℤ → Bool}
    {solved : List R → ℕ → Bool} {solution : List R → ℕ → List ℤ} (laws : ProcedureLaws checked coded asked Fits holds solved solution) (spare : E) (variables : ℕ)
    (table : List E) where
  one_of_two : (a : ℕ) (world : List ℤ) → holds (record_of asked spare table (2 * a + 1)) world ≡ not (holds (record_of asked spare table (2 * a)) world)
  one_of_two a world =
      let odd : atom_of (2 * a + 1) ≡ a = omega arith in
      let even : atom_of (2 * a) ≡ a = omega arith in
      ap (λ n. holds (asked (slice_index_or table n spare) (2 * a + 1)) world) odd
      ∙ laws.one_of_two (slice_index_or table a spare) a world
      ∙ ap (λ n. not (holds (asked (slice_index_or table n spare) (2 * a)) world)) (sym even)

  pub lawful : all_entries_fit (fits_by checked) variables table ≡ true → Lawful (table_meaning asked holds spare variables table)
  lawful h =
      let p = and_parts (nat_le variables most) (nat_le (length table) most && all_fit (fits_by checked variables) table) h in
      let q = and_parts (nat_le (length table) most) (all_fit (fits_by checked variables) table) p.1 in
      record {
        few_atoms = leb-true (length table) most q.0;
        few_variables = leb-true variables most p.0;
        one_of_two = λ a _ world _. one_of_two a world;
      }

  -- a world of which the set records hold is one of which the set literals do
  pub all_hold : (records : List R) → records ≡ records_of asked spare table (map coded records) → (world : List ℤ) → AllRecordsHold holds records world
      → AllHold (table_meaning asked holds spare variables table) (map coded records) world
  all_hold records drawn world h = all_codes coded (record_of asked spare table) records drawn (λ r. holds r world ≡ true) h

  -- the solution of the set records is a world of the set literals
  pub worldly : (records : List R) → records ≡ records_of asked spare table (map coded records) → solved records variables ≡ true
      → WorldOf (table_meaning asked holds spare variables table) (map coded records) (solution records variables)
  worldly records drawn settled =
      record { whole = laws.whole records variables; all_hold = all_hold records drawn (solution records variables) (laws.sound records variables settled) }
