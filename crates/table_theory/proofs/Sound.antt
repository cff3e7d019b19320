-- The records of set literals: they fit, and they stay drawn from their codes and solved where literals are set and dropped.
use Rattle.std.proofs.Common.{◌≡◌, ℕ, ◌-◌, ◌<◌, ◌≤◌, Bool, true, false, ◌&&◌, ltb, leb, List, [], ◌∷◌, ◌++◌, map, length, take, ℤ, Result, slice_index_or, sym, refl, ap, ◌∙◌, arith}
use Rattle.std.proofs.ByRecursion.{All-get_or, All-push, All-take, All-weaker, Decides-by_and}
use Rattle.std.proofs.lemmas.List.{take-map, length-map}
use Rattle.std.proofs.lemmas.Bool.{and_parts, cond_both, false≢true}
use Rattle.std.specs.List.{AllByRecursion}
use Rattle.refusals.specs.declared.Refusal.{Refusal}
use Rattle.tables.specs.Entries.{most, all_fit, all_entries_fit}
use Rattle.theory.proofs.Apart.{different_few, different_take, different_below}
use Rattle.theory.proofs.Drawn.{codes_push, drawn_push, drawn_take, all_records}
use Rattle.theory.specs.Calls.{retreated}
use Rattle.theory.specs.Meaning.{NoWorld, atom_of, different}
use Rattle.table_theory.specs.Drawing.{fits_by, record_of, records_of, table_meaning, ProcedureLaws}
use Rattle.table_theory.specs.Laws.{lawful}

module _ {E R : Type 0} {checked : ℕ → E → Result (Unit {0}) Refusal} {coded : R → ℕ} {asked : E → ℕ → R} {Fits : ℕ → R → Type 0} {holds : R → List ℤ → Bool}
    {solved : List R → ℕ → Bool} {solution : List R → ℕ → List ℤ} (laws : ProcedureLaws checked coded asked Fits holds solved solution) (spare : E) (variables : ℕ)
    (table : List E) where
  abbrev draw : ℕ → R
  draw code = record_of asked spare table code

  -- What a value holds: the records of different literals that are drawn from the table and have a solution.
  pub record Kept (records : List R) : Type 0 where
    pub fits : all_entries_fit (fits_by checked) variables table ≡ true
    pub apart : different (length table) (map coded records) ≡ true
    pub drawn : records ≡ records_of asked spare table (map coded records)
    pub settled : solved records variables ≡ true

  -- a literal of an entry that the table takes asks for a record that fits
  module _ (taken : all_entries_fit (fits_by checked) variables table ≡ true) where
    fit_at : (atom : ℕ) → atom < length table → fits_by checked variables (slice_index_or table atom spare) ≡ true
    fit_at atom l =
        let fits = fits_by checked variables in
        let p = and_parts (leb variables most) (leb (length table) most && all_fit fits table) taken in
        let q = and_parts (leb (length table) most) (all_fit fits table) p.1 in
        All-get_or (λ e. fits e ≡ true) table atom spare l
        ((Decides-by_and fits (λ e. fits e ≡ true) (all_fit fits) (λ e. (λ t. t, λ t. t)) refl (λ _ _. refl) table).0 q.1)

    pub record_fits : (code : ℕ) → atom_of code < length table → Fits variables (draw code)
    record_fits code l = laws.asked_fits variables (slice_index_or table (atom_of code) spare) code (fit_at (atom_of code) l)

  module _ {records : List R} (k : Kept records) where
    pub records_fit : AllByRecursion (Fits variables) records
    records_fit =
        all_records coded draw records k.drawn (Fits variables)
        (All-weaker (λ code. atom_of code < length table) (λ code. Fits variables (draw code)) (record_fits k.fits) (map coded records)
        (different_below (length table) (map coded records) k.apart))

    pub few_records : length records ≤ 512
    few_records =
        omega (arith, different_few (length table) (map coded records) k.apart, length-map records coded, (lawful laws spare variables table k.fits).few_atoms)

    -- one literal more
    coded_draw : (code : ℕ) → coded (draw code) ≡ code
    coded_draw code = laws.asked_code (slice_index_or table (atom_of code) spare) code

    pub codes_grown : (code : ℕ) → map coded (records ++ (draw code ∷ [])) ≡ map coded records ++ (code ∷ [])
    codes_grown code = codes_push coded draw records code (coded_draw code)

    pub drawn_grown : (code : ℕ) → records ++ (draw code ∷ []) ≡ records_of asked spare table (map coded (records ++ (draw code ∷ [])))
    drawn_grown code = drawn_push coded draw records k.drawn code (coded_draw code)

    pub fit_grown : (code : ℕ) → atom_of code < length table → AllByRecursion (Fits variables) (records ++ (draw code ∷ []))
    fit_grown code l = All-push (Fits variables) records (draw code) records_fit (record_fits k.fits code l)

    -- where the records with the new one have no solution, the literals have no world
    pub no_world : (code : ℕ) → atom_of code < length table → solved (records ++ (draw code ∷ [])) variables ≡ false
        → NoWorld (table_meaning asked holds spare variables table) (code ∷ map coded records)
    no_world code l unsolved world w =
        let hold = all_records coded draw records k.drawn (λ r. holds r world ≡ true) w.all_hold.1 in
        false≢true
        (sym unsolved
        ∙ laws.complete (records ++ (draw code ∷ [])) variables (fit_grown code l) world w.whole
        (All-push (λ r. holds r world ≡ true) records (draw code) hold w.all_hold.0))

    -- fewer literals
    kept_taken : (n : ℕ) → Kept (take n records)
    kept_taken n =
        record {
          fits = k.fits;
          apart = ap (different (length table)) (sym (take-map coded n records)) ∙ different_take (length table) n (map coded records) k.apart;
          drawn = drawn_take coded draw records k.drawn n;
          settled =
              laws.complete (take n records) variables (All-take (Fits variables) n records records_fit) (solution records variables) (laws.whole records variables)
              (All-take (λ r. holds r (solution records variables) ≡ true) n records (laws.sound records variables k.settled));
        }

    pub kept_retreated : (count : ℕ) → Kept (retreated records count)
    kept_retreated count =
        cond_both (ltb (length records) count) records (take (length records - count) records) Kept (λ _. k) (λ _. kept_taken (length records - count))
