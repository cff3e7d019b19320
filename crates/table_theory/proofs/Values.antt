-- What every value of a theory over a table holds, by its ghost fields.
use Rattle.std.proofs.Common.{◌≡◌, ℕ, ◌+◌, ◌/◌, ◌<◌, ◌≤◌, true, false, List, [], ◌∷◌, ◌++◌, map, length, get_or, drop, None, Ok, vec_items, vec_len, Result, sym, refl, ap, ◌∙◌, subst, arith}
use Rattle.std.proofs.lemmas.List.{get_or_read, length-map, length_push}
use Rattle.std.specs.List.{AllByRecursion}
use Rattle.refusals.specs.declared.Refusal.{Refusal}
use Rattle.tables.specs.Entries.{all_entries_fit}
use Rattle.tables.specs.declared.Entry.{Ghosts as EntryGhosts}
use Rattle.theory.proofs.Apart.{different_at, different_push}
use Rattle.theory.proofs.Conflicts.{set_clashed}
use Rattle.theory.proofs.Grounds.{set_accepted, set_room}
use Rattle.theory.specs.Calls.{set_ground, ground_answer, Gained, Clashed}
use Rattle.theory.specs.Meaning.{atom_of, names, different}
use Rattle.theory.specs.declared.stack.Record.{Ghosts as RecordGhosts}
use Rattle.table_theory.specs.Drawing.{fits_by, record_of, records_of, table_meaning, ProcedureLaws}
use Rattle.table_theory.specs.declared.Procedure.{Ghosts}
use Rattle.table_theory.specs.declared.TableTheory.{TableTheory}
use Rattle.table_theory.proofs.Sound.{Kept, few_records, fit_grown, codes_grown, drawn_grown, no_world}

pub kept_of : {P E R : Type 0} {s : Ghosts P E R} {e : EntryGhosts E} {r : RecordGhosts R}
    (laws : ProcedureLaws e.checked r.coded s.asked s.Fits s.holds s.solved s.solution) (t : TableTheory P E R s e r)
    → Kept laws s.spare t.variables (vec_items t.table) t.stack.records
kept_of {r = r} laws t =
    record { fits = t.fits; apart = different_at (map r.coded t.stack.records) t.apart t.table.ok.0; drawn = t.drawn; settled = t.settled }

-- the ghost fields of the value with another stack
pub record Fields {P E R : Type 0} {s : Ghosts P E R} {e : EntryGhosts E} {r : RecordGhosts R} (t : TableTheory P E R s e r) (records : List R) (places : ℕ) : Type 0 where
  pub fits : all_entries_fit (fits_by e.checked) t.variables (vec_items t.table) ≡ true
  pub places_left : vec_len t.table ≤ places
  pub apart : different (vec_len t.table) (map r.coded records) ≡ true
  pub drawn : records ≡ records_of s.asked s.spare (vec_items t.table) (map r.coded records)
  pub settled : s.solved records t.variables ≡ true

pub fields_of : {P E R : Type 0} {s : Ghosts P E R} {e : EntryGhosts E} {r : RecordGhosts R}
    (laws : ProcedureLaws e.checked r.coded s.asked s.Fits s.holds s.solved s.solution) (t : TableTheory P E R s e r) (records : List R) (places : ℕ)
    → places ≡ t.stack.places → Kept laws s.spare t.variables (vec_items t.table) records → Fields t records places
fields_of {r = r} laws t records places same k =
    record {
      fits = k.fits;
      places_left = subst (λ n. vec_len t.table ≤ n) (sym same) t.places;
      apart = different_at (map r.coded records) k.apart (sym t.table.ok.0);
      drawn = k.drawn;
      settled = k.settled;
    }

-- A literal that the check has passed: it is there and not set, and there is room for it and for its conflict.
pub record Passed {P E R : Type 0} {s : Ghosts P E R} {e : EntryGhosts E} {r : RecordGhosts R} (t : TableTheory P E R s e r) (code places : ℕ) : Type 0 where
  pub reason : set_ground (length (vec_items t.table)) (map r.coded t.stack.records) code places ≡ None
  pub there : atom_of code < length (vec_items t.table)
  pub unset : names (map r.coded t.stack.records) (atom_of code) ≡ false
  pub list_places : length (vec_items t.table) ≤ places
  pub room : length t.stack.records < length (vec_items t.table)

pub passed : {P E R : Type 0} {s : Ghosts P E R} {e : EntryGhosts E} {r : RecordGhosts R} (t : TableTheory P E R s e r) (n code places : ℕ)
    → n ≡ vec_len t.table → ◌≡◌ {A = Result (Unit {0}) Refusal} (Ok tt) (ground_answer (set_ground n (map r.coded t.stack.records) code places))
    → Passed t code places
passed {r = r} t n code places same h =
    let atoms = length (vec_items t.table) in
    let codes = map r.coded t.stack.records in
    let apart = different_at codes t.apart t.table.ok.0 in
    let ok = subst (λ m. ground_answer (set_ground m codes code places) ≡ Ok tt) (same ∙ t.table.ok.0) (sym h) in
    let a = set_accepted atoms codes code places ok in
    record {
      reason = a.0;
      there = a.1;
      unset = a.2;
      list_places = a.3;
      room = omega (arith, set_room atoms codes code places apart ok, length-map t.stack.records r.coded);
    }

module _ {P E R : Type 0} {s : Ghosts P E R} {e : EntryGhosts E} {r : RecordGhosts R}
    (laws : ProcedureLaws e.checked r.coded s.asked s.Fits s.holds s.solved s.solution) (t : TableTheory P E R s e r) (code : ℕ) (list : List ℕ)
    (p : Passed t code (length list)) where
  -- the record that is asked for
  pub record_read : (entry : E) (asked : R) → entry ≡ get_or (vec_items t.table) (code / 2) entry → asked ≡ s.asked entry code
      → asked ≡ record_of s.asked s.spare (vec_items t.table) code
  record_read entry asked is made = made ∙ ap (λ x. s.asked x code) (get_or_read (vec_items t.table) (code / 2) entry p.there is s.spare)

  abbrev grown : List R
  grown = t.stack.records ++ (record_of s.asked s.spare (vec_items t.table) code ∷ [])

  pub grown_fit : AllByRecursion (s.Fits t.variables) (t.stack.records ++ (record_of s.asked s.spare (vec_items t.table) code ∷ []))
  grown_fit = fit_grown laws s.spare t.variables (vec_items t.table) (kept_of laws t) code p.there

  pub grown_few : length (t.stack.records ++ (record_of s.asked s.spare (vec_items t.table) code ∷ [])) ≤ 513
  grown_few =
      omega (
        arith,
        few_records laws s.spare t.variables (vec_items t.table) (kept_of laws t),
        length_push t.stack.records (record_of s.asked s.spare (vec_items t.table) code),
      )

  pub kept_grown : s.solved (t.stack.records ++ (record_of s.asked s.spare (vec_items t.table) code ∷ [])) t.variables ≡ true
      → Kept laws s.spare t.variables (vec_items t.table) (t.stack.records ++ (record_of s.asked s.spare (vec_items t.table) code ∷ []))
  kept_grown solved =
      let k = kept_of laws t in
      record {
        fits = t.fits;
        apart =
            ap (different (length (vec_items t.table))) (codes_grown laws s.spare t.variables (vec_items t.table) k code)
            ∙ different_push (length (vec_items t.table)) (map r.coded t.stack.records) code k.apart p.unset p.there;
        drawn = drawn_grown laws s.spare t.variables (vec_items t.table) k code;
        settled = solved;
      }

  -- accepted
  pub gained : (records : List R) → records ≡ t.stack.records ++ (record_of s.asked s.spare (vec_items t.table) code ∷ [])
      → Gained (table_meaning s.asked s.holds s.spare t.variables (vec_items t.table)) (map r.coded t.stack.records) code list (map r.coded records) list
  gained records same =
      record {
        reason = p.reason;
        grown = ap (map r.coded) same ∙ codes_grown laws s.spare t.variables (vec_items t.table) (kept_of laws t) code;
        list_same = refl;
      }

  -- a clash
  pub clashed : (records : List R) (count : ℕ) (list' : List ℕ) → records ≡ t.stack.records
      → s.solved (t.stack.records ++ (record_of s.asked s.spare (vec_items t.table) code ∷ [])) t.variables ≡ false
      → count ≡ length records + 1 → list' ≡ (code ∷ map r.coded records) ++ drop (length records + 1) list
      → Clashed (table_meaning s.asked s.holds s.spare t.variables (vec_items t.table)) (map r.coded t.stack.records)
      (code ∷ map r.coded t.stack.records) code list count (map r.coded records) list'
  clashed records count list' same unsolved counted written =
      set_clashed r.coded (table_meaning s.asked s.holds s.spare t.variables (vec_items t.table)) t.stack.records records code list count list'
      (ap ground_answer p.reason) (no_world laws s.spare t.variables (vec_items t.table) (kept_of laws t) code p.there unsolved) same counted written
