-- Where the entries stand in a file that is accepted: each kind in fields of one size, one kind behind the other.
use Rattle.std.proofs.Common.{◌≡◌, ℕ, suc, ◌+◌, ◌*◌, ◌<◌, ◌≤◌, List, [], ◌∷◌, ◌++◌, length, take, drop, Ok, Result, sym, refl, ap, ◌∙◌, subst, suc-mul, arith, length-append, w8, Fits, get_or}
use Rattle.std.specs.List.{flat_map, AllByRecursion}
use Rattle.std.proofs.ByRecursion.{All-weaker, All-from_get_or}
use Rattle.std.proofs.lemmas.List.{append_assoc, take_at, drop_at}
use Rattle.refusals.specs.declared.Fault.{Fault}
use Rattle.refusals.specs.Grounds.{map_ok}
use Rattle.tables.specs.declared.DifferenceEntry.{DifferenceEntry}
use Rattle.tables.specs.declared.EqualityEntry.{EqualityEntry}
use Rattle.tables.specs.Entries.{DifferenceFits, EqualityFits}
use Rattle.question_file.specs.declared.check.Counts.{Counts}
use Rattle.question_file.specs.declared.check.Room.{Room}
use Rattle.question_file.specs.Contents.{Contents, counts_of, checked, difference_of, equality_of}
use Rattle.question_file.specs.Tables.{Long, entries, filled_from}
use Rattle.question_file.specs.Writing.{field_bytes, difference_body, equality_body, clause_body, written, Within}
use Rattle.question_file.proofs.Bodies.{Bytes, difference_read, equality_read}
use Rattle.question_file.proofs.Counting.{from_mapped_ok}
use Rattle.question_file.proofs.Law.{undoing_writing}

-- Entries of one kind, whose bodies have one size and say what was written.
module _ {E : Type 0} (tag size : ℕ) (body : E → List ℕ) (sized : (e : E) → length (body e) ≡ size) where
  fields : List E → List ℕ
  fields es = flat_map (λ e. field_bytes tag (body e)) es

  fields_length : (es : List E) → length (fields es) ≡ length es * (3 + size)
  unfolding fields
  fields_length [] = omega arith
  fields_length (e ∷ es) =
      ap (λ n. suc (suc (suc n))) (length-append (body e) (fields es))
      ∙ omega (arith, sized e, fields_length es, suc-mul (length es) (3 + size))

  -- the first field's body, and what stands behind it
  first_body : (e : E) (es : List E) (tail : List ℕ) → take size (drop 3 (fields (e ∷ es) ++ tail)) ≡ body e
  unfolding fields
  first_body e es tail = ap (take size) (append_assoc (body e) (fields es) tail) ∙ take_at (body e) (fields es ++ tail) size (sized e)

  behind_first : (e : E) (es : List E) (tail : List ℕ) → drop size (drop 3 (fields (e ∷ es) ++ tail)) ≡ fields es ++ tail
  unfolding fields
  behind_first e es tail = ap (drop size) (append_assoc (body e) (fields es) tail) ∙ drop_at (body e) (fields es ++ tail) size (sized e)

  fields_long : (es : List E) (tail : List ℕ) → Long size (length es) (fields es ++ tail)
  unfolding fields
  fields_long [] tail = tt
  fields_long (e ∷ es) tail = (simp length-append (omega (arith, sized e)), subst (Long size (length es)) (sym (behind_first e es tail)) (fields_long es tail))

  fields_read : (said : List ℕ → E) (es : List E) (tail : List ℕ) → AllByRecursion (λ e. said (body e) ≡ e) es
      → entries size said (length es) (fields es ++ tail) ≡ es
  fields_read said [] tail h = refl
  fields_read said (e ∷ es) tail h =
      λ i. (ap said (first_body e es tail) ∙ h.0) i
      ∷ (ap (entries size said (length es)) (behind_first e es tail) ∙ fields_read said es tail h.1) i

-- how the entries of a question stand in a file
pub record Stands (file : List ℕ) (q : Contents) : Type 0 where
  pub differences_start : 9 ≤ length file
  pub differences_long : Long 8 (length q.differences) (drop 9 file)
  pub differences_read : entries 8 difference_of (length q.differences) (drop 9 file) ≡ q.differences
  pub equalities_long : Long 4 (length q.equalities) (drop (length q.differences * 11) (drop 9 file))
  pub equalities_read : entries 4 equality_of (length q.equalities) (drop (length q.differences * 11) (drop 9 file)) ≡ q.equalities

stands : (room : Room) (q : Contents) → Within room q → Stands (written q) q
unfolding fields
stands room q w =
    let ds = q.differences in
    let es = q.equalities in
    let d : List ℕ = fields 2 8 difference_body (λ e. refl) ds in
    let e : List ℕ = fields 3 4 equality_body (λ e. refl) es in
    let c : List ℕ = flat_map (λ codes. field_bytes 4 (clause_body codes)) q.clauses in
    let from-d : d ++ (e ++ c) ≡ drop 9 (written q) = sym (append_assoc d e c) in
    let from-e : e ++ c ≡ drop (length ds * 11) (drop 9 (written q)) =
    sym (drop_at d (e ++ c) (length ds * 11) (fields_length 2 8 difference_body (λ e. refl) ds)) ∙ ap (drop (length ds * 11)) from-d in
    record {
      differences_start = omega arith;
      differences_long = subst (Long 8 (length ds)) from-d (fields_long 2 8 difference_body (λ e. refl) ds (e ++ c));
      differences_read =
          ap (entries 8 difference_of (length ds)) (sym from-d)
          ∙ fields_read 2 8 difference_body (λ e. refl) difference_of ds (e ++ c)
          (All-weaker (DifferenceFits q.difference_variables) (λ x. difference_of (difference_body x) ≡ x) (difference_read q.difference_variables) ds w.differences_fit);
      equalities_long = subst (Long 4 (length es)) from-e (fields_long 3 4 equality_body (λ e. refl) es c);
      equalities_read =
          ap (entries 4 equality_of (length es)) (sym from-e)
          ∙ fields_read 3 4 equality_body (λ e. refl) equality_of es c
          (All-weaker (EqualityFits q.equality_variables) (λ x. equality_of (equality_body x) ≡ x) (λ x _. equality_read x) es w.equalities_fit);
    }

-- the bytes of a file, as the checker knows them
pub bytes_of : (file : List ℕ) → ((i : ℕ) → Fits w8 (get_or file i 0)) → Bytes file
bytes_of file f = All-from_get_or (λ b. b < 256) file 0 (λ i _. (f i).fits)

-- what an accepted file holds, and where, by its counts
pub record Accepted (room : Room) (file : List ℕ) (counts : Counts) : Type 0 where
  pub difference_places : counts.difference_entries ≤ room.differences
  pub equality_places : counts.equality_entries ≤ room.equalities
  pub differences_start : 9 ≤ length file
  pub differences_long : Long 8 counts.difference_entries (drop 9 file)
  pub differences_filled : (table : List DifferenceEntry)
      → entries 8 difference_of counts.difference_entries (drop 9 file) ++ drop counts.difference_entries table
      ≡ filled_from (λ q. q.differences) (checked room file) table
  pub equalities_long : Long 4 counts.equality_entries (drop (counts.difference_entries * 11) (drop 9 file))
  pub equalities_filled : (table : List EqualityEntry)
      → entries 4 equality_of counts.equality_entries (drop (counts.difference_entries * 11) (drop 9 file))
      ++ drop counts.equality_entries table
      ≡ filled_from (λ q. q.equalities) (checked room file) table

pub accepted : {room : Room} {file : List ℕ} {counts : Counts} → ((i : ℕ) → Fits w8 (get_or file i 0))
    → ◌≡◌ {A = Result Counts Fault} (Ok counts) (map_ok counts_of (checked room file)) → Accepted room file counts
accepted {room} {file} {counts} f h = subst (Accepted room file) m.2 (go m.0 m.1)
  where
    m : (q : Contents) × (checked room file ≡ Ok q) × (counts_of q ≡ counts)
    m = from_mapped_ok counts_of (checked room file) counts (sym h)

    go : (q : Contents) → checked room file ≡ Ok q → Accepted room file (counts_of q)
    go q e =
        let a = (undoing_writing room file (bytes_of file f)).accepted q e in
        let w : Within room q = a.0 in
        let at : Stands file q = subst (λ f. Stands f q) a.1 (stands room q w) in
        record {
          difference_places = w.difference_places;
          equality_places = w.equality_places;
          differences_start = at.differences_start;
          differences_long = at.differences_long;
          differences_filled = λ table. rw (e, at.differences_read) refl;
          equalities_long = at.equalities_long;
          equalities_filled = λ table. rw (e, at.equalities_read) refl;
        }
