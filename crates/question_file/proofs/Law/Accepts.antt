-- A question that is written: each of its fields is read as it was written.
use Rattle.std.proofs.Common.{◌≡◌, ℕ, zero, suc, ◌+◌, ◌<◌, ◌≤◌, List, [], ◌∷◌, ◌++◌, length, Some, None, Ok, sym, refl, ap, ◌∙◌, subst, arith}
use Rattle.std.specs.List.{flat_map, AllByRecursion}
use Rattle.std.proofs.lemmas.List.{append-nil, append_assoc, length-append, length_push}
use Rattle.question_file.specs.declared.check.Room.{Room}
use Rattle.question_file.specs.declared.check.Tag.{Tag}
use Rattle.question_file.specs.declared.check.Tag.TheVariants as tag
use Rattle.question_file.specs.Contents.{Contents, Reading, nothing, counts_of, grown, tag_number, read_from, checked}
use Rattle.question_file.specs.Writing.{field_bytes, counts_body, difference_body, equality_body, clause_body, written, ClauseFits, Within}
use Rattle.tables.specs.declared.DifferenceEntry.{DifferenceEntry}
use Rattle.tables.specs.declared.EqualityEntry.{EqualityEntry}
use Rattle.tables.specs.Entries.{DifferenceFits, EqualityFits}
use Rattle.question_file.proofs.Bodies.{word_read, clause_length, difference_read, equality_read, clause_read}
use Rattle.question_file.proofs.Counting.{turn_end, turn_more}
use Rattle.question_file.proofs.Steps.{Fits, head, difference_field, equality_field, clause_field, field_read, after_follows, read_as, reads}

-- the reading of a file comes to where c was read, the last tag is n at most, and the rest is left
record Reaches (room : Room) (file : List ℕ) (n : ℕ) (c : Contents) (rest : List ℕ) : Type 0 where
  pub last : Tag
  pub turns : ℕ
  pub offset : ℕ
  pub in_order : tag_number last ≤ n
  pub enough : length rest < turns
  pub begun : 0 < offset
  pub same : read_from turns room (record { before = Some last; contents = c }) offset rest ≡ checked room file

module _ (room : Room) (file : List ℕ) where
  reaches_later : {n : ℕ} {c : Contents} {rest : List ℕ} (m : ℕ) → n ≤ m → Reaches room file n c rest → Reaches room file m c rest
  reaches_later m l r =
      record {
        last = r.last;
        turns = r.turns;
        offset = r.offset;
        in_order = omega arith;
        enough = r.enough;
        begun = r.begun;
        same = r.same;
      }

  reaches_end : {n : ℕ} {c : Contents} → Reaches room file n c [] → checked room file ≡ Ok c
  reaches_end {n} {c} r = go r.turns r.offset r.enough r.begun r.same
    where
      s : Reading
      s = record { before = Some r.last; contents = c }

      go : (turns offset : ℕ) → 0 < turns → 0 < offset → read_from turns room s offset [] ≡ checked room file → checked room file ≡ Ok c
      go zero offset l m e = absurd (omega arith)
      go (suc turns) zero l m e = absurd (omega arith)
      go (suc turns) (suc offset) l m e = sym e ∙ turn_end turns room s (suc offset) [] refl

  -- one field more
  reaches_more : (t : Tag) (c d : Contents) (body rest : List ℕ) → 1 < tag_number t → Fits room (counts_of c) t body → grown c t body ≡ d
      → Reaches room file (tag_number t) c (field_bytes (tag_number t) body ++ rest) → Reaches room file (tag_number t) d rest
  reaches_more t c d body rest l f e r = go r.turns r.enough r.same
    where
      s : Reading
      s = record { before = Some r.last; contents = c }

      bytes : List ℕ
      bytes = field_bytes (tag_number t) body ++ rest

      go : (turns : ℕ) → length bytes < turns → read_from turns room s r.offset bytes ≡ checked room file
          → Reaches room file (tag_number t) d rest
      go zero m k = absurd (omega arith)
      go (suc turns) m k =
          record {
            last = t;
            turns = turns;
            offset = r.offset + (3 + length body);
            in_order = omega arith;
            enough = omega (arith, length-append body rest);
            begun = omega arith;
            same =
                subst (λ d. read_from turns room (record { before = Some t; contents = d }) (r.offset + (3 + length body)) rest ≡ checked room file) e
                (sym
                (turn_more turns room s r.offset bytes (field_read r.offset (tag_number t) body rest) (read_as room s t body)
                (reads room s t body (after_follows r.last t l r.in_order) f))
                ∙ k);
          }

  -- A list of fields of one tag, which are read one after another.
  module _ {X : Type 0} (t : Tag) (behind : 1 < tag_number t) (body : X → List ℕ) (at : List X → Contents) (Good : X → Type 0) (most : ℕ)
      (one : (xs : List X) (x : X) → length xs < most → Good x
      → Fits room (counts_of (at xs)) t (body x) × (grown (at xs) t (body x) ≡ at (xs ++ x ∷ []))) where
    abbrev fields : List X → List ℕ
    fields xs = flat_map (λ x. field_bytes (tag_number t) (body x)) xs

    reaches_all : (xs ys : List X) (rest : List ℕ) → length xs + length ys ≤ most → AllByRecursion Good ys
        → Reaches room file (tag_number t) (at xs) (fields ys ++ rest) → Reaches room file (tag_number t) (at (xs ++ ys)) rest
    reaches_all xs [] rest l g r = subst (λ xs. Reaches room file (tag_number t) (at xs) rest) (sym (append-nil xs)) r
    reaches_all xs (x ∷ ys) rest l g r =
        let p = one xs x (omega arith) g.0 in
        subst (λ xs. Reaches room file (tag_number t) (at xs) rest) (append_assoc xs (x ∷ []) ys)
        (reaches_all (xs ++ x ∷ []) ys rest (omega (arith, length_push xs x)) g.1
        (reaches_more t (at xs) (at (xs ++ x ∷ [])) (body x) (fields ys ++ rest) behind p.0 p.1
        (subst (Reaches room file (tag_number t) (at xs)) (append_assoc (field_bytes (tag_number t) (body x)) (fields ys) rest) r)))

-- a question with other entries and clauses
abbrev holding : Contents → List DifferenceEntry → List EqualityEntry → List (List ℕ) → Contents
holding q ds es cs =
    record {
      difference_variables = q.difference_variables;
      equality_variables = q.equality_variables;
      switches = q.switches;
      differences = ds;
      equalities = es;
      clauses = cs;
    }

module _ (room : Room) (q : Contents) (w : Within room q) where
  abbrev behind_differences : List ℕ
  behind_differences = flat_map equality_field q.equalities ++ (flat_map clause_field q.clauses ++ [])

  -- the bytes behind the counts, bracketed as they are read
  apart : flat_map difference_field q.differences ++ flat_map equality_field q.equalities ++ flat_map clause_field q.clauses
      ≡ flat_map difference_field q.differences ++ behind_differences
  apart = simp (append_assoc, append-nil)

  reaches_counts : (rest : List ℕ) → Reaches room (head q ++ rest) 2 (holding q [] [] []) rest
  reaches_counts rest =
      record {
        last = tag.Counts;
        turns = length (head q ++ rest);
        offset = 9;
        in_order = omega arith;
        enough = omega arith;
        begun = omega arith;
        same =
            sym
            (turn_more (length (head q ++ rest)) room start 0 (head q ++ rest) (field_read 0 1 (counts_body q) rest) (record { before = Some tag.Counts; contents = holding q [] [] [] })
            (reads room start tag.Counts (counts_body q) refl (refl, omega (arith, w.variables)) ∙ ap Ok counts_read))
            ∙ ap (λ n. read_from n room start 0 (head q ++ rest)) (omega arith);
      }
    where
      start : Reading
      start = record { before = None; contents = nothing }

      counts_read : ◌≡◌ {A = Reading} (read_as room start tag.Counts (counts_body q)) (record { before = Some tag.Counts; contents = holding q [] [] [] })
      counts_read =
          λ i. record {
            before = Some tag.Counts;
            contents =
                record {
                  difference_variables = word_read q.difference_variables i;
                  equality_variables = word_read q.equality_variables i;
                  switches = word_read q.switches i;
                  differences = [];
                  equalities = [];
                  clauses = [];
                };
          }

  reaches_differences : Reaches room (written q) 2 (holding q q.differences [] []) behind_differences
  reaches_differences =
      reaches_all room (written q) tag.Difference (omega arith) difference_body (λ ds. holding q ds [] [])
      (DifferenceFits q.difference_variables) (length q.differences)
      (λ xs x l g.
      let e = difference_read q.difference_variables x g in (
        (refl, omega (arith, w.atoms), omega (arith, w.difference_places), subst (DifferenceFits q.difference_variables) (sym e) g),
        ap (λ x. holding q (xs ++ x ∷ []) [] []) e,
      ))
      [] q.differences behind_differences (omega arith) w.differences_fit
      (subst (Reaches room (written q) 2 (holding q [] [] [])) apart (reaches_counts _))

  reaches_equalities : Reaches room (written q) 3 (holding q q.differences q.equalities []) (flat_map clause_field q.clauses ++ [])
  reaches_equalities =
      reaches_all room (written q) tag.Equality (omega arith) equality_body (λ es. holding q q.differences es [])
      (EqualityFits q.equality_variables) (length q.equalities)
      (λ xs x l g.
      let e = equality_read x in (
        (refl, omega (arith, w.atoms), omega (arith, w.equality_places), subst (EqualityFits q.equality_variables) (sym e) g),
        ap (λ x. holding q q.differences (xs ++ x ∷ []) []) e,
      ))
      [] q.equalities (flat_map clause_field q.clauses ++ []) (omega arith) w.equalities_fit
      (reaches_later room (written q) 3 (omega arith) reaches_differences)

  reaches_clauses : Reaches room (written q) 4 q []
  reaches_clauses =
      reaches_all room (written q) tag.Clause (omega arith) clause_body (λ cs. holding q q.differences q.equalities cs) ClauseFits
      (length q.clauses)
      (λ xs x l g. (omega (arith, clause_length x), ap (λ x. holding q q.differences q.equalities (xs ++ x ∷ [])) (clause_read x)))
      [] q.clauses [] (omega arith) w.clauses_fit
      (reaches_later room (written q) 4 (omega arith) reaches_equalities)

  pub accepts_written : checked room (written q) ≡ Ok q
  accepts_written = reaches_end room (written q) reaches_clauses
