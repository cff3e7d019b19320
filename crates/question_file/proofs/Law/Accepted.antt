-- A file that is accepted: after each field, the bytes so far are the writing of what was read, which is within the limits.
use Rattle.std.proofs.Common.{◌≡◌, ℕ, zero, suc, ◌+◌, ◌<◌, ◌≤◌, true, List, [], ◌∷◌, ◌++◌, length, Some, None, Ok, Err, Option, Result, sym, refl, ap, ◌∙◌, subst, arith}
use Rattle.std.specs.List.{flat_map}
use Rattle.std.proofs.ByRecursion.{All-push}
use Rattle.std.proofs.lemmas.List.{append-nil, append_assoc, flat_map_more, length-append, length_push}
use Rattle.std.proofs.lemmas.Bool.Decides.{nat_tests}
use Rattle.refusals.specs.declared.Refusal.{Refusal}
use Rattle.question_file.specs.declared.check.Room.{Room}
use Rattle.question_file.specs.declared.check.Tag.{Tag}
use Rattle.question_file.specs.declared.check.Tag.TheVariants as tag
use Rattle.question_file.specs.Fields.{Found, field_at, end, torn, field}
use Rattle.question_file.specs.Contents.{Contents, Reading, counts_of, difference_of, equality_of, words, grown, follows, tag_number, read_more, read_from}
use Rattle.question_file.specs.Writing.{field_bytes, clause_body, written, ClauseFits, Within}
use Rattle.tables.specs.Entries.{DifferenceFits, EqualityFits}
use Rattle.question_file.proofs.Bodies.{Bytes, counts_bytes, difference_bytes, equality_bytes, clause_bytes, clause_length, words_fit}
use Rattle.question_file.proofs.Counting.{turn_end, turn_torn, turn_refused, turn_more}
use Rattle.question_file.proofs.Steps.{Fits, head, difference_field, equality_field, clause_field, field_bytes_read, follows_after, taken_from, read_as}

-- the bytes so far are the writing of what was read, and nothing was read of the kinds whose tags are behind the last one
pub record Writes (room : Room) (done : List ℕ) (t : Tag) (c : Contents) : Type 0 where
  pub within : Within room c
  pub whole : written c ≡ done
  pub no_equalities : tag_number t < 3 → c.equalities ≡ []
  pub no_clauses : tag_number t < 4 → c.clauses ≡ []

-- what holds behind a field, and before the first one
abbrev pub Holds : Room → List ℕ → ℕ → Option Tag → Contents → Type 0
Holds room done offset None c = (done ≡ []) × (offset ≡ 0)
Holds room done offset (Some t) c = Writes room done t c

-- a writing up to the difference entries, and up to the equality entries

abbrev to_differences : Contents → List ℕ
to_differences c = head c ++ flat_map difference_field c.differences

abbrev to_equalities : Contents → List ℕ
to_equalities c = to_differences c ++ flat_map equality_field c.equalities

joined_none : {X : Type 0} (f : X → List ℕ) (front : List ℕ) (xs : List X) → xs ≡ [] → front ++ flat_map f xs ≡ front
joined_none f front xs e = ap (λ xs. front ++ flat_map f xs) e ∙ append-nil front

-- one more item at the end of a list of fields
joined_last : {X : Type 0} (f : X → List ℕ) (front : List ℕ) (xs : List X) (x : X) (bytes : List ℕ) → f x ≡ bytes
    → front ++ flat_map f (xs ++ x ∷ []) ≡ (front ++ flat_map f xs) ++ bytes
joined_last f front xs x bytes e = sym (flat_map_more f front xs x) ∙ ap (λ b. (front ++ flat_map f xs) ++ b) e

equalities_written : (c : Contents) → c.clauses ≡ [] → written c ≡ to_equalities c
equalities_written c e = joined_none clause_field (to_equalities c) c.clauses e

differences_written : (c : Contents) → c.equalities ≡ [] → c.clauses ≡ [] → written c ≡ to_differences c
differences_written c e e' = equalities_written c e' ∙ joined_none equality_field (to_differences c) c.equalities e

module _ (room : Room) (body : List ℕ) (bytes : Bytes body) (short : length body < 65536) where
  writes_counts : (c : Contents) → Fits room (counts_of c) tag.Counts body
      → Writes room (field_bytes 1 body) tag.Counts (grown c tag.Counts body)
  writes_counts c f =
      record {
        within =
            record {
              variables = f.1;
              atoms = omega (arith, f.1);
              difference_places = omega arith;
              equality_places = omega arith;
              differences_fit = tt;
              equalities_fit = tt;
              clauses_fit = tt;
            };
        whole = ap (field_bytes 1) (counts_bytes body bytes f.0);
        no_equalities = λ _. refl;
        no_clauses = λ _. refl;
      }

  module _ (c : Contents) (done : List ℕ) (t₀ : Tag) (w : Writes room done t₀ c) where
    writes_difference : tag_number t₀ ≤ 2 → Fits room (counts_of c) tag.Difference body
        → Writes room (done ++ field_bytes 2 body) tag.Difference (grown c tag.Difference body)
    writes_difference l f =
        let no_equalities : c.equalities ≡ [] = w.no_equalities (omega arith) in
        let no_clauses : c.clauses ≡ [] = w.no_clauses (omega arith) in
        record {
          within =
              record {
                variables = w.within.variables;
                atoms = simp length_push (omega (arith, f.1));
                difference_places = simp length_push (omega (arith, f.2));
                equality_places = w.within.equality_places;
                differences_fit = All-push (DifferenceFits c.difference_variables) c.differences (difference_of body) w.within.differences_fit f.3;
                equalities_fit = w.within.equalities_fit;
                clauses_fit = w.within.clauses_fit;
              };
          whole =
              differences_written (grown c tag.Difference body) no_equalities no_clauses
              ∙ joined_last difference_field (head c) c.differences (difference_of body) (field_bytes 2 body) (ap (field_bytes 2) (difference_bytes body bytes f.0))
              ∙ ap (λ front. front ++ field_bytes 2 body) (sym (differences_written c no_equalities no_clauses) ∙ w.whole);
          no_equalities = λ _. no_equalities;
          no_clauses = λ _. no_clauses;
        }

    writes_equality : tag_number t₀ ≤ 3 → Fits room (counts_of c) tag.Equality body
        → Writes room (done ++ field_bytes 3 body) tag.Equality (grown c tag.Equality body)
    writes_equality l f =
        let no_clauses : c.clauses ≡ [] = w.no_clauses (omega arith) in
        record {
          within =
              record {
                variables = w.within.variables;
                atoms = simp length_push (omega (arith, f.1));
                difference_places = w.within.difference_places;
                equality_places = simp length_push (omega (arith, f.2));
                differences_fit = w.within.differences_fit;
                equalities_fit = All-push (EqualityFits c.equality_variables) c.equalities (equality_of body) w.within.equalities_fit f.3;
                clauses_fit = w.within.clauses_fit;
              };
          whole =
              equalities_written (grown c tag.Equality body) no_clauses
              ∙ joined_last equality_field (to_differences c) c.equalities (equality_of body) (field_bytes 3 body) (ap (field_bytes 3) (equality_bytes body bytes f.0))
              ∙ ap (λ front. front ++ field_bytes 3 body) (sym (equalities_written c no_clauses) ∙ w.whole);
          no_equalities = λ h. absurd (omega arith);
          no_clauses = λ _. no_clauses;
        }

    writes_clause : Fits room (counts_of c) tag.Clause body
        → Writes room (done ++ field_bytes 4 body) tag.Clause (grown c tag.Clause body)
    writes_clause f =
        let same : clause_body (words body) ≡ body = clause_bytes body bytes f in
        record {
          within =
              record {
                variables = w.within.variables;
                atoms = w.within.atoms;
                difference_places = w.within.difference_places;
                equality_places = w.within.equality_places;
                differences_fit = w.within.differences_fit;
                equalities_fit = w.within.equalities_fit;
                clauses_fit =
                    All-push ClauseFits c.clauses (words body) w.within.clauses_fit
                    (record { code_fits = words_fit body bytes; short = omega (arith, clause_length (words body), ap length same) });
              };
          whole =
              joined_last clause_field (to_equalities c) c.clauses (words body) (field_bytes 4 body) (ap (field_bytes 4) same)
              ∙ ap (λ front. front ++ field_bytes 4 body) w.whole;
          no_equalities = λ h. absurd (omega arith);
          no_clauses = λ h. absurd (omega arith);
        }

  -- one field more
  writes_more : (c : Contents) (done : List ℕ) (offset : ℕ) (before : Option Tag) (t : Tag) → Holds room done offset before c
      → follows before t ≡ true → Fits room (counts_of c) t body
      → Writes room (done ++ field_bytes (tag_number t) body) t (grown c t body)
  writes_more c done offset None tag.Counts h e f =
      subst (λ front. Writes room (front ++ field_bytes 1 body) tag.Counts (grown c tag.Counts body)) (sym h.0) (writes_counts c f)
  writes_more c done offset None tag.Difference h e f = cc
  writes_more c done offset None tag.Equality h e f = cc
  writes_more c done offset None tag.Clause h e f = cc
  writes_more c done offset (Some t₀) tag.Counts h e f = cc
  writes_more c done offset (Some t₀) tag.Difference h e f =
      writes_difference c done t₀ h (follows_after t₀ tag.Difference e).1 f
  writes_more c done offset (Some t₀) tag.Equality h e f =
      writes_equality c done t₀ h (follows_after t₀ tag.Equality e).1 f
  writes_more c done offset (Some t₀) tag.Clause h e f = writes_clause c done t₀ h f

at_end : (offset : ℕ) (xs : List ℕ) → field_at offset xs ≡ end → (xs ≡ []) × (0 < offset)
at_end zero [] e = cc
at_end (suc offset) [] e = (refl, omega arith)
at_end offset (x ∷ []) e = cc
at_end offset (x ∷ high ∷ []) e = cc
at_end offset (x ∷ high ∷ low ∷ rest) e = absurd (grind (arith, nat_tests))

-- a whole file, from any of its fields on
module _ (room : Room) (q : Contents) where
  abbrev pub AcceptedFrom : ℕ → Reading → ℕ → List ℕ → List ℕ → Type 0
  AcceptedFrom turns s offset done rest =
      length rest < turns → Bytes rest → Holds room done offset s.before s.contents
      → read_from turns room s offset rest ≡ Ok q → Within room q × (written q ≡ done ++ rest)

  accepted_end : (before : Option Tag) (c : Contents) (offset : ℕ) (done : List ℕ) → 0 < offset → Holds room done offset before c
      → c ≡ q → Within room q × (written q ≡ done)
  accepted_end None c offset done l h e = absurd (omega (arith, h.1))
  accepted_end (Some t) c offset done l h e = subst (λ q. Within room q × (written q ≡ done)) e (h.within, h.whole)

  pub accepted_from : (turns : ℕ) (s : Reading) (offset : ℕ) (done rest : List ℕ) → AcceptedFrom turns s offset done rest
  accepted_from zero s offset done rest l b h e = absurd (omega arith)
  accepted_from (suc turns) s offset done rest l b h e =
      go (field_at offset rest) refl (accepted_from turns)
    where
      more : (n : ℕ) (body behind : List ℕ) → field_at offset rest ≡ field n body behind
          → ((s : Reading) (offset : ℕ) (done rest : List ℕ) → AcceptedFrom turns s offset done rest)
          → (r : Result Reading Refusal) → read_more room s n body ≡ r → Within room q × (written q ≡ done ++ rest)
      more n body behind f onward (Ok m) r =
          let k = taken_from room s n body m r in
          let bytes = field_bytes (tag_number k.tag) body in
          let x = field_bytes_read offset rest (tag_number k.tag) body behind b (f ∙ ap (λ n. field n body behind) (sym k.number)) in
          let w = writes_more room body x.body_bytes x.short s.contents done offset s.before k.tag h k.turn k.fits in
          let l' : length behind < turns = omega (arith, ap length x.whole, length-append body behind) in
          let e' = sym (turn_more turns room s offset rest f (read_as room s k.tag body) (r ∙ ap Ok (sym k.grows))) ∙ e in
          let p = onward (read_as room s k.tag body) (offset + (3 + length body)) (done ++ bytes) behind l' x.behind_bytes w e' in
          (p.0, p.1 ∙ append_assoc done bytes behind ∙ ap (λ xs. done ++ xs) x.whole)
      more n body behind f onward (Err d) r =
          absurd (grind (arith, turn_refused turns room s offset rest f d r))

      go : (f : Found) → field_at offset rest ≡ f
          → ((s : Reading) (offset : ℕ) (done rest : List ℕ) → AcceptedFrom turns s offset done rest)
          → Within room q × (written q ≡ done ++ rest)
      go end f onward =
          let p = at_end offset rest f in
          let same : s.contents ≡ q = cc (turn_end turns room s offset rest f) in
          rw (p.0, append-nil) (accepted_end s.before s.contents offset done p.1 h same)
      go torn f onward = absurd (grind (arith, turn_torn turns room s offset rest f))
      go (field n body behind) f onward = more n body behind f onward (read_more room s n body) refl
