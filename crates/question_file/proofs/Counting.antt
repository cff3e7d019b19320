-- The check keeps the counts of what it has read, and that is enough to follow the reading of the whole content.
use Rattle.std.proofs.Common.{◌≡◌, ℕ, zero, suc, ◌+◌, ◌≤◌, List, length, drop, Some, None, Ok, Err, Result, sym, refl, ap, ◌∙◌, arith, length-drop}
use Rattle.std.proofs.lemmas.List.{length_push}
use Rattle.refusals.specs.declared.Fault.{Fault}
use Rattle.refusals.specs.declared.Refusal.{Refusal}
use Rattle.refusals.specs.Grounds.{fault_at, located_at, and_then, map_ok}
use Rattle.question_file.specs.declared.check.Counts.{Counts}
use Rattle.question_file.specs.declared.check.Progress.{Progress}
use Rattle.question_file.specs.declared.check.Room.{Room}
use Rattle.question_file.specs.declared.check.Tag.{Tag}
use Rattle.question_file.specs.declared.check.Tag.TheVariants as tag
use Rattle.question_file.specs.Contents.{Contents, Reading, counts_of, counted, grown, allowed, in_turn, tag_of, read_field, count_field, read_more, count_more, read_next, read_from, checked, nothing}
use Rattle.refusals.specs.declared.Refusal.TheVariants.{Torn}
use Rattle.question_file.specs.declared.fields.Field.{Field}
use Rattle.question_file.specs.Fields.{Begins, field_at, end, torn, field}

-- before the first field
abbrev pub begun : Reading
begun = record { before = None; contents = nothing }

abbrev pub progress_of : Reading → Progress
progress_of s = record { before = s.before; counts = counts_of s.contents }

pub counts_grown : (c : Contents) (t : Tag) (body : List ℕ) → counted (counts_of c) t body ≡ counts_of (grown c t body)
counts_grown c tag.Counts body = refl
counts_grown c tag.Difference body = rw length_push refl
counts_grown c tag.Equality body = rw length_push refl
counts_grown c tag.Clause body = rw length_push refl

-- one field more, counted and read
pub counts_follow : (room : Room) (s : Reading) (n : ℕ) (body : List ℕ)
    → count_more room (progress_of s) n body ≡ map_ok progress_of (read_more room s n body)
counts_follow room s n body = go (in_turn s.before (tag_of n))
  where
    counted_field : (t : Tag) (a : Result (Unit {0}) Refusal)
        → ◌≡◌ {A = Result Progress Refusal}
        (map_ok (λ counts. record { before = Some t; counts = counts }) (map_ok (λ _. counted (counts_of s.contents) t body) a))
        (map_ok progress_of (map_ok (λ _. record { before = Some t; contents = grown s.contents t body }) a))
    counted_field t (Ok x) = rw counts_grown refl
    counted_field t (Err e) = refl

    go : (t : Result Tag Refusal)
        → and_then t (λ t. map_ok (λ counts. record { before = Some t; counts = counts }) (count_field room (counts_of s.contents) t body))
        ≡ map_ok progress_of (and_then t (λ t. read_field room s.contents t body))
    go (Ok t) = counted_field t (allowed room (counts_of s.contents) t body)
    go (Err e) = refl

-- One turn of `read_from`, by what stands at the offset.
module _ (k : ℕ) (room : Room) (s : Reading) (offset : ℕ) (bytes : List ℕ) where
  onward : Reading → ℕ → List ℕ → Result Contents Fault
  onward more at rest = read_from k room more at rest

  pub turn_end : field_at offset bytes ≡ end → read_from (suc k) room s offset bytes ≡ Ok s.contents
  unfolding read_from onward
  turn_end e = ap (read_next onward room s offset) e

  pub turn_torn : field_at offset bytes ≡ torn → read_from (suc k) room s offset bytes ≡ Err (fault_at Torn offset)
  unfolding read_from onward
  turn_torn e = ap (read_next onward room s offset) e

  module _ {n : ℕ} {body behind : List ℕ} (f : field_at offset bytes ≡ field n body behind) where
    pub turn_refused : (e : Refusal) → read_more room s n body ≡ Err e
        → read_from (suc k) room s offset bytes ≡ Err (fault_at e offset)
    unfolding read_from onward
    turn_refused e r =
        ap (read_next onward room s offset) f
        ∙ ap (λ x. and_then (located_at offset x) (λ more. onward more (offset + (3 + length body)) behind)) r

    pub turn_more : (more : Reading) → read_more room s n body ≡ Ok more
        → read_from (suc k) room s offset bytes ≡ read_from k room more (offset + (3 + length body)) behind
    unfolding read_from onward
    turn_more more r =
        ap (read_next onward room s offset) f
        ∙ ap (λ x. and_then (located_at offset x) (λ more. onward more (offset + (3 + length body)) behind)) r

-- What a check has counted before the bytes that are left leads to what the whole file gives.
pub record Leads (room : Room) (file : List ℕ) (p : Progress) (offset : ℕ) (rest : List ℕ) : Type 0 where
  pub reading : Reading
  pub turns : ℕ
  pub counts : progress_of reading ≡ p
  pub enough : length rest ≤ turns
  pub same : read_from (suc turns) room reading offset rest ≡ checked room file
  pub few : p.counts.clauses + length rest ≤ length file

pub leads_start : (room : Room) (file : List ℕ) → Leads room file (progress_of begun) 0 file
leads_start room file =
    record {
      reading = begun;
      turns = length file;
      counts = refl;
      enough = omega arith;
      same = ap (λ n. read_from n room begun 0 file) (omega arith);
      few = omega arith;
    }

-- each field adds one clause at most
abbrev clauses_of : Result Progress Refusal → ℕ
clauses_of (Ok p) = p.counts.clauses
clauses_of (Err e) = 0

one_clause : (room : Room) (p : Progress) (n : ℕ) (body : List ℕ) → clauses_of (count_more room p n body) ≤ p.counts.clauses + 1
one_clause room p n body = go (in_turn p.before (tag_of n))
  where
    more : (t : Tag) → (counted p.counts t body).clauses ≤ p.counts.clauses + 1
    more t = grind arith

    field_more : (t : Tag) (a : Result (Unit {0}) Refusal)
        → clauses_of (map_ok (λ counts. record { before = Some t; counts = counts }) (map_ok (λ _. counted p.counts t body) a))
        ≤ p.counts.clauses + 1
    field_more t (Ok x) = more t
    field_more t (Err e) = omega arith

    go : (t : Result Tag Refusal)
        → clauses_of (and_then t (λ t. map_ok (λ counts. record { before = Some t; counts = counts }) (count_field room p.counts t body)))
        ≤ p.counts.clauses + 1
    go (Ok t) = field_more t (allowed room p.counts t body)
    go (Err e) = omega arith

-- a result that is known by its other value
pub from_mapped_ok : {T U E : Type 0} (f : T → U) (r : Result T E) (y : U) → map_ok f r ≡ Ok y → (x : T) × (r ≡ Ok x) × (f x ≡ y)
from_mapped_ok f (Ok x) y h = (x, refl, cc)
from_mapped_ok f (Err d) y h = cc

-- The end of the file, a torn field, and a field more, as the reader hands them out.
module _ {room : Room} {file : List ℕ} {p : Progress} {offset : ℕ} {rest : List ℕ} (l : Leads room file p offset rest) where
  pub leads_end : Begins rest offset (Ok None) → ◌≡◌ {A = Result Counts Fault} (Ok p.counts) (map_ok counts_of (checked room file))
  leads_end b =
      ap (λ q. Ok q.counts) (sym l.counts) ∙ ap (map_ok counts_of) (sym (turn_end l.turns room l.reading offset rest b) ∙ l.same)

  pub leads_torn : (d : Fault) → Begins rest offset (Err d) → ◌≡◌ {A = Result Counts Fault} (Err d) (map_ok counts_of (checked room file))
  leads_torn d b =
      ap Err b.1 ∙ ap (map_ok counts_of) (sym (turn_torn l.turns room l.reading offset rest b.0) ∙ l.same)

  module _ (f : Field) (b : Begins rest offset (Ok (Some f))) where
    abbrev read : Result Reading Refusal
    read = read_more room l.reading f.tag f.body.now

    count_is : count_more room p f.tag f.body.now ≡ map_ok progress_of read
    count_is = ap (λ q. count_more room q f.tag f.body.now) (sym l.counts) ∙ counts_follow room l.reading f.tag f.body.now

    counted_read : located_at f.offset (count_more room p f.tag f.body.now) ≡ located_at offset (map_ok progress_of read)
    counted_read = λ i. located_at (b.0 i) (count_is i)

    pub leads_refused : (d : Fault) → Err d ≡ located_at f.offset (count_more room p f.tag f.body.now)
        → ◌≡◌ {A = Result Counts Fault} (Err d) (map_ok counts_of (checked room file))
    leads_refused d h = go read refl (h ∙ counted_read)
      where
        go : (r : Result Reading Refusal) → read ≡ r → Err d ≡ located_at offset (map_ok progress_of r)
            → ◌≡◌ {A = Result Counts Fault} (Err d) (map_ok counts_of (checked room file))
        go (Ok x) k h = cc
        go (Err e) k h = ap Err (cc) ∙ ap (map_ok counts_of) (sym (turn_refused l.turns room l.reading offset rest b.2 e k) ∙ l.same)

    pub leads_more : (q : Progress) → Ok q ≡ located_at f.offset (count_more room p f.tag f.body.now)
        → Leads room file q (offset + (3 + length f.body.now)) (drop (3 + length f.body.now) rest)
    leads_more q h = go read refl (h ∙ counted_read) l.turns l.enough l.same
      where
        go : (r : Result Reading Refusal) → read ≡ r → Ok q ≡ located_at offset (map_ok progress_of r)
            → (turns : ℕ) → length rest ≤ turns → read_from (suc turns) room l.reading offset rest ≡ checked room file
            → Leads room file q (offset + (3 + length f.body.now)) (drop (3 + length f.body.now) rest)
        go (Err e) k h turns enough same = cc
        go (Ok x) k h zero enough same = absurd (omega (arith, b.1))
        go (Ok x) k h (suc turns) enough same =
            let e : progress_of x ≡ q = cc in
            record {
              reading = x;
              turns = turns;
              counts = e;
              enough = omega (arith, length-drop (3 + length f.body.now) rest, b.1);
              same = sym (turn_more (suc turns) room l.reading offset rest b.2 x k) ∙ same;
              few = omega (arith, ap (λ q. q.counts.clauses) e, ap clauses_of (count_is ∙ ap (map_ok progress_of) k), one_clause room p f.tag f.body.now, length-drop (3 + length f.body.now) rest, b.1, l.few);
            }
