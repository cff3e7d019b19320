-- One field of a file: the bytes that it is written in, and when it is read.
use Rattle.std.proofs.Common.{◌≡◌, ℕ, zero, suc, ◌+◌, ◌/◌, ◌%◌, ◌<◌, ◌≤◌, Bool, true, false, cond, leb, List, [], ◌∷◌, ◌++◌, length, take, drop, Some, None, Ok, Err, Option, Result, sym, refl, ap, ◌∙◌, subst, arith}
use Rattle.std.proofs.ByRecursion.{All-take, All-drop}
use Rattle.std.proofs.lemmas.List.{length-append, length-take-le, take-append-drop, take_at, drop_at}
use Rattle.std.proofs.lemmas.Int.{ints}
use Rattle.std.proofs.lemmas.Bool.{leb-true}
use Rattle.std.proofs.lemmas.Bool.Decides.{nat_tests}
use Rattle.refusals.specs.declared.Refusal.TheVariants.{Disordered}
use Rattle.refusals.specs.Grounds.{and_then}
use Rattle.tables.specs.declared.DifferenceEntry.{DifferenceEntry}
use Rattle.tables.specs.declared.EqualityEntry.{EqualityEntry}
use Rattle.tables.specs.Entries.{most, DifferenceFits, EqualityFits}
use Rattle.question_file.specs.declared.check.Counts.{Counts}
use Rattle.question_file.specs.declared.check.Room.{Room}
use Rattle.question_file.specs.declared.check.Tag.{Tag}
use Rattle.question_file.specs.declared.check.Tag.TheVariants as tag
use Rattle.question_file.specs.Fields.{word, field_at, torn, field}
use Rattle.question_file.specs.Contents.{Contents, Reading, counts_of, word_at, difference_of, equality_of, grown, allowed, follows, in_turn, tag_number, tag_of, read_more}
use Rattle.question_file.specs.Writing.{field_bytes, counts_body, difference_body, equality_body, clause_body}
use Rattle.question_file.proofs.Bodies.{Bytes, word_read}
use Rattle.question_file.proofs.Counting.{from_mapped_ok}
use Rattle.question_file.proofs.Reading.{at_whole}

-- a choice whose second way is ruled out
passed : {A : Type 0} (b : Bool) (x y z : A) → cond b x y ≡ z → (y ≡ z → ⊥) → (b ≡ true) × (x ≡ z)
passed true x y z e never = (refl, e)
passed false x y z e never = absurd (never e)

-- The fields of a writing.

abbrev pub head : Contents → List ℕ
head c = field_bytes 1 (counts_body c)

abbrev pub difference_field : DifferenceEntry → List ℕ
difference_field e = field_bytes 2 (difference_body e)

abbrev pub equality_field : EqualityEntry → List ℕ
equality_field e = field_bytes 3 (equality_body e)

abbrev pub clause_field : List ℕ → List ℕ
clause_field codes = field_bytes 4 (clause_body codes)

-- What stands in bytes that begin with a field, and the other way round.

pub field_read : (offset n : ℕ) (body rest : List ℕ) → field_at offset (field_bytes n body ++ rest) ≡ field n body rest
field_read offset n body rest =
    at_whole offset (field_bytes n body ++ rest) (length body) (omega arith) (sym (word_read (length body)))
    (omega (arith, length-append body rest))
    ∙ (λ i. field n (take_at body rest (length body) refl i) (drop_at body rest (length body) refl i))

-- bytes that begin with a field
pub record Spells (xs : List ℕ) (n : ℕ) (body behind : List ℕ) : Type 0 where
  pub whole : field_bytes n body ++ behind ≡ xs
  pub short : length body < 65536
  pub body_bytes : Bytes body
  pub behind_bytes : Bytes behind

pub field_bytes_read : (offset : ℕ) (xs : List ℕ) (n : ℕ) (body behind : List ℕ) → Bytes xs
    → field_at offset xs ≡ field n body behind → Spells xs n body behind
field_bytes_read zero [] n body behind b e = cc
field_bytes_read (suc offset) [] n body behind b e = cc
field_bytes_read offset (x ∷ []) n body behind b e = cc
field_bytes_read offset (x ∷ high ∷ []) n body behind b e = cc
field_bytes_read offset (x ∷ high ∷ low ∷ rest) n body behind b e =
    record {
      whole = λ i. tag i ∷ high_is i ∷ low_is i ∷ rest_is i;
      short = omega (arith, size, b.0, b.1.0, b.1.1.0);
      body_bytes = rw body_is (All-take (λ b. b < 256) (word high low) rest b.1.1.1);
      behind_bytes = rw behind_is (All-drop (λ b. b < 256) (word high low) rest b.1.1.1);
    }
  where
    p : (leb (word high low) (length rest) ≡ true) × (field x (take (word high low) rest) (drop (word high low) rest) ≡ field n body behind)
    p = passed _ _ torn _ e (λ h. grind arith)

    tag : n ≡ x
    tag = cc p.1

    body_is : body ≡ take (word high low) rest
    body_is = cc p.1

    behind_is : behind ≡ drop (word high low) rest
    behind_is = cc p.1

    size : length body ≡ word high low
    size = ap length body_is ∙ length-take-le (word high low) rest (leb-true _ _ p.0)

    high_is : length body / 256 ≡ high
    high_is = omega (arith, size, b.1.1.0)

    low_is : length body % 256 ≡ low
    low_is = omega (arith, size, b.1.1.0)

    rest_is : body ++ behind ≡ rest
    rest_is = (λ i. body_is i ++ behind_is i) ∙ take-append-drop (word high low) rest

-- The tag of a field, by its number.

tag_of_number : (t : Tag) → tag_of (tag_number t) ≡ Some t
tag_of_number t = grind arith

number_of_tag : (n : ℕ) (t : Tag) → tag_of n ≡ Some t → tag_number t ≡ n
number_of_tag n t e = grind (arith, nat_tests)

-- What a field has to say to be read where so much was counted before it.
abbrev pub Fits : Room → Counts → Tag → List ℕ → Type 0
Fits room n tag.Counts body = (length body ≡ 6) × (word_at body 0 + word_at body 2 + word_at body 4 ≤ most)
Fits room n tag.Difference body =
    (length body ≡ 8)
    × (n.difference_entries + n.equality_entries + n.switches < most)
    × (n.difference_entries < room.differences)
    × DifferenceFits n.difference_variables (difference_of body)
Fits room n tag.Equality body =
    (length body ≡ 4)
    × (n.difference_entries + n.equality_entries + n.switches < most)
    × (n.equality_entries < room.equalities)
    × EqualityFits n.equality_variables (equality_of body)
Fits room n tag.Clause body = length body % 2 ≡ 0

fits_from : (room : Room) (n : Counts) (t : Tag) (body : List ℕ) → allowed room n t body ≡ Ok tt → Fits room n t body
fits_from room n t body e = grind (arith, nat_tests, ints)

allowed_from : (room : Room) (n : Counts) (t : Tag) (body : List ℕ) → Fits room n t body → allowed room n t body ≡ Ok tt
allowed_from room n t body f = grind (arith, nat_tests, ints)

-- When a field is read, and what it is read as.

from_then_ok : {T U E : Type 0} (r : Result T E) (next : T → Result U E) (y : U) → and_then r next ≡ Ok y
    → (x : T) × (r ≡ Ok x) × (next x ≡ Ok y)
from_then_ok (Ok x) next y e = (x, refl, e)
from_then_ok (Err d) next y e = cc

from_turn : (before : Option Tag) (o : Option Tag) (t : Tag) → in_turn before o ≡ Ok t → (o ≡ Some t) × (follows before t ≡ true)
from_turn before None t e = cc
from_turn before (Some u) t e =
    let p = passed (follows before u) (Ok u) (Err Disordered) (Ok t) e (λ h. grind arith) in
    let same : u ≡ t = cc p.1 in
    (ap Some same, subst (λ u. follows before u ≡ true) same p.0)

pub follows_after : (before t : Tag) → follows (Some before) t ≡ true → (1 < tag_number t) × (tag_number before ≤ tag_number t)
follows_after before t e = grind (arith, nat_tests)

pub after_follows : (before t : Tag) → 1 < tag_number t → tag_number before ≤ tag_number t → follows (Some before) t ≡ true
after_follows before t l m = grind (arith, nat_tests)

module _ (room : Room) (s : Reading) where
  abbrev pub read_as : Tag → List ℕ → Reading
  read_as t body = record { before = Some t; contents = grown s.contents t body }

  pub record Taken (n : ℕ) (body : List ℕ) (more : Reading) : Type 0 where
    pub tag : Tag
    pub number : tag_number tag ≡ n
    pub turn : follows s.before tag ≡ true
    pub fits : Fits room (counts_of s.contents) tag body
    pub grows : read_as tag body ≡ more

  pub taken_from : (n : ℕ) (body : List ℕ) (more : Reading) → read_more room s n body ≡ Ok more → Taken n body more
  taken_from n body more e =
      let p = from_then_ok (in_turn s.before (tag_of n)) _ more e in
      let q = from_turn s.before (tag_of n) p.0 p.1 in
      let r = from_mapped_ok (λ _. read_as p.0 body) (allowed room (counts_of s.contents) p.0 body) more p.2 in
      record {
        tag = p.0;
        number = number_of_tag n p.0 q.0;
        turn = q.1;
        fits = fits_from room (counts_of s.contents) p.0 body r.1;
        grows = r.2;
      }

  pub reads : (t : Tag) (body : List ℕ) → follows s.before t ≡ true → Fits room (counts_of s.contents) t body
      → read_more room s (tag_number t) body ≡ Ok (read_as t body)
  reads t body turn fits = rw (tag_of_number t, turn, allowed_from room (counts_of s.contents) t body fits) refl
