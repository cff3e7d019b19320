-- What a question file holds: its fields taken in turn, each checked before the next is looked at.
use Rattle.std.specs.Prelude.{ℕ, zero, suc, ◌+◌, ◌*◌, ◌%◌, Bool, true, cond, ◌&&◌, List, [], ◌∷◌, ◌++◌, length, ℤ, Some, None, Ok, Err, Option, Result, ◌==◌, nat_le, nat_lt, slice_index}
use Rattle.std.specs.Int.{w32}
use Rattle.std.proofs.Common.{to_z}
use Rattle.refusals.specs.declared.Fault.{Fault}
use Rattle.refusals.specs.declared.Refusal.{Refusal}
use Rattle.refusals.specs.declared.Refusal.TheVariants.{Torn, Disordered, WrongLength, TooMany}
use Rattle.refusals.specs.Grounds.{fault_at, located_at, and_then, map_ok}
use Rattle.tables.specs.declared.DifferenceEntry.{DifferenceEntry}
use Rattle.tables.specs.declared.EqualityEntry.{EqualityEntry}
use Rattle.tables.specs.Entries.{most, difference_check, equality_check}
use Rattle.question_file.specs.declared.check.Counts.{Counts}
use Rattle.question_file.specs.declared.check.Progress.{Progress}
use Rattle.question_file.specs.declared.check.Room.{Room}
use Rattle.question_file.specs.declared.check.Tag.{Tag}
use Rattle.question_file.specs.declared.check.Tag.TheVariants as tag
use Rattle.question_file.specs.Fields.{word, Found, field_at, end, torn, field}

-- a question, as a file holds it
pub record Contents : Type 0 where
  pub difference_variables : ℕ
  pub equality_variables : ℕ
  pub switches : ℕ
  pub differences : List DifferenceEntry
  pub equalities : List EqualityEntry
  pub clauses : List (List ℕ)

abbrev pub nothing : Contents
nothing =
    record { difference_variables = 0; equality_variables = 0; switches = 0; differences = []; equalities = []; clauses = [] }

abbrev pub counts_of : Contents → Counts
counts_of c =
    record {
      difference_variables = c.difference_variables;
      equality_variables = c.equality_variables;
      switches = c.switches;
      difference_entries = length c.differences;
      equality_entries = length c.equalities;
      clauses = length c.clauses;
    }

-- The numbers in a body.

abbrev pub word_at : List ℕ → ℕ → ℕ
word_at body i = word (slice_index body i) (slice_index body (i + 1))

-- four bytes in two's complement
abbrev pub signed_at : List ℕ → ℕ → ℤ
signed_at body i =
    to_z w32 (slice_index body i * 16777216 + slice_index body (i + 1) * 65536 + slice_index body (i + 2) * 256 + slice_index body (i + 3))

abbrev pub words : List ℕ → List ℕ
words [] = []
words (byte ∷ []) = []
words (high ∷ low ∷ rest) = word high low ∷ words rest

abbrev pub difference_of : List ℕ → DifferenceEntry
difference_of body = record { a = word_at body 0; b = word_at body 2; limit = signed_at body 4 }

abbrev pub equality_of : List ℕ → EqualityEntry
equality_of body = record { a = word_at body 0; b = word_at body 2 }

-- Whether a field may stand where so much was counted before it: its length first, then the counts, then its entry.

abbrev pub length_fits : Tag → List ℕ → Bool
length_fits tag.Counts body = length body == 6
length_fits tag.Difference body = length body == 8
length_fits tag.Equality body = length body == 4
length_fits tag.Clause body = length body % 2 == 0

-- a switch is an atom, and one more atom is to come
abbrev pub atoms_fit : Counts → Bool
atoms_fit n = nat_lt (n.difference_entries + n.equality_entries + n.switches) most

-- a switch is a variable too
abbrev pub count_fits : Room → Counts → Tag → List ℕ → Bool
count_fits room n tag.Counts body = nat_le (word_at body 0 + word_at body 2 + word_at body 4) most
count_fits room n tag.Difference body = atoms_fit n && nat_lt n.difference_entries room.differences
count_fits room n tag.Equality body = atoms_fit n && nat_lt n.equality_entries room.equalities
count_fits room n tag.Clause body = true

abbrev pub entry_fits : Counts → Tag → List ℕ → Result (Unit {0}) Refusal
entry_fits n tag.Counts body = Ok tt
entry_fits n tag.Difference body = difference_check n.difference_variables (difference_of body)
entry_fits n tag.Equality body = equality_check n.equality_variables (equality_of body)
entry_fits n tag.Clause body = Ok tt

abbrev pub allowed : Room → Counts → Tag → List ℕ → Result (Unit {0}) Refusal
allowed room n t body =
    cond (length_fits t body) (cond (count_fits room n t body) (entry_fits n t body) (Err TooMany)) (Err WrongLength)

-- What a field adds. The counts come first, so nothing was read before them.

abbrev pub grown : Contents → Tag → List ℕ → Contents
grown c tag.Counts body =
    record {
      difference_variables = word_at body 0;
      equality_variables = word_at body 2;
      switches = word_at body 4;
      differences = [];
      equalities = [];
      clauses = [];
    }
grown c tag.Difference body =
    record {
      difference_variables = c.difference_variables;
      equality_variables = c.equality_variables;
      switches = c.switches;
      differences = c.differences ++ (difference_of body ∷ []);
      equalities = c.equalities;
      clauses = c.clauses;
    }
grown c tag.Equality body =
    record {
      difference_variables = c.difference_variables;
      equality_variables = c.equality_variables;
      switches = c.switches;
      differences = c.differences;
      equalities = c.equalities ++ (equality_of body ∷ []);
      clauses = c.clauses;
    }
grown c tag.Clause body =
    record {
      difference_variables = c.difference_variables;
      equality_variables = c.equality_variables;
      switches = c.switches;
      differences = c.differences;
      equalities = c.equalities;
      clauses = c.clauses ++ (words body ∷ []);
    }

-- The order of tags: one tag 1 first, then tags 2, 3 and 4 in ascending order.

abbrev pub tag_number : Tag → ℕ
tag_number tag.Counts = 1
tag_number tag.Difference = 2
tag_number tag.Equality = 3
tag_number tag.Clause = 4

abbrev pub tag_of : ℕ → Option Tag
tag_of n =
    cond (n == 1) (Some tag.Counts)
    (cond (n == 2) (Some tag.Difference)
    (cond (n == 3) (Some tag.Equality)
    (cond (n == 4) (Some tag.Clause) None)))

-- whether a tag may come after the one before it, or as the first
abbrev pub follows : Option Tag → Tag → Bool
follows None t = tag_number t == 1
follows (Some before) t = nat_lt 1 (tag_number t) && nat_le (tag_number before) (tag_number t)

abbrev pub in_turn : Option Tag → Option Tag → Result Tag Refusal
in_turn before None = Err Disordered
in_turn before (Some t) = cond (follows before t) (Ok t) (Err Disordered)

-- what was read so far, and the tag of the last field
pub record Reading : Type 0 where
  pub before : Option Tag
  pub contents : Contents

abbrev pub read_field : Room → Contents → Tag → List ℕ → Result Reading Refusal
read_field room c t body =
    map_ok (λ _. record { before = Some t; contents = grown c t body }) (allowed room (counts_of c) t body)

abbrev pub read_more : Room → Reading → ℕ → List ℕ → Result Reading Refusal
read_more room s n body = and_then (in_turn s.before (tag_of n)) (λ t. read_field room s.contents t body)

-- A whole file. `turns` bounds how many fields are looked for; each has a byte at least.

abbrev pub read_next : (Reading → ℕ → List ℕ → Result Contents Fault) → Room → Reading → ℕ → Found → Result Contents Fault
read_next onward room s offset end = Ok s.contents
read_next onward room s offset torn = Err (fault_at Torn offset)
read_next onward room s offset (field n body behind) =
    and_then (located_at offset (read_more room s n body)) (λ more. onward more (offset + (3 + length body)) behind)

unfoldable pub read_from : ℕ → Room → Reading → ℕ → List ℕ → Result Contents Fault
read_from zero room s offset bytes = Ok s.contents
read_from (suc turns) room s offset bytes =
    read_next (λ more at rest. read_from turns room more at rest) room s offset (field_at offset bytes)

abbrev pub checked : Room → List ℕ → Result Contents Fault
checked room file = read_from (length file + 1) room (record { before = None; contents = nothing }) 0 file

-- The counting side of the same, which is all that the check keeps.

abbrev pub counted : Counts → Tag → List ℕ → Counts
counted n tag.Counts body =
    record {
      difference_variables = word_at body 0;
      equality_variables = word_at body 2;
      switches = word_at body 4;
      difference_entries = 0;
      equality_entries = 0;
      clauses = 0;
    }
counted n tag.Difference body =
    record {
      difference_variables = n.difference_variables;
      equality_variables = n.equality_variables;
      switches = n.switches;
      difference_entries = n.difference_entries + 1;
      equality_entries = n.equality_entries;
      clauses = n.clauses;
    }
counted n tag.Equality body =
    record {
      difference_variables = n.difference_variables;
      equality_variables = n.equality_variables;
      switches = n.switches;
      difference_entries = n.difference_entries;
      equality_entries = n.equality_entries + 1;
      clauses = n.clauses;
    }
counted n tag.Clause body =
    record {
      difference_variables = n.difference_variables;
      equality_variables = n.equality_variables;
      switches = n.switches;
      difference_entries = n.difference_entries;
      equality_entries = n.equality_entries;
      clauses = n.clauses + 1;
    }

abbrev pub count_field : Room → Counts → Tag → List ℕ → Result Counts Refusal
count_field room n t body = map_ok (λ _. counted n t body) (allowed room n t body)

abbrev pub count_more : Room → Progress → ℕ → List ℕ → Result Progress Refusal
count_more room p n body =
    and_then (in_turn p.before (tag_of n))
    (λ t. map_ok (λ counts. record { before = Some t; counts = counts }) (count_field room p.counts t body))
