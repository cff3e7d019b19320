-- A question written as a file, and which questions a file can hold. Reading is the undoing of this.
use Rattle.std.specs.Prelude.{◌≡◌, ℕ, ◌+◌, ◌/◌, ◌%◌, ◌<◌, ◌≤◌, List, [], ◌∷◌, ◌++◌, length, ℤ, Ok}
use Rattle.std.specs.Int.{w32}
use Rattle.std.proofs.Common.{of_z}
use Rattle.std.specs.List.{flat_map, AllByRecursion}
use Rattle.tables.specs.declared.DifferenceEntry.{DifferenceEntry}
use Rattle.tables.specs.declared.EqualityEntry.{EqualityEntry}
use Rattle.tables.specs.Entries.{most, DifferenceFits, EqualityFits}
use Rattle.question_file.specs.declared.check.Room.{Room}
use Rattle.question_file.specs.Contents.{Contents, checked}

-- two bytes, high byte first
abbrev pub word_bytes : ℕ → List ℕ
word_bytes n = n / 256 ∷ n % 256 ∷ []

-- four bytes in two's complement, high byte first
abbrev pub signed_bytes : ℤ → List ℕ
signed_bytes z = of_z w32 z / 16777216 ∷ of_z w32 z / 65536 % 256 ∷ of_z w32 z / 256 % 256 ∷ of_z w32 z % 256 ∷ []

abbrev pub field_bytes : ℕ → List ℕ → List ℕ
field_bytes tag body = tag ∷ length body / 256 ∷ length body % 256 ∷ body

abbrev pub counts_body : Contents → List ℕ
counts_body q = word_bytes q.difference_variables ++ word_bytes q.equality_variables ++ word_bytes q.switches

abbrev pub difference_body : DifferenceEntry → List ℕ
difference_body e = word_bytes e.a ++ word_bytes e.b ++ signed_bytes e.limit

abbrev pub equality_body : EqualityEntry → List ℕ
equality_body e = word_bytes e.a ++ word_bytes e.b

abbrev pub clause_body : List ℕ → List ℕ
clause_body codes = flat_map word_bytes codes

-- the counts, then the difference entries, the equality entries and the clauses, a field each
abbrev pub written : Contents → List ℕ
written q =
    field_bytes 1 (counts_body q)
    ++ flat_map (λ e. field_bytes 2 (difference_body e)) q.differences
    ++ flat_map (λ e. field_bytes 3 (equality_body e)) q.equalities
    ++ flat_map (λ codes. field_bytes 4 (clause_body codes)) q.clauses

-- a clause whose codes fit two bytes each, and whose body's length fits two bytes
pub record ClauseFits (codes : List ℕ) : Type 0 where
  pub code_fits : AllByRecursion (λ code. code < 65536) codes
  pub short : length codes < 32768

-- A question within the limits, whose entries have places in the tables. A switch is a variable and an atom.
pub record Within (room : Room) (q : Contents) : Type 0 where
  pub variables : q.difference_variables + q.equality_variables + q.switches ≤ most
  pub atoms : length q.differences + length q.equalities + q.switches ≤ most
  pub difference_places : length q.differences ≤ room.differences
  pub equality_places : length q.equalities ≤ room.equalities
  pub differences_fit : AllByRecursion (DifferenceFits q.difference_variables) q.differences
  pub equalities_fit : AllByRecursion (EqualityFits q.equality_variables) q.equalities
  pub clauses_fit : AllByRecursion ClauseFits q.clauses

-- A file is accepted exactly when it is the writing of a question within the limits, and then it is read as that question.
pub record UndoesWriting (room : Room) (file : List ℕ) : Type 0 where
  pub accepted : (q : Contents) → checked room file ≡ Ok q → Within room q × (written q ≡ file)
  pub accepts : (q : Contents) → Within room q → written q ≡ file → checked room file ≡ Ok q
