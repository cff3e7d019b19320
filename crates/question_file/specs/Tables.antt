-- Entries of one kind in fields that stand one behind the other, and what a table holds after loading.
use Rattle.std.specs.Prelude.{ℕ, zero, suc, ◌+◌, ◌≤◌, List, [], ◌∷◌, ◌++◌, length, take, drop, Ok, Err, Result}
use Rattle.refusals.specs.declared.Fault.{Fault}
use Rattle.tables.specs.declared.DifferenceEntry.{DifferenceEntry}
use Rattle.tables.specs.declared.EqualityEntry.{EqualityEntry}
use Rattle.question_file.specs.declared.check.Room.{Room}
use Rattle.question_file.specs.Contents.{Contents}

-- so many fields, with bodies of one size, stand at the front of the bytes
abbrev pub Long : ℕ → ℕ → List ℕ → Type 0
Long size zero bytes = Unit {0}
Long size (suc n) bytes = (3 + size ≤ length bytes) × Long size n (drop size (drop 3 bytes))

-- what the bodies of the first so many fields say
abbrev pub entries : {E : Type 0} → ℕ → (List ℕ → E) → ℕ → List ℕ → List E
entries size said zero bytes = []
entries size said (suc n) bytes = said (take size (drop 3 bytes)) ∷ entries size said n (drop size (drop 3 bytes))

-- the places of two tables
abbrev pub room_of : List DifferenceEntry → List EqualityEntry → Room
room_of differences equalities = record { differences = length differences; equalities = length equalities }

-- a table after loading: a checked file fills its front, a refused one leaves it
abbrev pub filled_from : {E : Type 0} → (Contents → List E) → Result Contents Fault → List E → List E
filled_from part (Ok q) table = part q ++ drop (length (part q)) table
filled_from part (Err fault) table = table
