-- What stands in a file where a field would begin, and what the reader hands out there.
use Rattle.std.specs.Prelude.{◌≡◌, ℕ, zero, suc, ◌+◌, ◌*◌, ◌≤◌, cond, List, [], ◌∷◌, length, take, drop, Some, None, Ok, Err, Option, Result, nat_le}
use Rattle.refusals.specs.declared.Fault.{Fault}
use Rattle.refusals.specs.declared.Refusal.TheVariants.{Torn}
use Rattle.refusals.specs.Grounds.{fault_at}
use Rattle.question_file.specs.declared.fields.Field.{Field}

-- a number of two bytes, high byte first
abbrev pub word : ℕ → ℕ → ℕ
word high low = high * 256 + low

pub data Found : Type 0 where
  -- the end of a file that has a field at least
  end : Found
  -- bytes that are no whole field, or no byte at all in the whole file
  torn : Found
  -- a tag, a body, and the bytes behind the field
  field : ℕ → List ℕ → List ℕ → Found

-- the bytes of a file from an offset on, as a field
abbrev pub field_at : ℕ → List ℕ → Found
field_at zero [] = torn
field_at (suc offset) [] = end
field_at offset (tag ∷ []) = torn
field_at offset (tag ∷ high ∷ []) = torn
field_at offset (tag ∷ high ∷ low ∷ rest) =
    cond (nat_le (word high low) (length rest)) (field tag (take (word high low) rest) (drop (word high low) rest)) torn

-- an answer that says what stands at an offset: the field, or the fault
abbrev pub Begins : List ℕ → ℕ → Result (Option Field) Fault → Type 0
Begins rest offset (Ok None) = field_at offset rest ≡ end
Begins rest offset (Ok (Some f)) =
    (f.offset ≡ offset)
    × (3 + length f.body.now ≤ length rest)
    × (field_at offset rest ≡ field f.tag f.body.now (drop (3 + length f.body.now) rest))
Begins rest offset (Err fault) = (field_at offset rest ≡ torn) × (fault ≡ fault_at Torn offset)

-- how many bytes an answer takes
abbrev pub size : Result (Option Field) Fault → ℕ
size (Ok None) = 0
size (Ok (Some f)) = 3 + length f.body.now
size (Err fault) = 0
