-- The number and the layer of each ground for refusing.
use Rattle.std.specs.Prelude.{ℕ, Some, None, Ok, Err, Option, Result}
use Rattle.refusals.specs.declared.Fault.{Fault}
use Rattle.refusals.specs.declared.Layer.{Layer}
use Rattle.refusals.specs.declared.Layer.TheVariants.{Field, Table, Question}
use Rattle.refusals.specs.declared.Refusal.{Refusal}
use Rattle.refusals.specs.declared.Refusal.TheVariants.{Torn, Disordered, WrongLength, TooMany, NoSuchVariable, LimitOutOfRange, StageForbids, NoSuchAtom, AtomTwice, QuestionFull, AtomSet, ConflictListShort, MoreThanSet, WorldListShort, Clash}

abbrev pub number_of : Refusal → ℕ
number_of Torn = 1
number_of Disordered = 2
number_of WrongLength = 3
number_of TooMany = 4
number_of NoSuchVariable = 5
number_of LimitOutOfRange = 6
number_of StageForbids = 7
number_of NoSuchAtom = 8
number_of AtomTwice = 9
number_of QuestionFull = 10
number_of AtomSet = 11
number_of ConflictListShort = 12
number_of MoreThanSet = 13
number_of WorldListShort = 14
number_of (Clash count) = 15

-- 1 to 3 are met by the reading of fields, 4 to 6 by the check of tables, the rest by a question
abbrev pub layer_of : Refusal → Layer
layer_of Torn = Field
layer_of Disordered = Field
layer_of WrongLength = Field
layer_of TooMany = Table
layer_of NoSuchVariable = Table
layer_of LimitOutOfRange = Table
layer_of StageForbids = Question
layer_of NoSuchAtom = Question
layer_of AtomTwice = Question
layer_of QuestionFull = Question
layer_of AtomSet = Question
layer_of ConflictListShort = Question
layer_of MoreThanSet = Question
layer_of WorldListShort = Question
layer_of (Clash count) = Question

-- a refusal, with its layer, at the field that begins at an offset
abbrev pub fault_at : Refusal → ℕ → Fault
fault_at refusal offset = record { refusal = refusal; layer = layer_of refusal; offset = offset }

-- a result, with its refusal as the fault at an offset
abbrev pub located_at : {T : Type 0} → ℕ → Result T Refusal → Result T Fault
located_at offset (Ok x) = Ok x
located_at offset (Err refusal) = Err (fault_at refusal offset)

-- what comes next, unless something was refused
abbrev pub and_then : {T U E : Type 0} → Result T E → (T → Result U E) → Result U E
and_then (Ok x) next = next x
and_then (Err e) next = Err e

-- a result, with another value
abbrev pub map_ok : {T U E : Type 0} → (T → U) → Result T E → Result U E
map_ok f (Ok x) = Ok (f x)
map_ok f (Err e) = Err e

-- how long the conflict of a clash is; other grounds have none
abbrev pub clash_count : Refusal → Option ℕ
clash_count Torn = None
clash_count Disordered = None
clash_count WrongLength = None
clash_count TooMany = None
clash_count NoSuchVariable = None
clash_count LimitOutOfRange = None
clash_count StageForbids = None
clash_count NoSuchAtom = None
clash_count AtomTwice = None
clash_count QuestionFull = None
clash_count AtomSet = None
clash_count ConflictListShort = None
clash_count MoreThanSet = None
clash_count WorldListShort = None
clash_count (Clash count) = Some count
