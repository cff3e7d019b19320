-- What the switch theory means: each switch is an atom and a variable, and is on where its number is not 0.
use Rattle.std.specs.Prelude.{ℕ, ◌*◌, ◌%◌, Bool, false, cond, not, ◌&&◌, List, map, ℤ, pos, negsuc, ◌==◌, nat_le, slice_index_or}
use Rattle.std.specs.List.{range_with_len}
use Rattle.theory.specs.Meaning.{Meaning, atom_of, has}

abbrev pub is_zero : ℤ → Bool
is_zero (pos n) = n == 0
is_zero (negsuc n) = false

-- the plain literal holds where the switch is not 0, the opposite where it is
abbrev pub switch_holds : ℕ → List ℤ → Bool
switch_holds code world =
    cond (code % 2 == 0) (not (is_zero (slice_index_or world (atom_of code) (pos 0)))) (is_zero (slice_index_or world (atom_of code) (pos 0)))

abbrev pub switch_meaning : ℕ → Meaning
switch_meaning count = record { atoms = count; variables = count; holds = switch_holds }

-- 1 where the plain literal is set, otherwise 0
abbrev pub switch_of : List ℕ → ℕ → ℤ
switch_of codes i = cond (has codes (2 * i)) (pos 1) (pos 0)

abbrev pub switch_world : ℕ → List ℕ → List ℤ
switch_world count codes = map (switch_of codes) (range_with_len 0 count)

-- how many switches are shown: none where there would be too many, or too few places for the stack
abbrev pub shown_switches : ℕ → ℕ → ℕ
shown_switches count places = cond (nat_le count 512 && nat_le count places) count 0
