-- Set literals as they are kept: flags for the codes, the newest entry and the older ones.
use Rattle.std.specs.Prelude.{◌≡◌, ℕ, ◌*◌, ◌≤◌, Bool, true, not, ◌&&◌, List, [], ◌∷◌, map, Some, None, Option, nat_lt}
use Rattle.std.specs.List.{range_with_len}
use Rattle.steps.specs.Steps.{Trail, codes_of}
use Rattle.steps.specs.declared.Entry.{Entry}
use Rattle.theory.specs.Meaning.{atom_of, has, names, different}

-- how many atoms there are, and the set literals with their marks, newest first
pub record Standing : Type 0 where
  pub atoms : ℕ
  pub trail : Trail

-- for each code below twice the atoms, whether it is set
abbrev pub flags_of : ℕ → List ℕ → List Bool
flags_of atoms codes = map (has codes) (range_with_len 0 (2 * atoms))

-- the literals are of different atoms, there is room for one of each, and the flags say which are set
pub record Kept (atoms capacity : ℕ) (trail : Trail) (flags : List Bool) : Type 0 where
  pub room : atoms ≤ capacity
  pub apart : different atoms (codes_of trail) ≡ true
  pub flagged : flags ≡ flags_of atoms (codes_of trail)

-- whether the literal's atom is there and is unset
abbrev pub can_set : ℕ → List ℕ → ℕ → Bool
can_set atoms codes code = nat_lt (atom_of code) atoms && not (names codes (atom_of code))

abbrev pub newest : Trail → Option Entry
newest [] = None
newest (e ∷ trail) = Some e

abbrev pub older : Trail → Trail
older [] = []
older (e ∷ trail) = trail
