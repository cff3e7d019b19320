-- What the equality theory means: the plain literal of entry (a, b) says that a and b are equal, its opposite that they
-- differ.
use Rattle.std.specs.Prelude.{ℕ, ◌%◌, Bool, List, map, ℤ, ◌==◌}
use Rattle.tables.specs.declared.EqualityEntry.{EqualityEntry}
use Rattle.joining.specs.declared.Join.{Join}
use Rattle.joining.specs.Joins.{join_holds, Lowest, labelled, agrees}
use Rattle.table_theory.specs.Drawing.{table_meaning}
use Rattle.theory.specs.Meaning.{Meaning, WorldOf}

-- the join that a literal of an entry asks for
abbrev pub entry_join : EqualityEntry → ℕ → Join
entry_join e code = record { code = code; a = e.a; b = e.b; equal = (code % 2 == 0) }

-- an entry that nothing asks for
abbrev pub spare_entry : EqualityEntry
spare_entry = record { a = 0; b = 0 }

abbrev pub holds_in : Join → List ℤ → Bool
holds_in j world = join_holds world j

abbrev pub equality_meaning : ℕ → List EqualityEntry → Meaning
equality_meaning variables table = table_meaning entry_join holds_in spare_entry variables table

-- whether there are numbers that are as the joins say
abbrev pub have_numbers : List Join → ℕ → Bool
have_numbers joins variables = agrees joins (labelled joins variables)

-- The lowest joined variables: a world of the literals, in which each variable has the lowest number that equalities join to it.
pub record LowestWorld (m : Meaning) (joins : List Join) (world : List ℤ) : Type 0 where
  pub is_world : WorldOf m (map (λ j. j.code) joins) world
  pub lowest : Lowest joins world
