-- What the difference theory means: the plain literal of entry (a, b, k) says that the time of a less the time of b is at
-- most k, its opposite that the time of b less the time of a is at most -k - 1.
use Rattle.std.specs.Prelude.{ℕ, ◌%◌, ◌<◌, Bool, cond, not, List, map, length, ℤ, pos, ◌-ℤ◌, neg_ℤ, ◌≤ℤ◌, ◌==◌, int_le}
use Rattle.tables.specs.declared.DifferenceEntry.{DifferenceEntry}
use Rattle.relaxing.specs.declared.Limit.{Limit}
use Rattle.relaxing.specs.Limits.{at, NotAbove, moves, latest}
use Rattle.table_theory.specs.Drawing.{table_meaning}
use Rattle.theory.specs.Meaning.{Meaning, WorldOf}

-- the limit that a literal of an entry asks for
abbrev pub entry_limit : DifferenceEntry → ℕ → Limit
entry_limit e code =
    cond (code % 2 == 0)
    (record { code = code; a = e.a; b = e.b; weight = e.limit })
    (record { code = code; a = e.b; b = e.a; weight = neg_ℤ e.limit -ℤ pos 1 })

-- an entry that nothing asks for
abbrev pub spare_entry : DifferenceEntry
spare_entry = record { a = 0; b = 0; limit = pos 0 }

abbrev pub limit_holds : Limit → List ℤ → Bool
limit_holds l world = int_le (at world l.a -ℤ at world l.b) l.weight

abbrev pub difference_meaning : ℕ → List DifferenceEntry → Meaning
difference_meaning variables table = table_meaning entry_limit limit_holds spare_entry variables table

-- whether there are times that meet the limits
abbrev pub have_times : List Limit → ℕ → Bool
have_times limits variables = not (moves limits (latest limits variables))

-- The latest times: a world of the literals with no number above 0, than which no other such world is greater anywhere.
pub record LatestWorld (m : Meaning) (literals : List ℕ) (world : List ℤ) : Type 0 where
  pub is_world : WorldOf m literals world
  pub not_above : NotAbove world
  pub latest_of_all : (other : List ℤ) → WorldOf m literals other → NotAbove other → (x : ℕ) → x < length world
      → at other x ≤ℤ at world x

-- the codes of limits
abbrev pub codes_of : List Limit → List ℕ
codes_of limits = map (λ l. l.code) limits
