-- What a stack holds.
use Rattle.std.specs.Prelude.{ℕ, List}

-- the records, oldest first, and how many there are places for
pub record Held (R : Type 0) : Type 0 where
  pub records : List R
  pub places : ℕ
