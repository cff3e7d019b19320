-- What a pair that shows something shows.
use Rattle.std.proofs.Common.{◌≡◌, ℕ, ◌+◌, ◌<◌, Bool, true, false, cond, refl, ap, arith}
use Rattle.pair.proofs.Together.{fits_if_any}
use Rattle.pair.specs.Pairs.{sizes_of, pair_fits, pair_sizes, pair_meaning, shown_if, shown_pair}
use Rattle.theory.specs.Meaning.{Meaning}

-- a pair that shows an atom shows both sides, and so does one that shows a variable
pub pair_if_shown : (places : ℕ) (l r : Meaning) (n : ℕ) → n < (shown_pair places l r).atoms → shown_pair places l r ≡ pair_meaning l r
pair_if_shown places l r n h = ap (λ b. shown_if b l r) (fits_if_any places l r (omega arith))

pub fits_if_variables_shown : (places : ℕ) (l r : Meaning) → 0 < (shown_pair places l r).variables → pair_fits places (sizes_of l) (sizes_of r) ≡ true
fits_if_variables_shown places l r h = fits_if_any places l r (omega arith)

-- the sizes that are computed are those of what is shown
pair_sizes_if : (b : Bool) (l r : Meaning)
    → cond b (record { atoms = l.atoms + r.atoms; variables = l.variables + r.variables }) (record { atoms = 0; variables = 0 }) ≡ sizes_of (shown_if b l r)
pair_sizes_if true l r = refl
pair_sizes_if false l r = refl

pub sizes_of_pair : (places : ℕ) (l r : Meaning) → pair_sizes places (sizes_of l) (sizes_of r) ≡ sizes_of (shown_pair places l r)
sizes_of_pair places l r = pair_sizes_if (pair_fits places (sizes_of l) (sizes_of r)) l r
