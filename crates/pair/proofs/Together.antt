-- What a pair shows, and that its sides stay together.
use Rattle.std.proofs.Common.{◌≡◌, ℕ, ◌+◌, ◌<◌, ◌≤◌, Bool, true, false, List, length, refl, arith}
use Rattle.std.proofs.lemmas.Bool.Decides.{nat_tests}
use Rattle.theory.proofs.Apart.{different_few}
use Rattle.theory.specs.declared.Sizes.{Sizes}
use Rattle.theory.specs.Meaning.{Meaning, different}
use Rattle.pair.specs.Pairs.{left_of, right_of, sizes_of, pair_fits, shown_if, shown_pair, Together}

-- a pair that shows an atom or a variable shows both sides
fits_if_shown : (b : Bool) (l r : Meaning) → 0 < (shown_if b l r).atoms + (shown_if b l r).variables → b ≡ true
fits_if_shown true l r h = refl
fits_if_shown false l r h = absurd (omega arith)

pub fits_if_any : (places : ℕ) (l r : Meaning) → 0 < (shown_pair places l r).atoms + (shown_pair places l r).variables
    → pair_fits places (sizes_of l) (sizes_of r) ≡ true
fits_if_any places l r = fits_if_shown (pair_fits places (sizes_of l) (sizes_of r)) l r

-- no more atoms than places
pub pair_room : (places : ℕ) (l r : Meaning) → (shown_pair places l r).atoms ≤ places
pair_room places l r = grind (arith, nat_tests)

-- a call keeps the sides together where both stacks follow the pair's
pub together_after : {l r l' r' : Meaning} {lefts rights codes lefts' rights' codes' : List ℕ} {places places' : ℕ} {cut sizes : Sizes}
    → Together l r lefts rights codes places cut sizes → l' ≡ l → r' ≡ r → places' ≡ places
    → lefts' ≡ left_of l.atoms codes' → rights' ≡ right_of l.atoms codes' → different (shown_pair places l r).atoms codes' ≡ true
    → Together l' r' lefts' rights' codes' places' cut sizes
together_after t el er ep ls rs d = record { left_stack = cc; right_stack = cc; cut_is = cc; sizes_are = cc; apart = cc }

-- there is a place for each literal that is set
pub together_room : {l r : Meaning} {lefts rights codes : List ℕ} {places : ℕ} {cut sizes : Sizes} → Together l r lefts rights codes places cut sizes → length codes ≤ places
together_room {l} {r} {codes = codes} {places = places} t = omega (arith, different_few (shown_pair places l r).atoms codes t.apart, pair_room places l r)
