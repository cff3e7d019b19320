-- Searches through lists.
use Rattle.std.proofs.Common.{◌≡◌, ℕ, ◌/◌, Bool, true, false, ◌||◌, List, [], ◌∷◌, map, refl, sym, ◌==◌}
use Rattle.std.specs.List.{list_any}
use Rattle.theory.specs.Meaning.{has, names}

-- whether some element passes a test, as any test of lists that goes through them says
pub any_by : {X : Type 0} (test : X → Bool) (any : List X → Bool) → any [] ≡ false → ((x : X) (xs : List X) → any (x ∷ xs) ≡ (test x || any xs))
    → (xs : List X) → list_any test xs ≡ any xs
any_by test any none more [] = sym none
any_by test any none more (x ∷ xs) = let i = any_by test any none more xs in cc (more x xs)

-- a search through records for the code of one
module _ {R : Type 0} (coded : R → ℕ) where
  pub any_names : (atom : ℕ) (xs : List R) → list_any (λ x. coded x / 2 == atom) xs ≡ names (map coded xs) atom
  any_names atom = any_by (λ x. coded x / 2 == atom) (λ xs. names (map coded xs) atom) refl (λ _ _. refl)

  pub any_has : (code : ℕ) (xs : List R) → list_any (λ x. coded x == code) xs ≡ has (map coded xs) code
  any_has code = any_by (λ x. coded x == code) (λ xs. has (map coded xs) code) refl (λ _ _. refl)
