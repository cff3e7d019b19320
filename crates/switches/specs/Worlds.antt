-- The world of a stack of literals of different atoms is one: 1 where the plain literal is set, otherwise 0. These are proofs;
-- nothing in them has to be believed.
use Rattle.std.specs.Prelude.{◌≡◌, ℕ, ◌*◌, ◌<◌, true, List, [], ◌∷◌, pos, nat_eq, refl}
use Rattle.std.proofs.Common.{arith}
use Rattle.std.proofs.lemmas.List.FromFn.{length-map-range_with_len, get_or-map-range_with_len}
use Rattle.std.proofs.ByRecursion.{all_has_itself, All-weaker}
use Rattle.std.proofs.lemmas.Bool.{false≢true}
use Rattle.std.proofs.lemmas.Bool.Decides.{nat_tests, Decides-eqb, Decides-by_or}
use Rattle.std.specs.List.{ContainsAt as Has, AllByRecursion}
use Rattle.theory.specs.Meaning.{atom_of, has, names, different, WorldOf}
use Rattle.switches.specs.Switching.{switch_holds, switch_meaning, switch_of, switch_world}

-- each literal is among them
has_itself : (codes : List ℕ) → AllByRecursion (λ code. has codes code ≡ true) codes
has_itself codes =
    All-weaker (Has codes) (λ code. has codes code ≡ true)
    (λ code. (Decides-by_or (λ x. nat_eq x code) (λ x. x ≡ code) (λ xs. has xs code) (λ x. Decides-eqb x code) refl (λ _ _. refl) codes).1) codes (all_has_itself codes)

has_names : (codes : List ℕ) (code : ℕ) → has codes code ≡ true → names codes (atom_of code) ≡ true
has_names [] code h = absurd (false≢true h)
has_names (x ∷ codes) code h = let i = has_names codes code in grind (arith, nat_tests)

module _ (atoms : ℕ) where
  has_below : (codes : List ℕ) (code : ℕ) → different atoms codes ≡ true → has codes code ≡ true → atom_of code < atoms
  has_below [] code d h = absurd (false≢true h)
  has_below (x ∷ codes) code d h = let i = has_below codes code in grind (arith, nat_tests)

  -- of two literals of one atom, one at most is there
  one_of_atom : (codes : List ℕ) (y z : ℕ) → different atoms codes ≡ true → has codes y ≡ true → has codes z ≡ true → atom_of y ≡ atom_of z → y ≡ z
  one_of_atom [] y z d h k e = absurd (false≢true h)
  one_of_atom (x ∷ codes) y z d h k e =
      let i = one_of_atom codes y z in
      let p = has_names codes y in
      let q = has_names codes z in
      grind (arith, nat_tests)

module _ (count : ℕ) (codes : List ℕ) (d : different count codes ≡ true) where
  set_holds : (code : ℕ) → has codes code ≡ true → switch_holds code (switch_world count codes) ≡ true
  set_holds code h =
      let at = get_or-map-range_with_len (switch_of codes) 0 count (atom_of code) (atom_of code) (pos 0) (has_below count codes code d h) (omega arith) in
      let plain = one_of_atom count codes code (2 * atom_of code) d h in
      grind (arith, nat_tests)

  pub world_of_stack : WorldOf (switch_meaning count) codes (switch_world count codes)
  world_of_stack =
      record {
        whole = length-map-range_with_len (switch_of codes) 0 count;
        all_hold = All-weaker (λ code. has codes code ≡ true) (λ code. switch_holds code (switch_world count codes) ≡ true) set_holds codes (has_itself codes);
      }
