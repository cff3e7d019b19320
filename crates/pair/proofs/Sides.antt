-- The literals of each side: one more, fewer, whether an atom is among them, and conflicts of a side.
use Rattle.std.proofs.Common.{◌≡◌, ℕ, ◌+◌, ◌-◌, ◌*◌, ◌<◌, ◌≤◌, true, false, List, [], ◌∷◌, ◌++◌, map, length, refl, subst, arith}
use Rattle.std.proofs.lemmas.List.{append-nil}
use Rattle.std.proofs.lemmas.Bool.{lt-ltb, le-ltb, ltb-false, cond_both}
use Rattle.std.proofs.lemmas.Bool.Decides.{nat_tests}
use Rattle.std.specs.List.{AllByRecursion}
use Rattle.theory.specs.Calls.{Picked, none, keep, skip}
use Rattle.theory.specs.Meaning.{atom_of, names}
use Rattle.pair.specs.Pairs.{is_left, left_of, right_of, raised}

-- some of a list, where more is put in between
picked_more : {X : Type 0} {y : X} {xs ys zs : List X} → ((ws : List X) → Picked ws ys → Picked ws zs) → Picked xs (y ∷ ys) → Picked xs (y ∷ zs)
picked_more h (keep p) = keep (h _ p)
picked_more h (skip p) = skip (h _ p)

picked_map : {X : Type 0} (f : X → X) {y : X} {xs ys zs : List X} → ((ws : List X) → Picked ws ys → Picked (map f ws) zs) → Picked xs (y ∷ ys) → Picked (map f xs) (f y ∷ zs)
picked_map f h (keep p) = keep (h _ p)
picked_map f h (skip p) = skip (h _ p)

pub picked_hold : {X : Type 0} (P : X → Type 0) {xs ys : List X} → Picked xs ys → AllByRecursion P ys → AllByRecursion P xs
picked_hold P none h = tt
picked_hold P (keep p) h = (h.0, picked_hold P p h.1)
picked_hold P (skip p) h = picked_hold P p h.1

module _ (cut : ℕ) where
  left : (code : ℕ) → code < 2 * cut → is_left cut code ≡ true
  left code l = lt-ltb code (2 * cut) l

  right : (code : ℕ) → 2 * cut ≤ code → is_left cut code ≡ false
  right code l = le-ltb code (2 * cut) l

  pub left_of_append : (xs ys : List ℕ) → left_of cut (xs ++ ys) ≡ left_of cut xs ++ left_of cut ys
  left_of_append [] ys = refl
  left_of_append (x ∷ xs) ys = let i = left_of_append xs ys in grind arith

  pub right_of_append : (xs ys : List ℕ) → right_of cut (xs ++ ys) ≡ right_of cut xs ++ right_of cut ys
  right_of_append [] ys = refl
  right_of_append (x ∷ xs) ys = let i = right_of_append xs ys in grind arith

  pub both_lengths : (xs : List ℕ) → length (left_of cut xs) + length (right_of cut xs) ≡ length xs
  both_lengths [] = refl
  both_lengths (x ∷ xs) = let i = both_lengths xs in grind arith

  -- one more, on one side or the other
  module _ (codes : List ℕ) (code : ℕ) where
    module _ (l : code < 2 * cut) where
      pub left_of_more : left_of cut (codes ++ (code ∷ [])) ≡ left_of cut codes ++ (code ∷ [])
      left_of_more = let h = left_of_append codes (code ∷ []) in grind (arith, nat_tests)

      pub right_of_same : right_of cut (codes ++ (code ∷ [])) ≡ right_of cut codes
      right_of_same = let h = right_of_append codes (code ∷ []) in grind (arith, nat_tests, append-nil)

    module _ (l : 2 * cut ≤ code) where
      pub right_of_more : right_of cut (codes ++ (code ∷ [])) ≡ right_of cut codes ++ ((code - 2 * cut) ∷ [])
      right_of_more = let h = right_of_append codes (code ∷ []) in grind (arith, nat_tests)

      pub left_of_same : left_of cut (codes ++ (code ∷ [])) ≡ left_of cut codes
      left_of_same = let h = left_of_append codes (code ∷ []) in grind (arith, nat_tests, append-nil)

  -- whether an atom is among the literals of its side
  pub names_left : (codes : List ℕ) (code : ℕ) → code < 2 * cut → names codes (atom_of code) ≡ names (left_of cut codes) (atom_of code)
  names_left [] code l = refl
  names_left (x ∷ codes) code l = let i = names_left codes code l in grind (arith, nat_tests)

  pub names_right : (codes : List ℕ) (code : ℕ) → 2 * cut ≤ code → names codes (atom_of code) ≡ names (right_of cut codes) (atom_of (code - 2 * cut))
  names_right [] code l = refl
  names_right (x ∷ codes) code l = let i = names_right codes code l in grind (arith, nat_tests)

  -- conflicts of the left
  pub picked_left : (codes xs : List ℕ) → Picked xs (left_of cut codes) → Picked xs codes
  picked_left [] xs p = p
  picked_left (x ∷ codes) xs p =
      cond_both (is_left cut x) (x ∷ left_of cut codes) (left_of cut codes) (λ ys. Picked xs ys → Picked xs (x ∷ codes))
      (λ _. picked_more (picked_left codes)) (λ _ q. skip (picked_left codes xs q)) p

  pub left_of_below : (codes : List ℕ) → AllByRecursion (λ code. code < 2 * cut) (left_of cut codes)
  left_of_below [] = tt
  left_of_below (x ∷ codes) = let i = left_of_below codes in grind (arith, nat_tests)

  pub left_of_all : (xs : List ℕ) → AllByRecursion (λ code. code < 2 * cut) xs → left_of cut xs ≡ xs
  left_of_all [] h = refl
  left_of_all (x ∷ xs) h = let i = left_of_all xs h.1 in grind (arith, nat_tests)

  -- conflicts of the right
  pub picked_right : (codes xs : List ℕ) → Picked xs (right_of cut codes) → Picked (raised (2 * cut) xs) codes
  picked_right [] [] p = none
  picked_right [] (x ∷ xs) p = elim p [ ]
  picked_right (x ∷ codes) xs p =
      cond_both (is_left cut x) (right_of cut codes) ((x - 2 * cut) ∷ right_of cut codes) (λ ys. Picked xs ys → Picked (raised (2 * cut) xs) (x ∷ codes))
      (λ _ q. skip (picked_right codes xs q))
      (λ e q.
      subst (λ y. Picked (raised (2 * cut) xs) (y ∷ codes)) (omega (arith, ltb-false x (2 * cut) e))
      (picked_map (λ code. code + 2 * cut) (picked_right codes) q))
      p

  pub right_of_raised : (xs : List ℕ) → right_of cut (raised (2 * cut) xs) ≡ xs
  right_of_raised [] = refl
  right_of_raised (x ∷ xs) = let i = right_of_raised xs in grind (arith, nat_tests)
