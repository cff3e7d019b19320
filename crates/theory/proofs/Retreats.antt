-- Dropping the newest records drops the newest codes.
use Rattle.std.proofs.Common.{◌≡◌, ℕ, ◌-◌, ◌<◌, true, false, ltb, List, [], ◌∷◌, ◌++◌, map, length, take, is_ok, Ok, Err, sym, refl, ap, ◌∙◌, arith, length-take}
use Rattle.std.proofs.lemmas.List.{length-append, length-map, take_at, take-map}
use Rattle.std.proofs.lemmas.Bool.{cond_above, cond_both, false≢true}
use Rattle.std.proofs.lemmas.Bool.Decides.{nat_tests}
use Rattle.theory.proofs.Apart.{different_take}
use Rattle.refusals.specs.declared.Refusal.TheVariants.{MoreThanSet}
use Rattle.theory.specs.Calls.{retreat_answer, retreated}
use Rattle.theory.specs.Meaning.{different}

module _ {X Y : Type 0} (f : X → Y) (xs : List X) (count : ℕ) where
  pub retreat_answer_map : retreat_answer (map f xs) count ≡ retreat_answer xs count
  retreat_answer_map = let l = length-map xs f in cc

  pub retreated_map : {ys : List X} → ys ≡ retreated xs count → map f ys ≡ retreated (map f xs) count
  retreated_map e = let l = length-map xs f in let t = take-map f (length xs - count) xs in ap (map f) e ∙ grind (arith, nat_tests)

pub different_retreated : (atoms : ℕ) (codes : List ℕ) (count : ℕ) → different atoms codes ≡ true → different atoms (retreated codes count) ≡ true
different_retreated atoms codes count d =
    cond_both (ltb (length codes) count) codes (take (length codes - count) codes) (λ ys. different atoms ys ≡ true)
    (λ _. d) (λ _. different_take atoms (length codes - count) codes d)

-- dropping what was put on last
module _ {X : Type 0} (xs ys : List X) (count : ℕ) (all : count ≡ length ys) where
  pub retreated_front : retreated (xs ++ ys) count ≡ xs
  retreated_front =
      let l = length-append xs ys in
      sym (cond_above (length (xs ++ ys)) count (xs ++ ys) (take (length (xs ++ ys) - count) (xs ++ ys)) xs (omega arith) (sym (take_at xs ys (length (xs ++ ys) - count) (omega arith))))

  pub retreat_went : retreat_answer (xs ++ ys) count ≡ Ok tt
  retreat_went = let l = length-append xs ys in sym (cond_above (length (xs ++ ys)) count (Err MoreThanSet) (Ok tt) (Ok tt) (omega arith) refl)

pub retreated_push : {X : Type 0} (xs : List X) (x : X) → retreated (xs ++ (x ∷ [])) 1 ≡ xs
retreated_push xs x = retreated_front xs (x ∷ []) 1 refl

-- dropping one at a time: each time there is one fewer, until none is left
pub one_fewer : {X : Type 0} (xs : List X) → is_ok (retreat_answer xs 1) ≡ true → length (retreated xs 1) < length xs
one_fewer [] ok = absurd (false≢true ok)
one_fewer (x ∷ xs) ok =
    cond_both (ltb (length (x ∷ xs)) 1) (x ∷ xs) (take (length (x ∷ xs) - 1) (x ∷ xs)) (λ ys. length ys < length (x ∷ xs))
    (λ e. absurd (grind (arith, nat_tests))) (λ _. omega (arith, length-take (length (x ∷ xs) - 1) (x ∷ xs)))

pub none_left : {X : Type 0} (xs : List X) → is_ok (retreat_answer xs 1) ≡ false → retreated xs 1 ≡ []
none_left [] err = refl
none_left (x ∷ xs) err = absurd (grind (arith, nat_tests))
