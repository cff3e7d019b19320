-- Records that are drawn from their codes: `draw` gives the record that a code asks for.
use Rattle.std.proofs.Common.{◌≡◌, ℕ, List, [], ◌∷◌, ◌++◌, map, take, sym, ap, ◌∙◌, subst}
use Rattle.std.proofs.ByRecursion.{All-map}
use Rattle.std.proofs.lemmas.List.{map_push, take-map}
use Rattle.std.specs.List.{AllByRecursion}

pub all_unmap : {X Y : Type 0} (P : Y → Type 0) (f : X → Y) (xs : List X) → AllByRecursion P (map f xs) → AllByRecursion (λ x. P (f x)) xs
all_unmap P f [] h = tt
all_unmap P f (x ∷ xs) h = (h.0, all_unmap P f xs h.1)

module _ {R : Type 0} (coded : R → ℕ) (draw : ℕ → R) (xs : List R) where
  -- one more
  pub codes_push : (code : ℕ) → coded (draw code) ≡ code → map coded (xs ++ (draw code ∷ [])) ≡ map coded xs ++ (code ∷ [])
  codes_push code is = map_push coded xs (draw code) ∙ ap (λ n. map coded xs ++ (n ∷ [])) is

  module _ (drawn : xs ≡ map draw (map coded xs)) where
    pub drawn_push : (code : ℕ) → coded (draw code) ≡ code → xs ++ (draw code ∷ []) ≡ map draw (map coded (xs ++ (draw code ∷ [])))
    drawn_push code is =
        ap (λ ys. ys ++ (draw code ∷ [])) drawn ∙ sym (map_push draw (map coded xs) code) ∙ sym (ap (map draw) (codes_push code is))

    -- fewer
    pub drawn_take : (k : ℕ) → take k xs ≡ map draw (map coded (take k xs))
    drawn_take k = ap (take k) drawn ∙ take-map draw k (map coded xs) ∙ ap (map draw) (take-map coded k xs)

    -- what holds of what each code asks for holds of each record, and the other way round
    pub all_records : (P : R → Type 0) → AllByRecursion (λ code. P (draw code)) (map coded xs) → AllByRecursion P xs
    all_records P h = subst (AllByRecursion P) (sym drawn) (All-map P draw (map coded xs) h)

    pub all_codes : (P : R → Type 0) → AllByRecursion P xs → AllByRecursion (λ code. P (draw code)) (map coded xs)
    all_codes P h = all_unmap P draw (map coded xs) (subst (AllByRecursion P) drawn h)
