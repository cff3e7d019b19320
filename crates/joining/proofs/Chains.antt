-- Variables that joins join, one after the other.
use Rattle.std.proofs.Common.{◌≡◌, ℕ, ◌<◌, true, false, not, List, [], ◌∷◌, ℤ, sym, refl, ◌∙◌, inl, inr, arith}
use Rattle.std.proofs.ByRecursion.{all-has}
use Rattle.std.proofs.lemmas.Int.{ints}
use Rattle.std.proofs.lemmas.Bool.{cases_Bool, cond-true, cond-false, both_ways, not-true, not_from_false, and_parts, and_from}
use Rattle.std.specs.List.{ContainsAt as Has, AllByRecursion}
use Rattle.joining.specs.declared.Join.{Join}
use Rattle.joining.specs.Joins.{at, same, join_holds, Fits, Holds, Joined, itself, onward, back, agrees}

-- `same` tells whether two numbers are one
pub same_true : (x y : ℤ) → same x y ≡ true → x ≡ y
same_true x y e = grind (arith, ints)

pub same_from : (x y : ℤ) → x ≡ y → same x y ≡ true
same_from x y e = grind (arith, ints)

module _ {js : List Join} where
  pub joined_trans : {x y z : ℕ} → Joined js x y → Joined js y z → Joined js x z
  joined_trans p itself = p
  joined_trans p (onward j h e q) = onward j h e (joined_trans p q)
  joined_trans p (back j h e q) = back j h e (joined_trans p q)

  pub joined_sym : {x y : ℕ} → Joined js x y → Joined js y x
  joined_sym itself = itself
  joined_sym (onward j h e q) = joined_trans (back j h e itself) (joined_sym q)
  joined_sym (back j h e q) = joined_trans (onward j h e itself) (joined_sym q)

  -- what equalities pass on is passed on from end to end
  pub joined_passes : (P : ℕ → Type 0) → ((j : Join) → Has js j → j.equal ≡ true → (P j.a → P j.b) × (P j.b → P j.a))
      → {x y : ℕ} → Joined js x y → P x → P y
  joined_passes P f itself p = p
  joined_passes P f (onward j h e q) p = (f j h e).0 (joined_passes P f q p)
  joined_passes P f (back j h e q) p = (f j h e).1 (joined_passes P f q p)

-- an equality whose two variables have one number
abbrev pub Level : List ℤ → Join → Type 0
Level world j = j.equal ≡ true → at world j.a ≡ at world j.b

module _ (js : List Join) where
  -- joined variables have one number where each equality's two have
  pub joined_level : (world : List ℤ) → AllByRecursion (Level world) js → {x y : ℕ} → Joined js x y → at world x ≡ at world y
  joined_level world levels {x} {y} p =
      joined_passes (λ z. at world x ≡ at world z)
      (λ j h e. let one = all-has (Level world) js j levels h e in (λ q. q ∙ one, λ q. q ∙ sym one)) p refl

  -- what is joined to a variable that there is, is one that there is
  pub joined_below : (n : ℕ) → AllByRecursion (Fits n) js → {x y : ℕ} → Joined js x y → x < n → y < n
  joined_below n fits p h =
      joined_passes (λ z. z < n)
      (λ j k e. let f = all-has (Fits n) js j fits k in (λ q. f.b_below, λ q. f.a_below)) p h

-- What a join says of a world: of an equality that its two numbers are one, of a difference that they are not.
module _ (world : List ℤ) (j : Join) where
  pub holds_level : join_holds world j ≡ true → Level world j
  holds_level h e =
      same_true (at world j.a) (at world j.b)
      (sym (cond-true j.equal (same (at world j.a) (at world j.b)) (not (same (at world j.a) (at world j.b))) e) ∙ h)

  pub holds_equal : j.equal ≡ true → at world j.a ≡ at world j.b → join_holds world j ≡ true
  holds_equal e p =
      cond-true j.equal (same (at world j.a) (at world j.b)) (not (same (at world j.a) (at world j.b))) e
      ∙ same_from (at world j.a) (at world j.b) p

  differ_is : j.equal ≡ false → join_holds world j ≡ not (same (at world j.a) (at world j.b))
  differ_is e = cond-false j.equal (same (at world j.a) (at world j.b)) (not (same (at world j.a) (at world j.b))) e

  pub holds_apart : j.equal ≡ false → join_holds world j ≡ true → at world j.a ≡ at world j.b → ⊥
  holds_apart e h p =
      let t = same (at world j.a) (at world j.b) in
      both_ways t (not-true t (sym (differ_is e) ∙ h)) (same_from (at world j.a) (at world j.b) p)

  pub holds_differ : j.equal ≡ false → (at world j.a ≡ at world j.b → ⊥) → join_holds world j ≡ true
  holds_differ e ne = elim (cases_Bool (same (at world j.a) (at world j.b))) [
    | inl t ↦ absurd (ne (same_true (at world j.a) (at world j.b) t))
    | inr t ↦ differ_is e ∙ not_from_false (same (at world j.a) (at world j.b)) t
  ]

-- `agrees` tells whether all joins hold
pub holds_from_agrees : (js : List Join) (world : List ℤ) → agrees js world ≡ true → Holds js world
holds_from_agrees [] world e = tt
holds_from_agrees (j ∷ js) world e =
    let p = and_parts (join_holds world j) (agrees js world) e in
    (p.0, holds_from_agrees js world p.1)

pub agrees_from_holds : (js : List Join) (world : List ℤ) → Holds js world → agrees js world ≡ true
agrees_from_holds [] world h = refl
agrees_from_holds (j ∷ js) world h = and_from (join_holds world j) (agrees js world) h.0 (agrees_from_holds js world h.1)
