-- The labels that joins leave are the lowest, and the joins hold of them wherever they hold of any world.
use Rattle.std.proofs.Common.{◌≡◌, ℕ, ◌<◌, ◌≤◌, true, false, List, length, ℤ, pos, nat_abs, sym, ap, ◌∙◌, subst, inl, inr}
use Rattle.std.proofs.ByRecursion.{all-has, All-weaker, all_has_itself}
use Rattle.std.proofs.lemmas.Bool.{cases_Bool, both_ways}
use Rattle.std.specs.List.{ContainsAt as Has, AllByRecursion}
use Rattle.joining.specs.declared.Join.{Join}
use Rattle.joining.specs.Joins.{at, join_holds, Fits, Holds, NoWorld, Joined, Lowest, numbers, labelled, agrees}
use Rattle.joining.proofs.Chains.{Level, joined_level, joined_below, holds_level, holds_equal, holds_apart, holds_differ, holds_from_agrees, agrees_from_holds}
use Rattle.joining.proofs.Labels.{Labels, joined_by_label, length_joined_by_all, joined_by_all_level, labels_joined_by_all, length_numbers, labels_numbers}

-- labels, each joined to its variable and not above it, and one for what an equality joins, are the lowest
pub lowest_from_labels : (js : List Join) (w : List ℤ) → AllByRecursion (Fits (length w)) js → Labels js w → AllByRecursion (Level w) js → Lowest js w
lowest_from_labels js w fits ls levels =
    record {
      label = λ x. nat_abs (at w x);
      shown = λ x h. (ls x h).shown ∙ ap pos (sym (ap nat_abs (ls x h).shown));
      is_joined = λ x h. subst (Joined js x) (sym (ap nat_abs (ls x h).shown)) (ls x h).joined;
      is_lowest = λ x y h p.
          let l = ls y (joined_below js (length w) fits p h) in
          subst (λ k. k ≤ y) (sym (ap nat_abs (joined_level js w levels p ∙ l.shown))) l.not_above;
    }

-- Joins of so many variables, and the labels that they leave.
module _ (js : List Join) (n : ℕ) where
  pub length_labelled : length (labelled js n) ≡ n
  length_labelled = length_joined_by_all js (numbers 0 n) ∙ length_numbers 0 n

  pub holds_labelled : agrees js (labelled js n) ≡ true → Holds js (labelled js n)
  holds_labelled = holds_from_agrees js (labelled js n)

  module _ (fits : AllByRecursion (Fits n) js) where
    fits_numbers : AllByRecursion (Fits (length (numbers 0 n))) js
    fits_numbers = subst (λ k. AllByRecursion (Fits k) js) (sym (length_numbers 0 n)) fits

    fits_labelled : AllByRecursion (Fits (length (labelled js n))) js
    fits_labelled = subst (λ k. AllByRecursion (Fits k) js) (sym length_labelled) fits

    pub labels_labelled : Labels js (labelled js n)
    labels_labelled = labels_joined_by_all js js (numbers 0 n) (all_has_itself js) fits_numbers (labels_numbers js n)

    pub level_labelled : AllByRecursion (Level (labelled js n)) js
    level_labelled = joined_by_all_level js (numbers 0 n) fits_numbers

    pub lowest_labelled : Lowest js (labelled js n)
    lowest_labelled = lowest_from_labels js (labelled js n) fits_labelled labels_labelled level_labelled

    -- variables with one label are joined
    pub joined_labelled : (x y : ℕ) → x < n → y < n → at (labelled js n) x ≡ at (labelled js n) y → Joined js x y
    joined_labelled x y h k e =
        joined_by_label js (labelled js n)
        (labels_labelled x (subst (λ m. x < m) (sym length_labelled) h))
        (labels_labelled y (subst (λ m. y < m) (sym length_labelled) k))
        e

    -- where the joins hold of some world, they hold of the labels
    pub holds_from_world : (world : List ℤ) → Holds js world → Holds js (labelled js n)
    holds_from_world world holds =
        All-weaker (Has js) (λ j. join_holds (labelled js n) j ≡ true) each js (all_has_itself js)
      where
        each : (j : Join) → Has js j → join_holds (labelled js n) j ≡ true
        each j h = elim (cases_Bool j.equal) [
          | inl e ↦ holds_equal (labelled js n) j e (all-has (Level (labelled js n)) js j level_labelled h e)
          | inr e ↦ holds_differ (labelled js n) j e (λ p.
              let f = all-has (Fits n) js j fits h in
              let levels = All-weaker (λ k. join_holds world k ≡ true) (Level world) (holds_level world) js holds in
              holds_apart world j e (all-has (λ k. join_holds world k ≡ true) js j holds h)
              (joined_level js world levels (joined_labelled j.a j.b f.a_below f.b_below p)))
        ]

    pub agrees_from_world : (world : List ℤ) → Holds js world → agrees js (labelled js n) ≡ true
    agrees_from_world world h = agrees_from_holds js (labelled js n) (holds_from_world world h)

    pub none_from_agrees : agrees js (labelled js n) ≡ false → NoWorld js n
    none_from_agrees e world long h = both_ways (agrees js (labelled js n)) e (agrees_from_world world h)
