-- The passes from zeros find the latest times, or show that there are none.
use Rattle.std.proofs.Common.{◌≡◌, ℕ, ◌+◌, ◌-◌, ◌*◌, ◌≤◌, true, false, List, length, replicate, ℤ, pos, neg_ℤ, ◌≤ℤ◌, sym, ◌∙◌, subst, inl, inr, arith}
use lib.Signed.{≤ℤ_refl}
use Rattle.std.proofs.ByRecursion.{All-get_or, All-from_get_or}
use Rattle.std.proofs.lemmas.List.{length-replicate, get_or-replicate, get_or_past}
use Rattle.std.proofs.lemmas.Bool.{both_ways, cases_lt}
use Rattle.std.specs.List.{AllByRecursion}
use Rattle.relaxing.specs.declared.Limit.{Limit}
use Rattle.relaxing.specs.Limits.{at, Met, Fits, NotAbove, Latest, NoTimes, Shallow, moves, passes, latest}
use Rattle.relaxing.proofs.Passes.{length_passes, passes_falls, passes_above, passes_early, passes_shallow, shallow_more, still_met}
use Rattle.relaxing.proofs.Settling.{enough_passes}

abbrev pub zeros : ℕ → List ℤ
zeros n = replicate n (pos 0)

at_zeros : (n x : ℕ) → at (zeros n) x ≡ pos 0
at_zeros n x = elim (cases_lt x n) [
  | inl h ↦ get_or-replicate n x (pos 0) (pos 0) h
  | inr h ↦ get_or_past (zeros n) x (pos 0) (subst (λ k. k ≤ x) (sym (length-replicate n (pos 0))) h)
]

under_zeros : (s : List ℤ) (n : ℕ) → NotAbove s → (x : ℕ) → at s x ≤ℤ at (zeros n) x
under_zeros s n h x = subst (λ z. at s x ≤ℤ z) (sym (at_zeros n x)) (elim (cases_lt x (length s)) [
  | inl k ↦ All-get_or (λ z. z ≤ℤ pos 0) s x (pos 0) k h
  | inr k ↦ subst (λ z. z ≤ℤ pos 0) (sym (get_or_past s x (pos 0) k)) (≤ℤ_refl (pos 0))
])

module _ (ls : List Limit) (n : ℕ) where
  pub length_from_zeros : (k : ℕ) → length (passes k ls (zeros n)) ≡ n
  length_from_zeros k = length_passes k ls (zeros n) ∙ length-replicate n (pos 0)

  pub length_latest : length (latest ls n) ≡ n
  length_latest = length_from_zeros (n - 1)

  -- passes that stop where one more would change nothing
  pub latest_early : (k : ℕ) → k ≤ n - 1 → moves ls (passes k ls (zeros n)) ≡ false → latest ls n ≡ passes k ls (zeros n)
  latest_early k h e = passes_early k (n - 1) ls (zeros n) h e

  pub latest_from_still : (k : ℕ) → moves ls (passes k ls (zeros n)) ≡ false → Latest ls (passes k ls (zeros n))
  latest_from_still k e =
      record {
        met = still_met ls (passes k ls (zeros n)) e;
        not_above = All-from_get_or (λ z. z ≤ℤ pos 0) (passes k ls (zeros n)) (pos 0)
            (λ x h. subst (λ z. at (passes k ls (zeros n)) x ≤ℤ z) (at_zeros n x) (passes_falls k ls (zeros n) x));
        latest_of_all = λ others same low met x h. passes_above k ls (zeros n) others met (under_zeros others n low) x;
      }

  pub latest_when_still : moves ls (latest ls n) ≡ false → Latest ls (latest ls n)
  latest_when_still e = latest_from_still (n - 1) e

  module _ (fits : AllByRecursion (Fits n) ls) where
    fits_zeros : AllByRecursion (Fits (length (zeros n))) ls
    fits_zeros = subst (λ k. AllByRecursion (Fits k) ls) (sym (length-replicate n (pos 0))) fits

    -- if any times meet the limits, so many passes from zeros are enough
    pub still_from_zeros : (k : ℕ) → n ≤ k + 1 → (times : List ℤ) → AllByRecursion (Met times) ls → moves ls (passes k ls (zeros n)) ≡ false
    still_from_zeros k h times met =
        enough_passes ls times met k (zeros n) fits_zeros (omega (arith, length-replicate n (pos 0)))

    -- a change after so many passes: there are no times
    pub none_from_moves : (k : ℕ) → n ≤ k + 1 → moves ls (passes k ls (zeros n)) ≡ true → NoTimes ls n
    none_from_moves k h e times same met = both_ways (moves ls (passes k ls (zeros n))) (still_from_zeros k h times met) e

    -- if any times meet the limits, `latest` is the latest
    pub latest_from_met : (times : List ℤ) → AllByRecursion (Met times) ls → Latest ls (latest ls n)
    latest_from_met times met = latest_from_still (n - 1) (still_from_zeros (n - 1) (omega arith) times met)

    -- how far down so many passes go
    pub shallow_from_zeros : (k : ℕ) → Shallow (k * (length ls * 1000001)) (passes k ls (zeros n))
    shallow_from_zeros k =
        shallow_more (0 + k * (length ls * 1000001)) (k * (length ls * 1000001)) (omega arith) (passes k ls (zeros n))
        (passes_shallow k ls (zeros n) 0 fits_zeros
        (All-from_get_or (λ z. (neg_ℤ (pos 0) ≤ℤ z) × (z ≤ℤ pos 0)) (zeros n) (pos 0)
        (λ x h. subst (λ z. (neg_ℤ (pos 0) ≤ℤ z) × (z ≤ℤ pos 0)) (sym (at_zeros n x)) (≤ℤ_refl (pos 0), ≤ℤ_refl (pos 0)))))
