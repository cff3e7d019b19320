-- What searches through a list, a clause or a range find.
use Rattle.std.proofs.Common.{zero, suc, Bor, IfSome, IsSomeAnd, option_map, ◌≡◌, ℕ, ◌+◌, ◌<◌, ◌≤◌, Bool, true, false, cond, ◌&&◌, List, [], ◌∷◌, length, get_or, Some, None, Option, MatchOption, sym, arith}
use Rattle.std.specs.List.{list_all, HoldsAt}
use Rattle.std.specs.Iterator.Runs.{Run, ItemsMapTo, AllItemsGive, IsFirstToGive}
use denote.Param.Members.{Mut, Called}
use Rattle.steps.specs.Clauses.{Clause, dead, due, or_else, AllSet, LowestUnset}
use Rattle.theory.specs.Meaning.{names}

-- whether every element passes a test
pub all_by : {X : Type 0} (test : X → Bool) (all : List X → Bool) → all [] ≡ true → ((x : X) (xs : List X) → all (x ∷ xs) ≡ (test x && all xs))
    → (xs : List X) → list_all test xs ≡ all xs
all_by test all none more [] = sym none
all_by test all none more (x ∷ xs) = let i = all_by test all none more xs in cc (more x xs)

-- the due literal of a clause, where this literal is the unset one of those before it
abbrev pub due_with : List ℕ → Option ℕ → Clause → Option ℕ
due_with set None clause = due set clause
due_with set (Some literal) clause = cond (dead set clause) (Some literal) None

-- what a search through a list finds first
module _ {X : Type 0} (find : X → Option ℕ) (first : List X → Option ℕ) (none : first [] ≡ None)
    (more : (x : X) (xs : List X) → first (x ∷ xs) ≡ or_else (find x) (first xs)) where
  nowhere : (xs : List X) → ((k : ℕ) (d : X) → k < length xs → find (get_or xs k d) ≡ None) → first xs ≡ None
  nowhere [] h = none
  nowhere (x ∷ xs) h = let i = nowhere xs (λ k d l. h (suc k) d (omega arith)) in cc (more x xs, h 0 x (omega arith))

  here : (xs : List X) (i y : ℕ) → i < length xs → ((d : X) → find (get_or xs i d) ≡ Some y) → ((k : ℕ) (d : X) → k < i → find (get_or xs k d) ≡ None) → first xs ≡ Some y
  here [] i y l h before = absurd (omega arith)
  here (x ∷ xs) zero y l h before = cc (more x xs, h x)
  here (x ∷ xs) (suc i) y l h before =
      let later = here xs i y (omega arith) h (λ k d b. before (suc k) d (omega arith)) in
      cc (more x xs, before 0 x (omega arith))

  -- by a closure that answers as `find` does
  module _ {F : Type 0} (xs : List X) (g : Mut F (Bor X × Unit {0}) (Option ℕ)) (f : F)
      (calls : (a : Bor X × Unit {0}) (r : Option ℕ) (q : F) → Called g f a r q → (q ≡ f) × (r ≡ find a.0.now)) where
    given : (o : Option (Bor X)) (r : Option ℕ) (k : ℕ) → IfSome o (λ x. HoldsAt (λ y. x.now ≡ y) xs k) → IsSomeAnd o (λ x. Called g f (x, tt) r f) → (d : X) → find (get_or xs k d) ≡ r
    given None r k at call d = absurd call
    given (Some x) r k at call d = cc (at d, (calls (x, tt) r f call).1)

    came : (o : Option (Bor X)) (z : X) → option_map (λ x. x.now) o ≡ Some z → IfSome o (λ x. Called g f (x, tt) None f) → IsSomeAnd o (λ x. Called g f (x, tt) None f)
    came None z e call = cc
    came (Some x) z e call = call

    pub first_found : {S : Type 0} {steps : S → Option (Bor X) → S → Type 0} (r : Option ℕ) (p : Run steps) → ItemsMapTo p (λ x. x.now) xs
        → MatchOption r ((p.whole ≡ true) × AllItemsGive p g f None) (λ y. (i : ℕ) × (i < p.len) × (p.len ≡ i + 1) × IsFirstToGive p g f (Some y) None i) → r ≡ first xs
    first_found None p are all =
        let each = all.1 (λ a r q c. (calls a r q c).0) in
        sym (nowhere xs (λ k d l. given (p.at k) None k (are.3 k) (came (p.at k) _ (are.2 k d (omega (arith, are.1 all.0))) (each k)) d))
    first_found (Some y) p are found =
        let told = found.3 (λ a r q c. (calls a r q c).0) in
        sym (here xs found.0 y (omega (arith, are.0, found.1)) (given (p.at found.0) (Some y) found.0 (are.3 found.0) told.0) (λ k d b. given (p.at k) None k (are.3 k) (told.1 k b) d))

-- the first atom of a range that is unset
pub lowest_from_first : {n atoms : ℕ} (set : List ℕ) (r : Option ℕ) → n ≡ atoms
    → MatchOption r ((a : ℕ) → 0 ≤ a → a < n → names set a ≡ true)
    (λ a. (0 ≤ a) × (a < n) × (names set a ≡ false) × ((lower : ℕ) → 0 ≤ lower → lower < a → names set lower ≡ true))
    → MatchOption r (AllSet atoms set) (λ a. LowestUnset atoms set a)
lowest_from_first set None e all = λ a below. all a (omega arith) (omega arith)
lowest_from_first set (Some a) e first = record { there = omega (arith, first.1); unset = first.2; lowest = λ lower below. first.3 lower (omega arith) below }
