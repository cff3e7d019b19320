-- The world of a pair is written in two parts.
use Rattle.std.proofs.Common.{◌≡◌, ℕ, ◌+◌, ◌-◌, ◌<◌, ◌≤◌, List, ◌++◌, length, take, drop, ℤ, sym, ap, ◌∙◌, arith}
use borrow.Rule.Slice.PartMut.{put_mid}
use Rattle.std.proofs.lemmas.List.{append_assoc, append-nil, drop_all, drop_at, drop-drop, length-drop, nil_from_length, take_at, take_rest}
use Rattle.std.proofs.lemmas.Bool.Decides.{nat_tests}
use Rattle.theory.specs.Calls.{world_written}
use Rattle.theory.specs.declared.Sizes.{Sizes}
use Rattle.theory.specs.Meaning.{Meaning}
use Rattle.pair.proofs.Together.{fits_if_any}
use Rattle.pair.specs.Pairs.{sizes_of, pair_fits, pair_world, shown_if, shown_pair, Together}

pub long_written : (variables : ℕ) (world list : List ℤ) → variables ≤ length list → world_written variables world list ≡ world ++ drop variables list
long_written variables world list long = grind (arith, nat_tests)

-- no variables, so nothing is written
pub nothing_written : (variables : ℕ) (world list : List ℤ) → length world ≡ variables → variables ≡ 0 → world_written variables world list ≡ list
nothing_written variables world list whole none = long_written variables world list (omega arith) ∙ rw (nil_from_length world (omega arith), none)

-- the left's to the front, then the right's behind it
pub both_written : (a b : ℕ) (left right list list₁ list₂ : List ℤ) → length left ≡ a → a + b ≤ length list
    → list₁ ≡ world_written a left list → list₂ ≡ world_written b right (take (length list₁ - a) (drop a list₁))
    → put_mid a (length list₁ - a) list₁ list₂ ≡ world_written (a + b) (left ++ right) list
both_written a b left right list list₁ list₂ whole long first second =
    let front : list₁ ≡ left ++ drop a list = first ∙ long_written a left list (omega arith) in
    let part : take (length list₁ - a) (drop a list₁) ≡ drop a list = take_rest list₁ a ∙ ap (drop a) front ∙ drop_at left (drop a list) a whole in
    let back : list₂ ≡ right ++ drop (a + b) list = second ∙ rw part (long_written b right (drop a list) (omega (arith, length-drop a list)) ∙ rw drop-drop) in
    let none = drop_all (length list₁ - a) (drop a list₁) (omega (arith, length-drop a list₁)) in
    let start : take a list₁ ≡ left = ap (take a) front ∙ take_at left (drop a list) a whole in
    rw (start, none, back, append-nil, ← append_assoc) (sym (long_written (a + b) (left ++ right) list long))

pub world_put : {l r : Meaning} {lefts rights codes : List ℕ} {places : ℕ} {cut sizes : Sizes} (left right list : List ℤ) {list₁ list₂ : List ℤ}
    → Together l r lefts rights codes places cut sizes → 0 < sizes.variables → sizes.variables ≤ length list → length left ≡ l.variables
    → list₁ ≡ world_written l.variables left list → list₂ ≡ world_written r.variables right (take (length list₁ - cut.variables) (drop cut.variables list₁))
    → put_mid cut.variables (length list₁ - cut.variables) list₁ list₂
    ≡ world_written (shown_pair places l r).variables (pair_world (pair_fits places (sizes_of l) (sizes_of r)) left right) list
world_put {l} {r} {places = places} {cut = cut} {sizes = sizes} left right list {list₁} {list₂} t some long whole first second =
    let are : sizes.variables ≡ (shown_pair places l r).variables = ap (λ s. s.variables) t.sizes_are in
    let fits = fits_if_any places l r (omega arith) in
    let sum : (shown_pair places l r).variables ≡ l.variables + r.variables = ap (λ b. (shown_if b l r).variables) fits in
    let at : cut.variables ≡ l.variables = ap (λ s. s.variables) t.cut_is in
    rw fits (rw at (both_written l.variables r.variables left right list list₁ list₂ whole (omega arith) first (rw (← at) second)))
