use Rattle.std.proofs.Common.{◌≡◌, ℕ, ◌<◌, ◌≤◌, cond, List, ◌++◌, length, get_or, take, drop, set, ℤ, pos, sym, ap, ◌∙◌, ap₂, inl, inr, append-nil, arith, w64, SFits, to_z, of_z, rules}
use Rattle.std.proofs.lemmas.List.Edits.{map_over_more}
use Rattle.std.proofs.lemmas.List.{take_all, drop_all, get_or_default}
use Rattle.std.proofs.lemmas.Int.{to_z-of_z}
use Rattle.std.proofs.lemmas.Bool.{cases_Bool, cond-true, cond-false}
use Rattle.joining.specs.Joins.{same, relabelled}
use Rattle.joining.proofs.Chains.{same_true, same_from}
use Rattle.joining.proofs.relabel.Goals as goal
use Rattle.joining.proofs.relabel.Goals.{then-label-from, else-label-from}

-- what the code reads of a signed number: its bits, and back
abbrev read : ℤ → ℤ
read z = to_z w64 (of_z w64 z)

-- one label, by its bits
module _ (x from to : ℤ) where
  renamed : SFits w64 x → of_z w64 x ≡ of_z w64 from → read to ≡ cond (same x (read from)) (read to) x
  renamed f e = sym (cond-true (same x (read from)) (read to) x (same_from x (read from) (sym (to_z-of_z w64 x f) ∙ ap (to_z w64) e)))

  not_renamed : SFits w64 from → (of_z w64 x ≡ of_z w64 from → ⊥) → x ≡ cond (same x (read from)) (read to) x
  not_renamed f ne = elim (cases_Bool (same x (read from))) [
    | inl e ↦ absurd (ne (ap (of_z w64) (same_true x (read from) e ∙ to_z-of_z w64 from f)))
    | inr e ↦ sym (cond-false (same x (read from)) (read to) x e)
  ]

pub loop-label-preserved : goal.loop-label-preserved
loop-label-preserved c =
    let labels = c.loop-label.labels in
    let i = c.loop-label.label-index in
    let start = c.args.labels.now in
    let x = get_or labels i (pos 0) in
    let from = c.args.from in
    let to = c.args.to in
    let below : i < length labels = omega arith in
    let f : SFits w64 x = search rules in
    let step = map_over_more (λ z. cond (same z (read from)) (read to) z) start labels i x c.loop-label-test.true c.loop-label.invariant
    (get_or_default labels i (pos 0) x below) in
    elim c.if-label-from.branch [
      | then-label-from w ↦ w.labels-is ∙ ap (set labels i) (renamed x from to f w.if-label-from.true) ∙ step
      | else-label-from w ↦ w.labels-is ∙ ap (set labels i) (not_renamed x from to c.ranges.from w.if-label-from.false) ∙ step
    ]

-- all of the list relabelled, and nothing left
all_relabelled : (from to : ℤ) (i : ℕ) (labels : List ℤ) → length labels ≤ i
    → relabelled from to (take i labels) ++ drop i labels ≡ relabelled from to labels
all_relabelled from to i labels h =
    ap₂ (λ front rest. relabelled from to front ++ rest) (take_all i labels h) (drop_all i labels h) ∙ append-nil (relabelled from to labels)

pub returns : goal.returns
returns c =
    let labels = c.args.labels.now in
    c.loop-label.invariant
    ∙ all_relabelled (read c.args.from) (read c.args.to) c.loop-label.label-index labels c.loop-label-test.false
    ∙ ap₂ (λ from to. relabelled from to labels) (to_z-of_z w64 c.args.from c.ranges.from) (to_z-of_z w64 c.args.to c.ranges.to)
