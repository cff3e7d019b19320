use Rattle.std.proofs.Common.{◌≡◌, ℕ, ◌+◌, ◌<◌, Bool, true, false, ◌&&◌, List, [], ◌∷◌, ◌++◌, length, get_or, take, drop, ℤ, pos, sym, ap, ◌∙◌, subst, ap₂, arith, w64, to_z}
use Rattle.std.proofs.ByRecursion.{All-get_or}
use Rattle.std.proofs.lemmas.List.{at_drop_all, at_drop_more, take_all, take_more, take_more_set}
use Rattle.std.proofs.lemmas.Int.{ints}
use Rattle.std.specs.List.{AllByRecursion}
use Rattle.joining.specs.declared.Join.{Join}
use Rattle.joining.specs.Joins.{Fits, Lowest, join_holds, joined_by, joined_by_all, numbers, labelled, agrees}
use Rattle.joining.proofs.Chains.{holds_from_agrees}
use Rattle.joining.proofs.Labelled.{lowest_labelled, none_from_agrees}
use Rattle.joining.proofs.Labels.{joined_by_all_push, numbers_push}
use Rattle.joining.proofs.join_all.Goals as goal
use Rattle.joining.proofs.join_all.Goals.{After-loop-join, at-returns, at-returns-then-not-agrees_with}

-- what stands past the end of a list
abbrev none : Join
none = record { code = 0; a = 0; b = 0; equal = false }

pub loop-x-preserved : goal.loop-x-preserved
loop-x-preserved c =
    let labels = c.loop-x.labels in
    let x = c.loop-x.x in
    let is : to_z w64 x ≡ pos (0 + x) = omega (arith, ints) in
    take_more_set labels x (to_z w64 x) (omega arith)
    ∙ ap₂ (λ front z. front ++ z ∷ []) c.loop-x.invariant is
    ∙ numbers_push 0 x

-- the join at an index
fits_at : (js : List Join) (n i m : ℕ) → AllByRecursion (Fits n) js → i < length js → m ≡ n → Fits m (get_or js i none)
fits_at js n i m fits h e = subst (λ k. Fits k (get_or js i none)) (sym e) (All-get_or (Fits n) js i none h fits)

pub join_one-requires : goal.join_one-requires
join_one-requires c =
    fits_at c.args.joins.now (length c.args.labels.now) c.loop-join.join-index (length c.loop-join.labels)
    c.requires.fits c.loop-join-test.true (omega arith)

pub agrees_with-requires : goal.agrees_with-requires
agrees_with-requires c =
    fits_at c.args.joins.now (length c.args.labels.now) c.loop-join-2.join-index (length c.loop-join.labels)
    c.requires.fits c.loop-join-2-test.true (omega arith)

pub loop-join-preserved : goal.loop-join-preserved
loop-join-preserved c =
    let js = c.args.joins.now in
    let start = c.loop-x.labels in
    let i = c.loop-join.join-index in
    c.join_one.ensures
    ∙ ap (joined_by (get_or js i none)) c.loop-join.invariant
    ∙ sym (joined_by_all_push (take i js) (get_or js i none) start)
    ∙ ap (λ front. joined_by_all front start) (sym (take_more js i none c.loop-join-test.true))

-- the labels behind the second loop
after_loops : (c : After-loop-join) → c.loop-join.labels ≡ labelled c.args.joins.now (length c.args.labels.now)
after_loops c =
    let js = c.args.joins.now in
    let start = c.loop-x.labels in
    let x = c.loop-x.x in
    let end : x ≡ length c.args.labels.now = omega arith in
    c.loop-join.invariant
    ∙ ap₂ joined_by_all
    (take_all c.loop-join.join-index js c.loop-join-test.false)
    (sym (take_all x start (omega arith)) ∙ c.loop-x.invariant ∙ ap (numbers 0) end)

lowest_after : (c : After-loop-join) → Lowest c.args.joins.now c.loop-join.labels
lowest_after c =
    subst (Lowest c.args.joins.now) (sym (after_loops c))
    (lowest_labelled c.args.joins.now (length c.args.labels.now) c.requires.fits)

-- the third loop's step: the rest agrees as the join at hand and what is behind it
rest : (js : List Join) (w : List ℤ) (i : ℕ) (b : Bool) → i < length js → agrees (drop i js) w ≡ agrees js w
    → b ≡ join_holds w (get_or js i none) → (b && agrees (drop (i + 1) js) w) ≡ agrees js w
rest js w i b h inv e =
    ap (λ t. t && agrees (drop (i + 1) js) w) e ∙ sym (at_drop_more (λ ks. agrees ks w) js i none h) ∙ inv

pub loop-join-2-preserved : goal.loop-join-2-preserved
loop-join-2-preserved c =
    rest c.args.joins.now c.loop-join.labels c.loop-join-2.join-index true
    c.loop-join-2-test.true c.loop-join-2.invariant c.if-not-agrees_with.ensures

pub returns-then-not-agrees_with : goal.returns-then-not-agrees_with
returns-then-not-agrees_with c =
    let js = c.args.joins.now in
    let w = c.loop-join.labels in
    let is = after_loops (at-returns-then-not-agrees_with c).After-loop-join in
    let agreed : false ≡ agrees js w =
    rest js w c.loop-join-2.join-index false c.loop-join-2-test.true c.loop-join-2.invariant c.if-not-agrees_with.ensures in
    record {
      after = is;
      lowest = lowest_after (at-returns-then-not-agrees_with c).After-loop-join;
      agreed = agreed;
      exact = none_from_agrees js (length c.args.labels.now) c.requires.fits (ap (agrees js) (sym is) ∙ sym agreed);
    }

pub returns : goal.returns
returns c =
    let js = c.args.joins.now in
    let w = c.loop-join.labels in
    let agreed : true ≡ agrees js w =
    sym (at_drop_all (λ ks. agrees ks w) js c.loop-join-2.join-index c.loop-join-2-test.false) ∙ c.loop-join-2.invariant in
    record {
      after = after_loops (at-returns c).After-loop-join;
      lowest = lowest_after (at-returns c).After-loop-join;
      agreed = agreed;
      exact = holds_from_agrees js w (sym agreed);
    }
