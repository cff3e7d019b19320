use Rattle.std.proofs.Common.{◌≡◌, ℕ, ◌+◌, ◌-◌, ◌*◌, ◌<◌, ◌≤◌, max, Bool, true, false, List, length, replicate, ℤ, pos, sym, ap, ◌∙◌, subst, mul-le-mul, add-one, arith}
use Rattle.std.specs.List.{AllByRecursion}
use Rattle.relaxing.specs.declared.Limit.{Limit}
use Rattle.relaxing.specs.Limits.{Fits, Latest, Shallow, moves, pass, passes}
use Rattle.relaxing.proofs.Finding.{zeros, latest_early, latest_from_still, none_from_moves, shallow_from_zeros}
use Rattle.relaxing.proofs.Passes.{passes_more, still_pass}
use Rattle.relaxing.proofs.relax.Goals as goal

-- the depth after so many passes, and one more
room : (done limits : ℕ) → done ≤ 512 → limits ≤ 513 → done * (limits * 1000001) + limits * 1000001 ≤ 1000000000000
room done limits few l =
    let low : limits * 1000001 ≤ 513000513 = omega arith in
    omega (arith, mul-le-mul few low)

-- A pass comes before the last, and after all passes as many are made as there are times, or one.

before_last : (done n m most : ℕ) → done < most → most ≡ max n 1 → n ≡ m → done ≤ m - 1
before_last done n m most h e s = grind arith

all_passes : (done n m most : ℕ) → most ≤ done → done ≤ most → most ≡ max n 1 → n ≡ m → (done ≡ done - 1 + 1) × (done - 1 ≡ m - 1)
all_passes done n m most h l e s = (grind arith, grind arith)

-- The loop's times w, as passes from zeros.
module _ (ls : List Limit) (n done : ℕ) (w : List ℤ) (is : w ≡ passes done ls (zeros n)) where
  moves_is : {b : Bool} → b ≡ moves ls w → moves ls (passes done ls (zeros n)) ≡ b
  moves_is e = ap (moves ls) (sym is) ∙ sym e

  again : {v : List ℤ} → v ≡ pass ls w → v ≡ passes (done + 1) ls (zeros n)
  again e = e ∙ ap (pass ls) is ∙ sym (passes_more done ls (zeros n)) ∙ ap (λ k. passes k ls (zeros n)) (sym (add-one done))

  still : {v : List ℤ} → v ≡ pass ls w → false ≡ moves ls w → v ≡ passes done ls (zeros n)
  still e s = e ∙ still_pass ls w (sym s) ∙ is

pub loop-init : goal.loop-init
loop-init c =
    (c.fill.ensures.after (λ y e. e) ∙ ap (λ n. replicate n (pos 0)) (sym c.fill.ensures.len), λ k e. absurd (omega arith))

-- no more passes than there are times, or one
few_passes : (done n most : ℕ) → done ≤ most → most ≡ max n 1 → n ≤ 512 → done ≤ 512
few_passes done n most h e l = grind arith

pub relax_pass-requires-clause-shallow : goal.relax_pass-requires-clause-shallow
relax_pass-requires-clause-shallow c =
    let ls = c.args.limits.now in
    let n = length c.fill.new.self in
    let done = c.loop.counter in
    let fits : AllByRecursion (Fits n) ls = subst (λ k. AllByRecursion (Fits k) ls) (sym c.fill.ensures.len) c.requires.fits in
    let small : n ≤ 512 = omega (arith, c.fill.ensures.len, c.requires.few.1) in (
      done * (length ls * 1000001),
      subst (Shallow (done * (length ls * 1000001))) (sym c.loop.invariant.0) (shallow_from_zeros ls n fits done),
      room done (length ls) (few_passes done n c.max-end.result c.loop.auto.counter-end c.max-end.ensures small) c.requires.few.0,
    )

pub returns-then-not-relax_pass : goal.returns-then-not-relax_pass
returns-then-not-relax_pass c =
    let ls = c.args.limits.now in
    let n = length c.args.times.now in
    let done = c.loop.counter in
    let is = subst (λ k. c.loop.times ≡ passes done ls (zeros k)) c.fill.ensures.len c.loop.invariant.0 in
    let told : false ≡ moves ls c.loop.times = sym c.if-not-relax_pass.true ∙ c.relax_pass.ensures.moved in
    let moved = moves_is ls n done c.loop.times is told in
    let same = still ls n done c.loop.times is c.relax_pass.ensures.after told in
    record {
      latest = subst (Latest ls) (sym same) (latest_from_still ls n done moved);
      after = same ∙ sym (latest_early ls n done (before_last done (length c.fill.new.self) n c.max-end.result c.loop-test.true c.max-end.ensures c.fill.ensures.len) moved);
    }

pub loop-preserved : goal.loop-preserved
loop-preserved c =
    let ls = c.args.limits.now in
    let n = length c.fill.new.self in
    let told : true ≡ moves ls c.loop.times = sym c.if-not-relax_pass.false ∙ c.relax_pass.ensures.moved in
    let moved = moves_is ls n c.loop.counter c.loop.times c.loop.invariant.0 told in (
      again ls n c.loop.counter c.loop.times c.loop.invariant.0 c.relax_pass.ensures.after,
      λ k e. let same : k ≡ c.loop.counter = omega (arith, e) in ap (λ j. moves ls (passes j ls (zeros n))) same ∙ moved,
    )

pub returns : goal.returns
returns c =
    let ls = c.args.limits.now in
    let n = length c.args.times.now in
    let k = c.loop.counter - 1 in
    let is = subst (λ m. c.loop.times ≡ passes c.loop.counter ls (zeros m)) c.fill.ensures.len c.loop.invariant.0 in
    let all = all_passes c.loop.counter (length c.fill.new.self) n c.max-end.result c.loop-test.false c.loop.auto.counter-end c.max-end.ensures c.fill.ensures.len in
    let moved = subst (λ m. moves ls (passes k ls (zeros m)) ≡ true) c.fill.ensures.len (c.loop.invariant.1 k all.0) in
    record {
      latest = none_from_moves ls n c.requires.fits k (omega (arith, all.1)) moved;
      after =
          is
          ∙ ap (λ j. passes j ls (zeros n)) (all.0 ∙ add-one k)
          ∙ passes_more k ls (zeros n)
          ∙ ap (λ j. pass ls (passes j ls (zeros n))) all.1;
    }
