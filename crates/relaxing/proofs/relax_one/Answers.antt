use Rattle.std.proofs.Common.{◌≡◌, ℕ, ◌<◌, List, length, set, ℤ, pos, negsuc, ◌+ℤ◌, neg_ℤ, ◌≤ℤ◌, sym, ap, ◌∙◌, ap₂, arith, w64, SFits, to_z, of_z}
use lib.Signed.{lt_z}
use Rattle.std.proofs.ByRecursion.{All-get_or}
use Rattle.std.proofs.lemmas.Int.{ints}
use Rattle.relaxing.specs.declared.Limit.{Limit}
use Rattle.relaxing.specs.Limits.{at, Fits, Shallow, lowers}
use Rattle.relaxing.proofs.Passes.{relaxed_lower, relaxed_still}
use Rattle.relaxing.proofs.relax_one.Goals as goal

-- what the code reads of a signed number: its bits, and back
abbrev read : ℤ → ℤ
read z = to_z w64 (of_z w64 z)

-- a time y and a weight k are far from where 64 bits end
module _ (y k : ℤ) (reach : (neg_ℤ (pos 1000000000000) ≤ℤ y) × (y ≤ℤ pos 0)) (low : negsuc 1000000 ≤ℤ k) (high : k ≤ℤ pos 1000001) where
  sum_fits : SFits w64 (read y +ℤ read k)
  sum_fits = omega (arith, ints)

  sum_is : read (read y +ℤ read k) ≡ y +ℤ k
  sum_is = omega (arith, ints)

time_is : (x : ℤ) → (neg_ℤ (pos 1000000000000) ≤ℤ x) × (x ≤ℤ pos 0) → read x ≡ x
time_is x reach = omega (arith, ints)

module _ (w : List ℤ) (l : Limit) (fits : Fits (length w) l) (shallow : Shallow 1000000000000 w) where
  reach : (x : ℕ) → x < length w → (neg_ℤ (pos 1000000000000) ≤ℤ at w x) × (at w x ≤ℤ pos 0)
  reach x h = All-get_or (λ z. (neg_ℤ (pos 1000000000000) ≤ℤ z) × (z ≤ℤ pos 0)) w x (pos 0) h shallow

  after_fits : SFits w64 (read (at w l.b) +ℤ read l.weight)
  after_fits = sum_fits (at w l.b) l.weight (reach l.b fits.b_below) fits.low fits.high

  after_is : read (read (at w l.b) +ℤ read l.weight) ≡ at w l.b +ℤ l.weight
  after_is = sum_is (at w l.b) l.weight (reach l.b fits.b_below) fits.low fits.high

  test_is : lt_z (read (read (at w l.b) +ℤ read l.weight)) (read (at w l.a)) ≡ lowers w l
  test_is = ap₂ lt_z after_is (time_is (at w l.a) (reach l.a fits.a_below))

pub overflow_add-after : goal.overflow_add-after
overflow_add-after c = after_fits c.args.times.now c.args.limit c.requires.fits c.requires.shallow

pub returns-then-after-times : goal.returns-then-after-times
returns-then-after-times c =
    let w = c.args.times.now in
    let l = c.args.limit in
    let e = sym (test_is w l c.requires.fits c.requires.shallow) ∙ c.if-after-times.true in
    record {
      moved = sym e;
      after = ap (set w l.a) (after_is w l c.requires.fits c.requires.shallow) ∙ sym (relaxed_lower w l e);
    }

pub returns : goal.returns
returns c =
    let w = c.args.times.now in
    let l = c.args.limit in
    let e = sym (test_is w l c.requires.fits c.requires.shallow) ∙ c.if-after-times.false in
    record { moved = sym e; after = sym (relaxed_still w l e) }
