use Rattle.std.proofs.Common.{length, is_ok, sym, ap, ◌∙◌, arith}
use Rattle.theory.proofs.Retreats.{one_fewer, none_left}
use Rattle.theory.proofs.retreat_all.Goals as goal

pub loop-smaller : goal.loop-smaller
loop-smaller g c =
    let stack = g.T.Theory.stack c.loop.theory in
    let ok = ap is_ok (sym c.retreat.ensures.answer) ∙ sym c.loop-test.ensures.value in
    omega (arith, one_fewer stack ok, ap length c.retreat.ensures.dropped)

pub returns : goal.returns
returns g c =
    let stack = g.T.Theory.stack c.loop.theory in
    let err = ap is_ok (sym c.retreat.ensures.answer) ∙ sym c.loop-test.ensures.value in
    record {
      same = c.retreat.ensures.same ∙ c.loop.invariant;
      dropped = c.retreat.ensures.dropped ∙ none_left stack err;
    }
