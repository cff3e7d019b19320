use Rattle.std.proofs.Common.{length, arith}
use Rattle.question_file.proofs.Filling.{filling_start, filling_long, filling_more, filling_end, from_sized}
use Rattle.question_file.proofs.load.fill.Goals as goal

pub loop-place-init : goal.loop-place-init
loop-place-init g c = filling_start _ _ _ _ c.args.places.now c.requires

pub split_at-requires : goal.split_at-requires
split_at-requires g c = omega (arith, filling_long _ _ _ _ c.loop-place.invariant (omega arith))

pub split_at-requires-in-loop-place : goal.split_at-requires-in-loop-place
split_at-requires-in-loop-place g c = omega (arith, filling_long _ _ _ _ c.loop-place.invariant (omega arith))

pub loop-place-preserved : goal.loop-place-preserved
loop-place-preserved g c =
    filling_more _ _ _ _ c.loop-place.invariant (omega arith) (omega arith) c.split_at-in-loop-place.result.0.now _ c.in-Ok.entry
    (cc) (cc) (from_sized (length c.split_at-in-loop-place.result.0.now) g.E.FieldEntry.BODY_LEN (omega arith) c.in-Ok.ensures)

pub returns : goal.returns
returns g c =
    let p = filling_end _ _ _ _ c.loop-place.invariant (omega arith) (omega arith) in
    record { written = p.0; behind = p.1 }
