use Rattle.std.proofs.Common.{◌-◌, Err, ap, ◌∙◌, arith}
use Rattle.pair.proofs.Raising.{raised_fit}
use Rattle.pair.proofs.set_raised.Goals as goal

pub raise-requires : goal.raise-requires
raise-requires g c =
    let t = c.args.theory.now in
    raised_fit (g.T.Theory.meaning t) (g.T.Theory.stack t) (g.T.Theory.given_conflict t (c.args.code - c.args.by)) (c.args.code - c.args.by) c.args.conflict.now _ _
    (c.in-Err-Clash.is ∙ ap Err (rw c.in-Err-Clash.is at c.in-Err-Clash.field-0-is)) c.set-answer.ensures.by _ (g.met.T.Theory.lawful t).few_atoms (g.met.T.Theory.apart t) (omega arith) (omega arith)
