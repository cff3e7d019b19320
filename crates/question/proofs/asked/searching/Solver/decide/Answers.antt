use Rattle.std.proofs.Common.{refl}
use Rattle.question.proofs.Rules.{not_both_clash}
use Rattle.question.proofs.Sets.{has_world}
use Rattle.question.proofs.asked.searching.Solver.decide.Goals as goal

pub unreachable-requires : goal.unreachable-requires
unreachable-requires g c =
    let s = c.args.self.now in
    not_both_clash _ _ c.args.atom _ _ _ c.try_set.ensures.same c.if-try_set.ensures.by (g.met.T.Theory.lawful s.theory) c.requires
    (has_world _ refl s.same_stack (g.met.T.Theory.worldly s.theory)) c.if-not-try_set.ensures.by
