use Rattle.std.proofs.Common.{◌∙◌}
use Rattle.question.proofs.Staged.{posts}
use Rattle.question.proofs.asked.Question.post.Goals as goal

pub returns-clause-by : goal.returns-clause-by
returns-clause-by g c =
    let q = c.args.self.now in
    posts _ _ _ q.stage c.args.clause.now _ c.post.result c.in_ok-next_stage.ensures (c.atoms-atoms.ensures.count ∙ q.solver.same_atoms) c.post.ensures.answer c.post.ensures.posted
