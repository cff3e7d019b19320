use Rattle.std.proofs.Common.{rules}
use Rattle.steps.proofs.Every.{promises}
use Rattle.question.proofs.asked.Question.open.Goals as goal

pub returns : goal.returns
returns g c =
    let t = c.args.theory in
    record { opens = search rules; same = search rules; promises = promises (g.T.Theory.meaning t) (g.met.T.Theory.lawful t) }
