use Rattle.steps.proofs.promised.Goals as goal
use Rattle.steps.proofs.Every.{promises}

pub returns : goal.returns
returns g c = promises (g.T.Theory.meaning c.args.theory.now) (g.met.T.Theory.lawful c.args.theory.now)
