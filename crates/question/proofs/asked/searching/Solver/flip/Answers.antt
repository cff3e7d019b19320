use Rattle.question.proofs.Rules.{not_decided}
use Rattle.question.proofs.asked.searching.Solver.flip.Goals as goal

pub returns-in-Flipped-clause-by : goal.returns-in-Flipped-clause-by
returns-in-Flipped-clause-by g c = not_decided _ _ _ c.in-Flipped.is
