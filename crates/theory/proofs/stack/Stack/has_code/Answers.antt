use Rattle.std.proofs.Common.{◌==◌, vec_items, ◌∙◌, rules, tests}
use Rattle.std.proofs.lemmas.Iterator.{YieldsList-from_slice}
use Rattle.std.proofs.lemmas.Iterator.Search.{any_from_yields_List}
use Rattle.theory.proofs.Searches.{any_has}
use Rattle.theory.proofs.stack.Stack.has_code.Goals as goal

pub returns : goal.returns
returns g c =
    any_from_yields_List (λ x. g.R.Record.coded x == c.args.code) _ _ _ c.any.ensures.ran
    (YieldsList-from_slice (c.args.self.now.records) cc) (λ x b q k. search (rules, tests))
    ∙ any_has g.R.Record.coded c.args.code (c.args.self.now.records)
