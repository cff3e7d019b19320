use Rattle.std.proofs.Common.{◌/◌, ◌==◌, vec_items, ◌∙◌, rules, tests}
use Rattle.std.proofs.lemmas.Iterator.{YieldsList-from_slice}
use Rattle.std.proofs.lemmas.Iterator.Search.{any_from_yields_List}
use Rattle.theory.proofs.Searches.{any_names}
use Rattle.theory.proofs.stack.Stack.names_atom.Goals as goal

pub returns : goal.returns
returns g c =
    any_from_yields_List (λ x. g.R.Record.coded x / 2 == c.args.atom) _ _ _ c.any.ensures.ran
    (YieldsList-from_slice (c.args.self.now.records) cc) (λ x b q k. search (rules, tests))
    ∙ any_names g.R.Record.coded c.args.atom (c.args.self.now.records)
