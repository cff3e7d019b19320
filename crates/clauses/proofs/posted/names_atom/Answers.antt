use Rattle.std.proofs.Common.{eqb, refl, ◌∙◌, rules}
use Rattle.std.proofs.lemmas.Iterator.{YieldsList-from_slice}
use Rattle.std.proofs.lemmas.Iterator.Search.{any_from_yields_List}
use Rattle.theory.specs.Meaning.{atom_of, names}
use Rattle.theory.proofs.Searches.{any_by}
use Rattle.clauses.proofs.posted.names_atom.Goals as goal

pub returns : goal.returns
returns c =
    any_from_yields_List (λ code. eqb (atom_of code) c.args.atom) _ _ c.any.result c.any.ensures.ran (YieldsList-from_slice c.args.clause.now (cc)) (λ x b q k. search rules)
    ∙ any_by _ (λ codes. names codes c.args.atom) refl (λ _ _. refl) c.args.clause.now
