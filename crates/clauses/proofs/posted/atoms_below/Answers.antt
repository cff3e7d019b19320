use Rattle.std.proofs.Common.{ltb, refl, ◌∙◌, rules}
use Rattle.std.proofs.lemmas.Iterator.{YieldsList-from_slice}
use Rattle.std.proofs.lemmas.Iterator.Search.{all_from_yields_List}
use Rattle.steps.specs.Calls.{are_atoms_below}
use Rattle.theory.specs.Meaning.{atom_of}
use Rattle.clauses.proofs.Scans.{all_by}
use Rattle.clauses.proofs.posted.atoms_below.Goals as goal

pub returns : goal.returns
returns c =
    all_from_yields_List (λ code. ltb (atom_of code) c.args.atoms) _ _ c.all.result c.all.ensures.ran (YieldsList-from_slice c.args.clause.now (cc)) (λ x b q k. search rules)
    ∙ all_by _ (are_atoms_below c.args.atoms) refl (λ _ _. refl) c.args.clause.now
