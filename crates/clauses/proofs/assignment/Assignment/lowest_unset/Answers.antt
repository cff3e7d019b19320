use Rattle.std.proofs.Common.{◌≡◌, true, false, ap, rules}
use Rattle.std.proofs.lemmas.Iterator.{first_from_Range}
use Rattle.theory.specs.Meaning.{names}
use Rattle.steps.specs.Steps.{codes_of}
use Rattle.clauses.proofs.Scans.{lowest_from_first}
use Rattle.clauses.proofs.assignment.Assignment.lowest_unset.Goals as goal

pub returns : goal.returns
returns c =
    let codes = codes_of c.args.self.now.trail in
    lowest_from_first codes c.find.result (ap (λ v. v.atoms) c.self.view_is)
    (first_from_Range _ _ _ c.find.result (λ a. names codes a ≡ false) (λ a. names codes a ≡ true) c.find.ensures.ran (λ x q k. search rules) (λ x q k. search rules))
