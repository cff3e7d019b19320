use Rattle.std.proofs.Common.{◌≡◌, length, refl, ◌∙◌, rules, arith}
use Rattle.std.proofs.lemmas.List.{length-map}
use Rattle.std.proofs.lemmas.Iterator.{YieldsList-from_slice}
use Rattle.std.proofs.lemmas.Iterator.Adapters.{serves_from_places}
use Rattle.std.proofs.lemmas.Iterator.Search.{any_from_yields_List}
use Rattle.steps.specs.Clauses.{dead, some_dead}
use Rattle.steps.specs.Steps.{codes_of}
use Rattle.clauses.specs.Placed.{clause_at, clauses_at}
use Rattle.theory.proofs.Searches.{any_by}
use Rattle.clauses.proofs.Places.{within_item}
use Rattle.clauses.proofs.posted.Clauses.some_dead.Goals as goal

pub any-requires-clause-callable : goal.any-requires-clause-callable
any-requires-clause-callable c =
    serves_from_places (YieldsList-from_slice c.self.inside.places.items (cc)) (λ x q r. search rules)
    (λ x k below is.
    let w = within_item (length c.self.inside.literals.items) c.self.inside.places.items k x.now c.self.invariant.inside below is in
    let long : length c.as_slice-literals.result.now ≡ length c.self.inside.literals.items = cc in
    let small = c.self.inside.literals.small in
    search rules)

pub returns-clause-is : goal.returns-clause-is
returns-clause-is c =
    let codes = codes_of c.args.assignment.now.trail in
    let literals = c.self.inside.literals.items in
    rw (← c.self.view_is) (any_from_yields_List (λ place. dead codes (clause_at literals place)) _ _ c.any.result c.any.ensures.ran (YieldsList-from_slice c.self.inside.places.items (cc)) (λ x b q k. search rules)
    ∙ any_by _ (λ places. some_dead codes (clauses_at literals places)) refl (λ _ _. refl) c.self.inside.places.items)

pub returns-clause-few : goal.returns-clause-few
returns-clause-few c =
    let inside = c.self.inside in
    rw (← c.self.view_is) (
      omega (arith, length-map inside.places.items (clause_at inside.literals.items), inside.places.ok.0, inside.places.ok.1, inside.places.small),
      omega (arith, c.self.invariant.total, inside.literals.ok.0, inside.literals.ok.1, inside.literals.small),
    )
