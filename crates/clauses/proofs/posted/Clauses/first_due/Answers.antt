use Rattle.std.proofs.Common.{◌≡◌, length, refl, rules}
use Rattle.std.proofs.lemmas.Iterator.{YieldsList-from_slice}
use Rattle.std.proofs.lemmas.Iterator.Adapters.{serves_from_places}
use Rattle.steps.specs.Clauses.{due, first_due}
use Rattle.steps.specs.Steps.{codes_of}
use Rattle.clauses.specs.Placed.{clause_at, clauses_at}
use Rattle.clauses.proofs.Scans.{first_found}
use Rattle.clauses.proofs.Places.{within_item}
use Rattle.clauses.proofs.posted.Clauses.first_due.Goals as goal

pub find_map-requires-clause-callable : goal.find_map-requires-clause-callable
find_map-requires-clause-callable c =
    serves_from_places (YieldsList-from_slice c.self.inside.places.items (cc)) (λ x q r. search rules)
    (λ x k below is.
    let w = within_item (length c.self.inside.literals.items) c.self.inside.places.items k x.now c.self.invariant.inside below is in
    let long : length c.as_slice-literals.result.now ≡ length c.self.inside.literals.items = cc in
    let small = c.self.inside.literals.small in
    search rules)

pub returns : goal.returns
returns c =
    let codes = codes_of c.args.assignment.now.trail in
    let literals = c.self.inside.literals.items in
    let found = c.find_map.ensures.runs in
    let same : found.0.from.rest.now ≡ c.self.inside.places.items = cc in
    rw (← c.self.view_is, ← same) (first_found (λ place. due codes (clause_at literals place)) (λ places. first_due codes (clauses_at literals places)) refl (λ _ _. refl) _ _ _ (λ a r q k. search rules) c.find_map.result found.0
    (c.iter.ensures.runs found.0 found.0.seen) found.2)
