use Rattle.std.proofs.Common.{sym, ap, ◌∙◌, arith}
use Rattle.std.proofs.lemmas.List.{length-map}
use Rattle.clauses.specs.Placed.{clause_at, clauses_at, posted_to}
use Rattle.clauses.proofs.Places.{placed_push, clauses_push, ground_none}
use Rattle.clauses.proofs.posted.Clauses.post.Goals as goal

pub invariant_of-self : goal.invariant_of-self
invariant_of-self c =
    rw (c.in-Ok.ensures.items, c.push_reserved.ensures.items) (placed_push c.self.invariant c.args.clause.now (c.len-start.ensures ∙ c.self.inside.literals.ok.0) (omega arith) (omega arith))

pub returns-clause-posted : goal.returns-clause-posted
returns-clause-posted c =
    let clauses = clauses_at c.self.inside.literals.items c.self.inside.places.items in
    let count = length-map c.self.inside.places.items (clause_at c.self.inside.literals.items) in
    let reason = ground_none c.args.atoms clauses c.args.clause.now (sym c.if-not-atoms_below.ensures) (sym c.if-names_twice.ensures) (omega (arith, c.self.inside.places.ok.0)) (omega (arith, c.self.inside.literals.ok.0)) in
    rw (← c.self.view_is, c.in-Ok.ensures.items, c.push_reserved.ensures.items) (clauses_push c.self.invariant c.args.clause.now (c.len-start.ensures ∙ c.self.inside.literals.ok.0) ∙ sym (ap (posted_to clauses c.args.clause.now) reason))
