use Rattle.std.proofs.Common.{ap, ◌∙◌}
use Rattle.theory.proofs.Retreats.{retreated_map}
use Rattle.theory.specs.declared.Sizes.{Sizes}
use Rattle.pair.specs.Held.{codes_of}
use Rattle.pair.proofs.Drops.{Newest, newest, few_lefts, left_went, right_went, dropped_together}
use Rattle.pair.proofs.PairTheory.retreat.Given.{Over}
use Rattle.pair.proofs.PairTheory.retreat.Goals as goal
use Rattle.pair.proofs.PairTheory.retreat.Goals.{After-count_left-lefts}

-- so many of the newest literals are the left's
drops : (g : Over) (c : After-count_left-lefts g) → Newest (g.L.Theory.meaning c.args.self.now.left).atoms (codes_of c.args.self.now) c.args.count c.count_left-lefts.result
drops g c =
    let p = c.args.self.now in
    newest _ p.stack.records c.args.count (rw (← c.records-came.ensures) c.if-count-came.false)
    (rw (← ap (λ (s : Sizes). s.atoms) p.together.cut_is, ← c.records-came.ensures) c.count_left-lefts.ensures)

pub returns-in_err-retreat : goal.returns-in_err-retreat
returns-in_err-retreat g c =
    let h = c.retreat.ensures.answer ∙ left_went c.args.self.now.together (drops g (goal.at.returns-in_err-retreat g c).After-count_left-lefts) in
    absurd (cc (h, c.in_err-retreat.was))

pub overflow_sub-count : goal.overflow_sub-count
overflow_sub-count g c = few_lefts c.args.self.now.together (drops g (goal.at.overflow_sub-count g c).After-count_left-lefts)

pub invariant_of-self-in-Break-branch-2 : goal.invariant_of-self-in-Break-branch-2
invariant_of-self-in-Break-branch-2 g c =
    let h = right_went c.args.self.now.together (drops g (goal.at.invariant_of-self-in-Break-branch-2 g c).After-count_left-lefts) in
    absurd (cc (h, c.retreat-2.ensures.answer, c.in_err-retreat-2.was))

pub returns-in_err-retreat-2 : goal.returns-in_err-retreat-2
returns-in_err-retreat-2 g c =
    let h = right_went c.args.self.now.together (drops g (goal.at.returns-in_err-retreat-2 g c).After-count_left-lefts) in
    absurd (cc (h, c.retreat-2.ensures.answer, c.in_err-retreat-2.was))

pub invariant_of-self-2 : goal.invariant_of-self-2
invariant_of-self-2 g c =
    let p = c.args.self.now in
    record {
      together =
          dropped_together p.together (drops g (goal.at.invariant_of-self-2 g c).After-count_left-lefts) c.retreat.ensures.same c.retreat-2.ensures.same (ap (λ s. s.places) c.retreat-3.ensures.dropped)
          c.retreat.ensures.dropped c.retreat-2.ensures.dropped (retreated_map (λ c. c.code) p.stack.records c.args.count (ap (λ s. s.records) c.retreat-3.ensures.dropped));
    }

pub returns-clause-dropped : goal.returns-clause-dropped
returns-clause-dropped g c = retreated_map (λ c. c.code) c.args.self.now.stack.records c.args.count (ap (λ s. s.records) c.retreat-3.ensures.dropped)
