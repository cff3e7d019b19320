use Rattle.std.proofs.Common.{◌≡◌, [], ◌∷◌, ◌++◌, map, ap, ◌∙◌, Err, arith}
use Rattle.std.proofs.lemmas.List.{length-map, length_push, map_push}
use Rattle.std.proofs.lemmas.Result.{err_from_is_err_and}
use Rattle.pair.proofs.Sets.{Grown, left_refused, right_refused, left_gained, right_gained}
use Rattle.pair.proofs.Together.{together_room}
use Rattle.pair.specs.Held.{codes_of, places_of}
use Rattle.pair.proofs.PairTheory.set.Given.{Over}
use Rattle.pair.proofs.PairTheory.set.Goals as goal
use Rattle.pair.proofs.PairTheory.set.Goals.{After-push, Joined-code-cut, then-code-cut+in_ok-set, else-code-cut+in_ok-set_raised}

pub returns-in_err-set-clause-by : goal.returns-in_err-set-clause-by
returns-in_err-set-clause-by g c =
    let p = c.args.self.now in
    let e = err_from_is_err_and c.from_residual.result c.from_residual.ensures.1 in
    left_refused p.together c.args.code c.args.conflict.now c.if-code-atoms.false c.if-conflict-atoms.false c.if-code-cut.true
    (g.L.Theory.given_conflict p.left) (g.R.Theory.given_conflict p.right) _ _ (e.1 ∙ ap Err e.2) c.in_err-set.ensures.by

pub returns-in_err-set_raised-clause-by : goal.returns-in_err-set_raised-clause-by
returns-in_err-set_raised-clause-by g c =
    let p = c.args.self.now in
    let e = err_from_is_err_and c.from_residual-in_err-set_raised.result c.from_residual-in_err-set_raised.ensures.1 in
    right_refused p.together c.args.code c.args.conflict.now c.if-code-atoms.false c.if-conflict-atoms.false c.if-code-cut.false
    (g.L.Theory.given_conflict p.left) (g.R.Theory.given_conflict p.right) _ _ (e.1 ∙ ap Err e.2) c.in_err-set_raised.ensures.by

-- either side took the literal
grown : (g : Over) (c : Joined-code-cut g)
    → Grown (g.L.Theory.meaning c.args.self.now.left) (g.R.Theory.meaning c.args.self.now.right) (codes_of c.args.self.now) (places_of c.args.self.now)
    c.args.self.now.cut c.args.self.now.sizes c.args.code c.args.conflict.now
    (g.L.Theory.meaning c.if-code-cut.self.1.0) (g.R.Theory.meaning c.if-code-cut.self.1.1.0)
    (g.L.Theory.stack c.if-code-cut.self.1.0) (g.R.Theory.stack c.if-code-cut.self.1.1.0) c.if-code-cut.conflict
grown g c =
    let p = c.args.self.now in
    elim c.if-code-cut.branch [
      | then-code-cut+in_ok-set w ↦
          rw (w.self-is, w.conflict-is)
          (left_gained p.together c.args.code c.args.conflict.now c.if-code-atoms.false c.if-conflict-atoms.false w.if-code-cut.true w.set.ensures.same w.in_ok-set.ensures.by)
      | else-code-cut+in_ok-set_raised w ↦
          rw (w.self-is, w.conflict-is)
          (right_gained p.together c.args.code c.args.conflict.now c.if-code-atoms.false c.if-conflict-atoms.false w.if-code-cut.false (g.R.Theory.given_conflict p.right) w.set_raised.ensures.same w.in_ok-set_raised.ensures.by)
    ]

pub push-requires : goal.push-requires
push-requires g c =
    let p = c.args.self.now in
    let room = together_room (grown g (goal.at.push-requires g c).Joined-code-cut).together in
    omega (arith, room, length_push (codes_of p) c.args.code, length-map p.stack.records (λ c. c.code))

-- the literal is set behind the others
pushed : (g : Over) (c : After-push g) → map (λ c. c.code) c.push.new.self.records ≡ codes_of c.args.self.now ++ (c.args.code ∷ [])
pushed g c = ap (λ s. map (λ c. c.code) s.records) c.push.ensures ∙ map_push (λ c. c.code) c.args.self.now.stack.records (record { code = c.args.code })

pub invariant_of-self-2 : goal.invariant_of-self-2
invariant_of-self-2 g c =
    record { together = rw (pushed g c, ap (λ s. s.places) c.push.ensures) (grown g (goal.at.invariant_of-self-2 g c).Joined-code-cut).together }

pub returns-clause-by : goal.returns-clause-by
returns-clause-by g c = rw (pushed g (goal.at.returns-clause-by g c).After-push) (grown g (goal.at.returns-clause-by g c).Joined-code-cut).gained
