use Rattle.std.proofs.Common.{◌+◌, refl, ap, ◌∙◌, arith}
use Rattle.std.proofs.lemmas.List.{take_more, take_all}
use Rattle.question.proofs.Replaying.{none_yet, one_more, all_answered}
use Rattle.question.proofs.asked.Question.perform_all.Goals as goal

pub loop-call-init : goal.loop-call-init
loop-call-init g c =
    let made = c.in_ok-answers.ensures in record { same = refl; answered = none_yet _ made.items c.requires; count = made.len; room = made.capacity }

pub loop-call-preserved : goal.loop-call-preserved
loop-call-preserved g c =
    let v = c.loop-call.invariant in
    record {
      same = c.perform.ensures.same ∙ v.same;
      answered =
          one_more _ _ c.in_ok-perform.field-0 (take_more c.args.calls.now c.loop-call.call-index _ c.loop-call-test.true) c.push_reserved.ensures.items v.answered v.same c.in_ok-perform.ensures.by;
      count = c.push_reserved.ensures.len ∙ ap (λ n. n + 1) v.count;
      room = omega arith;
    }

pub returns-clause-by : goal.returns-clause-by
returns-clause-by g c =
    let q = c.args.self.now in
    all_answered _ (g.met.T.Theory.lawful q.solver.theory) (take_all c.loop-call.call-index c.args.calls.now c.loop-call-test.false) c.loop-call.invariant.answered
