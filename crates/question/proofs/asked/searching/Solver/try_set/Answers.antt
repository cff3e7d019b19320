use Rattle.std.proofs.Common.{◌≤◌, ◌∷◌, length, sym, refl, arith}
use Rattle.std.proofs.lemmas.Grind.{common_steps}
use Rattle.steps.specs.Steps.{codes_of}
use Rattle.question.proofs.Sets.{no_world, grown, has_world}
use Rattle.question.proofs.asked.searching.Solver.try_set.Goals as goal

pub returns-then-is_err-clause-by : goal.returns-then-is_err-clause-by
returns-then-is_err-clause-by g c =
    let s = c.args.self.now in
    let room : (g.T.Theory.meaning s.theory).atoms ≤ length c.as_mut_slice.result.now = omega (arith, s.conflict_places) in
    record { no_world = no_world _ _ _ s.same_stack _ _ _ _ _ c.requires room c.set.result (sym c.if-is_err.ensures.value) c.set.ensures.by; unchanged = refl }

pub returns-clause-by : goal.returns-clause-by
returns-clause-by g c =
    let s = c.args.self.now in
    let t = codes_of s.assignment.trail in
    record {
      has_world =
          has_world (c.args.code ∷ t) c.set.ensures.same (grown _ t _ s.same_stack _ _ _ _ _ c.set.result (sym c.if-is_err.ensures.value) c.set.ensures.by)
          (g.met.T.Theory.worldly c.set.new.self);
      grown = grind (arith, common_steps);
    }
