use Rattle.std.proofs.Common.{◌≡◌, Ok, Result, arith}
use Rattle.std.proofs.lemmas.Grind.{common_steps}
use Rattle.refusals.specs.declared.Refusal.{Refusal}
use Rattle.steps.specs.Calls.{refused, read}
use Rattle.steps.specs.Steps.{codes_of}
use Rattle.theory.specs.Meaning.{WorldOf}
use Rattle.question.specs.declared.Ask.TheVariants as ask
use Rattle.question.specs.declared.Stage.{Stage}
use Rattle.question.specs.Asked.{trail_of, meaning_of}
use Rattle.question.specs.Stages.{stage_after}
use Rattle.question.proofs.Staged.{given_world_is_world}
use Rattle.question.proofs.asked.Question.world.Goals as goal

pub returns : goal.returns
returns g c =
    let q = c.args.self.now in
    let allowed : ◌≡◌ {A = Result Stage Refusal} (Ok c.in_ok-next_stage.field-0) (stage_after q.stage ask.World) = c.in_ok-next_stage.ensures in
    let is : WorldOf (meaning_of q) (codes_of (trail_of q)) (g.T.Theory.given_world q.solver.theory) = given_world_is_world q (g.met.T.Theory.worldly q.solver.theory) in
    grind (arith, common_steps, refused, read)
