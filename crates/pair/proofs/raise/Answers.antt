use Rattle.std.proofs.Common.{◌+◌, ◌<◌, arith}
use Rattle.std.proofs.ByRecursion.{All-get_or}
use Rattle.std.proofs.lemmas.Grind.{common_steps}
use Rattle.std.proofs.lemmas.List.{get_or_default}
use Rattle.std.proofs.lemmas.List.Edits.{map_over_more}
use Rattle.pair.proofs.raise.Goals as goal

pub overflow_add-code : goal.overflow_add-code
overflow_add-code c =
    let fits = All-get_or (λ n. n + c.args.by < 65536) c.args.codes.now c.loop-code.code-index 0 c.loop-code-test.true c.requires in
    grind (arith, common_steps)

pub loop-code-preserved : goal.loop-code-preserved
loop-code-preserved c =
    map_over_more (λ n. n + c.args.by) _ _ _ _ c.loop-code-test.true c.loop-code.invariant
    (get_or_default c.loop-code.codes c.loop-code.code-index 0 _ (omega arith))
