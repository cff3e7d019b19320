use Rattle.std.proofs.Common.{◌≡◌, take}
use Rattle.relaxing.specs.Limits.{moves, pass}
use Rattle.relaxing.proofs.relax_pass.Given as goal

abbrev pub invariant-loop-limit : goal.invariant-loop-limit
invariant-loop-limit l =
    (l.times ≡ pass (take l.limit-index l.limits) l.initial.times)
    × (l.moved ≡ moves (take l.limit-index l.limits) l.initial.times)
