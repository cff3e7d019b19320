use Rattle.std.proofs.Common.{◌≡◌, ◌++◌, take, drop}
use Rattle.joining.specs.Joins.{relabelled}
use Rattle.joining.proofs.relabel.Given as goal

abbrev pub invariant-loop-label : goal.invariant-loop-label
invariant-loop-label l =
    l.labels ≡ relabelled l.from l.to (take l.label-index l.initial.labels) ++ drop l.label-index l.initial.labels
