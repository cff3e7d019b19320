use Rattle.std.proofs.Common.{◌≡◌, take, drop}
use Rattle.joining.specs.Joins.{joined_by_all, numbers, agrees}
use Rattle.joining.proofs.join_all.Given as goal

abbrev pub invariant-loop-x : goal.invariant-loop-x
invariant-loop-x l = take l.x l.labels ≡ numbers 0 l.x

abbrev pub invariant-loop-join : goal.invariant-loop-join
invariant-loop-join l = l.labels ≡ joined_by_all (take l.join-index l.joins) l.initial.labels

abbrev pub invariant-loop-join-2 : goal.invariant-loop-join-2
invariant-loop-join-2 l = agrees (drop l.join-index l.joins) l.labels ≡ agrees l.joins l.labels
