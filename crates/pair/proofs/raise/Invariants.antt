use Rattle.std.proofs.Common.{◌≡◌, ◌++◌, take, drop}
use Rattle.pair.specs.Pairs.{raised}
use Rattle.pair.proofs.raise.Given as goal

abbrev pub invariant-loop-code : goal.invariant-loop-code
invariant-loop-code l = l.codes ≡ raised l.by (take l.code-index l.initial.codes) ++ drop l.code-index l.initial.codes
