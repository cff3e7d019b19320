use Rattle.std.proofs.Common.{◌≡◌, ℕ, ◌+◌, true, length, replicate, pos}
use Rattle.relaxing.specs.Limits.{moves, passes}
use Rattle.relaxing.proofs.relax.Given as goal

-- the passes that were made, each of which changed a time
abbrev pub invariant-loop : goal.invariant-loop
invariant-loop l =
    (l.times ≡ passes l.counter l.limits (replicate (length l.initial.times) (pos 0)))
    × ((k : ℕ) → l.counter ≡ k + 1 → moves l.limits (passes k l.limits (replicate (length l.initial.times) (pos 0))) ≡ true)
