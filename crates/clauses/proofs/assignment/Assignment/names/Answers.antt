use Rattle.std.proofs.Common.{◌≡◌, ◌+◌, ◌*◌, reverse, arith}
use Rattle.std.proofs.lemmas.Grind.{common_steps}
use Rattle.steps.specs.Steps.{codes_of}
use Rattle.theory.specs.Meaning.{has}
use Rattle.clauses.proofs.Flags.{flags_long, flag_read, names_either}
use Rattle.clauses.proofs.assignment.Assignment.names.Goals as goal

pub index-requires : goal.index-requires
index-requires c =
    let there = rw (← c.self.view_is) at c.requires in
    omega (arith, there, flags_long c.self.invariant, c.self.inside.flags.ok.0)

pub index-requires-else-index : goal.index-requires-else-index
index-requires-else-index c =
    let there = rw (← c.self.view_is) at c.requires in
    omega (arith, there, flags_long c.self.invariant, c.self.inside.flags.ok.0)

pub returns-then-index : goal.returns-then-index
returns-then-index c =
    let there = rw (← c.self.view_is) at c.requires in
    let long = flags_long c.self.invariant in
    let flags = c.self.inside.flags.ok.0 in
    let codes = codes_of (reverse c.self.inside.entries.items) in
    let plain : c.index.result.now ≡ has codes (2 * c.args.atom) = flag_read c.self.invariant (2 * c.args.atom) flags (omega (arith, there, long, flags)) c.index.ensures in
    rw (← c.self.view_is) (grind (arith, common_steps, plain, names_either codes c.args.atom))

pub returns-else-index : goal.returns-else-index
returns-else-index c =
    let there = rw (← c.self.view_is) at c.requires in
    let long = flags_long c.self.invariant in
    let flags = c.self.inside.flags.ok.0 in
    let codes = codes_of (reverse c.self.inside.entries.items) in
    let plain : c.index.result.now ≡ has codes (2 * c.args.atom) = flag_read c.self.invariant (2 * c.args.atom) flags (omega (arith, there, long, flags)) c.index.ensures in
    let other : c.index-else-index.result.now ≡ has codes (2 * c.args.atom + 1)
    = flag_read c.self.invariant (2 * c.args.atom + 1) flags (omega (arith, there, long, flags)) c.index-else-index.ensures in
    rw (← c.self.view_is) (grind (arith, common_steps, plain, other, names_either codes c.args.atom))
