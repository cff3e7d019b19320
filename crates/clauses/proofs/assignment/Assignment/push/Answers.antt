use Rattle.std.proofs.Common.{reverse, sym, arith}
use Rattle.std.proofs.lemmas.List.{reverse-append, length-reverse}
use Rattle.steps.specs.Steps.{codes_of}
use Rattle.clauses.proofs.Flags.{can_set_facts, flags_long, room_left, kept_push}
use Rattle.clauses.proofs.assignment.Assignment.push.Goals as goal

pub push_reserved-requires : goal.push_reserved-requires
push_reserved-requires c =
    let free = rw (← c.self.view_is) at (sym c.if-not-can_set.ensures) in
    omega (arith, room_left c.self.invariant c.args.entry free, length-reverse c.self.inside.entries.items, c.self.inside.entries.ok.0)

pub index_mut-requires : goal.index_mut-requires
index_mut-requires c =
    let free = rw (← c.self.view_is) at (sym c.if-not-can_set.ensures) in
    omega (arith, (can_set_facts c.self.inside.atoms (codes_of (reverse c.self.inside.entries.items)) c.args.entry.code free).0, flags_long c.self.invariant, c.self.inside.flags.ok.0)

pub invariant_of-self : goal.invariant_of-self
invariant_of-self c =
    let free = rw (← c.self.view_is) at (sym c.if-not-can_set.ensures) in
    rw (c.push_reserved.ensures.items, reverse-append) (kept_push c.self.invariant c.args.entry free _ (omega arith))
