use Rattle.std.proofs.Common.{refl, arith}
use Rattle.std.proofs.lemmas.List.{reverse-append}
use Rattle.clauses.proofs.Flags.{flags_long, last_is_newest, newest_there, newest_free, kept_pop}
use Rattle.clauses.proofs.assignment.Assignment.pop.Goals as goal

pub index_mut-requires : goal.index_mut-requires
index_mut-requires c =
    let kept = last_is_newest _ c.self.invariant c.in_ok-entry.ensures.items in
    omega (arith, newest_there kept, flags_long kept, c.self.inside.flags.ok.0)

pub invariant_of-self-2 : goal.invariant_of-self-2
invariant_of-self-2 c = kept_pop (last_is_newest _ c.self.invariant c.in_ok-entry.ensures.items) _ (omega arith)

pub returns : goal.returns
returns c =
    let kept = last_is_newest _ c.self.invariant c.in_ok-entry.ensures.items in
    rw (← c.self.view_is, c.in_ok-entry.ensures.items, reverse-append) (record { answer = refl; trail = refl; atoms = refl; free = newest_free kept })
