use Rattle.clauses.proofs.Flags.{kept_none}
use Rattle.clauses.proofs.assignment.Assignment.new.Goals as goal

pub invariant_of-result : goal.invariant_of-result
invariant_of-result c =
    let flags = c.in_ok-flags.ensures.items_if_clones_equal (λ _ same. same) in
    rw (c.in_ok-entries.ensures.items, flags) (kept_none _ _ c.in_ok-entries.ensures.capacity)
