use Rattle.std.proofs.Common.{sym, ◌∙◌, arith}
use Rattle.std.proofs.lemmas.Bool.{le-ltb}
use Rattle.clauses.proofs.Flags.{flag_read, flag_beyond}
use Rattle.clauses.proofs.assignment.Assignment.is_set.Goals as goal

pub returns-then-code-len : goal.returns-then-code-len
returns-then-code-len c = rw (← c.self.view_is) (flag_read c.self.invariant _ c.self.inside.flags.ok.0 (omega arith) c.index.ensures)

pub returns-else-code-len : goal.returns-else-code-len
returns-else-code-len c =
    let flags = c.self.inside.flags.ok.0 in
    rw (← c.self.view_is) (le-ltb c.args.code c.len.result c.if-code-len.false ∙ sym (flag_beyond c.self.invariant c.args.code (omega arith)))
