use Rattle.theory.proofs.Stacks.{Written}
use Rattle.theory.proofs.stack.Stack.write_codes.Given as goal

abbrev pub invariant-loop-i : goal.invariant-loop-i
invariant-loop-i g l = Written g.R.Record.coded l.self.records l.first l.initial.list l.i l.list
