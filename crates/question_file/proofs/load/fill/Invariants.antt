use Rattle.std.proofs.Common.{length}
use Rattle.question_file.proofs.Filling.{Filling}
use Rattle.question_file.proofs.load.fill.Given as goal

abbrev pub invariant-loop-place : goal.invariant-loop-place
invariant-loop-place g l = Filling g.E.FieldEntry.BODY_LEN g.E.FieldEntry.said (length l.fn.places) l.fields l.place-index l.rest l.places
