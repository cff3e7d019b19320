use Rattle.std.proofs.Common.{◌-◌, length, drop}
use Rattle.question_file.proofs.Counting.{Leads}
use Rattle.question_file.proofs.check.check.Given as goal

abbrev pub invariant-loop-field : goal.invariant-loop-field
invariant-loop-field l = Leads l.initial.room l.initial.file l.progress l.reader.offset (drop l.reader.offset l.reader.file.now)

abbrev pub decreases-loop-field : goal.decreases-loop-field
decreases-loop-field l = length l.reader.file.now - l.reader.offset
