use Rattle.std.proofs.Common.{rules}
use Rattle.question_file.proofs.check.Counts.with_field.Goals as goal

pub returns-in-Counts : goal.returns-in-Counts
returns-in-Counts c = let h = c.from_body.ensures c.args.room c.args.self in search rules
