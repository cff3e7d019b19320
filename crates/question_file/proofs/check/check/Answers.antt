use Rattle.std.proofs.Common.{arith, rules}
use Rattle.std.proofs.lemmas.List.{drop-drop}
use Rattle.question_file.proofs.Counting.{leads_start, leads_end, leads_torn, leads_refused, leads_more}
use Rattle.question_file.proofs.check.check.Goals as goal

pub loop-field-init : goal.loop-field-init
loop-field-init c = let h = leads_start c.args.room c.args.file.now in search rules

pub returns-in_err-field : goal.returns-in_err-field
returns-in_err-field c =
    let h = leads_torn c.loop-field.invariant c.in_err-field.field-0.0 c.in_err-field.ensures.found in
    search rules

pub read-requires : goal.read-requires
read-requires c =
    let b = rw c.in-Some.is at c.in_ok-field.ensures.found in
    omega (arith, b.1, c.loop-field.invariant.few)

pub returns-in_err-progress : goal.returns-in_err-progress
returns-in_err-progress c =
    let h = leads_refused c.loop-field.invariant c.in-Some.field (rw c.in-Some.is at c.in_ok-field.ensures.found) c.in_err-progress.field-0.0 (cc c.in_err-progress.ensures) in
    search rules

pub loop-field-preserved : goal.loop-field-preserved
loop-field-preserved c =
    let h = leads_more c.loop-field.invariant c.in-Some.field (rw c.in-Some.is at c.in_ok-field.ensures.found) c.in_ok-progress.progress (cc c.in_ok-progress.ensures) in
    let m = rw c.in-Some.is at c.in_ok-field.ensures.moves in
    rw (m, c.in_ok-field.ensures.same, ← drop-drop) h

pub returns : goal.returns
returns c = leads_end c.loop-field.invariant (rw c.in_default.is at c.in_ok-field.ensures.found)
