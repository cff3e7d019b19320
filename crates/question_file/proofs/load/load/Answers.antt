use Rattle.std.proofs.Common.{◌≡◌, List, Ok, Err, Result, ap, ◌∙◌, sym, refl, subst, rules}
use Rattle.std.proofs.lemmas.List.{length-take-le, take_rest}
use Rattle.std.proofs.lemmas.Result.{err_from_is_err_and}
use Rattle.refusals.specs.declared.Fault.{Fault}
use Rattle.refusals.specs.Grounds.{map_ok}
use Rattle.question_file.specs.declared.check.Counts.{Counts}
use Rattle.question_file.specs.Contents.{Contents, counts_of, checked}
use Rattle.question_file.specs.Tables.{Long, room_of, filled_from}
use Rattle.question_file.proofs.Law.{undoing_writing}
use Rattle.question_file.proofs.Standing.{accepted, bytes_of}
use Rattle.question_file.proofs.load.load.Goals as goal

-- a refused file leaves a table
left : {E : Type 0} (part : Contents → List E) (r : Result Contents Fault) (d : Fault) (table : List E)
    → ◌≡◌ {A = Result Counts Fault} (Err d) (map_ok counts_of r) → table ≡ filled_from part r table
left part (Ok q) d table h = cc
left part (Err e) d table h = refl

pub returns-in_err-counts : goal.returns-in_err-counts
returns-in_err-counts c =
    let p = err_from_is_err_and c.from_residual.result c.from_residual.ensures.1 in
    let r = checked (room_of c.args.differences.now c.args.equalities.now) c.args.file.now in
    let h = c.in_err-counts.ensures in
    record {
      counts = p.1 ∙ ap Err p.2 ∙ h;
      differences = left (λ q. q.differences) r _ c.args.differences.now h;
      equalities = left (λ q. q.equalities) r _ c.args.equalities.now h;
      undoes_writing = undoing_writing _ c.args.file.now (bytes_of _ c.type_inv.file);
    }

pub slice_bounds-fields-count : goal.slice_bounds-fields-count
slice_bounds-fields-count c = (accepted c.type_inv.file c.in_ok-counts.ensures).differences_start

pub slice_bounds-fields-start : goal.slice_bounds-fields-start
slice_bounds-fields-start c = let h = (accepted c.type_inv.file c.in_ok-counts.ensures).differences_start in search rules

pub slice_bounds-fill-end : goal.slice_bounds-fill-end
slice_bounds-fill-end c = (accepted c.type_inv.file c.in_ok-counts.ensures).difference_places

pub slice_bounds-fill-end-2 : goal.slice_bounds-fill-end-2
slice_bounds-fill-end-2 c = sym (length-take-le _ _ (accepted c.type_inv.file c.in_ok-counts.ensures).difference_places)

pub fill-behind-requires : goal.fill-behind-requires
fill-behind-requires c =
    let a = accepted c.type_inv.file c.in_ok-counts.ensures in
    let n = a.difference_places in
    rw (length-take-le, take_rest) a.differences_long

pub slice_bounds-fill-end-3 : goal.slice_bounds-fill-end-3
slice_bounds-fill-end-3 c = (accepted c.type_inv.file c.in_ok-counts.ensures).equality_places

pub slice_bounds-fill-end-4 : goal.slice_bounds-fill-end-4
slice_bounds-fill-end-4 c = sym (length-take-le _ _ (accepted c.type_inv.file c.in_ok-counts.ensures).equality_places)

pub fill-requires : goal.fill-requires
fill-requires c =
    let a = accepted c.type_inv.file c.in_ok-counts.ensures in
    let n = a.difference_places in
    let m = a.equality_places in
    subst (Long 4 _) (sym c.fill-behind.ensures.behind) (rw (length-take-le, length-take-le, take_rest) a.equalities_long)

pub returns : goal.returns
returns c =
    let a = accepted c.type_inv.file c.in_ok-counts.ensures in
    let n = a.difference_places in
    let m = a.equality_places in
    record {
      counts = c.in_ok-counts.ensures;
      differences = rw (c.fill-behind.ensures.written, length-take-le, take_rest) (a.differences_filled c.args.differences.now);
      equalities = rw (c.fill.ensures.written, length-take-le, c.fill-behind.ensures.behind, length-take-le, take_rest) (a.equalities_filled c.args.equalities.now);
      undoes_writing = undoing_writing _ c.args.file.now (bytes_of _ c.type_inv.file);
    }
