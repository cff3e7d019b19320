use Rattle.std.proofs.Common.{◌≡◌, true, false, length, vec_items, ◌++◌, ◌∷◌, [], sym, refl, ap, ◌∙◌, subst, arith}
use Rattle.std.specs.List.{AllByRecursion}
use Rattle.theory.proofs.Retreats.{retreated_push}
use Rattle.theory.specs.Calls.{retreated}
use Rattle.table_theory.specs.Drawing.{record_of}
use Rattle.table_theory.specs.Laws.{lawful}
use Rattle.table_theory.proofs.Sound.{Kept}
use Rattle.table_theory.proofs.Values as values
use Rattle.table_theory.proofs.Values.{Passed, kept_of, fields_of, record_read, grown_fit, grown_few, kept_grown, gained, clashed}
use Rattle.table_theory.proofs.TableTheoryTheory.set.Given.{Over}
use Rattle.table_theory.proofs.TableTheoryTheory.set.Goals as goal
use Rattle.table_theory.proofs.TableTheoryTheory.set.Goals.{In_ok-check, After-push, After-retreat}

-- the check passed
passed : (g : Over) (c : In_ok-check g) → Passed c.args.self.now c.args.code (length c.args.conflict.now)
passed g c = values.passed c.args.self.now c.len.result c.args.code (length c.args.conflict.now) c.len.ensures c.in_ok-check.ensures

-- the stack with the new record
pushed : (g : Over) (c : After-push g)
    → c.push.new.self.records ≡ c.args.self.now.stack.records ++ (record_of g.P.Procedure.asked g.P.Procedure.spare (vec_items c.args.self.now.table) c.args.code ∷ [])
pushed g c =
    let t = c.args.self.now in
    ap (λ s. s.records) c.push.ensures
    ∙ ap (λ x. t.stack.records ++ (x ∷ []))
    (record_read g.met.P.Procedure.laws t c.args.code c.args.conflict.now (passed g (goal.at.After-push g c).In_ok-check) c.index.result.now c.ask-record.result
    c.index.ensures c.ask-record.ensures)

-- the retreat drops it again
back : (g : Over) (c : After-retreat g) → c.retreat.new.self.records ≡ c.args.self.now.stack.records
back g c =
    ap (λ s. s.records) c.retreat.ensures.dropped
    ∙ ap (λ xs. retreated xs 1) (ap (λ s. s.records) c.push.ensures)
    ∙ retreated_push c.args.self.now.stack.records c.ask-record.result

pub push-requires : goal.push-requires
push-requires g c =
    let t = c.args.self.now in
    omega (arith, (passed g (goal.at.push-requires g c).In_ok-check).room, t.places, t.table.ok.0)

pub have_solution-requires : goal.have_solution-requires
have_solution-requires g c =
    let t = c.args.self.now in
    let laws = g.met.P.Procedure.laws in
    let p = passed g (goal.at.have_solution-requires g c).In_ok-check in
    let same = c.records.ensures ∙ pushed g (goal.at.have_solution-requires g c).After-push in
    record {
      fits = subst (AllByRecursion (g.P.Procedure.Fits t.variables)) (sym same) (grown_fit laws t c.args.code c.args.conflict.now p);
      few = (
        omega (arith, ap length same, grown_few laws t c.args.code c.args.conflict.now p),
        (lawful laws g.P.Procedure.spare t.variables (vec_items t.table) t.fits).few_variables,
      );
    }

pub invariant_of-self-then-have_solution : goal.invariant_of-self-then-have_solution
invariant_of-self-then-have_solution g c =
    let t = c.args.self.now in
    let laws = g.met.P.Procedure.laws in
    let p = passed g (goal.at.invariant_of-self-then-have_solution g c).In_ok-check in
    let same = pushed g (goal.at.invariant_of-self-then-have_solution g c).After-push in
    let f =
    fields_of laws t c.push.new.self.records c.push.new.self.places (ap (λ s. s.places) c.push.ensures)
    (subst (Kept laws g.P.Procedure.spare t.variables (vec_items t.table)) (sym same)
    (kept_grown laws t c.args.code c.args.conflict.now p
    (subst (λ xs. g.P.Procedure.solved xs t.variables ≡ true) (c.records.ensures ∙ same) (sym c.if-have_solution.ensures)))) in
    record { fits = f.fits; places = f.places_left; apart = f.apart; drawn = f.drawn; settled = f.settled }

pub returns-then-have_solution : goal.returns-then-have_solution
returns-then-have_solution g c =
    record {
      same = refl;
      by =
          gained g.met.P.Procedure.laws c.args.self.now c.args.code c.args.conflict.now (passed g (goal.at.returns-then-have_solution g c).In_ok-check)
          c.push.new.self.records (pushed g (goal.at.returns-then-have_solution g c).After-push);
    }

pub invariant_of-self-2 : goal.invariant_of-self-2
invariant_of-self-2 g c =
    let t = c.args.self.now in
    let laws = g.met.P.Procedure.laws in
    let f =
    fields_of laws t c.retreat.new.self.records c.retreat.new.self.places (ap (λ s. s.places) c.retreat.ensures.dropped ∙ ap (λ s. s.places) c.push.ensures)
    (subst (Kept laws g.P.Procedure.spare t.variables (vec_items t.table)) (sym (back g (goal.at.invariant_of-self-2 g c).After-retreat)) (kept_of laws t)) in
    record { fits = f.fits; places = f.places_left; apart = f.apart; drawn = f.drawn; settled = f.settled }

pub write_codes-requires : goal.write_codes-requires
write_codes-requires g c =
    let p = passed g (goal.at.write_codes-requires g c).In_ok-check in
    let same = back g (goal.at.write_codes-requires g c).After-retreat in
    omega (arith, p.room, p.list_places, ap length same)

pub returns : goal.returns
returns g c =
    let t = c.args.self.now in
    let same = c.records.ensures ∙ pushed g (goal.at.returns g c).After-push in
    record {
      same = refl;
      by =
          clashed g.met.P.Procedure.laws t c.args.code c.args.conflict.now (passed g (goal.at.returns g c).In_ok-check) c.retreat.new.self.records
          c.write_codes.result c.write_codes.new.list (back g (goal.at.returns g c).After-retreat)
          (subst (λ xs. g.P.Procedure.solved xs t.variables ≡ false) same (sym c.if-have_solution.ensures))
          c.write_codes.ensures.count c.write_codes.ensures.written;
    }
