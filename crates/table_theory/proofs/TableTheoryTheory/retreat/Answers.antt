use Rattle.std.proofs.Common.{vec_items, sym, ap, subst}
use Rattle.theory.proofs.Retreats.{retreated_map}
use Rattle.table_theory.proofs.Sound.{Kept, kept_retreated}
use Rattle.table_theory.proofs.Values.{kept_of, fields_of}
use Rattle.table_theory.proofs.TableTheoryTheory.retreat.Goals as goal

pub invariant_of-self : goal.invariant_of-self
invariant_of-self g c =
    let t = c.args.self.now in
    let laws = g.met.P.Procedure.laws in
    let f =
    fields_of laws t c.retreat.new.self.records c.retreat.new.self.places (ap (λ s. s.places) c.retreat.ensures.dropped)
    (subst (Kept laws g.P.Procedure.spare t.variables (vec_items t.table)) (sym (ap (λ s. s.records) c.retreat.ensures.dropped))
    (kept_retreated laws g.P.Procedure.spare t.variables (vec_items t.table) (kept_of laws t) c.args.count)) in
    record { fits = f.fits; places = f.places_left; apart = f.apart; drawn = f.drawn; settled = f.settled }

pub returns-clause-dropped : goal.returns-clause-dropped
returns-clause-dropped g c =
    retreated_map g.P.Record.Record.coded c.args.self.now.stack.records c.args.count (ap (λ s. s.records) c.retreat.ensures.dropped)
