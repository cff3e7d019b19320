use Rattle.std.proofs.Common.{length, vec_items, sym, ap, subst, arith}
use Rattle.std.specs.List.{AllByRecursion}
use Rattle.std.proofs.lemmas.List.{length-take-le}
use Rattle.table_theory.specs.Laws.{lawful}
use Rattle.table_theory.proofs.Sound.{records_fit, few_records}
use Rattle.table_theory.proofs.Values.{kept_of}
use Rattle.table_theory.proofs.TableTheory.solution.Given.{Over}
use Rattle.table_theory.proofs.TableTheory.solution.Goals as goal
use Rattle.table_theory.proofs.TableTheory.solution.Goals.{Start}

best : (g : Over) (c : Start g)
    → g.P.Procedure.Best c.args.self.now.variables (vec_items c.args.self.now.table) c.args.self.now.stack.records
    (g.P.Procedure.solution c.args.self.now.stack.records c.args.self.now.variables)
best g c =
    let t = c.args.self.now in
    g.met.P.Procedure.best t.variables (vec_items t.table) t.stack.records t.drawn
    (records_fit g.met.P.Procedure.laws g.P.Procedure.spare t.variables (vec_items t.table) (kept_of g.met.P.Procedure.laws t)) t.settled

pub returns-then-list-self-clause-best : goal.returns-then-list-self-clause-best
returns-then-list-self-clause-best g c = best g (goal.at.returns-then-list-self-clause-best g c).Start

pub returns-clause-best : goal.returns-clause-best
returns-clause-best g c = best g (goal.at.returns-clause-best g c).Start

pub solve-requires : goal.solve-requires
solve-requires g c =
    let t = c.args.self.now in
    let k = kept_of g.met.P.Procedure.laws t in
    let long = length-take-le t.variables c.args.list.now c.if-list-self.false in
    record {
      fits =
          subst (λ n. AllByRecursion (g.P.Procedure.Fits n) c.records.result.now) (sym long)
          (subst (AllByRecursion (g.P.Procedure.Fits t.variables)) (sym c.records.ensures) (records_fit g.met.P.Procedure.laws g.P.Procedure.spare t.variables (vec_items t.table) k));
      few = (
        omega (arith, ap length c.records.ensures, few_records g.met.P.Procedure.laws g.P.Procedure.spare t.variables (vec_items t.table) k),
        omega (arith, long, (lawful g.met.P.Procedure.laws g.P.Procedure.spare t.variables (vec_items t.table) t.fits).few_variables),
      );
    }
