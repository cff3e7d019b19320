use Rattle.std.proofs.Common.{rules, is_ok, arith}
use Rattle.std.proofs.lemmas.Bool.Decides.{nat_tests}
use Rattle.std.proofs.lemmas.Iterator.{YieldsList-from_slice}
use Rattle.std.proofs.lemmas.Iterator.Search.{all_from_yields_List}
use Rattle.tables.proofs.table_fits.Goals as goal

pub returns-then-table-le-MOST : goal.returns-then-table-le-MOST
returns-then-table-le-MOST g c =
    let h = all_from_yields_List (λ e. is_ok (g.E.Entry.checked c.args.variables e)) _ _ c.all.result c.all.ensures.ran (YieldsList-from_slice c.args.table.now cc) (λ x b q k. search rules) in
    grind (arith, nat_tests)
