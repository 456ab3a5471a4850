use Rattle.std.proofs.Common.{◌≡◌, true, arith, refl, rules}
use Rattle.std.specs.Result.{is_ok}
use Rattle.std.proofs.lemmas.List.{map-append}
use Rattle.t7_layout.specs.Tables.{row_name}
use Rattle.t7_layout.proofs.RowFacts.{more_rows}
use Rattle.t7_layout.proofs.fields.names_of.Goals as goal

pub loop-place-preserved : goal.loop-place-preserved
unfolding row_name
loop-place-preserved c =
    let good : is_ok c.push.result ≡ true = search rules in
    let items = rw good at c.push.ensures.items in
    let rows = more_rows c.args.rows.now c.args.start c.loop-place.place (omega arith) (omega arith) in
    rw (items, map-append, c.loop-place.invariant, c.in_ok-name.ensures.items, c.cell.ensures, rows, map-append) refl
