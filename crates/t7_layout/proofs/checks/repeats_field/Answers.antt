use Rattle.std.proofs.Common.{◌≡◌, sym, ◌∙◌, ap, false, arith, Bool}
use Rattle.std.specs.List.{list_any}
use Rattle.t7_records.specs.Records.{Record, record_at}
use Rattle.t7_layout.specs.Rows.{begins, same_cell}
use Rattle.t7_layout.proofs.RowFacts.{back_earlier, earlier_none, found_earlier, past_first}
use Rattle.t7_layout.proofs.checks.repeats_field.Goals as goal

pub returns-then-same_cell : goal.returns-then-same_cell
returns-then-same_cell c =
    let p : Record → Bool = λ r. same_cell 3 r (record_at c.args.rows.now c.args.at) in
    let inv = c.loop-place.invariant in
    sym (inv.none ∙ found_earlier p c.args.rows.now c.loop-place.place inv.first (sym c.begins.ensures ∙ c.loop-place-test.true) (sym c.same_cell.ensures ∙ c.if-same_cell.true))

pub loop-place-preserved : goal.loop-place-preserved
loop-place-preserved c =
    let p : Record → Bool = λ r. same_cell 3 r (record_at c.args.rows.now c.args.at) in
    let inv = c.loop-place.invariant in
    let b : begins c.args.rows.now c.loop-place.place ≡ false = sym c.begins.ensures ∙ c.loop-place-test.true in
    let past = past_first c.args.rows.now c.loop-place.place inv.first b in
    record {
      first = omega (arith, past);
      within = omega arith;
      none = inv.none ∙ back_earlier p c.args.rows.now c.loop-place.place inv.first b (sym c.same_cell.ensures ∙ c.if-same_cell.false);
    }

pub returns : goal.returns
returns c =
    let p : Record → Bool = λ r. same_cell 3 r (record_at c.args.rows.now c.args.at) in
    sym (c.loop-place.invariant.none ∙ ap (list_any p) (earlier_none c.args.rows.now c.loop-place.place (sym c.begins.ensures ∙ c.loop-place-test.false)))
