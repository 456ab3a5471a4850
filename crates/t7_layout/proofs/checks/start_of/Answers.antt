use Rattle.std.proofs.Common.{◌≡◌, sym, ◌∙◌, false, arith}
use Rattle.t7_layout.specs.Rows.{begins}
use Rattle.t7_layout.proofs.RowFacts.{from_place, go_back, past_first, went_back}
use Rattle.t7_layout.proofs.checks.start_of.Goals as goal

pub loop-place-preserved : goal.loop-place-preserved
loop-place-preserved c =
    let inv = c.loop-place.invariant in
    let b : begins c.args.rows.now c.loop-place.place ≡ false = sym c.begins.ensures ∙ c.loop-place-test.true in
    let past = past_first c.args.rows.now c.loop-place.place inv.first b in
    record {
      first = omega (arith, past);
      within = omega arith;
      inner = from_place c.args.rows.now c.loop-place.place c.args.at b inv.inner;
      rows = go_back c.args.rows.now c.loop-place.place c.args.at inv.first inv.within c.requires.inside b inv.rows;
    }

pub returns-clause-rows : goal.returns-clause-rows
returns-clause-rows c =
    let inv = c.loop-place.invariant in
    went_back c.args.rows.now c.loop-place.place c.args.at inv.first inv.within c.requires.inside (sym c.begins.ensures ∙ c.loop-place-test.false) inv.rows
