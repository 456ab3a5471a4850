use Rattle.std.proofs.Common.{◌≡◌, sym, ◌∙◌, false, arith}
use Rattle.t7_layout.specs.Rows.{begins, is_field}
use Rattle.t7_layout.proofs.RowFacts.{back_so_far, found_so_far, none_so_far, past_first}
use Rattle.t7_layout.proofs.checks.has_field.Goals as goal

pub returns-then-begins : goal.returns-then-begins
returns-then-begins c =
    let inv = c.loop-family.invariant in
    sym (inv.none ∙ none_so_far (is_field c.args.family c.args.name) c.args.rows.now c.loop-family.place inv.first (sym c.begins.ensures ∙ c.if-begins.true) (sym c.is_field.ensures ∙ c.loop-family-test.true))

pub loop-family-preserved : goal.loop-family-preserved
loop-family-preserved c =
    let inv = c.loop-family.invariant in
    let b : begins c.args.rows.now c.loop-family.place ≡ false = sym c.begins.ensures ∙ c.if-begins.false in
    let past = past_first c.args.rows.now c.loop-family.place inv.first b in
    record {
      first = omega (arith, past);
      within = omega arith;
      none = inv.none ∙ back_so_far (is_field c.args.family c.args.name) c.args.rows.now c.loop-family.place inv.first b (sym c.is_field.ensures ∙ c.loop-family-test.true);
    }

pub returns : goal.returns
returns c =
    let inv = c.loop-family.invariant in
    sym (inv.none ∙ found_so_far (is_field c.args.family c.args.name) c.args.rows.now c.loop-family.place inv.first (sym c.is_field.ensures ∙ c.loop-family-test.false))
