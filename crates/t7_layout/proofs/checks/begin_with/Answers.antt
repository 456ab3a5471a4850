use Rattle.std.proofs.Common.{◌≡◌, ◌+◌, ◌∙◌, ap, sym, arith, drop, take, ℕ}
use Rattle.t7_layout.specs.Faults.{begin_with}
use Rattle.t7_layout.proofs.FaultFacts.{here_done, here_right, here_short, here_wrong}
use Rattle.t7_layout.proofs.checks.begin_with.Goals as goal

pub loop-i-init : goal.loop-i-init
loop-i-init c =
    let e : c.args.start ≡ c.args.start + 0 = omega arith in
    ap (λ (n : ℕ). begin_with c.args.family c.args.names.now (drop n (take (c.args.at + 1) c.args.rows.now))) e

pub returns-then-at-start : goal.returns-then-at-start
returns-then-at-start c =
    sym (c.loop-i.invariant ∙ here_short c.args.family c.args.names.now c.args.rows.now c.args.at c.args.start c.loop-i.i (omega arith) (omega arith) (omega arith))

pub returns-then-not-is_field : goal.returns-then-not-is_field
returns-then-not-is_field c =
    sym (c.loop-i.invariant ∙ here_wrong c.args.family c.args.names.now c.args.rows.now c.args.at c.args.start c.loop-i.i (omega arith) (omega arith) (omega arith) (sym c.is_field.ensures ∙ c.if-not-is_field.true))

pub loop-i-preserved : goal.loop-i-preserved
loop-i-preserved c =
    c.loop-i.invariant ∙ here_right c.args.family c.args.names.now c.args.rows.now c.args.at c.args.start c.loop-i.i (omega arith) (omega arith) (omega arith) (sym c.is_field.ensures ∙ c.if-not-is_field.false)

pub returns : goal.returns
returns c =
    sym (c.loop-i.invariant ∙ here_done c.args.family c.args.names.now c.args.rows.now c.args.at c.args.start c.loop-i.i (omega arith))
