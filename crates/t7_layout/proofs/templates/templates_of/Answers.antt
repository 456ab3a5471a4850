use Rattle.std.proofs.Common.{◌≡◌, ◌∙◌, ◌<◌, ap, sym, arith, refl, length}
use Rattle.t7_layout.specs.Tables.{layouts_before, table_of}
use Rattle.t7_layout.proofs.FaultFacts.{some_rows}
use Rattle.t7_layout.proofs.TableFacts.{before_first, more_inner, more_last}
use Rattle.t7_layout.proofs.templates.templates_of.Goals as goal
use Rattle.t7_layout.proofs.templates.templates_of.Goals.{then-ends+in_ok-template_at+in_ok-push, else-ends}

pub loop-at-init : goal.loop-at-init
loop-at-init c = c.new-templates.ensures.items ∙ sym (before_first c.args.rows.now)

pub loop-at-preserved : goal.loop-at-preserved
loop-at-preserved c =
    let first : 0 < c.loop-at.at = omega arith in
    elim c.if-ends.branch [
      | then-ends+in_ok-template_at+in_ok-push w ↦
          let more = more_last c.args.rows.now c.loop-at.at first (sym c.ends.ensures ∙ w.if-ends.true) in
          let e = w.in_ok-template_at.ensures in
          rw (w.templates-is, more, w.in_ok-push.ensures.items, c.loop-at.invariant, e) refl
      | else-ends w ↦
          let same = more_inner c.args.rows.now c.loop-at.at first (sym c.ends.ensures ∙ w.if-ends.false) in
          rw (w.templates-is, same) c.loop-at.invariant
    ]

pub returns : goal.returns
unfolding table_of
returns c =
    let some = some_rows c.args.rows.now c.requires in
    let end : c.loop-at.at ≡ length c.args.rows.now = omega arith in
    c.loop-at.invariant ∙ ap (layouts_before c.args.rows.now) end
