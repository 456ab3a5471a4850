use Rattle.std.proofs.Common.{◌∙◌, sym, arith}
use Rattle.t7_layout.proofs.IndexFacts.{id_noted, id_passed}
use Rattle.t7_layout.proofs.index.note_ids.Goals as goal
use Rattle.t7_layout.proofs.index.note_ids.Goals.{then-same_family, else-same_family}

pub loop-left-preserved : goal.loop-left-preserved
loop-left-preserved c = record {
  below = omega arith;
  are = elim c.if-same_family.branch [
    | then-same_family w ↦ rw (w.places-is, w.id.ensures) (id_noted c.args.templates.now c.args.family c.loop-left.left c.index-templates-left.result c.loop-left.places (omega arith) (omega arith) c.index-templates-left.is
        (rw c.family.ensures at (sym c.same_family.ensures ∙ w.if-same_family.true)) (omega (arith, w.id.type_inv, w.id.ensures)) c.loop-left.invariant.are)
    | else-same_family w ↦ rw w.places-is (id_passed c.args.templates.now c.args.family c.loop-left.left c.index-templates-left.result c.loop-left.places (omega arith) (omega arith) c.index-templates-left.is
        (rw c.family.ensures at (sym c.same_family.ensures ∙ w.if-same_family.false)) c.loop-left.invariant.are)
  ];
}
