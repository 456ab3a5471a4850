use Rattle.std.proofs.Common.{◌∙◌, [], ap, arith, sym, subst, List, ℕ}
use Rattle.std.proofs.lemmas.Option.{same_Some}
use Rattle.t7_layout.specs.Layouts.{Layout}
use Rattle.t7_fields.specs.Puts.{written}
use Rattle.t7_fields.specs.Writing.{puts}
use Rattle.t7_fields.proofs.WriteFacts.{size_is}
use Rattle.t7_fields.proofs.saying.begin.Goals as goal

pub clear-requires : goal.clear-requires
clear-requires c =
    let size = size_is c.args.table.now c.args.role c.role.result.now c.role.ensures.found in
    let room = c.requires in
    omega arith

pub returns-clause-size : goal.returns-clause-size
returns-clause-size c = c.clear.ensures.size ∙ sym (size_is c.args.table.now c.args.role c.role.result.now c.role.ensures.found)

pub returns-clause-said : goal.returns-clause-said
unfolding puts
returns-clause-said c = record {
  sized = record { each = λ p there. let (k, inside, is) = there in absurd (omega arith) };
  bytes = λ t found. c.clear.ensures.bytes ∙ ap (λ (x : Layout). written x [] c.args.out.now) (same_Some c.role.result.now t (sym c.role.ensures.found ∙ found));
}
