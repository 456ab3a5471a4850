use Rattle.std.proofs.Common.{◌∷◌, List, [], zero, suc, subst, refl, arith, rules}
use Rattle.std.specs.Prelude.{Contains}
use Rattle.t7_layout.specs.declared.roles.FieldName.{FieldName}
use Rattle.t7_layout.specs.declared.roles.FieldName.TheVariants as name
use Rattle.t7_layout.specs.declared.roles.Role.TheVariants as role
use Rattle.t7_layout.specs.Roles.{family_of, kind_of, name_number, required, width_in}
use Rattle.t7_layout.specs.Rows.{kind_text, same_kind}
use Rattle.t7_fields.specs.declared.writer.Scalar.{Scalar}
use Rattle.t7_fields.specs.declared.writer.Scalar.TheVariants as number
use Rattle.t7_fields.specs.Messages.{is_among}
use Rattle.t7_fields.specs.Writing.{AreOrdinary, IsOrdinary, can_say, can_say_each, longest, number_kind, number_width}
use Rattle.t7_fields.proofs.WriteFacts.{ordinary_known}
use Rattle.t7_fields.proofs.tests.write_logon_response.Goals as goal

said : List (FieldName × Scalar)
said = (name.MsgSeqNum, number.Word 1) ∷ (name.HeartBtInt, number.Word 30_000) ∷ []

ordinary : AreOrdinary said
unfolding said IsOrdinary
ordinary = record { each = by }
  where
    by : (p : FieldName × Scalar) → Contains said p → IsOrdinary p.1
    by p (zero, inside, is) = let P : FieldName × Scalar → Type 0 = λ q. IsOrdinary q.1 in let one : P (name.MsgSeqNum, number.Word 1) = λ e. omega arith in subst P is one
    by p (suc zero, inside, is) = let P : FieldName × Scalar → Type 0 = λ q. IsOrdinary q.1 in let one : P (name.HeartBtInt, number.Word 30_000) = λ e. omega arith in subst P is one
    by p (suc (suc k), inside, is) = absurd (omega arith)

pub write-requires-clause-said : goal.write-requires-clause-said
unfolding said can_say_each can_say is_among name_number required same_kind kind_text kind_of number_kind width_in family_of number_width
write-requires-clause-said c = record {
  fit = refl;
  known = ordinary_known c.args.table.now role.LogonResponse said c.templates-templates.ensures.table refl ordinary;
}

pub write-requires-clause-room : goal.write-requires-clause-room
unfolding family_of longest
write-requires-clause-room c = search rules
