use Rattle.std.proofs.Common.{◌∙◌, ap, length, subst, rules, List, sym}
use Rattle.std.proofs.lemmas.List.{take_all}
use Rattle.std.proofs.lemmas.List.Elements.{Contains-get_or}
use Rattle.t7_layout.specs.declared.roles.FieldName.{FieldName}
use Rattle.t7_fields.specs.declared.writer.Scalar.{Scalar}
use Rattle.t7_fields.specs.Writing.{SaysSoFar}
use Rattle.t7_fields.proofs.WriteFacts.{IsFinished, named_in, one_said, role_room, said_finished, size_is, take_more}
use Rattle.t7_fields.proofs.saying.write.Goals as goal

pub begin-size-requires : goal.begin-size-requires
begin-size-requires c = record { room = role_room c.args.table.now c.args.role (length c.args.out.now) c.templates-templates.ensures.table c.requires.room }

pub loop-name-init : goal.loop-name-init
loop-name-init c = record { said = c.begin-size.ensures.said; same_length = c.begin-size.ensures.same_length }

pub say-requires-clause-room : goal.say-requires-clause-room
say-requires-clause-room c =
    rw c.loop-name.invariant.same_length (role_room c.args.table.now c.args.role (length c.args.out.now) c.templates-templates.ensures.table c.requires.room)

pub say-requires-clause-said : goal.say-requires-clause-said
say-requires-clause-said c =
    one_said c.args.table.now c.args.role c.args.fields.now _ c.requires.said (Contains-get_or c.args.fields.now c.loop-name.name-index _ c.loop-name-test.true)

pub loop-name-preserved : goal.loop-name-preserved
loop-name-preserved c =
    let P : List (FieldName × Scalar) → Type 0 = λ ps. SaysSoFar c.args.table.now c.args.role ps c.args.out.now c.say.new.out in
    record {
      said = subst P (take_more c.args.fields.now c.loop-name.name-index _ c.loop-name-test.true) (c.say.ensures.said _ _ c.loop-name.invariant.said);
      same_length = c.say.ensures.same_length ∙ c.loop-name.invariant.same_length;
    }

pub returns-clause-length : goal.returns-clause-length
returns-clause-length c =
    let (t, named) = named_in c.args.table.now c.args.role c.templates-templates.ensures.table in
    rw named.found (c.begin-size.ensures.size ∙ size_is c.args.table.now c.args.role t named.found)

pub returns-clause-bytes : goal.returns-clause-bytes
returns-clause-bytes c =
    let P : List (FieldName × Scalar) → Type 0 = λ ps. SaysSoFar c.args.table.now c.args.role ps c.args.out.now c.loop-name.out in
    let all = subst P (take_all c.loop-name.name-index c.args.fields.now c.loop-name-test.false) c.loop-name.invariant.said in
    (said_finished c.args.table.now c.args.role c.args.fields.now c.begin-size.result c.args.out.now c.loop-name.out c.templates-templates.ensures.table c.requires.said c.begin-size.ensures.size all).bytes

pub returns-clause-written : goal.returns-clause-written
returns-clause-written c =
    let P : List (FieldName × Scalar) → Type 0 = λ ps. SaysSoFar c.args.table.now c.args.role ps c.args.out.now c.loop-name.out in
    let all = subst P (take_all c.loop-name.name-index c.args.fields.now c.loop-name-test.false) c.loop-name.invariant.said in
    (said_finished c.args.table.now c.args.role c.args.fields.now c.begin-size.result c.args.out.now c.loop-name.out c.templates-templates.ensures.table c.requires.said c.begin-size.ensures.size all).written

pub returns-clause-rest : goal.returns-clause-rest
returns-clause-rest c =
    let P : List (FieldName × Scalar) → Type 0 = λ ps. SaysSoFar c.args.table.now c.args.role ps c.args.out.now c.loop-name.out in
    let all = subst P (take_all c.loop-name.name-index c.args.fields.now c.loop-name-test.false) c.loop-name.invariant.said in
    (said_finished c.args.table.now c.args.role c.args.fields.now c.begin-size.result c.args.out.now c.loop-name.out c.templates-templates.ensures.table c.requires.said c.begin-size.ensures.size all).rest

pub returns-clause-same_length : goal.returns-clause-same_length
returns-clause-same_length c = c.loop-name.invariant.same_length
