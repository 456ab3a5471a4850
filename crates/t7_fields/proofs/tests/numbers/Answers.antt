use Rattle.std.proofs.Common.{subst, refl, sym, arith, rules}
use Rattle.std.specs.Prelude.{Contains}
use Rattle.t7_layout.specs.declared.roles.FieldName.TheVariants as name
use Rattle.t7_layout.specs.declared.roles.Role.{Role}
use Rattle.t7_layout.specs.Roles.{kind_of, required}
use Rattle.t7_fields.proofs.tests.numbers.Goals as goal

pub unsigned-requires-clause-there : goal.unsigned-requires-clause-there
unfolding required
unsigned-requires-clause-there c = let P : Role → Type 0 = λ r. Contains (required r) name.MsgSeqNum in subst P (sym c.requires) (2, omega arith, refl)

pub unsigned-requires-2-clause-there : goal.unsigned-requires-2-clause-there
unfolding required
unsigned-requires-2-clause-there c = let P : Role → Type 0 = λ r. Contains (required r) name.HeartBtInt in subst P (sym c.requires) (3, omega arith, refl)

pub unsigned-requires-clause-kind : goal.unsigned-requires-clause-kind
unfolding required kind_of
unsigned-requires-clause-kind c = search rules

pub unsigned-requires-2-clause-kind : goal.unsigned-requires-2-clause-kind
unfolding required kind_of
unsigned-requires-2-clause-kind c = search rules
