use Rattle.std.proofs.Common.{◌≡◌, ℕ, List, length, take}
use Rattle.t7_layout.specs.declared.roles.FieldName.{FieldName}
use Rattle.t7_layout.specs.declared.roles.Role.{Role}
use Rattle.t7_layout.specs.Layouts.{Layout}
use Rattle.t7_fields.specs.declared.writer.Scalar.{Scalar}
use Rattle.t7_fields.specs.Writing.{SaysSoFar}
use Rattle.t7_fields.proofs.saying.write.Given as goal

-- the fields so far are said, and there is as much room as there was
pub record SaysWithin (layouts : List Layout) (role : Role) (ps : List (FieldName × Scalar)) (old new : List ℕ) : Type 0 where
  pub said : SaysSoFar layouts role ps old new
  pub same_length : length new ≡ length old

abbrev pub invariant-loop-name : goal.invariant-loop-name
invariant-loop-name l = SaysWithin l.table l.role (take l.name-index l.fields) l.fn.out l.out
