-- Which fields a message of order entry has to say, and which of them say nothing.
use Rattle.std.specs.Prelude.{ℕ, ◌≡◌, List, Bool, true, false, Option, Some, ℤ, pos, is_some, drop, find, IfSome}
use Rattle.std.specs.Option.{option_map_or}
use Rattle.std.specs.Ordering.{int_eq}
use Rattle.t7_layout.specs.declared.roles.Role.{Role}
use Rattle.t7_layout.specs.declared.roles.Role.TheVariants as role
use Rattle.t7_layout.specs.declared.roles.FieldName.{FieldName}
use Rattle.t7_layout.specs.declared.roles.FieldName.TheVariants as name
use Rattle.t7_layout.specs.Layouts.{Layout}
use Rattle.t7_layout.specs.Lookups.{find_role, role_of_layout}
use Rattle.t7_layout.specs.Roles.{required}
use Rattle.t7_fields.specs.Messages.{Message, is_among, said_number}

-- a template is the one that the table has for its role, if it has a role, as each template of a table is
abbrev pub IsOwn : List Layout → Layout → Type 0
IsOwn layouts t = IfSome (role_of_layout t) (λ role. find_role layouts role ≡ Some t)

-- how many of the fields that a role requires are not looked for: BodyLen and TemplateID, and the MsgSeqNum of a Reject
unfoldable pub unsought : Role → ℕ
unsought role.Reject = 3
unsought other = 2

-- the fields that are looked for, in their order
unfoldable pub sought : Role → List FieldName
sought role = drop (unsought role) (required role)

-- each of them says something
pub record HasFields (m : Message) : Type 0 where
  pub each : (name : FieldName) → is_among name (sought m.role) ≡ true → is_some (said_number m name) ≡ true

-- a number that counts as null in a request, whatever null the table gives the field
unfoldable pub counts_as_null : FieldName → ℤ → Bool
counts_as_null name.MsgSeqNum z = int_eq z (pos 4_294_967_295)
counts_as_null name.ClOrdID z = int_eq z (pos 18_446_744_073_709_551_615)
counts_as_null other z = false

-- a field of a request says nothing, or a number that counts as null
unfoldable pub is_missing : Message → FieldName → Bool
is_missing m name = option_map_or (counts_as_null name) (said_number m name) true

-- the first such of these fields
unfoldable pub first_missing : Message → List FieldName → Option FieldName
first_missing m names = find (is_missing m) names
