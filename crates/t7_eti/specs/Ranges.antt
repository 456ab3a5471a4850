-- Which numbers the fields of a response may have.
use Rattle.std.specs.Prelude.{◌≡◌, ◌&&◌, not, List, Bool, true, Option, None, ℤ, pos, neg_ℤ, find}
use Rattle.std.specs.Option.{option_map_or}
use Rattle.std.specs.Int.Signed.{le_z}
use Rattle.t7_layout.specs.declared.roles.FieldName.{FieldName}
use Rattle.t7_layout.specs.declared.roles.FieldName.TheVariants as name
use Rattle.t7_fields.specs.Messages.{Message, said_number}
use Rattle.t7_eti.specs.Nulls.{HasFields, sought}

-- from one number to another
abbrev pub between : ℤ → ℤ → ℤ → Bool
between low high z = le_z low z && le_z z high

-- a number of the type that a response has for a field: of a reason, a time stamp, a quantity, a price or a side, and any number of the others
unfoldable pub in_range : FieldName → ℤ → Bool
in_range name.SessionRejectReason z = between (pos 1) (pos 17) z
in_range name.TrdRegTSTimePriority z = between (pos 1) (pos 9_223_372_036_854_775_807) z
in_range name.FillQty z = between (pos 1) (pos 1_000_000_000_000_000) z
in_range name.FillPx z = between (neg_ℤ (pos 100_000_000_000_000_000)) (pos 100_000_000_000_000_000) z
in_range name.Side z = between (pos 1) (pos 2) z
in_range other z = true

-- what a field says is in its range, where it says anything
unfoldable pub fits : FieldName → Option ℤ → Bool
fits name said_number = option_map_or (in_range name) said_number true

-- the first of these fields whose number is out of its range
unfoldable pub first_out : Message → List FieldName → Option FieldName
first_out m names = find (λ name. not (fits name (said_number m name))) names

-- each field that is looked for says a number of its range
pub record IsSound (m : Message) : Type 0 where
  pub whole : HasFields m
  pub ranged : first_out m (sought m.role) ≡ None
