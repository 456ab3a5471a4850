-- Which numbers the fields of market data may have.
use Rattle.std.specs.Prelude.{◌≡◌, ◌&&◌, not, if◌then◌else◌, List, Bool, true, false, Option, None, ℤ, pos, neg_ℤ, drop, find}
use Rattle.std.specs.Option.{option_map_or}
use Rattle.std.specs.Int.Signed.{le_z}
use Rattle.t7_layout.specs.declared.roles.Role.{Role}
use Rattle.t7_layout.specs.declared.roles.Role.TheVariants.{OrderAdd, OrderModify, OrderModifySamePriority, OrderDelete, OrderMassDelete, PartialOrderExecution, FullOrderExecution, ExecutionSummary}
use Rattle.t7_layout.specs.declared.roles.FieldName.{FieldName}
use Rattle.t7_layout.specs.declared.roles.FieldName.TheVariants as name
use Rattle.t7_layout.specs.Roles.{required}
use Rattle.t7_fields.specs.Messages.{Message, first_unset, said_number}
use Rattle.t7_eobi.specs.declared.ranges.Range.{Range}
use Rattle.t7_eobi.specs.declared.ranges.Range.TheVariants as range

-- the range of a field's numbers: message numbers, the number of the last message, sides, prices, quantities and time stamps
unfoldable pub range_of : FieldName → Range
range_of name.ApplSeqNum = range.Sequence
range_of name.MsgSeqNum = range.Sequence
range_of name.LastMsgSeqNumProcessed = range.Processed
range_of name.Side = range.Side
range_of name.AggressorSide = range.Side
range_of name.Price = range.Price
range_of name.PrevPrice = range.Price
range_of name.LastPx = range.Price
range_of name.DisplayQty = range.Quantity
range_of name.PrevDisplayQty = range.Quantity
range_of name.LastQty = range.Quantity
range_of name.TrdRegTSTimePriority = range.Stamp
range_of name.TrdRegTSPrevTimePriority = range.Stamp
range_of name.AggressorTime = range.Stamp
range_of other = range.Any

-- from one number to another
abbrev pub between : ℤ → ℤ → ℤ → Bool
between low high z = le_z low z && le_z z high

-- a number of a range
unfoldable pub in_range : Range → ℤ → Bool
in_range range.Any z = true
in_range range.Sequence z = between (pos 1) (pos 4_294_967_294) z
in_range range.Processed z = between (pos 0) (pos 4_294_967_294) z
in_range range.Side z = between (pos 1) (pos 2) z
in_range range.Price z = between (neg_ℤ (pos 100_000_000_000_000_000)) (pos 100_000_000_000_000_000) z
in_range range.Quantity z = between (pos 1) (pos 1_000_000_000_000_000) z
in_range range.Stamp z = between (pos 1) (pos 9_223_372_036_854_775_807) z

-- what a field says is in its range; a field that says nothing is in no range's way
unfoldable pub fits : FieldName → Option ℤ → Bool
fits name said_number = option_map_or (in_range (range_of name)) said_number true

-- the roles of live messages
unfoldable pub is_live : Role → Bool
is_live OrderAdd = true
is_live OrderModify = true
is_live OrderModifySamePriority = true
is_live OrderDelete = true
is_live OrderMassDelete = true
is_live PartialOrderExecution = true
is_live FullOrderExecution = true
is_live ExecutionSummary = true
is_live other = false

-- the fields that count: all that the role requires but BodyLen, TemplateID and, where the message isn't live, MsgSeqNum
unfoldable pub counted : Role → List FieldName
counted role = drop (if is_live role then 2 else 3) (required role)

-- the first of these fields whose number is out of its range
unfoldable pub first_out : Message → List FieldName → Option FieldName
first_out m names = find (λ name. not (fits name (said_number m name))) names

-- each field that counts says a number of its range
pub record IsSound (m : Message) : Type 0 where
  pub set : first_unset m (counted m.role) ≡ None
  pub ranged : first_out m (counted m.role) ≡ None
