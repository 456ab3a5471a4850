-- What is wrong with bytes that are no datagram of a channel: the first test that fails, from the front, and its place.
use Rattle.std.specs.Prelude.{ℕ, zero, suc, ◌+◌, ◌-◌, nat_lt, nat_le, not, if◌then◌else◌, List, [], ◌∷◌, Bool, true, false, Option, Some, None, pos, is_some, option_map, length, codes}
use Rattle.std.specs.Option.{option_map_or, option_or}
use Rattle.std.specs.Ordering.{int_eq}
use Rattle.t7_layout.specs.declared.roles.Role.{Role}
use Rattle.t7_layout.specs.declared.roles.Role.TheVariants as role
use Rattle.t7_layout.specs.declared.roles.FieldName.TheVariants as name
use Rattle.t7_layout.specs.Layouts.{Layout}
use Rattle.t7_layout.specs.Lookups.{find_role}
use Rattle.t7_fields.specs.Messages.{Message, first_unset, value}
use Rattle.t7_base.specs.declared.ids.Channel.{Channel}
use Rattle.t7_eobi.specs.declared.faults.PacketWhy.{PacketWhy}
use Rattle.t7_eobi.specs.declared.faults.PacketWhy.TheVariants as why
use Rattle.t7_eobi.specs.declared.faults.PacketFault.{PacketFault}
use Rattle.t7_eobi.specs.Datagrams.{as_role, behind, body_of, in_channel, is_cut, front_message, role_of}
use Rattle.t7_eobi.specs.Ranges.{counted, first_out}

-- the word for a reason
unfoldable pub why_text : PacketWhy → List ℕ
why_text why.TooLong = codes "too long"
why_text why.Cut = codes "cut"
why_text why.NoHeader = codes "no header"
why_text why.Length = codes "length"
why_text why.Null = codes "null"
why_text why.Value = codes "value"
why_text why.Product = codes "product"

-- what datagrams are read by: a layout table, the MarketSegmentID of a product, and a channel
pub record Reading : Type 0 where
  pub layouts : List Layout
  pub segment : ℕ
  pub channel : Channel

-- a message is no shorter than the template of a role
unfoldable pub has_room : List Layout → Role → List ℕ → Bool
has_room layouts role message = option_map_or (λ (t : Layout). nat_le t.size (length message)) (find_role layouts role) false

-- a role is that of the header
unfoldable pub is_header : Role → Bool
is_header role.PacketHeader = true
is_header other = false

-- the first test that the fields of a message fail: each that counts says a number, and that number is in its range
unfoldable pub fields_fault : Message → Option PacketWhy
fields_fault m =
    if is_some (first_unset m (counted m.role)) then Some why.Null
    else if is_some (first_out m (counted m.role)) then Some why.Value
    else None

-- a header names a product
unfoldable pub names_product : ℕ → Message → Bool
names_product segment m = int_eq (value m name.MarketSegmentID) (pos segment)

-- the first test that the message at place 0 fails
unfoldable pub header_fault : List Layout → ℕ → List ℕ → Option PacketWhy
header_fault layouts segment message =
    if not (option_map_or is_header (role_of layouts message) false) then Some why.NoHeader
    else if not (has_room layouts role.PacketHeader message) then Some why.Length
    else option_or (fields_fault (as_role layouts role.PacketHeader message))
    (if names_product segment (as_role layouts role.PacketHeader message) then None else Some why.Product)

-- the first test that a message of a role fails behind the header; the fields of another channel's roles are not looked at
unfoldable pub role_fault : List Layout → Channel → Role → List ℕ → Option PacketWhy
role_fault layouts channel role message =
    if not (has_room layouts role message) then Some why.Length
    else if in_channel channel role then fields_fault (as_role layouts role message)
    else None

-- the first test that a message behind the header fails; one of no role fails none
unfoldable pub message_fault : List Layout → Channel → List ℕ → Option PacketWhy
message_fault layouts channel message = option_map_or (λ role. role_fault layouts channel role message) (role_of layouts message) None

-- a fault at a place
abbrev pub fault_at : ℕ → PacketWhy → PacketFault
fault_at place why = record { why = why; place = place }

-- the fault of the message at a place, with which these bytes begin
unfoldable pub fault_here : List Layout → Channel → ℕ → List ℕ → Option PacketFault
fault_here layouts channel place rest =
    if is_cut rest then Some (fault_at place why.Cut) else option_map (fault_at place) (message_fault layouts channel (front_message rest))

-- the first fault behind the header, where so many bytes still belong to the message before
unfoldable pub fault_from : List Layout → Channel → ℕ → ℕ → List ℕ → Option PacketFault
fault_from layouts channel place passing [] = None
fault_from layouts channel place (suc passing) (b ∷ bs) = fault_from layouts channel (place + 1) passing bs
fault_from layouts channel place zero (b ∷ bs) =
    option_or (fault_here layouts channel place (b ∷ bs)) (fault_from layouts channel (place + 1) (body_of (b ∷ bs) - 1) bs)

-- the first fault of bytes that are read as a datagram
unfoldable pub fault_of : Reading → List ℕ → Option PacketFault
fault_of x bytes =
    if nat_lt 1472 (length bytes) then Some (fault_at 1472 why.TooLong)
    else if is_cut bytes then Some (fault_at 0 why.Cut)
    else option_or (option_map (fault_at 0) (header_fault x.layouts x.segment (front_message bytes)))
    (fault_from x.layouts x.channel (body_of bytes) 0 (behind bytes))

-- a datagram that was read
pub record Datagram : Type 0 where
  pub reading : Reading
  pub bytes : List ℕ
