-- The grammar of datagrams, as a relation: whole messages one after another, of which the first is a header of the product.
use Rattle.std.specs.Prelude.{ℕ, ◌≡◌, ◌≤◌, List, [], ◌∷◌, Some, true, Contains, length, pos}
use Rattle.std.specs.List.{concat}
use Rattle.t7_layout.specs.declared.roles.Role.{Role}
use Rattle.t7_layout.specs.declared.roles.Role.TheVariants as role
use Rattle.t7_layout.specs.declared.roles.FieldName.TheVariants as name
use Rattle.t7_layout.specs.Layouts.{Layout}
use Rattle.t7_fields.specs.Messages.{value}
use Rattle.t7_base.specs.declared.ids.Channel.{Channel}
use Rattle.t7_eobi.specs.Datagrams.{as_role, body_of, in_channel, role_of}
use Rattle.t7_eobi.specs.Faults.{Reading, has_room}
use Rattle.t7_eobi.specs.Ranges.{IsSound}

-- a whole message: BodyLen says how many bytes it has, which are 8 at least
pub record IsWhole (message : List ℕ) : Type 0 where
  pub long : 8 ≤ length message
  pub said : body_of message ≡ length message

-- a header of a product: a whole message of PacketHeader's template, no shorter than that, whose fields are in their ranges
pub record IsHeader (layouts : List Layout) (segment : ℕ) (message : List ℕ) : Type 0 where
  pub whole : IsWhole message
  pub is : role_of layouts message ≡ Some role.PacketHeader
  pub room : has_room layouts role.PacketHeader message ≡ true
  pub sound : IsSound (as_role layouts role.PacketHeader message)
  pub product : value (as_role layouts role.PacketHeader message) name.MarketSegmentID ≡ pos segment

-- any other message of a channel: whole, no shorter than the template of its role if it has one, with the fields of a role of the channel in their ranges
pub record IsOther (layouts : List Layout) (channel : Channel) (message : List ℕ) : Type 0 where
  pub whole : IsWhole message
  pub room : (role : Role) → role_of layouts message ≡ Some role → has_room layouts role message ≡ true
  pub sound : (role : Role) → role_of layouts message ≡ Some role → in_channel channel role ≡ true → IsSound (as_role layouts role message)

-- a header, and other messages behind it
abbrev pub AreMessages : Reading → List (List ℕ) → Type 0
AreMessages x (header ∷ others) = IsHeader x.layouts x.segment header × ((message : List ℕ) → Contains others message → IsOther x.layouts x.channel message)
AreMessages x [] = ⊥

-- bytes are a datagram of these messages
pub record IsDatagram (x : Reading) (bytes : List ℕ) (messages : List (List ℕ)) : Type 0 where
  pub short : length bytes ≤ 1472
  pub joined : concat messages ≡ bytes
  pub each : AreMessages x messages
