-- The messages of a datagram: where one ends and the next begins, of which role each is, and what it says.
use Rattle.std.specs.Prelude.{ℕ, zero, suc, ◌-◌, ◌&&◌, ◌||◌, nat_lt, nat_le, if◌then◌else◌, List, [], ◌∷◌, Bool, true, false, Option, Some, None, nat_abs, length, take, drop}
use Rattle.std.specs.List.{filter_map}
use Rattle.std.specs.Option.{option_and_then, option_map_or}
use Rattle.byteorder.specs.Endian.{little_number}
use Rattle.t7_layout.specs.declared.words.Family.TheVariants.{Eobi}
use Rattle.t7_layout.specs.declared.roles.Role.{Role}
use Rattle.t7_layout.specs.declared.roles.Role.TheVariants as role
use Rattle.t7_layout.specs.declared.roles.FieldName.TheVariants as name
use Rattle.t7_layout.specs.Layouts.{Layout}
use Rattle.t7_layout.specs.Lookups.{find_template, role_of_layout}
use Rattle.t7_fields.specs.Spelling.{template_id}
use Rattle.t7_fields.specs.Messages.{Message, value}
use Rattle.t7_base.specs.declared.ids.Channel.{Channel}
use Rattle.t7_base.specs.declared.ids.Channel.TheVariants as channel
use Rattle.t7_base.specs.declared.public.Public.TheVariants as public
use Rattle.t7_eobi.specs.declared.walks.Live.{Live}
use Rattle.t7_eobi.specs.declared.walks.Live.TheVariants as live
use Rattle.t7_eobi.specs.declared.walks.Snap.{Snap}
use Rattle.t7_eobi.specs.Ranges.{is_live}
use Rattle.t7_eobi.specs.Records.{public_as, snap_as}

-- BodyLen, the first two bytes of a message: how many bytes it has
unfoldable pub body_of : List ℕ → ℕ
body_of rest = little_number 2 rest

-- bytes begin with no whole message: they are fewer than 8, or BodyLen is below 8 or over what is left
unfoldable pub is_cut : List ℕ → Bool
is_cut rest = nat_lt (length rest) 8 || (nat_lt (body_of rest) 8 || nat_lt (length rest) (body_of rest))

-- the message that bytes begin with
unfoldable pub front_message : List ℕ → List ℕ
front_message rest = take (body_of rest) rest

-- the messages of bytes, where so many bytes still belong to the message before
unfoldable pub messages_from : ℕ → List ℕ → List (List ℕ)
messages_from passing [] = []
messages_from (suc passing) (b ∷ bs) = messages_from passing bs
messages_from zero (b ∷ bs) = front_message (b ∷ bs) ∷ messages_from (body_of (b ∷ bs) - 1) bs

-- the messages of bytes, one after another
abbrev pub messages_of : List ℕ → List (List ℕ)
messages_of bytes = messages_from 0 bytes

-- the role of a message, by the template that its TemplateID names
unfoldable pub role_of : List Layout → List ℕ → Option Role
role_of layouts message = option_and_then role_of_layout (find_template layouts Eobi (template_id Eobi message))

-- a message as one of a role
abbrev pub as_role : List Layout → Role → List ℕ → Message
as_role layouts role message = record { layouts = layouts; role = role; bytes = message }

-- the roles of a channel behind the header
unfoldable pub in_channel : Channel → Role → Bool
in_channel channel.Live role.EobiHeartbeat = true
in_channel channel.Live other = is_live other
in_channel channel.Snap role.ProductSummary = true
in_channel channel.Snap role.InstrumentSummary = true
in_channel channel.Snap role.SnapshotOrder = true
in_channel channel.Snap other = false

-- any other message of the live channel has the number that bytes 4 to 7 spell, and none where that is 0 or 4,294,967,295
unfoldable pub other_of : List ℕ → Option Live
other_of message = let n = little_number 4 (drop 4 message) in if nat_le 1 n && nat_le n 4_294_967_294 then Some (live.Message n public.Other) else None

-- what a message of a role says on the live channel
unfoldable pub live_as : List Layout → Role → List ℕ → Option Live
live_as layouts role message =
    if is_live role then Some (live.Message (nat_abs (value (as_role layouts role message) name.MsgSeqNum)) (public_as role (as_role layouts role message)))
    else if in_channel channel.Live role then Some (live.Beat (nat_abs (value (as_role layouts role message) name.LastMsgSeqNumProcessed)))
    else other_of message

-- what a message behind the header says on the live channel
unfoldable pub live_of : List Layout → List ℕ → Option Live
live_of layouts message = option_map_or (λ role. live_as layouts role message) (role_of layouts message) (other_of message)

-- what it says on the snapshot channel; messages of no role of it are skipped
unfoldable pub snap_of : List Layout → List ℕ → Option Snap
snap_of layouts message =
    option_and_then (λ role. if in_channel channel.Snap role then Some (snap_as role (as_role layouts role message)) else None) (role_of layouts message)

-- what is left of a datagram, to be read by a table
pub record Walk : Type 0 where
  pub layouts : List Layout
  pub rest : List ℕ

-- the items that are left on the live channel
abbrev pub lives_left : Walk → List Live
lives_left w = filter_map (live_of w.layouts) (messages_of w.rest)

-- the items that are left on the snapshot channel
abbrev pub snaps_left : Walk → List Snap
snaps_left w = filter_map (snap_of w.layouts) (messages_of w.rest)

-- the bytes behind a datagram's header
abbrev pub behind : List ℕ → List ℕ
behind bytes = drop (body_of bytes) bytes

-- the items of a live datagram, in order
abbrev pub lives_of : List Layout → List ℕ → List Live
lives_of layouts bytes = lives_left (record { layouts = layouts; rest = behind bytes })

-- the items of a snapshot datagram, in order
abbrev pub snaps_of : List Layout → List ℕ → List Snap
snaps_of layouts bytes = snaps_left (record { layouts = layouts; rest = behind bytes })

-- ApplSeqNum, the number of a datagram in its channel
unfoldable pub packet_number : List Layout → List ℕ → ℕ
packet_number layouts bytes = nat_abs (value (as_role layouts role.PacketHeader (front_message bytes)) name.ApplSeqNum)
