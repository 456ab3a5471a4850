-- Live datagrams: a header, and live messages or a heartbeat behind it.
use Rattle.std.specs.Prelude.{◌≢◌, ℕ, ◌+◌, ◌-◌, List, [], ◌∷◌, ◌++◌, map}
use Rattle.std.specs.List.{concat}
use Rattle.t7_base.specs.declared.public.Public.{Public}
use Rattle.t7_base.specs.declared.public.Public.TheVariants as public
use Rattle.t7_layout.specs.declared.roles.Role.TheVariants as role
use Rattle.t7_layout.specs.Layouts.{Layout}
use Rattle.t7_eobi.specs.declared.walks.Live.{Live}
use Rattle.t7_eobi.specs.declared.walks.Live.TheVariants.{Message, Beat}
use Rattle.t7_eobi.specs.Bytes.{IsSecurity, beat_bytes, header_bytes, public_bytes, security_of}
use Rattle.t7_eobi.specs.Sizes.{role_size}

-- a live message that every table can write
pub record IsWritable (message : Public) : Type 0 where
  pub some : message ≢ public.Other
  pub security : IsSecurity (security_of message)

-- how many bytes the messages of a datagram may have together: the datagram's limit, less the header
abbrev pub room_in : List Layout → ℕ → ℕ
room_in layouts limit = limit - role_size layouts role.PacketHeader

-- live messages with their numbers, one after another from a first number on
abbrev pub numbered : ℕ → List Public → List Live
numbered first [] = []
numbered first (message ∷ messages) = Message first message ∷ numbered (first + 1) messages

-- a live datagram: its number, and its items
pub record Datagram : Type 0 where
  pub number : ℕ
  pub items : List Live

-- the bytes of an item
abbrev pub item_bytes : List Layout → Live → List ℕ
item_bytes layouts (Message number message) = public_bytes layouts number message
item_bytes layouts (Beat last) = beat_bytes layouts last

-- the bytes of a product's datagram: the header with its number, and its items
abbrev pub datagram_bytes : List Layout → ℕ → Datagram → List ℕ
datagram_bytes layouts segment d = header_bytes layouts segment d.number ++ concat (map (item_bytes layouts) d.items)

-- a datagram of live messages that are numbered from a first number on
abbrev pub of_messages : ℕ → ℕ → List Public → Datagram
of_messages number first messages = record { number = number; items = numbered first messages }

-- a datagram of one heartbeat, which names the last message
abbrev pub of_beat : ℕ → ℕ → Datagram
of_beat number last = record { number = number; items = Beat last ∷ [] }
