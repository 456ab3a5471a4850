-- How many bytes a message has when it is written.
use Rattle.std.specs.Prelude.{ℕ, List}
use Rattle.t7_base.specs.declared.public.Public.{Public}
use Rattle.t7_layout.specs.Layouts.{Layout}
use Rattle.t7_eobi.specs.declared.walks.Snap.{Snap}
pub use Rattle.t7_fields.specs.Writing.{role_size}
use Rattle.t7_eobi.specs.Bytes.{role_for, snap_role}

-- how many bytes a live message has
abbrev pub message_size : List Layout → Public → ℕ
message_size layouts message = role_size layouts (role_for message)

-- how many bytes an item of a snapshot has
abbrev pub snap_size : List Layout → Snap → ℕ
snap_size layouts item = role_size layouts (snap_role item)
