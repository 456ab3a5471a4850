-- Which fault bytes are refused for, and at which place, in the words of the grammar: sound messages stand before the place, and what stands there
-- fails the test.
use Rattle.std.specs.Prelude.{◌≡◌, ◌≢◌, ℕ, ◌<◌, ◌≤◌, ◌++◌, ◌⊎◌, List, [], ◌∷◌, true, false, Some, None, IsSome, length, pos}
use Rattle.std.specs.List.{concat}
use Rattle.t7_layout.specs.declared.roles.Role.{Role}
use Rattle.t7_layout.specs.declared.roles.Role.TheVariants as role
use Rattle.t7_layout.specs.declared.roles.FieldName.TheVariants as name
use Rattle.t7_layout.specs.Layouts.{Layout}
use Rattle.t7_fields.specs.Messages.{first_unset, value}
use Rattle.t7_base.specs.declared.ids.Channel.{Channel}
use Rattle.t7_eobi.specs.declared.faults.PacketWhy.{PacketWhy}
use Rattle.t7_eobi.specs.declared.faults.PacketWhy.TheVariants as why
use Rattle.t7_eobi.specs.declared.faults.PacketFault.{PacketFault}
use Rattle.t7_eobi.specs.Datagrams.{as_role, in_channel, is_cut, front_message, role_of}
use Rattle.t7_eobi.specs.Faults.{Reading, fault_at, has_room}
use Rattle.t7_eobi.specs.Grammar.{AreMessages}
use Rattle.t7_eobi.specs.Ranges.{IsSound, counted, first_out}

-- the test that a message of a role fails: it is shorter than the template; or a field that counts says no number; or all do, and one is out of its range
abbrev pub FailsAs : List Layout → Role → List ℕ → PacketWhy → Type 0
FailsAs layouts role message why.Length = has_room layouts role message ≡ false
FailsAs layouts role message why.Null = (has_room layouts role message ≡ true) × IsSome (first_unset (as_role layouts role message) (counted role))
FailsAs layouts role message why.Value =
    (has_room layouts role message ≡ true) × (first_unset (as_role layouts role message) (counted role) ≡ None) × IsSome (first_out (as_role layouts role message) (counted role))
FailsAs layouts role message other = ⊥

-- the test that the message at place 0 fails: it is no header; or it fails one as a header; or it is a sound header of another product
abbrev pub FailsHeader : Reading → List ℕ → PacketWhy → Type 0
FailsHeader x message why.NoHeader = role_of x.layouts message ≢ Some role.PacketHeader
FailsHeader x message why.Product =
    (role_of x.layouts message ≡ Some role.PacketHeader) × (has_room x.layouts role.PacketHeader message ≡ true)
    × IsSound (as_role x.layouts role.PacketHeader message) × (value (as_role x.layouts role.PacketHeader message) name.MarketSegmentID ≢ pos x.segment)
FailsHeader x message other = (role_of x.layouts message ≡ Some role.PacketHeader) × FailsAs x.layouts role.PacketHeader message other

-- the length of a message of any role is looked at, its fields only where the role is one of the channel
abbrev pub LooksAt : Channel → Role → PacketWhy → Type 0
LooksAt channel role why.Length = Unit {0}
LooksAt channel role other = in_channel channel role ≡ true

-- the test that a message behind the header fails, as one of its role
abbrev pub FailsOther : Reading → List ℕ → PacketWhy → Type 0
FailsOther x message why = (role : Role) × (role_of x.layouts message ≡ Some role) × LooksAt x.channel role why × FailsAs x.layouts role message why

-- at the front of bytes stands no whole message, or one that fails a test
abbrev pub FailsFirst : Reading → List ℕ → PacketWhy → Type 0
FailsFirst x rest why.Cut = is_cut rest ≡ true
FailsFirst x rest other = (is_cut rest ≡ false) × FailsHeader x (front_message rest) other

-- the same of what is left behind messages, where something is
abbrev pub FailsNext : Reading → List ℕ → PacketWhy → Type 0
FailsNext x rest why.Cut = (0 < length rest) × (is_cut rest ≡ true)
FailsNext x rest other = (0 < length rest) × (is_cut rest ≡ false) × FailsOther x (front_message rest) other

-- what stands behind these messages fails a test
abbrev pub FailsBehind : Reading → List (List ℕ) → List ℕ → PacketWhy → Type 0
FailsBehind x [] rest why = FailsFirst x rest why
FailsBehind x (header ∷ others) rest why = FailsNext x rest why

-- none, or a sound header and sound messages behind it
abbrev pub AreSoundSoFar : Reading → List (List ℕ) → Type 0
AreSoundSoFar x [] = Unit {0}
AreSoundSoFar x (header ∷ others) = AreMessages x (header ∷ others)

-- a fault behind sound messages, at the place where they end
pub record IsFaultBehind (x : Reading) (bytes : List ℕ) (fault : PacketFault) : Type 0 where
  pub short : length bytes ≤ 1472
  pub front : List (List ℕ)
  pub rest : List ℕ
  pub split : concat front ++ rest ≡ bytes
  pub sound : AreSoundSoFar x front
  pub place : fault.place ≡ length (concat front)
  pub fails : FailsBehind x front rest fault.why

-- the first fault of bytes: they are too long for a datagram, or there is a fault behind sound messages
abbrev pub IsFirstFault : Reading → List ℕ → PacketFault → Type 0
IsFirstFault x bytes fault = ((1472 < length bytes) × (fault ≡ fault_at 1472 why.TooLong)) ⊎ IsFaultBehind x bytes fault
