-- Facts about the walk over a datagram.
use Rattle.std.proofs.Common.{◌≡◌, ◌<◌, ◌+◌, ◌∙◌, ℕ, Bool, true, false, List, [], ◌∷◌, Option, Some, None, length, drop, refl, sym, ap, cond, arith, not, nat_lt}
use Rattle.std.specs.Prelude.{option_map}
use Rattle.std.specs.Option.{option_map_or, option_or}
use Rattle.t7_layout.specs.declared.roles.Role.{Role}
use Rattle.t7_layout.specs.declared.roles.Role.TheVariants as role
use Rattle.t7_layout.specs.Layouts.{Layout}
use Rattle.t7_base.specs.declared.ids.Channel.{Channel}
use Rattle.t7_eobi.specs.declared.faults.PacketWhy.{PacketWhy}
use Rattle.t7_eobi.specs.declared.faults.PacketWhy.TheVariants as why
use Rattle.t7_eobi.specs.Datagrams.{as_role, behind, body_of, in_channel, is_cut, front_message, messages_from, role_of}
use Rattle.t7_eobi.specs.Faults.{Reading, fault_at, fault_from, fault_of, has_room, header_fault, is_header, message_fault, names_product, role_fault}
use Rattle.t7_eobi.specs.Ranges.{IsSound}
use Rattle.t7_eobi.proofs.FaultFacts.{chosen, cut_stops, fault_goes, fault_moves, fault_stops, faultless_sound, header_is, messages_unroll, not_cut, not_false}

pub room_role : (ls : List Layout) (c : Channel) (r : Role) (message : List ℕ) → role_fault ls c r message ≡ None → has_room ls r message ≡ true
unfolding role_fault
room_role ls c r message e = not_false (has_room ls r message) (chosen (not (has_room ls r message)) why.Length _ e).0

pub sound_role : (ls : List Layout) (c : Channel) (r : Role) (message : List ℕ) → role_fault ls c r message ≡ None → in_channel c r ≡ true → IsSound (as_role ls r message)
unfolding role_fault
sound_role ls c r message e inside =
    let a = (chosen (not (has_room ls r message)) why.Length _ e).1 in
    faultless_sound (as_role ls r message) (rw inside at a)

-- where nothing that is left has a fault, the first message is whole and has none
pub walk_whole : (ls : List Layout) (c : Channel) (place : ℕ) (rest : List ℕ) → fault_from ls c place 0 rest ≡ None → 0 < length rest → is_cut rest ≡ false
walk_whole ls c place rest e h = by (is_cut rest) refl
  where
    by : (b : Bool) → is_cut rest ≡ b → b ≡ false
    by true cut = cc (e, cut_stops ls c place rest h cut)
    by false cut = refl

pub walk_passes : (ls : List Layout) (c : Channel) (place : ℕ) (rest : List ℕ) → fault_from ls c place 0 rest ≡ None → 0 < length rest → message_fault ls c (front_message rest) ≡ None
walk_passes ls c place rest e h = by (message_fault ls c (front_message rest)) refl
  where
    by : (o : Option PacketWhy) → message_fault ls c (front_message rest) ≡ o → o ≡ None
    by None m = refl
    by (Some w) m = cc (e, fault_stops ls c place rest w h (walk_whole ls c place rest e h) m)

pub walk_goes : (ls : List Layout) (c : Channel) (rest : List ℕ) → fault_from ls c 0 0 rest ≡ None → 0 < length rest → fault_from ls c 0 0 (drop (body_of rest) rest) ≡ None
walk_goes ls c rest e h =
    fault_moves ls c (0 + body_of rest) 0 0 (drop (body_of rest) rest) (sym (fault_goes ls c 0 rest h (walk_whole ls c 0 rest e h) (walk_passes ls c 0 rest e h)) ∙ e)

pub walk_ends : (rest : List ℕ) → length rest ≡ 0 → messages_from 0 rest ≡ []
unfolding messages_from
walk_ends [] h = refl
walk_ends (b ∷ bs) h = absurd (omega arith)

pub messages_first : (ls : List Layout) (c : Channel) (rest : List ℕ) → fault_from ls c 0 0 rest ≡ None → 0 < length rest
    → messages_from 0 rest ≡ front_message rest ∷ messages_from 0 (drop (body_of rest) rest)
messages_first ls c rest e h = let bounds = not_cut rest (walk_whole ls c 0 rest e h) in messages_unroll rest h (omega arith)

-- ---- a datagram without a fault

either : {A : Type 0} (a b : Option A) → option_or a b ≡ None → (a ≡ None) × (b ≡ None)
either None b e = (refl, e)
either (Some x) b e = cc e

unmapped : {A B : Type 0} (f : A → B) (o : Option A) → option_map f o ≡ None → o ≡ None
unmapped f None e = refl
unmapped f (Some x) e = cc e

-- a datagram without a fault begins with a whole header, and nothing behind it has a fault
pub record Faultless (x : Reading) (bytes : List ℕ) : Type 0 where
  pub short : nat_lt 1472 (length bytes) ≡ false
  pub whole : is_cut bytes ≡ false
  pub header : header_fault x.layouts x.segment (front_message bytes) ≡ None
  pub behind : fault_from x.layouts x.channel (body_of bytes) 0 (behind bytes) ≡ None

pub faultless : (x : Reading) (bytes : List ℕ) → fault_of x bytes ≡ None → Faultless x bytes
unfolding fault_of
faultless x bytes e =
    let (short, d) = chosen (nat_lt 1472 (length bytes)) (fault_at 1472 why.TooLong) _ e in
    let (whole, f) = chosen (is_cut bytes) (fault_at 0 why.Cut) _ d in
    let (h, r) = either _ _ f in
    record { short = short; whole = whole; header = unmapped (fault_at 0) _ h; behind = r }

-- a header without a fault
pub record Headed (ls : List Layout) (segment : ℕ) (message : List ℕ) : Type 0 where
  pub is : role_of ls message ≡ Some role.PacketHeader
  pub room : has_room ls role.PacketHeader message ≡ true
  pub sound : IsSound (as_role ls role.PacketHeader message)
  pub product : names_product segment (as_role ls role.PacketHeader message) ≡ true

pub headed : (ls : List Layout) (segment : ℕ) (message : List ℕ) → header_fault ls segment message ≡ None → Headed ls segment message
unfolding header_fault
headed ls segment message e =
    let (there, a) = chosen (not (option_map_or is_header (role_of ls message) false)) why.NoHeader _ e in
    let (room, b) = chosen (not (has_room ls role.PacketHeader message)) why.Length _ a in
    let (fields, product) = either _ _ b in
    record {
      is = of_header (role_of ls message) (not_false _ there);
      room = not_false _ room;
      sound = faultless_sound _ fields;
      product = named _ product;
    }
  where
    of_header : (o : Option Role) → option_map_or is_header o false ≡ true → o ≡ Some role.PacketHeader
    of_header None e = cc e
    of_header (Some r) e = ap (λ (k : Role). Some k) (header_is r e)

    named : (b : Bool) → cond b None (Some why.Product) ≡ None → b ≡ true
    named true e = refl
    named false e = cc e

-- nothing behind the header has a fault
pub left_behind : (x : Reading) (c : Channel) (bytes rest : List ℕ) → fault_of x bytes ≡ None → x.channel ≡ c → rest ≡ behind bytes → fault_from x.layouts c 0 0 rest ≡ None
left_behind x c bytes rest e k r =
    let f = fault_moves x.layouts x.channel (body_of bytes) 0 0 (behind bytes) (faultless x bytes e).behind in
    rw (r, ← k) f

pub whole_here : (x : Reading) (bytes : List ℕ) → fault_of x bytes ≡ None → is_cut bytes ≡ false
whole_here x bytes e = (faultless x bytes e).whole

pub header_here : (x : Reading) (bytes : List ℕ) → fault_of x bytes ≡ None → Headed x.layouts x.segment (front_message bytes)
header_here x bytes e = headed x.layouts x.segment (front_message bytes) (faultless x bytes e).header
