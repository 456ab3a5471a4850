-- The numbers of items are in their ranges.
use Rattle.std.proofs.Common.{◌≡◌, ◌≤◌, ◌&&◌, ℕ, suc, Bool, true, false, List, [], ◌∷◌, Option, Some, None, drop, refl, sym, subst, cond, arith, nat_le, nat_abs}
use Rattle.std.specs.Prelude.{Contains}
use Rattle.std.specs.List.{All, filter_map}
use Rattle.std.specs.Option.{option_and_then, option_map_or}
use Rattle.std.proofs.lemmas.Bool.Decides.{nat_tests}
use Rattle.std.proofs.lemmas.List.Elements.{All-cons, All-nil}
use Rattle.byteorder.specs.Endian.{little_number}
use Rattle.t7_layout.specs.declared.roles.Role.{Role}
use Rattle.t7_layout.specs.declared.roles.Role.TheVariants as role
use Rattle.t7_layout.specs.declared.roles.FieldName.TheVariants as name
use Rattle.t7_layout.specs.Layouts.{Layout}
use Rattle.t7_layout.specs.Roles.{name_number, required}
use Rattle.t7_fields.specs.Messages.{Message, is_among, value}
use Rattle.t7_base.specs.declared.ids.Channel.TheVariants as channel
use Rattle.t7_base.specs.declared.public.Public.TheVariants as public
use Rattle.t7_eobi.specs.declared.ranges.Range.TheVariants as range
use Rattle.t7_eobi.specs.declared.walks.Live.{Live}
use Rattle.t7_eobi.specs.declared.walks.Live.TheVariants as live
use Rattle.t7_eobi.specs.declared.walks.Snap.{Snap}
use Rattle.t7_eobi.specs.Bytes.{IsLiveItem, IsSequence, IsSnapItem}
use Rattle.t7_eobi.specs.Datagrams.{as_role, behind, in_channel, live_as, live_of, lives_of, messages_of, other_of, role_of, snap_of, snaps_of}
use Rattle.t7_eobi.specs.Faults.{Reading, fault_of}
use Rattle.t7_eobi.specs.Grammar.{IsOther}
use Rattle.t7_eobi.specs.Ranges.{IsSound, counted, is_live, range_of}
use Rattle.t7_eobi.specs.Records.{public_as, snap_as}
use Rattle.t7_eobi.proofs.GrammarFacts.{others_behind}
use Rattle.t7_eobi.proofs.MessageFacts.{beat_is, live_counts, live_in}
use Rattle.t7_eobi.proofs.RangeFacts.{both, counts, last_abs, seq_abs, sound_range}

each_mapped : {X Y : Type 0} (h : X → Option Y) (P : Y → Type 0) (xs : List X) → ((x : X) → Contains xs x → (y : Y) → h x ≡ Some y → P y) → All P (filter_map h xs)
each_mapped h P [] each = All-nil P
each_mapped {Y = Y} h P (x ∷ xs) each = by (h x) refl (each_mapped h P xs (λ z (k, inside, is). each z (suc k, omega arith, is)))
  where
    by : (o : Option Y) → h x ≡ o → All P (filter_map h xs) → All P (filter_map h (x ∷ xs))
    by None e rest = rw e rest
    by (Some y) e rest = rw e (All-cons P y (filter_map h xs) (each x (0, omega arith, refl) y e) rest)

-- ---- the live channel

live_number : (m : Message) → IsSound m → is_live m.role ≡ true → IsSequence (nat_abs (value m name.MsgSeqNum))
unfolding range_of
live_number m h l = seq_abs (value m name.MsgSeqNum) (sound_range m name.MsgSeqNum range.Sequence h (counts m.role name.MsgSeqNum (live_counts m.role l)) refl)

beat_number : (ls : List Layout) (bytes : List ℕ) → IsSound (as_role ls role.EobiHeartbeat bytes) → nat_abs (value (as_role ls role.EobiHeartbeat bytes) name.LastMsgSeqNumProcessed) ≤ 4_294_967_294
unfolding range_of counted required is_live is_among name_number
beat_number ls bytes h =
    let m : Message = as_role ls role.EobiHeartbeat bytes in
    last_abs (value m name.LastMsgSeqNumProcessed) (sound_range m name.LastMsgSeqNumProcessed range.Processed h (counts role.EobiHeartbeat name.LastMsgSeqNumProcessed refl) refl)

other_ranged : (m : List ℕ) (item : Live) → other_of m ≡ Some item → IsLiveItem item
unfolding other_of
other_ranged m item e = by (little_number 4 (drop 4 m)) (nat_le 1 (little_number 4 (drop 4 m)) && nat_le (little_number 4 (drop 4 m)) 4_294_967_294) refl e
  where
    low : (n : ℕ) → nat_le 1 n ≡ true → 1 ≤ n
    low n t = grind (arith, nat_tests)

    high : (n : ℕ) → nat_le n 4_294_967_294 ≡ true → n ≤ 4_294_967_294
    high n t = grind (arith, nat_tests)

    by : (n : ℕ) (b : Bool) → (nat_le 1 n && nat_le n 4_294_967_294) ≡ b → cond b (Some (live.Message n public.Other)) None ≡ Some item → IsLiveItem item
    by n true t e =
        let (l, h) = both (nat_le 1 n) (nat_le n 4_294_967_294) t in
        let same : live.Message n public.Other ≡ item = cc e in
        subst IsLiveItem same (low n l, high n h)
    by n false t e = cc e

live_ranged : (ls : List Layout) (m : List ℕ) (item : Live) → IsOther ls channel.Live m → live_of ls m ≡ Some item → IsLiveItem item
unfolding live_of live_as
live_ranged ls m item h e = by (role_of ls m) refl e
  where
    beat : (r : Role) (b : Bool) → in_channel channel.Live r ≡ b → role_of ls m ≡ Some r → is_live r ≡ false
        → cond b (Some (live.Beat (nat_abs (value (as_role ls r m) name.LastMsgSeqNumProcessed)))) (other_of m) ≡ Some item → IsLiveItem item
    beat r true inside is l e =
        let same : live.Beat (nat_abs (value (as_role ls r m) name.LastMsgSeqNumProcessed)) ≡ item = cc e in
        let P : Role → Type 0 = λ k. IsSound (as_role ls k m) → nat_abs (value (as_role ls k m) name.LastMsgSeqNumProcessed) ≤ 4_294_967_294 in
        subst IsLiveItem same (subst P (sym (beat_is r l inside)) (beat_number ls m) (h.sound r is inside))
    beat r false inside is l e = other_ranged m item e

    message : (r : Role) (b : Bool) → is_live r ≡ b → role_of ls m ≡ Some r
        → cond b (Some (live.Message (nat_abs (value (as_role ls r m) name.MsgSeqNum)) (public_as r (as_role ls r m))))
        (cond (in_channel channel.Live r) (Some (live.Beat (nat_abs (value (as_role ls r m) name.LastMsgSeqNumProcessed)))) (other_of m)) ≡ Some item → IsLiveItem item
    message r true l is e =
        let same : live.Message (nat_abs (value (as_role ls r m) name.MsgSeqNum)) (public_as r (as_role ls r m)) ≡ item = cc e in
        subst IsLiveItem same (live_number (as_role ls r m) (h.sound r is (live_in r l)) l)
    message r false l is e = beat r (in_channel channel.Live r) refl is l e

    by : (o : Option Role) → role_of ls m ≡ o → option_map_or (λ (r : Role). live_as ls r m) o (other_of m) ≡ Some item → IsLiveItem item
    by None is e = other_ranged m item e
    by (Some r) is e = message r (is_live r) refl is e

pub lives_ranged : (x : Reading) (bytes : List ℕ) → fault_of x bytes ≡ None → x.channel ≡ channel.Live → All IsLiveItem (lives_of x.layouts bytes)
lives_ranged x bytes e k =
    each_mapped (live_of x.layouts) IsLiveItem (messages_of (behind bytes)) (λ m there item is. live_ranged x.layouts m item (others_behind x channel.Live bytes e k m there) is)

-- ---- the snapshot channel

snap_last : (r : Role) (ls : List Layout) (bytes : List ℕ) → in_channel channel.Snap r ≡ true → IsSound (as_role ls r bytes) → IsSnapItem (snap_as r (as_role ls r bytes))
unfolding range_of counted required is_live is_among name_number snap_as in_channel
snap_last role.ProductSummary ls bytes inside h =
    let m : Message = as_role ls role.ProductSummary bytes in
    last_abs (value m name.LastMsgSeqNumProcessed) (sound_range m name.LastMsgSeqNumProcessed range.Processed h (counts role.ProductSummary name.LastMsgSeqNumProcessed refl) refl)
snap_last role.InstrumentSummary ls bytes inside h = tt
snap_last role.SnapshotOrder ls bytes inside h = tt
snap_last other ls bytes inside h = cc inside

snap_ranged : (ls : List Layout) (m : List ℕ) (item : Snap) → IsOther ls channel.Snap m → snap_of ls m ≡ Some item → IsSnapItem item
unfolding snap_of
snap_ranged ls m item h e = by (role_of ls m) refl e
  where
    inner : (r : Role) (b : Bool) → in_channel channel.Snap r ≡ b → role_of ls m ≡ Some r → cond b (Some (snap_as r (as_role ls r m))) None ≡ Some item → IsSnapItem item
    inner r true inside is e = let same : snap_as r (as_role ls r m) ≡ item = cc e in subst IsSnapItem same (snap_last r ls m inside (h.sound r is inside))
    inner r false inside is e = cc e

    by : (o : Option Role) → role_of ls m ≡ o → option_and_then (λ (r : Role). cond (in_channel channel.Snap r) (Some (snap_as r (as_role ls r m))) None) o ≡ Some item → IsSnapItem item
    by None is e = cc e
    by (Some r) is e = inner r (in_channel channel.Snap r) refl is e

pub snaps_ranged : (x : Reading) (bytes : List ℕ) → fault_of x bytes ≡ None → x.channel ≡ channel.Snap → All IsSnapItem (snaps_of x.layouts bytes)
snaps_ranged x bytes e k =
    each_mapped (snap_of x.layouts) IsSnapItem (messages_of (behind bytes)) (λ m there item is. snap_ranged x.layouts m item (others_behind x channel.Snap bytes e k m there) is)
