-- What is written of a message is read as that message.
use Rattle.std.proofs.Common.{◌≡◌, ◌≢◌, ◌≤◌, ◌∙◌, ◌++◌, ℕ, zero, suc, true, List, [], ◌∷◌, Option, Some, None, length, map, drop, refl, sym, ap, subst, arith, nat_le, slice_get}
use Rattle.std.proofs.Common.{length-append, length-drop}
use Rattle.std.specs.Prelude.{ℤ, pos, negsuc, neg_ℤ, ◌≤ℤ◌, Contains}
use Rattle.std.specs.Option.{option_and_then}
use Rattle.std.specs.Int.Signed.{le_z}
use Rattle.std.proofs.lemmas.Bool.Decides.{nat_tests}
use Rattle.std.proofs.lemmas.Int.{ints}
use Rattle.std.proofs.lemmas.Option.{same_Some}
use Rattle.t7_layout.specs.declared.words.Family.TheVariants.{Eobi}
use Rattle.t7_layout.specs.declared.words.Kind.TheVariants.{Signed}
use Rattle.t7_layout.specs.declared.roles.Role.{Role}
use Rattle.t7_layout.specs.declared.roles.Role.TheVariants as role
use Rattle.t7_layout.specs.declared.roles.FieldName.{FieldName}
use Rattle.t7_layout.specs.declared.roles.FieldName.TheVariants as name
use Rattle.t7_layout.specs.Layouts.{Layout}
use Rattle.t7_layout.specs.Lookups.{IsTable, find_role, find_template, role_of_layout}
use Rattle.t7_layout.specs.Roles.{family_of, name_number, kind_of, required, width_in}
use Rattle.t7_layout.specs.Rows.{kind_text, same_kind}
use Rattle.t7_layout.proofs.FoundFacts.{role_family, role_id, role_own, role_whole}
use Rattle.t7_fields.specs.declared.writer.Scalar.{Scalar}
use Rattle.t7_fields.specs.declared.writer.Scalar.TheVariants as number
use Rattle.t7_fields.specs.Spelling.{IsHeld, body_length, length_width, template_id}
use Rattle.t7_fields.specs.Messages.{Message, first_unset, is_among, said_number, value}
use Rattle.t7_fields.specs.Writing.{SaysSoFar, longest, role_size, AreSaid, AreSized, IsOrdinary, IsSized, IsWritten, Says, can_say, can_say_each, meaning, message_saying, number_kind, number_width}
use Rattle.t7_fields.proofs.WriteFacts.{message_written, named_in, ordinary_known, role_room, said_finished, size_is}
use Rattle.t7_base.specs.Ranges.{IsPrice, IsQuantity, IsStamp}
use Rattle.t7_base.specs.declared.ids.Channel.{Channel}
use Rattle.t7_base.specs.declared.ids.Channel.TheVariants as channel
use Rattle.t7_base.specs.declared.ids.Side.{Side}
use Rattle.t7_base.specs.declared.ids.Side.TheVariants.{Buy, Sell}
use Rattle.t7_base.specs.declared.public.Public.{Public}
use Rattle.t7_base.specs.declared.public.Public.TheVariants as public
use Rattle.t7_eobi.specs.declared.ranges.Range.{Range}
use Rattle.t7_eobi.specs.declared.ranges.Range.TheVariants as range
use Rattle.t7_eobi.specs.declared.walks.Live.TheVariants as live
use Rattle.t7_eobi.specs.declared.walks.Snap.{Snap}
use Rattle.t7_eobi.specs.declared.walks.Snap.TheVariants as snap
use Rattle.t7_eobi.specs.Bytes.{IsPublic, IsSecurity, IsSequence, IsSnap, beat_bytes, beat_fields, header_bytes, header_fields, public_bytes, public_fields, role_for, side_number, snap_bytes, snap_fields, snap_role}
use Rattle.t7_eobi.specs.Datagrams.{as_role, body_of, in_channel, live_as, live_of, role_of, snap_of}
use Rattle.t7_eobi.specs.Faults.{has_room}
use Rattle.t7_eobi.specs.Grammar.{IsOther, IsWhole}
use Rattle.t7_eobi.specs.Ranges.{IsSound, between, counted, first_out, fits, in_range, is_live, range_of}
use Rattle.t7_eobi.specs.Records.{public_as, public_of, resting_of, side_of, snap_as}
use Rattle.t7_eobi.specs.Said.{SaysHeader, SaysLive, SaysSnap}
use Rattle.t7_eobi.proofs.RangeFacts.{value_is}

-- ---- what is written of a message is that message

same_side : (s : Side) → side_of (pos (side_number s)) ≡ s
unfolding side_number
same_side Buy = refl
same_side Sell = refl

says_value : (x : Message) (ps : List (FieldName × Scalar)) (k : ℕ) (p : FieldName × Scalar) → Says x.layouts x.role x.bytes ps → slice_get ps k ≡ Some p → value x p.0 ≡ meaning p.1
says_value x ps k p h e = value_is x p.0 (meaning p.1) (h.each k p e)

pub public_again : (m : Public) (seq : ℕ) (x : Message) → m ≢ public.Other → x.role ≡ role_for m → Says x.layouts x.role x.bytes (public_fields seq m) → public_of x ≡ m
unfolding public_as resting_of role_for public_fields meaning
public_again (public.Add o) seq x some r h = ap (λ (k : Role). public_as k x) r ∙ rw (says_value x (public_fields seq (public.Add o)) 1 (name.SecurityID, number.Signed o.security) h refl, says_value x (public_fields seq (public.Add o)) 2 (name.TrdRegTSTimePriority, number.Long o.stamp) h refl, says_value x (public_fields seq (public.Add o)) 3 (name.DisplayQty, number.Signed (pos o.qty)) h refl, says_value x (public_fields seq (public.Add o)) 4 (name.Side, number.Byte (side_number o.side)) h refl, says_value x (public_fields seq (public.Add o)) 5 (name.Price, number.Signed o.price) h refl, same_side o.side) refl
public_again (public.Modify security side prev_stamp prev_price prev_qty stamp price qty) seq x some r h = ap (λ (k : Role). public_as k x) r ∙ rw (says_value x (public_fields seq (public.Modify security side prev_stamp prev_price prev_qty stamp price qty)) 1 (name.SecurityID, number.Signed security) h refl, says_value x (public_fields seq (public.Modify security side prev_stamp prev_price prev_qty stamp price qty)) 2 (name.TrdRegTSPrevTimePriority, number.Long prev_stamp) h refl, says_value x (public_fields seq (public.Modify security side prev_stamp prev_price prev_qty stamp price qty)) 3 (name.PrevPrice, number.Signed prev_price) h refl, says_value x (public_fields seq (public.Modify security side prev_stamp prev_price prev_qty stamp price qty)) 4 (name.PrevDisplayQty, number.Signed (pos prev_qty)) h refl, says_value x (public_fields seq (public.Modify security side prev_stamp prev_price prev_qty stamp price qty)) 5 (name.TrdRegTSTimePriority, number.Long stamp) h refl, says_value x (public_fields seq (public.Modify security side prev_stamp prev_price prev_qty stamp price qty)) 6 (name.DisplayQty, number.Signed (pos qty)) h refl, says_value x (public_fields seq (public.Modify security side prev_stamp prev_price prev_qty stamp price qty)) 7 (name.Side, number.Byte (side_number side)) h refl, says_value x (public_fields seq (public.Modify security side prev_stamp prev_price prev_qty stamp price qty)) 8 (name.Price, number.Signed price) h refl, same_side side) refl
public_again (public.SamePriority security side stamp price prev_qty qty) seq x some r h = ap (λ (k : Role). public_as k x) r ∙ rw (says_value x (public_fields seq (public.SamePriority security side stamp price prev_qty qty)) 1 (name.SecurityID, number.Signed security) h refl, says_value x (public_fields seq (public.SamePriority security side stamp price prev_qty qty)) 2 (name.TrdRegTSTimePriority, number.Long stamp) h refl, says_value x (public_fields seq (public.SamePriority security side stamp price prev_qty qty)) 3 (name.PrevDisplayQty, number.Signed (pos prev_qty)) h refl, says_value x (public_fields seq (public.SamePriority security side stamp price prev_qty qty)) 4 (name.DisplayQty, number.Signed (pos qty)) h refl, says_value x (public_fields seq (public.SamePriority security side stamp price prev_qty qty)) 5 (name.Side, number.Byte (side_number side)) h refl, says_value x (public_fields seq (public.SamePriority security side stamp price prev_qty qty)) 6 (name.Price, number.Signed price) h refl, same_side side) refl
public_again (public.Delete o) seq x some r h = ap (λ (k : Role). public_as k x) r ∙ rw (says_value x (public_fields seq (public.Delete o)) 1 (name.SecurityID, number.Signed o.security) h refl, says_value x (public_fields seq (public.Delete o)) 2 (name.TrdRegTSTimePriority, number.Long o.stamp) h refl, says_value x (public_fields seq (public.Delete o)) 3 (name.DisplayQty, number.Signed (pos o.qty)) h refl, says_value x (public_fields seq (public.Delete o)) 4 (name.Side, number.Byte (side_number o.side)) h refl, says_value x (public_fields seq (public.Delete o)) 5 (name.Price, number.Signed o.price) h refl, same_side o.side) refl
public_again (public.MassDelete security) seq x some r h = ap (λ (k : Role). public_as k x) r ∙ rw (says_value x (public_fields seq (public.MassDelete security)) 1 (name.SecurityID, number.Signed security) h refl) refl
public_again (public.Partial security side stamp price last_qty last_price) seq x some r h = ap (λ (k : Role). public_as k x) r ∙ rw (says_value x (public_fields seq (public.Partial security side stamp price last_qty last_price)) 1 (name.SecurityID, number.Signed security) h refl, says_value x (public_fields seq (public.Partial security side stamp price last_qty last_price)) 2 (name.TrdRegTSTimePriority, number.Long stamp) h refl, says_value x (public_fields seq (public.Partial security side stamp price last_qty last_price)) 3 (name.Side, number.Byte (side_number side)) h refl, says_value x (public_fields seq (public.Partial security side stamp price last_qty last_price)) 4 (name.Price, number.Signed price) h refl, says_value x (public_fields seq (public.Partial security side stamp price last_qty last_price)) 5 (name.LastQty, number.Signed (pos last_qty)) h refl, says_value x (public_fields seq (public.Partial security side stamp price last_qty last_price)) 6 (name.LastPx, number.Signed last_price) h refl, same_side side) refl
public_again (public.Full security side stamp price last_qty last_price) seq x some r h = ap (λ (k : Role). public_as k x) r ∙ rw (says_value x (public_fields seq (public.Full security side stamp price last_qty last_price)) 1 (name.SecurityID, number.Signed security) h refl, says_value x (public_fields seq (public.Full security side stamp price last_qty last_price)) 2 (name.TrdRegTSTimePriority, number.Long stamp) h refl, says_value x (public_fields seq (public.Full security side stamp price last_qty last_price)) 3 (name.Side, number.Byte (side_number side)) h refl, says_value x (public_fields seq (public.Full security side stamp price last_qty last_price)) 4 (name.Price, number.Signed price) h refl, says_value x (public_fields seq (public.Full security side stamp price last_qty last_price)) 5 (name.LastQty, number.Signed (pos last_qty)) h refl, says_value x (public_fields seq (public.Full security side stamp price last_qty last_price)) 6 (name.LastPx, number.Signed last_price) h refl, same_side side) refl
public_again (public.Summary security side stamp last_qty last_price) seq x some r h = ap (λ (k : Role). public_as k x) r ∙ rw (says_value x (public_fields seq (public.Summary security side stamp last_qty last_price)) 1 (name.SecurityID, number.Signed security) h refl, says_value x (public_fields seq (public.Summary security side stamp last_qty last_price)) 2 (name.AggressorTime, number.Long stamp) h refl, says_value x (public_fields seq (public.Summary security side stamp last_qty last_price)) 3 (name.AggressorSide, number.Byte (side_number side)) h refl, says_value x (public_fields seq (public.Summary security side stamp last_qty last_price)) 4 (name.LastQty, number.Signed (pos last_qty)) h refl, says_value x (public_fields seq (public.Summary security side stamp last_qty last_price)) 5 (name.LastPx, number.Signed last_price) h refl, same_side side) refl
public_again public.Other seq x some r h = absurd (some refl)

snap_again : (m : Snap) (x : Message) → Says x.layouts x.role x.bytes (snap_fields m) → snap_as (snap_role m) x ≡ m
unfolding snap_as snap_role snap_fields meaning
snap_again (snap.Product last) x h = rw (says_value x (snap_fields (snap.Product last)) 0 (name.LastMsgSeqNumProcessed, number.Word last) h refl) refl
snap_again (snap.Instrument security count) x h =
    rw (says_value x (snap_fields (snap.Instrument security count)) 0 (name.SecurityID, number.Signed security) h refl, says_value x (snap_fields (snap.Instrument security count)) 1 (name.TotNoOrders, number.Half count) h refl) refl
snap_again (snap.Order side price stamp qty) x h =
    rw (says_value x (snap_fields (snap.Order side price stamp qty)) 0 (name.TrdRegTSTimePriority, number.Long stamp) h refl, says_value x (snap_fields (snap.Order side price stamp qty)) 1 (name.DisplayQty, number.Signed (pos qty)) h refl, says_value x (snap_fields (snap.Order side price stamp qty)) 2 (name.Side, number.Byte (side_number side)) h refl, says_value x (snap_fields (snap.Order side price stamp qty)) 3 (name.Price, number.Signed price) h refl, same_side side) refl

-- ---- numbers that may be written in their fields

-- a number in its field's range, which is of its type and the null of no field
record IsGood (p : FieldName × Scalar) : Type 0 where
  ranged : in_range (range_of p.0) (meaning p.1) ≡ true
  ordinary : IsOrdinary p.1
  sized : IsSized p.1

abbrev AreGood : List (FieldName × Scalar) → Type 0
AreGood [] = Unit {0}
AreGood (p ∷ ps) = IsGood p × AreGood ps

le_yes : (a b : ℤ) → a ≤ℤ b → le_z a b ≡ true
le_yes a b h = grind (arith, ints)

inside : (low high z : ℤ) → low ≤ℤ z → z ≤ℤ high → between low high z ≡ true
inside low high z a b = rw (le_yes low z a, le_yes z high b) refl

good_seq : (name : FieldName) (n : ℕ) → range_of name ≡ range.Sequence → IsSequence n → IsGood (name, number.Word n)
unfolding in_range meaning IsOrdinary IsSized
good_seq name n r h = record {
  ranged = (let P : Range → Type 0 = λ k. in_range k (pos n) ≡ true in subst P (sym r) (inside (pos 1) (pos 4_294_967_294) (pos n) (omega (arith, ints)) (omega (arith, ints))));
  ordinary = λ e. omega (arith, ints);
  sized = omega (arith, ints);
}

good_last : (n : ℕ) → n ≤ 4_294_967_294 → IsGood (name.LastMsgSeqNumProcessed, number.Word n)
unfolding in_range range_of meaning IsOrdinary IsSized
good_last n h = record { ranged = inside (pos 0) (pos 4_294_967_294) (pos n) (omega (arith, ints)) (omega (arith, ints)); ordinary = λ e. omega (arith, ints); sized = omega (arith, ints) }

held : (z : ℤ) → neg_ℤ (pos 9_223_372_036_854_775_807) ≤ℤ z → z ≤ℤ pos 9_223_372_036_854_775_807 → IsHeld Signed 8 z
unfolding IsHeld
held (pos n) low high = omega (arith, ints)
held (negsuc n) low high = omega (arith, ints)

not_least : (z : ℤ) → neg_ℤ (pos 9_223_372_036_854_775_807) ≤ℤ z → z ≢ negsuc 9_223_372_036_854_775_807
not_least (pos n) low e = cc e
not_least (negsuc n) low e = omega (arith, ints)

good_security : (z : ℤ) → IsSecurity z → IsGood (name.SecurityID, number.Signed z)
unfolding in_range range_of meaning IsOrdinary IsSized
good_security z h = record { ranged = refl; ordinary = not_least z h.0; sized = held z h.0 h.1 }

good_price : (name : FieldName) (z : ℤ) → range_of name ≡ range.Price → IsPrice z → IsGood (name, number.Signed z)
unfolding in_range meaning IsOrdinary IsSized
good_price name z r h =
    let low : neg_ℤ (pos 9_223_372_036_854_775_807) ≤ℤ z = omega (arith, ints) in
    let high : z ≤ℤ pos 9_223_372_036_854_775_807 = omega (arith, ints) in
    record {
      ranged = (let P : Range → Type 0 = λ k. in_range k z ≡ true in subst P (sym r) (inside (neg_ℤ (pos 100_000_000_000_000_000)) (pos 100_000_000_000_000_000) z h.0 h.1));
      ordinary = not_least z low;
      sized = held z low high;
    }

good_qty : (name : FieldName) (n : ℕ) → range_of name ≡ range.Quantity → IsQuantity (pos n) → IsGood (name, number.Signed (pos n))
unfolding in_range meaning IsOrdinary IsSized
good_qty name n r h = record {
  ranged = (let P : Range → Type 0 = λ k. in_range k (pos n) ≡ true in subst P (sym r) (inside (pos 1) (pos 1_000_000_000_000_000) (pos n) h.0 h.1));
  ordinary = λ e. cc e;
  sized = held (pos n) (omega (arith, ints)) (omega (arith, ints));
}

good_stamp : (name : FieldName) (n : ℕ) → range_of name ≡ range.Stamp → IsStamp n → IsGood (name, number.Long n)
unfolding in_range meaning IsOrdinary IsSized
good_stamp name n r h = record {
  ranged = (let P : Range → Type 0 = λ k. in_range k (pos n) ≡ true in subst P (sym r) (inside (pos 1) (pos 9_223_372_036_854_775_807) (pos n) (omega (arith, ints)) (omega (arith, ints))));
  ordinary = λ e. omega (arith, ints);
  sized = omega (arith, ints);
}

good_side : (name : FieldName) (s : Side) → range_of name ≡ range.Side → IsGood (name, number.Byte (side_number s))
unfolding in_range meaning IsOrdinary IsSized side_number
good_side name Buy r = record { ranged = rw r refl; ordinary = λ e. omega (arith, ints); sized = omega (arith, ints) }
good_side name Sell r = record { ranged = rw r refl; ordinary = λ e. omega (arith, ints); sized = omega (arith, ints) }

good_count : (n : ℕ) → n ≤ 65534 → IsGood (name.TotNoOrders, number.Half n)
unfolding in_range range_of meaning IsOrdinary IsSized
good_count n h = record { ranged = refl; ordinary = λ e. omega (arith, ints); sized = omega (arith, ints) }

good_segment : (n : ℕ) → n ≤ 2_147_483_647 → IsGood (name.MarketSegmentID, number.SignedWord (pos n))
unfolding in_range range_of meaning IsOrdinary IsSized IsHeld
good_segment n h = record { ranged = refl; ordinary = λ e. cc e; sized = omega (arith, ints) }

-- ---- a message that says good numbers

good_at : (ps : List (FieldName × Scalar)) (p : FieldName × Scalar) → AreGood ps → Contains ps p → IsGood p
good_at [] p g c = let (k, below, is) = c in absurd (omega arith)
good_at (q ∷ qs) p g (zero, below, is) = let P : FieldName × Scalar → Type 0 = λ x. IsGood x in subst P is g.0
good_at (q ∷ qs) p g (suc k, below, is) = good_at qs p g.1 (k, omega arith, is)

-- the fields of a message that says good numbers are set and in their ranges
sound_fields : (m : Message) (ps : List (FieldName × Scalar)) → ((k : ℕ) (p : FieldName × Scalar) → slice_get ps k ≡ Some p → said_number m p.0 ≡ Some (meaning p.1)) → AreGood ps
    → (first_unset m (map (λ (p : FieldName × Scalar). p.0) ps) ≡ None) × (first_out m (map (λ (p : FieldName × Scalar). p.0) ps) ≡ None)
unfolding first_unset first_out fits
sound_fields m [] each g = (refl, refl)
sound_fields m (p ∷ ps) each g =
    let (set, ranged) = sound_fields m ps (λ k q e. each (suc k) q e) g.1 in
    let s : said_number m p.0 ≡ Some (meaning p.1) = each 0 p refl in
    (rw s set, rw (s, g.0.ranged) ranged)

-- bytes that are a message of a role, and say these numbers
pub record IsOf (layouts : List Layout) (r : Role) (ps : List (FieldName × Scalar)) (bytes : List ℕ) : Type 0 where
  pub whole : IsWhole bytes
  pub is : role_of layouts bytes ≡ Some r
  pub room : has_room layouts r bytes ≡ true
  pub says : Says layouts r bytes ps
  pub short : length bytes ≤ 128
  pub size : (t : Layout) → find_role layouts r ≡ Some t → length bytes ≡ t.size

written_of : (layouts : List Layout) (r : Role) (ps : List (FieldName × Scalar)) (bytes : List ℕ) (t : Layout) → IsTable layouts → family_of r ≡ Eobi → find_role layouts r ≡ Some t
    → IsWritten layouts r ps bytes → IsOf layouts r ps bytes
unfolding role_of has_room body_of body_length length_width template_id
written_of layouts r ps bytes t table family found w =
    let layout = role_whole layouts r t table found in
    let is = role_family layouts r t found ∙ family in
    let (spells, size) = w.whole t found in
    let n : template_id Eobi bytes ≡ t.id = rw is at spells.id in
    let at : find_template layouts Eobi t.id ≡ Some t = rw family at (role_id layouts r t table found) in
    record {
      whole = record { long = (let l = layout.long in omega arith); said = rw is at spells.fits.said };
      is = (let f : find_template layouts Eobi (template_id Eobi bytes) ≡ Some t = rw n at in
          ap (λ (o : Option Layout). option_and_then role_of_layout o) f ∙ role_own layouts r t found);
      room = (let room = spells.fits.room in let yes : nat_le t.size (length bytes) ≡ true = grind (arith, nat_tests) in rw found yes);
      says = w.says;
      short = (let s = table.short r t found family in omega arith);
      size = λ u e. (let same : t ≡ u = same_Some t u (sym found ∙ e) in let P : Layout → Type 0 = λ x. length bytes ≡ x.size in subst P same size);
    }

-- good numbers can be said
can_be_said : (layouts : List Layout) (r : Role) (ps : List (FieldName × Scalar)) → IsTable layouts → can_say_each r ps ≡ true → AreGood ps → AreSaid layouts r ps
can_be_said layouts r ps table fit good = record { fit = fit; known = ordinary_known layouts r ps table fit (record { each = λ p c. (good_at ps p good c).ordinary }) }

written_is_of : (layouts : List Layout) (r : Role) (ps : List (FieldName × Scalar)) → IsTable layouts → family_of r ≡ Eobi → can_say_each r ps ≡ true → AreGood ps → IsOf layouts r ps (message_saying layouts r ps)
written_is_of layouts r ps table family fit good =
    let sized : AreSized ps = record { each = λ p c. (good_at ps p good c).sized } in
    let w = message_written layouts r ps table (can_be_said layouts r ps table fit good) sized in
    let (t, found, fits) = w.message in
    written_of layouts r ps (message_saying layouts r ps) t table family found w

sound_of : (layouts : List Layout) (r : Role) (ps : List (FieldName × Scalar)) (bytes : List ℕ) → IsOf layouts r ps bytes → AreGood ps → map (λ (p : FieldName × Scalar). p.0) ps ≡ counted r
    → IsSound (as_role layouts r bytes)
sound_of layouts r ps bytes is good names =
    let m : Message = as_role layouts r bytes in
    let (set, ranged) = sound_fields m ps is.says.each good in
    record { set = rw names at set; ranged = rw names at ranged }

-- such a message is one behind the header
other_of_role : (layouts : List Layout) (c : Channel) (r : Role) (ps : List (FieldName × Scalar)) (bytes : List ℕ) → IsOf layouts r ps bytes → AreGood ps → map (λ (p : FieldName × Scalar). p.0) ps ≡ counted r
    → IsOther layouts c bytes
other_of_role layouts c r ps bytes is good names = record {
  whole = is.whole;
  room = λ q e. (let same : r ≡ q = same_Some r q (sym is.is ∙ e) in let P : Role → Type 0 = λ k. has_room layouts k bytes ≡ true in subst P same is.room);
  sound = λ q e there. (let same : r ≡ q = same_Some r q (sym is.is ∙ e) in let P : Role → Type 0 = λ k. IsSound (as_role layouts k bytes) in subst P same (sound_of layouts r ps bytes is good names));
}

-- ---- live messages

public_good : (seq : ℕ) (m : Public) → IsSequence seq → IsPublic m → AreGood (public_fields seq m)
unfolding public_fields range_of
public_good seq (public.Add o) n h =
    (good_seq name.MsgSeqNum seq refl n, (good_security o.security h.0, (good_stamp name.TrdRegTSTimePriority o.stamp refl h.2, (good_qty name.DisplayQty o.qty refl h.3, (good_side name.Side o.side refl, (good_price name.Price o.price refl h.1, tt))))))
public_good seq (public.Modify security side prev_stamp prev_price prev_qty stamp price qty) n h = (
  good_seq name.MsgSeqNum seq refl n,
  (
    good_security security h.0,
    (
      good_stamp name.TrdRegTSPrevTimePriority prev_stamp refl h.1,
      (
        good_price name.PrevPrice prev_price refl h.2,
        (
          good_qty name.PrevDisplayQty prev_qty refl h.3,
          (good_stamp name.TrdRegTSTimePriority stamp refl h.4, (good_qty name.DisplayQty qty refl h.6, (good_side name.Side side refl, (good_price name.Price price refl h.5, tt)))),
        ),
      ),
    ),
  ),
)
public_good seq (public.SamePriority security side stamp price prev_qty qty) n h =
    (good_seq name.MsgSeqNum seq refl n, (good_security security h.0, (good_stamp name.TrdRegTSTimePriority stamp refl h.1, (good_qty name.PrevDisplayQty prev_qty refl h.3, (good_qty name.DisplayQty qty refl h.4, (good_side name.Side side refl, (good_price name.Price price refl h.2, tt)))))))
public_good seq (public.Delete o) n h =
    (good_seq name.MsgSeqNum seq refl n, (good_security o.security h.0, (good_stamp name.TrdRegTSTimePriority o.stamp refl h.2, (good_qty name.DisplayQty o.qty refl h.3, (good_side name.Side o.side refl, (good_price name.Price o.price refl h.1, tt))))))
public_good seq (public.MassDelete security) n h = (good_seq name.MsgSeqNum seq refl n, (good_security security h, tt))
public_good seq (public.Partial security side stamp price last_qty last_price) n h =
    (good_seq name.MsgSeqNum seq refl n, (good_security security h.0, (good_stamp name.TrdRegTSTimePriority stamp refl h.1, (good_side name.Side side refl, (good_price name.Price price refl h.2, (good_qty name.LastQty last_qty refl h.3, (good_price name.LastPx last_price refl h.4, tt)))))))
public_good seq (public.Full security side stamp price last_qty last_price) n h =
    (good_seq name.MsgSeqNum seq refl n, (good_security security h.0, (good_stamp name.TrdRegTSTimePriority stamp refl h.1, (good_side name.Side side refl, (good_price name.Price price refl h.2, (good_qty name.LastQty last_qty refl h.3, (good_price name.LastPx last_price refl h.4, tt)))))))
public_good seq (public.Summary security side stamp last_qty last_price) n h =
    (good_seq name.MsgSeqNum seq refl n, (good_security security h.0, (good_stamp name.AggressorTime stamp refl h.1, (good_side name.AggressorSide side refl, (good_qty name.LastQty last_qty refl h.2, (good_price name.LastPx last_price refl h.3, tt))))))
public_good seq public.Other n h = absurd h

pub public_fit : (seq : ℕ) (m : Public) → m ≢ public.Other → can_say_each (role_for m) (public_fields seq m) ≡ true
unfolding can_say_each can_say is_among name_number required role_for public_fields family_of width_in kind_of number_kind number_width same_kind kind_text
public_fit seq (public.Add o) some = refl
public_fit seq (public.Modify security side prev_stamp prev_price prev_qty stamp price qty) some = refl
public_fit seq (public.SamePriority security side stamp price prev_qty qty) some = refl
public_fit seq (public.Delete o) some = refl
public_fit seq (public.MassDelete security) some = refl
public_fit seq (public.Partial security side stamp price last_qty last_price) some = refl
public_fit seq (public.Full security side stamp price last_qty last_price) some = refl
public_fit seq (public.Summary security side stamp last_qty last_price) some = refl
public_fit seq public.Other some = absurd (some refl)

-- a live message says each field that counts, and its role is one of the live ones
record IsLiveRole (seq : ℕ) (m : Public) : Type 0 where
  family : family_of (role_for m) ≡ Eobi
  live : is_live (role_for m) ≡ true
  names : map (λ (p : FieldName × Scalar). p.0) (public_fields seq m) ≡ counted (role_for m)
  number : (slice_get (public_fields seq m) 0) ≡ Some (name.MsgSeqNum, number.Word seq)

live_role : (seq : ℕ) (m : Public) → m ≢ public.Other → IsLiveRole seq m
unfolding family_of role_for is_live public_fields counted required
live_role seq (public.Add o) some = record { family = refl; live = refl; names = refl; number = refl }
live_role seq (public.Modify security side prev_stamp prev_price prev_qty stamp price qty) some = record { family = refl; live = refl; names = refl; number = refl }
live_role seq (public.SamePriority security side stamp price prev_qty qty) some = record { family = refl; live = refl; names = refl; number = refl }
live_role seq (public.Delete o) some = record { family = refl; live = refl; names = refl; number = refl }
live_role seq (public.MassDelete security) some = record { family = refl; live = refl; names = refl; number = refl }
live_role seq (public.Partial security side stamp price last_qty last_price) some = record { family = refl; live = refl; names = refl; number = refl }
live_role seq (public.Full security side stamp price last_qty last_price) some = record { family = refl; live = refl; names = refl; number = refl }
live_role seq (public.Summary security side stamp last_qty last_price) some = record { family = refl; live = refl; names = refl; number = refl }
live_role seq public.Other some = absurd (some refl)

some_public : (m : Public) → IsPublic m → m ≢ public.Other
some_public (public.Add o) h e = cc e
some_public (public.Modify security side prev_stamp prev_price prev_qty stamp price qty) h e = cc e
some_public (public.SamePriority security side stamp price prev_qty qty) h e = cc e
some_public (public.Delete o) h e = cc e
some_public (public.MassDelete security) h e = cc e
some_public (public.Partial security side stamp price last_qty last_price) h e = cc e
some_public (public.Full security side stamp price last_qty last_price) h e = cc e
some_public (public.Summary security side stamp last_qty last_price) h e = cc e
some_public public.Other h e = h

pub public_said : (layouts : List Layout) (seq : ℕ) (m : Public) → IsTable layouts → IsSequence seq → IsPublic m → AreSaid layouts (role_for m) (public_fields seq m)
public_said layouts seq m table n h = can_be_said layouts (role_for m) (public_fields seq m) table (public_fit seq m (some_public m h)) (public_good seq m n h)

pub public_family : (m : Public) → IsPublic m → family_of (role_for m) ≡ Eobi
public_family m h = (live_role 0 m (some_public m h)).family

pub public_says : (layouts : List Layout) (seq : ℕ) (m : Public) → IsTable layouts → IsSequence seq → IsPublic m → SaysLive layouts (live.Message seq m) (public_bytes layouts seq m)
unfolding live_of live_as meaning
public_says layouts seq m table n h =
    let some = some_public m h in
    let fact = live_role seq m some in
    let good = public_good seq m n h in
    let r : Role = role_for m in
    let ps : List (FieldName × Scalar) = public_fields seq m in
    let b : List ℕ = public_bytes layouts seq m in
    let is = written_is_of layouts r ps table fact.family (public_fit seq m some) good in
    let x : Message = as_role layouts r b in
    let number : value x name.MsgSeqNum ≡ pos seq = says_value x ps 0 (name.MsgSeqNum, number.Word seq) is.says fact.number in
    let message : public_as r x ≡ m = public_again m seq x some refl is.says in
    record {
      other = other_of_role layouts channel.Live r ps b is good fact.names;
      says = rw (is.is, fact.live, number, message) refl;
      short = is.short;
    }

-- ---- headers, heartbeats and snapshots

pub header_says : (layouts : List Layout) (segment count : ℕ) → IsTable layouts → 1 ≤ segment → segment ≤ 2_147_483_647 → IsSequence count → SaysHeader layouts segment count (header_bytes layouts segment count)
unfolding can_say_each can_say is_among name_number required family_of width_in kind_of number_kind number_width same_kind kind_text counted is_live range_of meaning
header_says layouts segment count table some most n =
    let ps : List (FieldName × Scalar) = header_fields segment count in
    let b : List ℕ = header_bytes layouts segment count in
    let good : AreGood ps = (good_seq name.ApplSeqNum count refl n, (good_segment segment most, tt)) in
    let is = written_is_of layouts role.PacketHeader ps table refl refl good in
    let x : Message = as_role layouts role.PacketHeader b in
    let first : value x name.ApplSeqNum ≡ pos count = says_value x ps 0 (name.ApplSeqNum, number.Word count) is.says refl in
    let product : value x name.MarketSegmentID ≡ pos segment = says_value x ps 1 (name.MarketSegmentID, number.SignedWord (pos segment)) is.says refl in
    record {
      header = record { whole = is.whole; is = is.is; room = is.room; sound = sound_of layouts role.PacketHeader ps b is good refl; product = product };
      says = rw first refl;
      short = is.short;
    }

pub beat_says : (layouts : List Layout) (last : ℕ) → IsTable layouts → last ≤ 4_294_967_294 → SaysLive layouts (live.Beat last) (beat_bytes layouts last)
unfolding live_of live_as in_channel can_say_each can_say is_among name_number required family_of width_in kind_of number_kind number_width same_kind kind_text counted is_live meaning
beat_says layouts last table h =
    let ps : List (FieldName × Scalar) = beat_fields last in
    let b : List ℕ = beat_bytes layouts last in
    let good : AreGood ps = (good_last last h, tt) in
    let is = written_is_of layouts role.EobiHeartbeat ps table refl refl good in
    let x : Message = as_role layouts role.EobiHeartbeat b in
    let first : value x name.LastMsgSeqNumProcessed ≡ pos last = says_value x ps 0 (name.LastMsgSeqNumProcessed, number.Word last) is.says refl in
    record {
      other = other_of_role layouts channel.Live role.EobiHeartbeat ps b is good refl;
      says = rw (is.is, first) refl;
      short = is.short;
    }

snap_good : (m : Snap) → IsSnap m → AreGood (snap_fields m)
unfolding snap_fields range_of
snap_good (snap.Product last) h = (good_last last h, tt)
snap_good (snap.Instrument security count) h = (good_security security h.0, (good_count count h.1, tt))
snap_good (snap.Order side price stamp qty) h =
    (good_stamp name.TrdRegTSTimePriority stamp refl h.1, (good_qty name.DisplayQty qty refl h.2, (good_side name.Side side refl, (good_price name.Price price refl h.0, tt))))

snap_fit : (m : Snap) → can_say_each (snap_role m) (snap_fields m) ≡ true
unfolding can_say_each can_say is_among name_number required snap_role snap_fields family_of width_in kind_of number_kind number_width same_kind kind_text
snap_fit (snap.Product last) = refl
snap_fit (snap.Instrument security count) = refl
snap_fit (snap.Order side price stamp qty) = refl

-- an item of the snapshot channel says each field that counts, and its role is one of that channel
record IsSnapRole (m : Snap) : Type 0 where
  family : family_of (snap_role m) ≡ Eobi
  inside : in_channel channel.Snap (snap_role m) ≡ true
  names : map (λ (p : FieldName × Scalar). p.0) (snap_fields m) ≡ counted (snap_role m)

snap_role_is : (m : Snap) → IsSnapRole m
unfolding family_of snap_role is_live snap_fields counted required in_channel
snap_role_is (snap.Product last) = record { family = refl; inside = refl; names = refl }
snap_role_is (snap.Instrument security count) = record { family = refl; inside = refl; names = refl }
snap_role_is (snap.Order side price stamp qty) = record { family = refl; inside = refl; names = refl }

pub snap_says : (layouts : List Layout) (m : Snap) → IsTable layouts → IsSnap m → SaysSnap layouts m (snap_bytes layouts m)
unfolding snap_of
snap_says layouts m table h =
    let fact = snap_role_is m in
    let r : Role = snap_role m in
    let ps : List (FieldName × Scalar) = snap_fields m in
    let b : List ℕ = snap_bytes layouts m in
    let good = snap_good m h in
    let is = written_is_of layouts r ps table fact.family (snap_fit m) good in
    let x : Message = as_role layouts r b in
    let item : snap_as r x ≡ m = snap_again m x is.says in
    record {
      other = other_of_role layouts channel.Snap r ps b is good fact.names;
      says = rw (is.is, fact.inside, item) refl;
      short = is.short;
    }

pub snap_said : (layouts : List Layout) (m : Snap) → IsTable layouts → IsSnap m → AreSaid layouts (snap_role m) (snap_fields m)
snap_said layouts m table h = can_be_said layouts (snap_role m) (snap_fields m) table (snap_fit m) (snap_good m h)

pub snap_family : (m : Snap) → family_of (snap_role m) ≡ Eobi
snap_family m = (snap_role_is m).family

pub header_said : (layouts : List Layout) (segment count : ℕ) → IsTable layouts → segment ≤ 2_147_483_647 → IsSequence count → AreSaid layouts role.PacketHeader (header_fields segment count)
unfolding can_say_each can_say is_among name_number required family_of width_in kind_of number_kind number_width same_kind kind_text range_of
header_said layouts segment count table most n =
    can_be_said layouts role.PacketHeader (header_fields segment count) table refl (good_seq name.ApplSeqNum count refl n, (good_segment segment most, tt))

pub beat_said : (layouts : List Layout) (last : ℕ) → IsTable layouts → last ≤ 4_294_967_294 → AreSaid layouts role.EobiHeartbeat (beat_fields last)
unfolding can_say_each can_say is_among name_number required family_of width_in kind_of number_kind number_width same_kind kind_text
beat_said layouts last table h = can_be_said layouts role.EobiHeartbeat (beat_fields last) table refl (good_last last h, tt)

-- what is written over bytes leaves those behind it
pub written_length : (size : ℕ) (message out new : List ℕ) → new ≡ message ++ drop size out → length new ≡ length out → size ≤ length out → size ≡ length message
written_length size message out new e same h = let l = ap length e in omega (arith, length-append {A = ℕ}, length-drop {A = ℕ}, l)

pub public_size : (layouts : List Layout) (seq : ℕ) (m : Public) (t : Layout) → IsTable layouts → IsSequence seq → IsPublic m → find_role layouts (role_for m) ≡ Some t → length (public_bytes layouts seq m) ≡ t.size
public_size layouts seq m t table n h found =
    (written_is_of layouts (role_for m) (public_fields seq m) table (public_family m h) (public_fit seq m (some_public m h)) (public_good seq m n h)).size t found

pub snap_size : (layouts : List Layout) (m : Snap) (t : Layout) → IsTable layouts → IsSnap m → find_role layouts (snap_role m) ≡ Some t → length (snap_bytes layouts m) ≡ t.size
snap_size layouts m t table h found = (written_is_of layouts (snap_role m) (snap_fields m) table (snap_role_is m).family (snap_fit m) (snap_good m h)).size t found

pub header_size : (layouts : List Layout) (segment count : ℕ) (t : Layout) → IsTable layouts → segment ≤ 2_147_483_647 → IsSequence count → find_role layouts role.PacketHeader ≡ Some t → length (header_bytes layouts segment count) ≡ t.size
unfolding can_say_each can_say is_among name_number required family_of width_in kind_of number_kind number_width same_kind kind_text range_of
header_size layouts segment count t table most n found =
    (written_is_of layouts role.PacketHeader (header_fields segment count) table refl refl (good_seq name.ApplSeqNum count refl n, (good_segment segment most, tt))).size t found

-- ---- what is said field by field is written

-- there is room for a message of market data where there is for the longest
pub eobi_room : (layouts : List Layout) (r : Role) (n : ℕ) → IsTable layouts → family_of r ≡ Eobi → 128 ≤ n → role_size layouts r ≤ n
unfolding longest
eobi_room layouts r n table family h = role_room layouts r n table (rw family h)

pub record IsDone (layouts : List Layout) (r : Role) (ps : List (FieldName × Scalar)) (size : ℕ) (out new : List ℕ) : Type 0 where
  pub length_is : size ≡ length (message_saying layouts r ps)
  pub some : 8 ≤ size
  pub short : size ≤ 128
  pub bytes : new ≡ message_saying layouts r ps ++ drop size out

pub done : (layouts : List Layout) (r : Role) (ps : List (FieldName × Scalar)) (size : ℕ) (out new : List ℕ) → IsTable layouts → family_of r ≡ Eobi → AreSaid layouts r ps → size ≡ role_size layouts r
    → role_size layouts r ≤ length out → length new ≡ length out → SaysSoFar layouts r ps out new → IsDone layouts r ps size out new
done layouts r ps size out new table family can es room same so =
    let finished = said_finished layouts r ps size out new table can es so in
    let (t, named) = named_in layouts r table in
    let e = es ∙ size_is layouts r t named.found in
    record {
      length_is = written_length size (message_saying layouts r ps) out new finished.bytes same (rw es room);
      some = rw e named.layout.long;
      short = rw e (table.short r t named.found family);
      bytes = finished.bytes;
    }

pub public_done : (layouts : List Layout) (seq : ℕ) (m : Public) (size : ℕ) (out new : List ℕ) → IsTable layouts → IsSequence seq → IsPublic m → size ≡ role_size layouts (role_for m)
    → role_size layouts (role_for m) ≤ length out → length new ≡ length out → SaysSoFar layouts (role_for m) (public_fields seq m) out new → IsDone layouts (role_for m) (public_fields seq m) size out new
public_done layouts seq m size out new table n h es room same so =
    done layouts (role_for m) (public_fields seq m) size out new table (public_family m h) (public_said layouts seq m table n h) es room same so

pub snap_done : (layouts : List Layout) (m : Snap) (size : ℕ) (out new : List ℕ) → IsTable layouts → IsSnap m → size ≡ role_size layouts (snap_role m)
    → role_size layouts (snap_role m) ≤ length out → length new ≡ length out → SaysSoFar layouts (snap_role m) (snap_fields m) out new → IsDone layouts (snap_role m) (snap_fields m) size out new
snap_done layouts m size out new table h es room same so =
    done layouts (snap_role m) (snap_fields m) size out new table (snap_family m) (snap_said layouts m table h) es room same so

pub header_done : (layouts : List Layout) (segment count size : ℕ) (out new : List ℕ) → IsTable layouts → segment ≤ 2_147_483_647 → IsSequence count → size ≡ role_size layouts role.PacketHeader
    → 128 ≤ length out → length new ≡ length out → SaysSoFar layouts role.PacketHeader (header_fields segment count) out new → IsDone layouts role.PacketHeader (header_fields segment count) size out new
unfolding family_of
header_done layouts segment count size out new table most n es room same so =
    done layouts role.PacketHeader (header_fields segment count) size out new table refl (header_said layouts segment count table most n) es (eobi_room layouts role.PacketHeader (length out) table refl room) same so

pub beat_done : (layouts : List Layout) (last size : ℕ) (out new : List ℕ) → IsTable layouts → last ≤ 4_294_967_294 → size ≡ role_size layouts role.EobiHeartbeat
    → 128 ≤ length out → length new ≡ length out → SaysSoFar layouts role.EobiHeartbeat (beat_fields last) out new → IsDone layouts role.EobiHeartbeat (beat_fields last) size out new
unfolding family_of
beat_done layouts last size out new table h es room same so =
    done layouts role.EobiHeartbeat (beat_fields last) size out new table refl (beat_said layouts last table h) es (eobi_room layouts role.EobiHeartbeat (length out) table refl room) same so
