-- Bytes have no fault exactly where they are a datagram of messages, and those are its messages.
use Rattle.std.proofs.Common.{◌≡◌, ◌<◌, ◌≤◌, ◌+◌, ◌∙◌, ◌++◌, ◌||◌, ℕ, zero, suc, Bool, true, false, List, [], ◌∷◌, Option, Some, None, length, take, drop, refl, sym, ap, subst, cond, arith, nat_lt, length-append, length-drop}
use Rattle.std.specs.Prelude.{Contains, pos, ℤ}
use Rattle.std.specs.List.{concat, filter_map}
use Rattle.std.specs.Option.{option_map_or}
use Rattle.std.specs.Ordering.{int_eq}
use Rattle.std.proofs.lemmas.Bool.Decides.{nat_tests}
use Rattle.byteorder.specs.Numbers.{little_from-append}
use Rattle.t7_layout.specs.declared.roles.Role.{Role}
use Rattle.t7_layout.specs.declared.roles.Role.TheVariants as role
use Rattle.t7_layout.specs.declared.roles.FieldName.TheVariants as name
use Rattle.t7_layout.specs.Layouts.{Layout}
use Rattle.t7_fields.specs.Messages.{value}
use Rattle.t7_base.specs.declared.ids.Channel.{Channel}
use Rattle.t7_base.specs.declared.ids.Channel.TheVariants as channel
use Rattle.t7_eobi.specs.declared.faults.PacketWhy.TheVariants as why
use Rattle.t7_eobi.specs.declared.walks.Live.{Live}
use Rattle.t7_eobi.specs.declared.walks.Snap.{Snap}
use Rattle.t7_eobi.specs.Datagrams.{as_role, behind, body_of, in_channel, is_cut, live_of, front_message, messages_of, packet_number, role_of, snap_of}
use Rattle.t7_eobi.specs.Faults.{Reading, fault_from, fault_of, fields_fault, header_fault, is_header, message_fault, names_product, role_fault}
use Rattle.t7_eobi.specs.Grammar.{AreMessages, IsDatagram, IsHeader, IsOther, IsWhole}
use Rattle.t7_eobi.specs.Said.{ReadsLive, ReadsSnap, SayLives, SaySnaps, SaysHeader}
use Rattle.t7_eobi.proofs.FaultFacts.{fault_ends, fault_goes, fault_moves, messages_unroll, not_cut, sound_faultless}
use Rattle.t7_eobi.proofs.WalkFacts.{faultless, headed, left_behind, room_role, sound_role, walk_ends, walk_passes, walk_whole}

-- ---- a whole message, with bytes behind it

-- what bytes that begin with a whole message begin with
pub record Begins (m rest : List ℕ) : Type 0 where
  pub body : body_of (m ++ rest) ≡ length m
  pub message : front_message (m ++ rest) ≡ m
  pub behind : drop (body_of (m ++ rest)) (m ++ rest) ≡ rest
  pub whole : is_cut (m ++ rest) ≡ false
  pub some : 0 < length (m ++ rest)

take_front : (m rest : List ℕ) → take (length m) (m ++ rest) ≡ m
take_front [] [] = refl
take_front [] (r ∷ rest) = refl
take_front (b ∷ m) rest = ap (λ (xs : List ℕ). b ∷ xs) (take_front m rest)

drop_front : (m rest : List ℕ) → drop (length m) (m ++ rest) ≡ rest
drop_front [] rest = refl
drop_front (b ∷ m) rest = drop_front m rest

uncut : (n body : ℕ) → 8 ≤ n → 8 ≤ body → body ≤ n → (nat_lt n 8 || (nat_lt body 8 || nat_lt n body)) ≡ false
uncut n body a b d =
    let x : nat_lt n 8 ≡ false = grind (arith, nat_tests) in
    let y : nat_lt body 8 ≡ false = grind (arith, nat_tests) in
    let z : nat_lt n body ≡ false = grind (arith, nat_tests) in
    rw (x, y, z) refl

pub begins : (m rest : List ℕ) → IsWhole m → Begins m rest
unfolding body_of front_message is_cut
begins m rest h =
    let l = length-append m rest in
    let b : body_of (m ++ rest) ≡ length m = little_from-append 2 m rest (let long = h.long in omega arith) ∙ h.said in
    record {
      body = b;
      message = ap (λ (n : ℕ). take n (m ++ rest)) b ∙ take_front m rest;
      behind = ap (λ (n : ℕ). drop n (m ++ rest)) b ∙ drop_front m rest;
      whole = uncut (length (m ++ rest)) (body_of (m ++ rest)) (let long = h.long in omega arith) (let long = h.long in omega arith) (omega arith);
      some = (let long = h.long in omega arith);
    }

-- ---- a message behind the header fails no test exactly where it is one of the channel

pub other_passes : (ls : List Layout) (c : Channel) (m : List ℕ) → IsOther ls c m → message_fault ls c m ≡ None
unfolding message_fault role_fault
other_passes ls c m h = by (role_of ls m) refl
  where
    fields : (r : Role) (b : Bool) → in_channel c r ≡ b → role_of ls m ≡ Some r → cond b (fields_fault (as_role ls r m)) None ≡ None
    fields r true inside e = sound_faultless (as_role ls r m) (h.sound r e inside)
    fields r false inside e = refl

    by : (o : Option Role) → role_of ls m ≡ o → option_map_or (λ (r : Role). role_fault ls c r m) o None ≡ None
    by None e = refl
    by (Some r) e = rw (h.room r e) (fields r (in_channel c r) refl e)

pub passes_other : (ls : List Layout) (c : Channel) (m : List ℕ) → IsWhole m → message_fault ls c m ≡ None → IsOther ls c m
unfolding message_fault
passes_other ls c m whole e =
    record {
      whole = whole;
      room = λ r is. room_role ls c r m (fault r is);
      sound = λ r is inside. sound_role ls c r m (fault r is) inside;
    }
  where
    fault : (r : Role) → role_of ls m ≡ Some r → role_fault ls c r m ≡ None
    fault r is = rw is at e

pub header_passes : (ls : List Layout) (segment : ℕ) (m : List ℕ) → IsHeader ls segment m → header_fault ls segment m ≡ None
unfolding header_fault is_header names_product
header_passes ls segment m h =
    let fields = sound_faultless (as_role ls role.PacketHeader m) h.sound in
    rw (h.is, h.room, fields, h.product) (same (pos segment))
  where
    same : (z : ℤ) → cond (int_eq z z) None (Some why.Product) ≡ None
    same z = grind (arith)

pub passes_header : (ls : List Layout) (segment : ℕ) (m : List ℕ) → IsWhole m → header_fault ls segment m ≡ None → IsHeader ls segment m
unfolding names_product
passes_header ls segment m whole e =
    let h = headed ls segment m e in
    record { whole = whole; is = h.is; room = h.room; sound = h.sound; product = equal (value (as_role ls role.PacketHeader m) name.MarketSegmentID) (pos segment) h.product }
  where
    equal : (a b : ℤ) → int_eq a b ≡ true → a ≡ b
    equal a b e = grind (arith)

-- ---- messages behind the header

-- messages of a channel one after another have no fault, and are the messages of their bytes
record Joined (ls : List Layout) (c : Channel) (ms : List (List ℕ)) : Type 0 where
  faultless : fault_from ls c 0 0 (concat ms) ≡ None
  messages : messages_of (concat ms) ≡ ms

joined : (ls : List Layout) (c : Channel) (ms : List (List ℕ)) → ((m : List ℕ) → Contains ms m → IsOther ls c m) → Joined ls c ms
joined ls c [] each = record { faultless = fault_ends ls c 0 [] refl; messages = walk_ends [] refl }
joined ls c (m ∷ ms) each =
    let other : IsOther ls c m = each m (0, omega arith, refl) in
    let rest = joined ls c ms (λ x (k, inside, is). each x (suc k, omega arith, is)) in
    let b = begins m (concat ms) other.whole in
    let pass : message_fault ls c (front_message (m ++ concat ms)) ≡ None = rw b.message (other_passes ls c m other) in
    let long = other.whole.long in
    record {
      faultless =
          fault_goes ls c 0 (m ++ concat ms) b.some b.whole pass
          ∙ rw b.behind (fault_moves ls c 0 (0 + body_of (m ++ concat ms)) 0 (concat ms) rest.faultless);
      messages = messages_unroll (m ++ concat ms) b.some (let e = b.body in omega arith) ∙ rw (b.message, b.behind, rest.messages) refl;
    }

-- ---- bytes without a fault

cut_in_two : (n : ℕ) (xs : List ℕ) → take n xs ++ drop n xs ≡ xs
cut_in_two zero [] = refl
cut_in_two zero (x ∷ xs) = refl
cut_in_two (suc n) [] = refl
cut_in_two (suc n) (x ∷ xs) = ap (λ (ys : List ℕ). x ∷ ys) (cut_in_two n xs)

length_front : (n : ℕ) (xs : List ℕ) → n ≤ length xs → length (take n xs) ≡ n
length_front n xs h = let e = ap length (cut_in_two n xs) in omega (arith, length-append (take n xs) (drop n xs), length-drop n xs, e)

pub first_whole : (rest : List ℕ) → is_cut rest ≡ false → IsWhole (front_message rest)
unfolding front_message body_of
first_whole rest e =
    let bounds = not_cut rest e in
    let l : length (front_message rest) ≡ body_of rest = length_front (body_of rest) rest bounds.1 in
    let same = little_from-append 2 (front_message rest) (drop (body_of rest) rest) (omega arith) in
    record {
      long = omega arith;
      said = sym same ∙ ap body_of (cut_in_two (body_of rest) rest) ∙ sym l;
    }

pub message_size : (rest : List ℕ) → is_cut rest ≡ false → length (front_message rest) ≡ body_of rest
unfolding front_message
message_size rest e = let bounds = not_cut rest e in length_front (body_of rest) rest bounds.1

pub halves : (rest : List ℕ) → front_message rest ++ drop (body_of rest) rest ≡ rest
unfolding front_message
halves rest = cut_in_two (body_of rest) rest

-- bytes are joined of their messages, each of them one of the channel
record Cut (ls : List Layout) (c : Channel) (rest : List ℕ) : Type 0 where
  joined : concat (messages_of rest) ≡ rest
  each : (m : List ℕ) → Contains (messages_of rest) m → IsOther ls c m

no_bytes : (rest : List ℕ) → length rest ≡ 0 → [] ≡ rest
no_bytes [] h = refl
no_bytes (b ∷ bs) h = absurd (omega arith)

pub more_contained : (P : List ℕ → Type 0) (x : List ℕ) (xs : List (List ℕ)) → P x → ((m : List ℕ) → Contains xs m → P m) → (m : List ℕ) → Contains (x ∷ xs) m → P m
more_contained P x xs first each m (zero, inside, is) = subst P is first
more_contained P x xs first each m (suc k, inside, is) = each m (k, omega arith, is)

cut : (n : ℕ) (ls : List Layout) (c : Channel) (rest : List ℕ) → length rest ≤ n → fault_from ls c 0 0 rest ≡ None → Cut ls c rest
cut n ls c [] small e = record {
  joined = ap concat (walk_ends [] refl);
  each = λ m there. (let (k, inside, is) = there in let none = ap length (walk_ends [] refl) in absurd (omega arith));
}
cut zero ls c (b ∷ bs) small e = absurd (omega arith)
cut (suc n) ls c (b ∷ bs) small e =
    let rest : List ℕ = b ∷ bs in
    let whole = walk_whole ls c 0 rest e (omega arith) in
    let pass = walk_passes ls c 0 rest e (omega arith) in
    let bounds = not_cut rest whole in
    let left : List ℕ = drop (body_of rest) rest in
    let goes : fault_from ls c 0 0 left ≡ None = fault_moves ls c (0 + body_of rest) 0 0 left (sym (fault_goes ls c 0 rest (omega arith) whole pass) ∙ e) in
    let less = length-drop (body_of rest) rest in
    let more = cut n ls c left (omega arith) goes in
    let first : IsOther ls c (front_message rest) = passes_other ls c (front_message rest) (first_whole rest whole) pass in
    let unroll = messages_unroll rest (omega arith) (omega arith) in
    record {
      joined = ap concat unroll ∙ ap (λ (xs : List ℕ). front_message rest ++ xs) more.joined ∙ halves rest;
      each = (let P : List (List ℕ) → Type 0 = λ ms. (m : List ℕ) → Contains ms m → IsOther ls c m in subst P (sym unroll) (more_contained (IsOther ls c) (front_message rest) (messages_of left) first more.each));
    }

-- ---- the law

not_long : (n : ℕ) → nat_lt 1472 n ≡ false → n ≤ 1472
not_long n e = grind (arith, nat_tests)

long_not : (n : ℕ) → n ≤ 1472 → nat_lt 1472 n ≡ false
long_not n h = grind (arith, nat_tests)

pub faultless_datagram : (x : Reading) (bytes : List ℕ) → fault_of x bytes ≡ None → IsDatagram x bytes (messages_of bytes)
unfolding front_message
faultless_datagram x bytes e =
    let f = faultless x bytes e in
    let bounds = not_cut bytes f.whole in
    let goes : fault_from x.layouts x.channel 0 0 (behind bytes) ≡ None = fault_moves x.layouts x.channel (body_of bytes) 0 0 (behind bytes) f.behind in
    let rest = cut (length (behind bytes)) x.layouts x.channel (behind bytes) (omega arith) goes in
    let header = passes_header x.layouts x.segment (front_message bytes) (first_whole bytes f.whole) f.header in
    let unroll = messages_unroll bytes (omega arith) (omega arith) in
    record {
      short = not_long (length bytes) f.short;
      joined = ap concat unroll ∙ ap (λ (xs : List ℕ). front_message bytes ++ xs) rest.joined ∙ cut_in_two (body_of bytes) bytes;
      each = (let P : List (List ℕ) → Type 0 = λ ms. AreMessages x ms in subst P (sym unroll) (header, rest.each));
    }

-- the messages behind the header of a datagram are messages of its channel
pub others_behind : (x : Reading) (c : Channel) (bytes : List ℕ) → fault_of x bytes ≡ None → x.channel ≡ c → (m : List ℕ) → Contains (messages_of (behind bytes)) m → IsOther x.layouts c m
others_behind x c bytes e k m there =
    let goes : fault_from x.layouts c 0 0 (behind bytes) ≡ None = left_behind x c bytes (behind bytes) e k refl in
    (cut (length (behind bytes)) x.layouts c (behind bytes) (omega arith) goes).each m there

-- what is known of a datagram of messages
pub record Known (x : Reading) (bytes header : List ℕ) (others : List (List ℕ)) : Type 0 where
  pub faultless : fault_of x bytes ≡ None
  pub all : messages_of bytes ≡ header ∷ others
  pub first : front_message bytes ≡ header
  pub rest : messages_of (behind bytes) ≡ others

pub datagram_known : (x : Reading) (header : List ℕ) (others : List (List ℕ)) → IsDatagram x (header ++ concat others) (header ∷ others) → Known x (header ++ concat others) header others
unfolding fault_of
datagram_known x header others d =
    let (head, each) = d.each in
    let j = joined x.layouts x.channel others each in
    let b = begins header (concat others) head.whole in
    let long = head.whole.long in
    let pass : header_fault x.layouts x.segment (front_message (header ++ concat others)) ≡ None =
    rw b.message (header_passes x.layouts x.segment header head) in
    let short = long_not (length (header ++ concat others)) d.short in
    record {
      faultless = rw (short, b.whole, pass, b.behind) (fault_moves x.layouts x.channel 0 (body_of (header ++ concat others)) 0 (concat others) j.faultless);
      all = messages_unroll (header ++ concat others) b.some (let e = b.body in omega arith) ∙ rw (b.message, b.behind, j.messages) refl;
      first = b.message;
      rest = rw b.behind j.messages;
    }

pub datagram_faultless : (x : Reading) (bytes : List ℕ) (messages : List (List ℕ)) → IsDatagram x bytes messages → (fault_of x bytes ≡ None) × (messages_of bytes ≡ messages)
datagram_faultless x bytes [] d = absurd d.each
datagram_faultless x bytes (header ∷ others) d =
    let P : List ℕ → Type 0 = λ b. IsDatagram x b (header ∷ others) in
    let k = datagram_known x header others (subst P (sym d.joined) d) in
    let Q : List ℕ → Type 0 = λ b. (fault_of x b ≡ None) × (messages_of b ≡ header ∷ others) in
    subst Q d.joined (k.faultless, k.all)

-- the messages behind the header are those that are walked
pub datagram_rest : (x : Reading) (bytes header : List ℕ) (others : List (List ℕ)) → IsDatagram x bytes (header ∷ others) → messages_of (behind bytes) ≡ others
datagram_rest x bytes header others d =
    let P : List ℕ → Type 0 = λ b. IsDatagram x b (header ∷ others) in
    let k = datagram_known x header others (subst P (sym d.joined) d) in
    ap (λ (b : List ℕ). messages_of (behind b)) (sym d.joined) ∙ k.rest

-- ---- datagrams that are written

lives_each : (ls : List Layout) (items : List Live) (ms : List (List ℕ)) → SayLives ls items ms → ((m : List ℕ) → Contains ms m → IsOther ls channel.Live m) × (filter_map (live_of ls) ms ≡ items)
lives_each ls [] [] h = ((λ m there. (let (k, inside, is) = there in absurd (omega arith))), refl)
lives_each ls (item ∷ items) (m ∷ ms) h =
    let (each, same) = lives_each ls items ms h.1 in
    (more_contained (IsOther ls channel.Live) m ms h.0.other each, rw (h.0.says, same) refl)
lives_each ls [] (m ∷ ms) h = absurd h
lives_each ls (item ∷ items) [] h = absurd h

snaps_each : (ls : List Layout) (items : List Snap) (ms : List (List ℕ)) → SaySnaps ls items ms → ((m : List ℕ) → Contains ms m → IsOther ls channel.Snap m) × (filter_map (snap_of ls) ms ≡ items)
snaps_each ls [] [] h = ((λ m there. (let (k, inside, is) = there in absurd (omega arith))), refl)
snaps_each ls (item ∷ items) (m ∷ ms) h =
    let (each, same) = snaps_each ls items ms h.1 in
    (more_contained (IsOther ls channel.Snap) m ms h.0.other each, rw (h.0.says, same) refl)
snaps_each ls [] (m ∷ ms) h = absurd h
snaps_each ls (item ∷ items) [] h = absurd h

-- a datagram of a header and messages that say items is read as those
pub reads_live : (ls : List Layout) (segment count : ℕ) (items : List Live) (header : List ℕ) (ms : List (List ℕ)) → SaysHeader ls segment count header → SayLives ls items ms → length (header ++ concat ms) ≤ 1472
    → ReadsLive ls segment count items (header ++ concat ms)
unfolding packet_number
reads_live ls segment count items header ms h says short =
    let (each, same) = lives_each ls items ms says in
    let x : Reading = record { layouts = ls; segment = segment; channel = channel.Live } in
    let d : IsDatagram x (header ++ concat ms) (header ∷ ms) = record { short = short; joined = refl; each = (h.header, each) } in
    let k = datagram_known x header ms d in
    record {
      faultless = k.faultless;
      numbered = rw k.first h.says;
      says = ap (filter_map (live_of ls)) k.rest ∙ same;
    }

-- a datagram of a header and messages that say items is read as those
pub reads_snap : (ls : List Layout) (segment count : ℕ) (items : List Snap) (header : List ℕ) (ms : List (List ℕ)) → SaysHeader ls segment count header → SaySnaps ls items ms → length (header ++ concat ms) ≤ 1472
    → ReadsSnap ls segment count items (header ++ concat ms)
unfolding packet_number
reads_snap ls segment count items header ms h says short =
    let (each, same) = snaps_each ls items ms says in
    let x : Reading = record { layouts = ls; segment = segment; channel = channel.Snap } in
    let d : IsDatagram x (header ++ concat ms) (header ∷ ms) = record { short = short; joined = refl; each = (h.header, each) } in
    let k = datagram_known x header ms d in
    record {
      faultless = k.faultless;
      numbered = rw k.first h.says;
      says = ap (filter_map (snap_of ls)) k.rest ∙ same;
    }
