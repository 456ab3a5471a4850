-- Facts about the faults of bytes.
use Rattle.std.proofs.Common.{◌≡◌, ◌<◌, ◌≤◌, ◌+◌, ◌-◌, ◌∙◌, ◌||◌, ℕ, zero, suc, Bool, true, false, List, [], ◌∷◌, Option, Some, None, length, drop, refl, cond, arith, not, is_some, nat_lt, nat_le}
use Rattle.std.specs.Prelude.{IfSome, option_map}
use Rattle.std.specs.Option.{option_map_or, option_or}
use Rattle.std.proofs.lemmas.Bool.Decides.{nat_tests}
use Rattle.t7_layout.specs.declared.words.Family.TheVariants.{Eobi}
use Rattle.t7_layout.specs.declared.roles.Role.{Role}
use Rattle.t7_layout.specs.declared.roles.Role.TheVariants as role
use Rattle.t7_layout.specs.Layouts.{Layout}
use Rattle.t7_layout.specs.Lookups.{find_role}
use Rattle.t7_layout.specs.Roles.{family_of}
use Rattle.t7_fields.specs.Spelling.{Fits, body_length, length_width}
use Rattle.t7_fields.specs.Messages.{Message, first_unset}
use Rattle.t7_base.specs.declared.ids.Channel.{Channel}
use Rattle.t7_eobi.specs.Datagrams.{body_of, is_cut, front_message, messages_from}
use Rattle.t7_eobi.specs.Faults.{fault_at, fault_from, fault_here, fields_fault, has_room, is_header, message_fault}
use Rattle.t7_eobi.specs.Ranges.{IsSound, counted, first_out}
use Rattle.t7_eobi.specs.declared.faults.PacketWhy.{PacketWhy}
use Rattle.t7_eobi.specs.declared.faults.PacketWhy.TheVariants as why
use Rattle.t7_eobi.proofs.MessageFacts.{family_found}

pub header_is : (r : Role) → is_header r ≡ true → r ≡ role.PacketHeader
unfolding is_header
header_is role.PacketHeader h = refl
header_is other h = cc h

-- ---- a message of a role

-- a message with room is one that fits
pub room_fits : (layouts : List Layout) (r : Role) (message : List ℕ) → has_room layouts r message ≡ true → body_of message ≡ length message → family_of r ≡ Eobi → IfSome (find_role layouts r) (λ t. Fits t message)
unfolding has_room body_of body_length length_width
room_fits layouts r message room said family = by (find_role layouts r) refl room
  where
    by : (o : Option Layout) → find_role layouts r ≡ o → option_map_or (λ (t : Layout). nat_le t.size (length message)) o false ≡ true → IfSome o (λ t. Fits t message)
    by None e h = tt
    by (Some t) e h = let f : t.family ≡ Eobi = family_found layouts r t e ∙ family in record { room = grind (arith, nat_tests); said = rw f said }

is_none_of : {A : Type 0} (o : Option A) → is_some o ≡ false → o ≡ None
is_none_of None e = refl
is_none_of (Some a) e = cc e

pub chosen : {A : Type 0} (b : Bool) (w : A) (o : Option A) → cond b (Some w) o ≡ None → (b ≡ false) × (o ≡ None)
chosen true w o e = cc e
chosen false w o e = (refl, e)

pub not_false : (b : Bool) → not b ≡ false → b ≡ true
not_false true e = refl
not_false false e = cc e

-- fields that fail no test are in their ranges
pub faultless_sound : (m : Message) → fields_fault m ≡ None → IsSound m
unfolding fields_fault
faultless_sound m e =
    let (unset, b) = chosen (is_some (first_unset m (counted m.role))) why.Null _ e in
    let (out, d) = chosen (is_some (first_out m (counted m.role))) why.Value _ b in
    record { set = is_none_of _ unset; ranged = is_none_of _ out }

pub sound_faultless : (m : Message) → IsSound m → fields_fault m ≡ None
unfolding fields_fault
sound_faultless m h = rw (h.set, h.ranged) refl

-- ---- where one message ends and the next begins

-- bytes that still belong to the message before have no fault of their own
fault_passes : (ls : List Layout) (c : Channel) (k place : ℕ) (xs : List ℕ) → fault_from ls c place k xs ≡ fault_from ls c (place + k) 0 (drop k xs)
unfolding fault_from
fault_passes ls c zero place [] = refl
fault_passes ls c (suc k) place [] = refl
fault_passes ls c zero place (b ∷ bs) = let e : place + 0 ≡ place = omega arith in rw e refl
fault_passes ls c (suc k) place (b ∷ bs) =
    let e : place + suc k ≡ place + 1 + k = omega arith in
    rw (e, fault_passes ls c k (place + 1) bs) refl

messages_pass : (k : ℕ) (xs : List ℕ) → messages_from k xs ≡ messages_from 0 (drop k xs)
unfolding messages_from
messages_pass zero [] = refl
messages_pass (suc k) [] = refl
messages_pass zero (b ∷ bs) = refl
messages_pass (suc k) (b ∷ bs) = messages_pass k bs

after_first : (b : ℕ) (bs : List ℕ) (n : ℕ) → 1 ≤ n → drop (n - 1) bs ≡ drop n (b ∷ bs)
after_first b bs zero h = absurd (omega arith)
after_first b bs (suc n) h = let e : suc n - 1 ≡ n = omega arith in rw e refl

pub not_cut : (rest : List ℕ) → is_cut rest ≡ false → (8 ≤ body_of rest) × (body_of rest ≤ length rest)
unfolding is_cut
not_cut rest e =
    let (a, c) = neither (nat_lt (length rest) 8) (nat_lt (body_of rest) 8 || nat_lt (length rest) (body_of rest)) e in
    let (b, d) = neither (nat_lt (body_of rest) 8) (nat_lt (length rest) (body_of rest)) c in
    (grind (arith, nat_tests), grind (arith, nat_tests))
  where
    neither : (a b : Bool) → (a || b) ≡ false → (a ≡ false) × (b ≡ false)
    neither true b h = cc h
    neither false b h = (refl, h)

-- the faults from a message on: its own, and else those after it
fault_unroll : (ls : List Layout) (c : Channel) (place : ℕ) (rest : List ℕ) → 0 < length rest → 1 ≤ body_of rest
    → fault_from ls c place 0 rest ≡ option_or (fault_here ls c place rest) (fault_from ls c (place + body_of rest) 0 (drop (body_of rest) rest))
unfolding fault_from
fault_unroll ls c place [] h low = absurd (omega arith)
fault_unroll ls c place (b ∷ bs) h low =
    let e : place + 1 + (body_of (b ∷ bs) - 1) ≡ place + body_of (b ∷ bs) = omega arith in
    rw (fault_passes ls c (body_of (b ∷ bs) - 1) (place + 1) bs, e, after_first b bs (body_of (b ∷ bs)) low) refl

pub messages_unroll : (rest : List ℕ) → 0 < length rest → 1 ≤ body_of rest
    → messages_from 0 rest ≡ front_message rest ∷ messages_from 0 (drop (body_of rest) rest)
unfolding messages_from
messages_unroll [] h low = absurd (omega arith)
messages_unroll (b ∷ bs) h low = rw (messages_pass (body_of (b ∷ bs) - 1) bs, after_first b bs (body_of (b ∷ bs)) low) refl

pub cut_stops : (ls : List Layout) (c : Channel) (place : ℕ) (rest : List ℕ) → 0 < length rest → is_cut rest ≡ true → fault_from ls c place 0 rest ≡ Some (fault_at place why.Cut)
unfolding fault_from fault_here
cut_stops ls c place [] h e = absurd (omega arith)
cut_stops ls c place (b ∷ bs) h e = rw e refl

pub fault_stops : (ls : List Layout) (c : Channel) (place : ℕ) (rest : List ℕ) (w : PacketWhy) → 0 < length rest → is_cut rest ≡ false → message_fault ls c (front_message rest) ≡ Some w
    → fault_from ls c place 0 rest ≡ Some (fault_at place w)
unfolding fault_from fault_here
fault_stops ls c place [] w h e m = absurd (omega arith)
fault_stops ls c place (b ∷ bs) w h e m = rw (e, m) refl

pub fault_goes : (ls : List Layout) (c : Channel) (place : ℕ) (rest : List ℕ) → 0 < length rest → is_cut rest ≡ false → message_fault ls c (front_message rest) ≡ None
    → fault_from ls c place 0 rest ≡ fault_from ls c (place + body_of rest) 0 (drop (body_of rest) rest)
unfolding fault_here
fault_goes ls c place rest h e m =
    let bounds = not_cut rest e in
    rw (fault_unroll ls c place rest h (omega arith), e, m) refl

pub fault_ends : (ls : List Layout) (c : Channel) (place : ℕ) (rest : List ℕ) → length rest ≡ 0 → fault_from ls c place 0 rest ≡ None
unfolding fault_from
fault_ends ls c place [] h = refl
fault_ends ls c place (b ∷ bs) h = absurd (omega arith)

-- whether there is a fault doesn't depend on the place
pub fault_moves : (ls : List Layout) (c : Channel) (p q k : ℕ) (xs : List ℕ) → fault_from ls c p k xs ≡ None → fault_from ls c q k xs ≡ None
unfolding fault_from fault_here
fault_moves ls c p q zero [] e = refl
fault_moves ls c p q (suc k) [] e = refl
fault_moves ls c p q (suc k) (b ∷ bs) e = fault_moves ls c (p + 1) (q + 1) k bs e
fault_moves ls c p q zero (b ∷ bs) e = by (is_cut (b ∷ bs)) (message_fault ls c (front_message (b ∷ bs))) e (fault_moves ls c (p + 1) (q + 1) (body_of (b ∷ bs) - 1) bs)
  where
    by : (cut : Bool) (w : Option PacketWhy)
        → option_or (cond cut (Some (fault_at p why.Cut)) (option_map (fault_at p) w)) (fault_from ls c (p + 1) (body_of (b ∷ bs) - 1) bs) ≡ None
        → (fault_from ls c (p + 1) (body_of (b ∷ bs) - 1) bs ≡ None → fault_from ls c (q + 1) (body_of (b ∷ bs) - 1) bs ≡ None)
        → option_or (cond cut (Some (fault_at q why.Cut)) (option_map (fault_at q) w)) (fault_from ls c (q + 1) (body_of (b ∷ bs) - 1) bs) ≡ None
    by true w e more = cc e
    by false None e more = more e
    by false (Some w) e more = cc e
