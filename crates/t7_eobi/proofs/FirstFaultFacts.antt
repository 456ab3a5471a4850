-- The fault of bytes is the first one in the words of the grammar.
use Rattle.std.proofs.Common.{◌≡◌, ◌<◌, ◌≤◌, ◌+◌, ◌∙◌, ◌++◌, ℕ, zero, suc, Bool, true, false, not, List, [], ◌∷◌, Option, Some, None, length, drop, refl, sym, ap, subst, cond, arith, inl, inr, is_some, nat_lt, length-append, length-drop}
use Rattle.std.specs.Prelude.{◌≢◌, Contains, IsSome, pos, ℤ, option_map}
use Rattle.std.specs.List.{concat}
use Rattle.std.specs.Option.{option_map_or, option_or}
use Rattle.std.specs.Ordering.{int_eq}
use Rattle.std.proofs.lemmas.Bool.Decides.{nat_tests}
use Rattle.t7_layout.specs.declared.roles.Role.{Role}
use Rattle.t7_layout.specs.declared.roles.Role.TheVariants as role
use Rattle.t7_layout.specs.declared.roles.FieldName.{FieldName}
use Rattle.t7_layout.specs.declared.roles.FieldName.TheVariants as name
use Rattle.t7_layout.specs.Layouts.{Layout}
use Rattle.t7_fields.specs.Messages.{first_unset, value}
use Rattle.t7_base.specs.declared.ids.Channel.{Channel}
use Rattle.t7_eobi.specs.declared.faults.PacketWhy.{PacketWhy}
use Rattle.t7_eobi.specs.declared.faults.PacketWhy.TheVariants as why
use Rattle.t7_eobi.specs.declared.faults.PacketFault.{PacketFault}
use Rattle.t7_eobi.specs.Datagrams.{as_role, behind, body_of, in_channel, is_cut, front_message, role_of}
use Rattle.t7_eobi.specs.Faults.{Reading, fault_at, fault_from, fault_of, fields_fault, has_room, header_fault, is_header, message_fault, names_product, role_fault}
use Rattle.t7_eobi.specs.Grammar.{IsOther}
use Rattle.t7_eobi.specs.Ranges.{counted, first_out}
use Rattle.t7_eobi.specs.FirstFault.{AreSoundSoFar, FailsAs, FailsBehind, FailsFirst, FailsHeader, FailsNext, FailsOther, IsFaultBehind, IsFirstFault, LooksAt}
use Rattle.t7_eobi.proofs.FaultFacts.{cut_stops, fault_ends, fault_goes, fault_stops, faultless_sound, header_is, not_cut}
use Rattle.t7_eobi.proofs.GrammarFacts.{begins, first_whole, halves, header_passes, message_size, more_contained, other_passes, passes_header, passes_other}

-- ---- the fields of a message of a role

as_told : (ls : List Layout) (r : Role) (m : List ℕ) (w : PacketWhy) → has_room ls r m ≡ true → fields_fault (as_role ls r m) ≡ Some w → FailsAs ls r m w
unfolding fields_fault
as_told ls r m w room e = by (first_unset (as_role ls r m) (counted r)) refl (first_out (as_role ls r m) (counted r)) refl e
  where
    by : (u : Option FieldName) → first_unset (as_role ls r m) (counted r) ≡ u → (o : Option FieldName) → first_out (as_role ls r m) (counted r) ≡ o
        → cond (is_some u) (Some why.Null) (cond (is_some o) (Some why.Value) None) ≡ Some w → FailsAs ls r m w
    by (Some n) a o b h = let is : why.Null ≡ w = cc h in subst (FailsAs ls r m) is (room, rw a refl)
    by None a (Some n) b h = let is : why.Value ≡ w = cc h in subst (FailsAs ls r m) is (room, a, rw b refl)
    by None a None b h = cc h

null_told : (ls : List Layout) (r : Role) (m : List ℕ) → IsSome (first_unset (as_role ls r m) (counted r)) → fields_fault (as_role ls r m) ≡ Some why.Null
unfolding fields_fault
null_told ls r m = by (first_unset (as_role ls r m) (counted r)) _
  where
    by : (u : Option FieldName) (v : Option PacketWhy) → IsSome u → cond (is_some u) (Some why.Null) v ≡ Some why.Null
    by (Some n) v h = refl
    by None v h = cc h

value_told : (ls : List Layout) (r : Role) (m : List ℕ) → first_unset (as_role ls r m) (counted r) ≡ None → IsSome (first_out (as_role ls r m) (counted r)) → fields_fault (as_role ls r m) ≡ Some why.Value
unfolding fields_fault
value_told ls r m unset out = rw unset (by (first_out (as_role ls r m) (counted r)) out)
  where
    by : (o : Option FieldName) → IsSome o → cond (is_some o) (Some why.Value) None ≡ Some why.Value
    by (Some n) h = refl
    by None h = cc h

-- ---- a message behind the header

looks : (c : Channel) (r : Role) (w : PacketWhy) → in_channel c r ≡ true → LooksAt c r w
looks c r why.Length h = tt
looks c r other h = h

role_told : (x : Reading) (r : Role) (m : List ℕ) (w : PacketWhy) → role_of x.layouts m ≡ Some r → role_fault x.layouts x.channel r m ≡ Some w → FailsOther x m w
unfolding role_fault
role_told x r m w is e = by (has_room x.layouts r m) refl (in_channel x.channel r) refl e
  where
    by : (b : Bool) → has_room x.layouts r m ≡ b → (i : Bool) → in_channel x.channel r ≡ i
        → cond (not b) (Some why.Length) (cond i (fields_fault (as_role x.layouts r m)) None) ≡ Some w → FailsOther x m w
    by false a i b h = let same : why.Length ≡ w = cc h in subst (FailsOther x m) same (r, is, tt, a)
    by true a true b h = (r, is, looks x.channel r w b, as_told x.layouts r m w a h)
    by true a false b h = cc h

message_told : (x : Reading) (m : List ℕ) (w : PacketWhy) → message_fault x.layouts x.channel m ≡ Some w → FailsOther x m w
unfolding message_fault
message_told x m w e = by (role_of x.layouts m) refl e
  where
    by : (o : Option Role) → role_of x.layouts m ≡ o → option_map_or (λ (r : Role). role_fault x.layouts x.channel r m) o None ≡ Some w → FailsOther x m w
    by None a h = cc h
    by (Some r) a h = role_told x r m w a h

fails_message : (x : Reading) (m : List ℕ) (w : PacketWhy) → FailsOther x m w → message_fault x.layouts x.channel m ≡ Some w
unfolding message_fault role_fault
fails_message x m why.Length (r, is, looked, room) = rw (is, room) refl
fails_message x m why.Null (r, is, inside, (room, unset)) = rw (is, room, inside) (null_told x.layouts r m unset)
fails_message x m why.Value (r, is, inside, (room, set, out)) = rw (is, room, inside) (value_told x.layouts r m set out)
fails_message x m why.TooLong (r, is, inside, none) = absurd none
fails_message x m why.Cut (r, is, inside, none) = absurd none
fails_message x m why.NoHeader (r, is, inside, none) = absurd none
fails_message x m why.Product (r, is, inside, none) = absurd none

-- ---- the message at place 0

as_header : (x : Reading) (m : List ℕ) (w : PacketWhy) → role_of x.layouts m ≡ Some role.PacketHeader → FailsAs x.layouts role.PacketHeader m w → FailsHeader x m w
as_header x m why.NoHeader is f = absurd f
as_header x m why.Product is f = absurd f
as_header x m other is f = (is, f)

no_header : (o : Option Role) → option_map_or is_header o false ≡ false → o ≢ Some role.PacketHeader
unfolding is_header
no_header None e same = cc same
no_header (Some r) e same = let is : r ≡ role.PacketHeader = cc same in cc (subst (λ (s : Role). is_header s ≡ false) is e)

is_one : (o : Option Role) → option_map_or is_header o false ≡ true → o ≡ Some role.PacketHeader
is_one None e = cc e
is_one (Some r) e = ap Some (header_is r e)

other_product : (a b : ℤ) → int_eq a b ≡ false → a ≢ b
other_product a b e same = let z : int_eq a b ≡ true = grind (arith) in cc (sym z ∙ e)

differs : (a b : ℤ) → a ≢ b → int_eq a b ≡ false
differs a b h = by (int_eq a b) refl
  where
    by : (c : Bool) → int_eq a b ≡ c → c ≡ false
    by true e = let same : a ≡ b = grind (arith) in absurd (h same)
    by false e = refl

header_told : (x : Reading) (m : List ℕ) (w : PacketWhy) → header_fault x.layouts x.segment m ≡ Some w → FailsHeader x m w
unfolding header_fault names_product
header_told x m w e =
    by (option_map_or is_header (role_of x.layouts m) false) refl (has_room x.layouts role.PacketHeader m) refl (fields_fault (as_role x.layouts role.PacketHeader m)) refl
    (int_eq (value (as_role x.layouts role.PacketHeader m) name.MarketSegmentID) (pos x.segment)) refl e
  where
    by : (a : Bool) → option_map_or is_header (role_of x.layouts m) false ≡ a → (b : Bool) → has_room x.layouts role.PacketHeader m ≡ b
        → (f : Option PacketWhy) → fields_fault (as_role x.layouts role.PacketHeader m) ≡ f
        → (p : Bool) → int_eq (value (as_role x.layouts role.PacketHeader m) name.MarketSegmentID) (pos x.segment) ≡ p
        → cond (not a) (Some why.NoHeader) (cond (not b) (Some why.Length) (option_or f (cond p None (Some why.Product)))) ≡ Some w → FailsHeader x m w
    by false a b d f g p q h = let same : why.NoHeader ≡ w = cc h in subst (FailsHeader x m) same (no_header (role_of x.layouts m) a)
    by true a false d f g p q h = let same : why.Length ≡ w = cc h in subst (FailsHeader x m) same (is_one (role_of x.layouts m) a, d)
    by true a true d (Some v) g p q h = let same : v ≡ w = cc h in as_header x m w (is_one (role_of x.layouts m) a) (as_told x.layouts role.PacketHeader m w d (g ∙ ap Some same))
    by true a true d None g false q h =
        let same : why.Product ≡ w = cc h in
        subst (FailsHeader x m) same (is_one (role_of x.layouts m) a, d, faultless_sound _ g, other_product _ _ q)
    by true a true d None g true q h = cc h

fails_header : (x : Reading) (m : List ℕ) (w : PacketWhy) → FailsHeader x m w → header_fault x.layouts x.segment m ≡ Some w
unfolding header_fault names_product is_header fields_fault
fails_header x m why.NoHeader h = rw (none (role_of x.layouts m) h) refl
  where
    none : (o : Option Role) → o ≢ Some role.PacketHeader → option_map_or is_header o false ≡ false
    none None n = refl
    none (Some r) n = by (is_header r) refl
      where
        by : (b : Bool) → is_header r ≡ b → is_header r ≡ false
        by true e = absurd (n (ap Some (header_is r e)))
        by false e = e
fails_header x m why.Length (is, room) = rw (is, room) refl
fails_header x m why.Null (is, (room, unset)) = rw (is, room) (let f = null_told x.layouts role.PacketHeader m unset in rw f refl)
fails_header x m why.Value (is, (room, set, out)) = rw (is, room) (let f = value_told x.layouts role.PacketHeader m set out in rw f refl)
fails_header x m why.Product (is, room, sound, n) = rw (is, room, sound.set, sound.ranged, differs _ _ n) refl
fails_header x m why.TooLong (is, f) = absurd f
fails_header x m why.Cut (is, f) = absurd f

-- ---- from a place on

-- the fault of bytes from a place on stands behind messages of the channel
record Found (x : Reading) (place : ℕ) (bytes : List ℕ) (fault : PacketFault) : Type 0 where
  front : List (List ℕ)
  rest : List ℕ
  split : concat front ++ rest ≡ bytes
  each : (m : List ℕ) → Contains front m → IsOther x.layouts x.channel m
  at : fault.place ≡ place + length (concat front)
  fails : FailsNext x rest fault.why

found_here : (x : Reading) (place : ℕ) (bytes : List ℕ) (w : PacketWhy) (fault : PacketFault) → fault_at place w ≡ fault → FailsNext x bytes w → Found x place bytes fault
found_here x place bytes w fault is fails =
    subst (Found x place bytes) is
    (record { front = []; rest = bytes; split = refl; each = (λ m there. (let (k, inside, is) = there in absurd (omega arith))); at = (omega arith); fails = fails })

next_fails : (x : Reading) (rest : List ℕ) (w : PacketWhy) → 0 < length rest → is_cut rest ≡ false → FailsOther x (front_message rest) w → FailsNext x rest w
next_fails x rest why.Cut some whole (r, is, inside, none) = absurd none
next_fails x rest other some whole f = (some, whole, f)

append_again : (a b c : List ℕ) → (a ++ b) ++ c ≡ a ++ (b ++ c)
append_again [] b c = refl
append_again (n ∷ a) b c = ap (λ (xs : List ℕ). n ∷ xs) (append_again a b c)

-- behind a message of the channel
found_behind : (x : Reading) (place : ℕ) (bytes : List ℕ) (fault : PacketFault) → is_cut bytes ≡ false → IsOther x.layouts x.channel (front_message bytes)
    → Found x (place + body_of bytes) (drop (body_of bytes) bytes) fault → Found x place bytes fault
found_behind x place bytes fault whole other f =
    let said : body_of (front_message bytes) ≡ length (front_message bytes) = other.whole.said in
    let size : length (front_message bytes) ≡ body_of bytes = message_size bytes whole in
    let joined = length-append (front_message bytes) (concat f.front) in
    let at = f.at in
    record {
      front = front_message bytes ∷ f.front;
      rest = f.rest;
      split = append_again (front_message bytes) (concat f.front) f.rest ∙ ap (λ (xs : List ℕ). front_message bytes ++ xs) f.split ∙ halves bytes;
      each = more_contained (IsOther x.layouts x.channel) (front_message bytes) f.front other f.each;
      at = (omega arith);
      fails = f.fails;
    }

found_by : (x : Reading) (place : ℕ) (bytes : List ℕ) (fault : PacketFault) → 0 < length bytes → fault_from x.layouts x.channel place 0 bytes ≡ Some fault
    → (is_cut bytes ≡ false → fault_from x.layouts x.channel (place + body_of bytes) 0 (drop (body_of bytes) bytes) ≡ Some fault → Found x (place + body_of bytes) (drop (body_of bytes) bytes) fault)
    → Found x place bytes fault
found_by x place bytes fault some e more = by (is_cut bytes) refl (message_fault x.layouts x.channel (front_message bytes)) refl
  where
    by : (c : Bool) → is_cut bytes ≡ c → (w : Option PacketWhy) → message_fault x.layouts x.channel (front_message bytes) ≡ w → Found x place bytes fault
    by true c w m =
        let here = cut_stops x.layouts x.channel place bytes some c in
        let is : fault_at place why.Cut ≡ fault = cc (sym here ∙ e) in
        found_here x place bytes why.Cut fault is (some, c)
    by false c (Some w) m =
        let here = fault_stops x.layouts x.channel place bytes w some c m in
        let is : fault_at place w ≡ fault = cc (sym here ∙ e) in
        found_here x place bytes w fault is (next_fails x bytes w some c (message_told x (front_message bytes) w m))
    by false c None m =
        let goes = fault_goes x.layouts x.channel place bytes some c m in
        found_behind x place bytes fault c (passes_other x.layouts x.channel (front_message bytes) (first_whole bytes c) m) (more c (sym goes ∙ e))

found : (n : ℕ) (x : Reading) (place : ℕ) (bytes : List ℕ) (fault : PacketFault) → length bytes ≤ n → fault_from x.layouts x.channel place 0 bytes ≡ Some fault → Found x place bytes fault
found n x place [] fault small e = cc (sym (fault_ends x.layouts x.channel place [] refl) ∙ e)
found zero x place (b ∷ bs) fault small e = absurd (omega arith)
found (suc n) x place (b ∷ bs) fault small e =
    found_by x place (b ∷ bs) fault (omega arith) e
    (λ c goes.
    (let bounds = not_cut (b ∷ bs) c in
    let less = length-drop (body_of (b ∷ bs)) (b ∷ bs) in
    found n x (place + body_of (b ∷ bs)) (drop (body_of (b ∷ bs)) (b ∷ bs)) fault (omega arith) goes))

-- messages of the channel have no fault, and those behind them have theirs
passes_all : (x : Reading) (place : ℕ) (ms : List (List ℕ)) (rest : List ℕ) → ((m : List ℕ) → Contains ms m → IsOther x.layouts x.channel m)
    → fault_from x.layouts x.channel place 0 (concat ms ++ rest) ≡ fault_from x.layouts x.channel (place + length (concat ms)) 0 rest
passes_all x place [] rest each = let e : place + 0 ≡ place = omega arith in rw e refl
passes_all x place (m ∷ ms) rest each =
    let other : IsOther x.layouts x.channel m = each m (0, omega arith, refl) in
    let b = begins m (concat ms ++ rest) other.whole in
    let pass : message_fault x.layouts x.channel (front_message (m ++ (concat ms ++ rest))) ≡ None = rw b.message (other_passes x.layouts x.channel m other) in
    let goes = fault_goes x.layouts x.channel place (m ++ (concat ms ++ rest)) b.some b.whole pass in
    let more = passes_all x (place + body_of (m ++ (concat ms ++ rest))) ms rest (λ y (k, inside, is). each y (suc k, omega arith, is)) in
    let l = length-append m (concat ms) in
    let same = b.body in
    let at : place + body_of (m ++ (concat ms ++ rest)) + length (concat ms) ≡ place + length (m ++ concat ms) = omega arith in
    ap (fault_from x.layouts x.channel place 0) (append_again m (concat ms) rest) ∙ goes
    ∙ ap (fault_from x.layouts x.channel (place + body_of (m ++ (concat ms ++ rest))) 0) b.behind ∙ more
    ∙ ap (λ (p : ℕ). fault_from x.layouts x.channel p 0 rest) at

next_stops : (x : Reading) (place : ℕ) (rest : List ℕ) (w : PacketWhy) → FailsNext x rest w → fault_from x.layouts x.channel place 0 rest ≡ Some (fault_at place w)
next_stops x place rest why.Cut (some, cut) = cut_stops x.layouts x.channel place rest some cut
next_stops x place rest other h = fault_stops x.layouts x.channel place rest other h.0 h.1 (fails_message x (front_message rest) other h.2)

-- ---- the law

too_long : (n : ℕ) → nat_lt 1472 n ≡ true → 1472 < n
too_long n e = grind (arith, nat_tests)

is_long : (n : ℕ) → 1472 < n → nat_lt 1472 n ≡ true
is_long n h = grind (arith, nat_tests)

short_enough : (n : ℕ) → nat_lt 1472 n ≡ false → n ≤ 1472
short_enough n e = grind (arith, nat_tests)

is_short : (n : ℕ) → n ≤ 1472 → nat_lt 1472 n ≡ false
is_short n h = grind (arith, nat_tests)

first_fails : (x : Reading) (bytes : List ℕ) (w : PacketWhy) → is_cut bytes ≡ false → FailsHeader x (front_message bytes) w → FailsFirst x bytes w
first_fails x bytes why.Cut whole (is, none) = absurd none
first_fails x bytes other whole f = (whole, f)

at_front : (x : Reading) (bytes : List ℕ) (w : PacketWhy) (fault : PacketFault) → length bytes ≤ 1472 → fault_at 0 w ≡ fault → FailsFirst x bytes w → IsFaultBehind x bytes fault
at_front x bytes w fault short is fails =
    subst (IsFaultBehind x bytes) is (record { short = short; front = []; rest = bytes; split = refl; sound = tt; place = refl; fails = fails })

pub first_fault : (x : Reading) (bytes : List ℕ) (fault : PacketFault) → fault_of x bytes ≡ Some fault → IsFirstFault x bytes fault
unfolding fault_of
first_fault x bytes fault e = by (nat_lt 1472 (length bytes)) refl (is_cut bytes) refl (header_fault x.layouts x.segment (front_message bytes)) refl e
  where
    by : (l : Bool) → nat_lt 1472 (length bytes) ≡ l → (c : Bool) → is_cut bytes ≡ c → (h : Option PacketWhy) → header_fault x.layouts x.segment (front_message bytes) ≡ h
        → cond l (Some (fault_at 1472 why.TooLong)) (cond c (Some (fault_at 0 why.Cut)) (option_or (option_map (fault_at 0) h) (fault_from x.layouts x.channel (body_of bytes) 0 (behind bytes)))) ≡ Some fault
        → IsFirstFault x bytes fault
    by true l c d h i g = inl (too_long (length bytes) l, (let is : fault_at 1472 why.TooLong ≡ fault = cc g in sym is))
    by false l true d h i g = let is : fault_at 0 why.Cut ≡ fault = cc g in inr (at_front x bytes why.Cut fault (short_enough (length bytes) l) is d)
    by false l false d (Some w) i g =
        let is : fault_at 0 w ≡ fault = cc g in
        inr (at_front x bytes w fault (short_enough (length bytes) l) is (first_fails x bytes w d (header_told x (front_message bytes) w i)))
    by false l false d None i g =
        let f = found (length (behind bytes)) x (body_of bytes) (behind bytes) fault (omega arith) g in
        let size : length (front_message bytes) ≡ body_of bytes = message_size bytes d in
        let joined = length-append (front_message bytes) (concat f.front) in
        let at = f.at in
        inr
        (record {
          short = short_enough (length bytes) l;
          front = front_message bytes ∷ f.front;
          rest = f.rest;
          split = append_again (front_message bytes) (concat f.front) f.rest ∙ ap (λ (xs : List ℕ). front_message bytes ++ xs) f.split ∙ halves bytes;
          sound = (passes_header x.layouts x.segment (front_message bytes) (first_whole bytes d) i, f.each);
          place = (omega arith);
          fails = f.fails;
        })

front_told : (x : Reading) (bytes : List ℕ) (w : PacketWhy) → length bytes ≤ 1472 → FailsFirst x bytes w → fault_of x bytes ≡ Some (fault_at 0 w)
unfolding fault_of
front_told x bytes why.Cut short cut = rw (is_short (length bytes) short, cut) refl
front_told x bytes other short h = rw (is_short (length bytes) short, h.0, fails_header x (front_message bytes) other h.1) refl

behind_told : (x : Reading) (header : List ℕ) (others : List (List ℕ)) (rest : List ℕ) (w : PacketWhy) → length ((header ++ concat others) ++ rest) ≤ 1472 → AreSoundSoFar x (header ∷ others) → FailsNext x rest w
    → fault_of x ((header ++ concat others) ++ rest) ≡ Some (fault_at (length (header ++ concat others)) w)
unfolding fault_of
behind_told x header others rest w short (head, each) fails =
    let again = append_again header (concat others) rest in
    let b = begins header (concat others ++ rest) head.whole in
    let pass : header_fault x.layouts x.segment (front_message (header ++ (concat others ++ rest))) ≡ None = rw b.message (header_passes x.layouts x.segment header head) in
    let l = length-append header (concat others) in
    let at : length header + length (concat others) ≡ length (header ++ concat others) = omega arith in
    rw (is_short (length ((header ++ concat others) ++ rest)) short, again, b.whole, pass, b.behind, b.body)
    (passes_all x (length header) others rest each ∙ ap (λ (p : ℕ). fault_from x.layouts x.channel p 0 rest) at ∙ next_stops x (length (header ++ concat others)) rest w fails)

long_told : (x : Reading) (bytes : List ℕ) → 1472 < length bytes → fault_of x bytes ≡ Some (fault_at 1472 why.TooLong)
unfolding fault_of
long_told x bytes long = rw (is_long (length bytes) long) refl

pub fault_is_first : (x : Reading) (bytes : List ℕ) (fault : PacketFault) → IsFirstFault x bytes fault → fault_of x bytes ≡ Some fault
fault_is_first x bytes fault (inl (long, is)) = long_told x bytes long ∙ ap Some (sym is)
fault_is_first x bytes fault (inr f) = by f.front f.split f.sound f.place f.fails
  where
    by : (front : List (List ℕ)) → concat front ++ f.rest ≡ bytes → AreSoundSoFar x front → fault.place ≡ length (concat front) → FailsBehind x front f.rest fault.why → fault_of x bytes ≡ Some fault
    by [] split sound place fails =
        let same : f.rest ≡ bytes = split in
        let told = front_told x bytes fault.why f.short (subst (λ (r : List ℕ). FailsFirst x r fault.why) same fails) in
        told ∙ ap (λ (p : ℕ). Some (fault_at p fault.why)) (sym place)
    by (header ∷ others) split sound place fails =
        let short : length ((header ++ concat others) ++ f.rest) ≤ 1472 = rw split f.short in
        ap (fault_of x) (sym split) ∙ behind_told x header others f.rest fault.why short sound fails ∙ ap (λ (p : ℕ). Some (fault_at p fault.why)) (sym place)
