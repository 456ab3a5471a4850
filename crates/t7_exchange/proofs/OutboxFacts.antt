-- The messages that are left when some were told or sent.
use Rattle.std.proofs.Common.{◌≡◌, ℕ, zero, suc, ◌≢◌, ◌+◌, ◌-◌, ◌<◌, ◌≤◌, ◌^◌, nat_le, Bool, true, false, cond, map, List, [], ◌∷◌, ◌++◌, length, take, drop, get_or, refl, sym, ap, ◌∙◌, subst, arith, length-append, length-drop, length-take, drop_of_length-le}
use Rattle.std.specs.List.{All}
use Rattle.std.specs.declared.alloc.Global.{Global}
use Rattle.std.specs.declared.vec.Vec.{Vec}
use Rattle.std.proofs.lemmas.List.{append_assoc, append-nil, take-append-drop, drop-drop}
use Rattle.std.proofs.lemmas.List.Elements.{All-append, All-drop, All-nil, All-take}
use Rattle.t7_base.specs.declared.public.Public.{Public}
use Rattle.t7_base.specs.Listing.{Listing}
use Rattle.t7_layout.specs.Layouts.{Layout}
use Rattle.t7_greedy.specs.Cuts.{IsFilled, IsLongestRun, cut_from, joined}
use Rattle.t7_eobi.specs.Sizes.{message_size, snap_size}
use Rattle.t7_packets.specs.Packing.{IsWritable, datagram_bytes, of_messages, room_in}
use Rattle.t7_entry.specs.Days.{before_others}
use Rattle.t7_base.specs.declared.public.Resting.{Resting}
use Rattle.t7_eobi.specs.declared.walks.Snap.TheVariants as snap
use Rattle.t7_feed.specs.Arrivals.{Terms}
use Rattle.t7_feed.specs.Cycles.{body_of}
use Rattle.t7_feed.specs.Sending.{cycle_at, parts_of}
use Rattle.t7_exchange.specs.Outbox.{AreFilled, IsOutbox, Outbox, Ships, first_in, left_of, lists_of, passed, pushed}

-- lists behind others
pub joined-append : (xs ys : List (List Public)) → joined (xs ++ ys) ≡ joined xs ++ joined ys
joined-append [] ys = refl
joined-append (x ∷ xs) ys = ap (λ l. x ++ l) (joined-append xs ys) ∙ sym (append_assoc x (joined xs) (joined ys))

pub joined-before : (ms : List Public) (others : List (List Public)) → joined (before_others ms others) ≡ ms ++ joined others
joined-before [] others = refl
joined-before (m ∷ ms) others = refl

filled-append : (xs ys : List (List Public)) → AreFilled xs → AreFilled ys → AreFilled (xs ++ ys)
filled-append [] ys a b = b
filled-append (x ∷ xs) ys a b = (a.0, filled-append xs ys a.1 b)

pub filled-before : (ms : List Public) (others : List (List Public)) → AreFilled others → AreFilled (before_others ms others)
filled-before [] others all = all
filled-before (m ∷ ms) others all = (tt, all)

drop_none : {X : Type 0} (xs : List X) → drop 0 xs ≡ xs
drop_none [] = refl
drop_none (x ∷ xs) = refl

pub left_none : (lists : List (List Public)) → left_of 0 lists ≡ lists
left_none [] = refl
left_none (l ∷ lists) = ap (λ (x : List Public). x ∷ lists) (drop_none l)

left_append : (begun : ℕ) (l : List Public) (lists more : List (List Public)) → left_of begun ((l ∷ lists) ++ more) ≡ left_of begun (l ∷ lists) ++ more
left_append begun l lists more = refl

-- one command more
pub left_more : (begun : ℕ) (lists : List (List Public)) (ms : List Public) → (lists ≡ [] → begun ≡ 0) → left_of begun (lists ++ ms ∷ []) ≡ left_of begun lists ++ ms ∷ []
left_more begun [] ms fresh = ap (λ n. drop n ms ∷ []) (fresh refl) ∙ ap (λ (x : List Public). x ∷ []) (drop_none ms)
left_more begun (l ∷ lists) ms fresh = refl

-- the outbox with the messages of a command more
pub pushed_well : (out : Outbox) (next : ℕ) (ms : List Public) (spare : ℕ) → IsOutbox out next → All IsWritable ms → out.last + length ms ≤ 800_000 → IsOutbox (pushed out ms spare) next
pushed_well out next ms spare is writable few =
    let long = joined-append out.untold (before_others ms []) in
    let all : joined (out.untold ++ before_others ms []) ≡ joined out.untold ++ ms = long ∙ ap (λ l. joined out.untold ++ l) (joined-before ms [] ∙ append-nil ms) in
    let count : length (joined (out.untold ++ before_others ms [])) ≡ length (joined out.untold) + length ms = ap length all ∙ length-append (joined out.untold) ms in
    let numbers = is.numbers in
    let live = is.live in
    record {
      some = is.some;
      filled = filled-append out.untold (before_others ms []) is.filled (filled-before ms [] tt);
      writable = subst (All IsWritable) (sym all) (All-append IsWritable (joined out.untold) ms is.writable writable);
      numbers = omega (arith, count, numbers);
      few = few;
      beats = is.beats;
      snaps = is.snaps;
      live = omega (arith, count, live);
    }

-- what stands first in a queue
pub first_of : {X : Type 0} (xs : List X) (x : X) → 0 < length xs → x ≡ get_or xs 0 x → xs ≡ x ∷ drop 1 xs
first_of [] x some is = absurd (omega arith)
first_of (y ∷ ys) x some is = ap (λ z. z ∷ ys) (sym is) ∙ ap (λ (l : List _). x ∷ l) (sym (drop_none ys))

-- some messages of the first command were sent
pub pass_some : (begun used : ℕ) (lists : List (List Public)) → used < length (first_in (left_of begun lists))
    → left_of (begun + used) lists ≡ before_others (drop used (first_in (left_of begun lists))) (drop 1 (left_of begun lists))
pass_some begun used [] less = absurd (omega arith)
pass_some begun used (l ∷ lists) less =
    ap (λ (x : List Public). x ∷ lists) (sym (drop-drop used begun l))
    ∙ sym (filled_before (drop used (drop begun l)) (omega (arith, length-drop used (drop begun l), less)))
    ∙ ap (before_others (drop used (drop begun l))) (sym (drop_none lists))
  where
    filled_before : (x : List Public) → 0 < length x → before_others x lists ≡ x ∷ lists
    filled_before [] some = absurd (omega arith)
    filled_before (y ∷ x) some = refl

-- all of them were
pub pass_all : (begun used : ℕ) (lists : List (List Public)) → length (first_in (left_of begun lists)) ≤ used
    → left_of 0 (drop 1 lists) ≡ before_others (drop used (first_in (left_of begun lists))) (drop 1 (left_of begun lists))
pass_all begun used [] less = ap (λ (x : List Public). before_others x []) (sym (drop_nothing used))
  where
    drop_nothing : (n : ℕ) → drop {A = Public} n [] ≡ []
    drop_nothing zero = refl
    drop_nothing (suc n) = refl
pass_all begun used (l ∷ lists) less =
    left_none (drop 0 lists) ∙ ap (λ (x : List Public). before_others x (drop 0 lists)) (sym (drop_of_length-le (drop begun l) {i = used} less))

pub with_first : (lists : List (List Public)) → 1 ≤ length (first_in lists) → lists ≡ first_in lists ∷ drop 1 lists
with_first [] some = absurd (omega arith)
with_first (l ∷ lists) some = ap (λ (x : List (List Public)). l ∷ x) (sym (drop_none lists))

-- the outbox after a run of its first messages was sent
pub sent_well : (out : Outbox) (next : ℕ) (run left : List Public) (others : List (List Public)) → IsOutbox out next → out.untold ≡ (run ++ left) ∷ others → 1 ≤ length run
    → IsOutbox (record out { untold = before_others left others; live = out.live + 1 }) (next + length run)
sent_well out next run left others is untold some =
    let was : joined out.untold ≡ run ++ (left ++ joined others) = ap joined untold ∙ append_assoc run left (joined others) in
    let now : joined (before_others left others) ≡ left ++ joined others = joined-before left others in
    let count : length (joined out.untold) ≡ length run + length (joined (before_others left others)) = ap length was ∙ length-append run (left ++ joined others) ∙ ap (λ (l : List Public). length run + length l) (sym now) in
    let filled : IsFilled (run ++ left) × AreFilled others = subst AreFilled untold is.filled in
    let writable : All IsWritable (run ++ (left ++ joined others)) = subst (All IsWritable) was is.writable in
    let numbers = is.numbers in
    let live = is.live in
    record {
      some = (let first = is.some in omega arith);
      filled = filled-before left others filled.1;
      writable = subst (All IsWritable) (sym now) (subst (All IsWritable) (after run (left ++ joined others)) (All-drop IsWritable (length run) (run ++ (left ++ joined others)) writable));
      numbers = omega (arith, count, numbers);
      few = is.few;
      beats = is.beats;
      snaps = is.snaps;
      live = omega (arith, count, live, some);
    }
  where
    after : {X : Type 0} (xs ys : List X) → drop (length xs) (xs ++ ys) ≡ ys
    after [] ys = drop_none ys
    after (x ∷ xs) ys = after xs ys

-- so is the one of an outbox
pub passed_well : (out : Outbox) (next used spare : ℕ) → IsOutbox out next → 1 ≤ used → used ≤ length (first_in out.untold) → IsOutbox (passed out used spare) (next + used)
passed_well out next used spare is some within =
    let first = first_in out.untold in
    let run = take used first in
    let long : length run ≡ used = omega (arith, length-take used first, within) in
    let cut : run ++ drop used first ≡ first = take-append-drop used first in
    let there : out.untold ≡ (run ++ drop used first) ∷ drop 1 out.untold = with_first out.untold (omega (arith, some, within)) ∙ ap (λ (x : List Public). x ∷ drop 1 out.untold) (sym cut) in
    let well = sent_well out next run (drop used first) (drop 1 out.untold) is there (omega (arith, long, some)) in
    let far : IsOutbox (record out { untold = before_others (drop used first) (drop 1 out.untold); live = out.live + 1 }) (next + used) = subst (λ n. IsOutbox (record out { untold = before_others (drop used first) (drop 1 out.untold); live = out.live + 1 }) (next + n)) long well in
    record { some = far.some; filled = far.filled; writable = far.writable; numbers = far.numbers; few = far.few; beats = far.beats; live = far.live; snaps = far.snaps }

-- what is handed out
pub ships_from : (layouts : List Layout) (listing : Listing) (old new : Outbox) (next : ℕ) (messages : List Public) (segment limit number used len : ℕ) (old_out new_out : List ℕ)
    → IsOutbox old next → messages ≡ first_in old.untold → 1 ≤ length messages → limit ≡ listing.datagram → segment ≡ listing.segment → number ≡ old.live + 1
    → IsLongestRun (message_size layouts) (room_in layouts limit) messages (take used messages) (drop used messages)
    → new ≡ passed old used new.spare
    → len ≡ length (datagram_bytes layouts segment (of_messages number next (take used messages)))
    → new_out ≡ datagram_bytes layouts segment (of_messages number next (take used messages)) ++ drop len old_out
    → Ships layouts listing old new old_out new_out (record { number = number; len = len })
ships_from layouts listing old new next messages segment limit number used len old_out new_out is messages_are some limit_is segment_is number_is longest goes_on len_is out_is =
    let numbers = is.numbers in
    let next_is : next ≡ (old.last - length (joined old.untold)) + 1 = omega (arith, numbers, is.some) in
    let bytes_are : datagram_bytes layouts segment (of_messages number next (take used messages))
    ≡ datagram_bytes layouts listing.segment (of_messages (old.live + 1) ((old.last - length (joined old.untold)) + 1) (take used (first_in old.untold))) =
    λ i. datagram_bytes layouts (segment_is i) (of_messages (number_is i) (next_is i) (take used (messages_are i))) in
    let long : length messages ≡ length (first_in old.untold) = ap length messages_are in
    record {
      used = used;
      some = omega (arith, some, long);
      few = omega (arith, numbers, is.some);
      longest =
          subst (λ (l : List Public). IsLongestRun (message_size layouts) (room_in layouts listing.datagram) l (take used l) (drop used l)) messages_are
          (subst (λ n. IsLongestRun (message_size layouts) (room_in layouts n) messages (take used messages) (drop used messages)) limit_is longest);
      goes_on = goes_on;
      put = record { number = number_is; length = len_is ∙ ap length bytes_are; bytes = out_is ∙ ap (λ (b : List ℕ). b ++ drop len old_out) bytes_are };
    }

pub no_first : (begun : ℕ) (queue : List (Vec Public Global)) → queue ≡ [] → length (first_in (left_of begun (lists_of queue))) ≡ 0
no_first begun queue none = ap (λ (q : List (Vec Public Global)). length (first_in (left_of begun (lists_of q)))) none

-- no message waits
pub none_waits : (lists : List (List Public)) → AreFilled lists → length (first_in lists) ≡ 0 → lists ≡ []
none_waits [] filled none = refl
none_waits ([] ∷ lists) filled none = absurd filled.0
none_waits ((x ∷ l) ∷ lists) filled none = absurd (omega arith)

-- so many are sent of the first
pub begun_within : (begun : ℕ) (l : List Public) → IsFilled (drop begun l) → begun ≤ length l
begun_within begun l filled = some (drop begun l) filled (length-drop begun l)
  where
    some : (x : List Public) → IsFilled x → length x ≡ length l - begun → begun ≤ length l
    some [] filled long = absurd filled
    some (y ∷ x) filled long = omega arith

pub all_of_first : (lists : List (List Public)) → All IsWritable (joined lists) → All IsWritable (first_in lists)
all_of_first [] all = All-nil IsWritable
all_of_first (l ∷ lists) all = subst (All IsWritable) (front l (joined lists)) (All-take IsWritable (length l) (l ++ joined lists) all)
  where
    front : {X : Type 0} (xs ys : List X) → take (length xs) (xs ++ ys) ≡ xs
    front [] [] = refl
    front [] (y ∷ ys) = refl
    front (x ∷ xs) ys = ap (λ (z : List _). x ∷ z) (front xs ys)

pub first_joined : (lists : List (List Public)) → length (first_in lists) ≤ length (joined lists)
first_joined [] = omega arith
first_joined (l ∷ lists) = let e = length-append l (joined lists) in omega (arith, e)

pub no_list : {X : Type 0} (xs : List X) (f : X → List Public) → map f xs ≡ [] → xs ≡ []
no_list [] f e = refl
no_list (x ∷ xs) f e = absurd (let g : f x ∷ map f xs ≡ [] = e in cc)

pub told_some : (ms : List Public) → 0 < length ms → before_others ms [] ≡ ms ∷ []
told_some [] some = absurd (omega arith)
told_some (m ∷ ms) some = refl

-- a place among the messages of the first command
pub place_within : (begun used : ℕ) (queue : List (Vec Public Global)) → used < length (first_in (left_of begun (lists_of queue))) → begun + used < 2 ^ 64
place_within begun used [] less = absurd (omega arith)
place_within begun used (v ∷ queue) less = omega (arith, length-drop begun v.items, v.ok, less)

-- a cycle under way, or a new one, has datagrams left
cut_from_some : {M : Type 0} (size : M → ℕ) (room : ℕ) (begun : List M) (left : ℕ) (xs : List M) → cut_from size room begun left xs ≢ []
cut_from_some size room begun left [] = λ e. cc e
cut_from_some size room begun left (x ∷ xs) = by_test (nat_le (size x) left) (cut_from_some size room (begun ++ x ∷ []) (left - size x) xs)
  where
    by_test : (b : Bool) → cut_from size room (begun ++ x ∷ []) (left - size x) xs ≢ []
        → cond b (cut_from size room (begun ++ x ∷ []) (left - size x) xs) (begun ∷ cut_from size room (x ∷ []) (room - size x) xs) ≢ []
    by_test true some = some
    by_test false some = λ e. cc e

pub cycle_some : (terms : Terms) (m : ℕ) (orders : List Resting) → cycle_at terms m orders ≢ []
cycle_some terms m orders =
    cut_from_some (snap_size terms.layouts) (room_in terms.layouts terms.listing.datagram) (snap.Product m ∷ []) (room_in terms.layouts terms.listing.datagram - snap_size terms.layouts (snap.Product m))
    (body_of (parts_of terms.listing.securities orders))
