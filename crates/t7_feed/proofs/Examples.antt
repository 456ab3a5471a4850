-- What is reached by short deliveries.
use Rattle.std.proofs.Common.{◌≡◌, ℕ, ◌+◌, ◌<◌, ◌≤◌, ◌⊎◌, inl, inr, Bool, true, false, ◌||◌, List, [], ◌∷◌, Some, None, eqb, refl, ap, arith}
use Rattle.std.proofs.lemmas.Bool.Decides.{eqb_tells}
use Rattle.t7_eobi.specs.declared.walks.Live.TheVariants.{Beat, Message}
use Rattle.t7_greedy.specs.Cuts.{joined}
use Rattle.t7_feed.specs.Arrivals.{Arrival, Came, Packet, PacketWindow, Told, first, highest, or_else}
use Rattle.t7_feed.specs.Cycles.{cycle_of}
use Rattle.t7_feed.specs.Examples.{StandsAt, again_as_the_next, ahead_of_the_book, filled_in_the_window, found_on_the_other, in_order, lost_on_one_line, message, missing_by_a_heartbeat, next_outside_the_window, nothing_missing, outside_before_the_snapshot, product, sections, snapshot}
use Rattle.t7_feed.specs.Reached.{Reaches}
use Rattle.t7_feed.specs.Whole.{Buffered, Offers}
use Rattle.t7_feed.proofs.Growth.{split_last}

-- whether a message is among what came
abbrev is_among : List Arrival → ℕ → Bool
is_among [] k = false
is_among (Told (Message number said) ∷ before) k = eqb number k || is_among before k
is_among (Told (Beat last) ∷ before) k = is_among before k
is_among (Packet number snaps ∷ before) k = is_among before k

is_there : (came : List Arrival) (k : ℕ) → is_among came k ≡ true → Came came k
is_there [] k h = absurd (cc h)
is_there (Told (Message number said) ∷ before) k h = elim (eqb_tells number k) [ inl e ↦ inl e.1 | inr o ↦ inr (is_there before k (rw o.0 at h)) ]
is_there (Told (Beat last) ∷ before) k h = is_there before k h
is_there (Packet number snaps ∷ before) k h = is_there before k h

not_there : (came : List Arrival) (k : ℕ) → is_among came k ≡ false → Came came k → ⊥
not_there [] k h c = c
not_there (Told (Message number said) ∷ before) k h (inl here) = elim (eqb_tells number k) [ inl e ↦ (let f = rw e.0 at h in cc f) | inr o ↦ o.1 here ]
not_there (Told (Message number said) ∷ before) k h (inr there) = elim (eqb_tells number k) [ inl e ↦ (let f = rw e.0 at h in cc f) | inr o ↦ not_there before k (rw o.0 at h) there ]
not_there (Told (Beat last) ∷ before) k h c = not_there before k h c
not_there (Packet number snaps ∷ before) k h c = not_there before k h c

abbrev EachUpTo : ℕ → ℕ → (ℕ → Type 0) → Type 0
EachUpTo n j Has = (k : ℕ) → n < k → k ≤ j → Has k

each_none : (n : ℕ) (Has : ℕ → Type 0) → EachUpTo n n Has
each_none n Has k above upto = absurd (omega arith)

each_more : (n j : ℕ) (Has : ℕ → Type 0) → EachUpTo n j Has → Has (j + 1) → EachUpTo n (j + 1) Has
each_more n j Has each here k above upto = elim (split_last k j upto) [ inl below ↦ each k above below | inr is ↦ rw is here ]

-- a message on the way, over what has come with it
abbrev Next : List Arrival → ℕ → ℕ → Type 0
Next before k i = Buffered product (message k ∷ before) i ⊎ (i ≡ k)

-- message k is the first of what follows
next_itself : (before : List Arrival) (k : ℕ) → Next before k k
next_itself before k = inr refl

next_held : (before : List Arrival) (k i : ℕ) → is_among (message k ∷ before) i ≡ true → highest (message k ∷ before) < i + 4 → Next before k i
next_held before k i among near = inl (is_there (message k ∷ before) i among, near)

next_stops : (before : List Arrival) (k i : ℕ) → is_among (message k ∷ before) i ≡ false → (i ≡ k → ⊥) → Next before k i → ⊥
next_stops before k i among other (inl held) = not_there (message k ∷ before) i among held.0
next_stops before k i among other (inr is) = other is

-- nothing is reached, or n, and message k comes
waits : (before : List Arrival) (k : ℕ) → Reaches product before None → Reaches product (message k ∷ before) None
waits before k h = (None, h, refl)

moves : (before : List Arrival) (k n j : ℕ) → Reaches product before (Some n) → n ≤ j → EachUpTo n j (Next before k) → (Next before k (j + 1) → ⊥) → Reaches product (message k ∷ before) (Some j)
moves before k n j h from each stop = (Some n, h, (j, refl, record { from = from; each = each; stop = stop }))

-- the whole snapshot comes, and the messages up to j behind it are held
begins : (before : List Arrival) (m j : ℕ) (orders : List ℕ) → Reaches product before None → first before 1 ≡ None → joined (cycle_of m (sections orders) ∷ []) ≡ cycle_of m (sections orders) →
    PacketWindow product (snapshot m orders ∷ before) 1 → m ≤ j → EachUpTo m j (Buffered product (snapshot m orders ∷ before)) → (Buffered product (snapshot m orders ∷ before) (j + 1) → ⊥) →
    Reaches product (snapshot m orders ∷ before) (Some j)
begins before m j orders h none spelled near from each stop =
    let offers : Offers product (snapshot m orders ∷ before) 1 None m (sections orders) = record {
      p = 1;
      q = 1;
      whole = record {
        run = record {
          datagrams = cycle_of m (sections orders) ∷ [];
          stand = (ap (λ x. or_else x (Some (cycle_of m (sections orders)))) none, tt);
          last = omega arith;
          spells = record { named = refl; spelled = spelled; begins = tt; ends = tt };
        };
      };
      near = near;
      from = omega arith;
      upto = omega arith;
      above = tt;
    } in
    (None, h, inl (m, j, sections orders, offers, refl, record { from = from; each = each; stop = stop }))

held_not : (came : List Arrival) (i : ℕ) → is_among came i ≡ false → Buffered product came i → ⊥
held_not came i among held = not_there came i among held.0

-- a snapshot at 0 alone
at_0 : Reaches product (in_order (snapshot 0 [] ∷ [])) (Some 0)
at_0 = begins [] 0 0 [] refl refl refl (omega arith) (omega arith) (each_none 0 (Buffered product (snapshot 0 [] ∷ []))) (held_not (snapshot 0 [] ∷ []) 1 refl)

-- a message that isn't the next, while the next isn't held
ahead : (before : List Arrival) (k n : ℕ) → Reaches product before (Some n) → is_among (message k ∷ before) (n + 1) ≡ false → (n + 1 ≡ k → ⊥) → Reaches product (message k ∷ before) (Some n)
ahead before k n h none other = moves before k n n h (omega arith) (each_none n (Next before k)) (next_stops before k (n + 1) none other)

-- the next message, behind which the one after it is missing
next_of : (before : List Arrival) (k n : ℕ) → k ≡ n + 1 → Reaches product before (Some n) → is_among (message k ∷ before) (n + 2) ≡ false → Reaches product (message k ∷ before) (Some k)
next_of before k n is h none =
    moves before k n k h (omega arith) (λ i above upto. (let same : i ≡ k = omega arith in inr same))
    (λ more. next_stops before k (n + 2) none (λ e. omega arith) (let same : k + 1 ≡ n + 2 = omega arith in rw same at more))

-- what has come by each step of the examples
abbrev start : List Arrival
start = in_order (snapshot 0 [] ∷ [])

abbrev start_1 : List Arrival
start_1 = message 1 ∷ start

abbrev start_2 : List Arrival
start_2 = message 2 ∷ start_1

abbrev start_3 : List Arrival
start_3 = message 3 ∷ start_2

lost_reaches : Reaches product (in_order lost_on_one_line) (Some 1)
lost_reaches = ahead start_1 3 1 (next_of start 1 0 refl at_0 refl) refl (λ is. omega arith)

pub lost_stands : StandsAt lost_on_one_line 1 3
lost_stands = record { reached = lost_reaches; known = refl }

pub found_stands : StandsAt found_on_the_other 3 3
found_stands =
    let each_2 = each_more 1 1 (Next (in_order lost_on_one_line) 2) (each_none 1 (Next (in_order lost_on_one_line) 2)) (next_itself (in_order lost_on_one_line) 2) in
    let each_3 = each_more 1 2 (Next (in_order lost_on_one_line) 2) each_2 (next_held (in_order lost_on_one_line) 2 3 refl (omega arith)) in
    record {
      reached = moves (in_order lost_on_one_line) 2 1 3 lost_reaches (omega arith) each_3 (next_stops (in_order lost_on_one_line) 2 4 refl (λ is. omega arith));
      known = refl;
    }

-- a snapshot at 2
abbrev two : List Arrival
two = in_order (snapshot 2 (1 ∷ 2 ∷ []) ∷ [])

at_2 : Reaches product two (Some 2)
at_2 = begins [] 2 2 (1 ∷ 2 ∷ []) refl refl refl (omega arith) (omega arith) (each_none 2 (Buffered product two)) (held_not two 3 refl)

abbrev two_6 : List Arrival
two_6 = message 6 ∷ two

ahead_reaches : Reaches product two_6 (Some 2)
ahead_reaches = ahead two 6 2 at_2 refl (λ is. omega arith)

pub ahead_stands : StandsAt ahead_of_the_book 2 6
ahead_stands = record { reached = ahead_reaches; known = refl }

abbrev two_6_3 : List Arrival
two_6_3 = message 3 ∷ two_6

abbrev two_6_4 : List Arrival
two_6_4 = message 4 ∷ two_6_3

pub filled_stands : StandsAt filled_in_the_window 6 6
filled_stands =
    let at_3 = next_of two_6 3 2 refl ahead_reaches refl in
    let at_4 = next_of two_6_3 4 3 refl at_3 refl in
    let each_5 = each_more 4 4 (Next two_6_4 5) (each_none 4 (Next two_6_4 5)) (next_itself two_6_4 5) in
    let each_6 = each_more 4 5 (Next two_6_4 5) each_5 (next_held two_6_4 5 6 refl (omega arith)) in
    record { reached = moves two_6_4 5 4 6 at_4 (omega arith) each_6 (next_stops two_6_4 5 7 refl (λ is. omega arith)); known = refl }

abbrev two_7 : List Arrival
two_7 = message 7 ∷ two

abbrev two_7_3 : List Arrival
two_7_3 = message 3 ∷ two_7

abbrev two_7_4 : List Arrival
two_7_4 = message 4 ∷ two_7_3

abbrev two_7_5 : List Arrival
two_7_5 = message 5 ∷ two_7_4

pub next_outside_stands : StandsAt next_outside_the_window 7 7
next_outside_stands =
    let at_3 = next_of two_7 3 2 refl (ahead two 7 2 at_2 refl (λ is. omega arith)) refl in
    let at_4 = next_of two_7_3 4 3 refl at_3 refl in
    let at_5 = next_of two_7_4 5 4 refl at_4 refl in
    let each_6 = each_more 5 5 (Next two_7_5 6) (each_none 5 (Next two_7_5 6)) (next_itself two_7_5 6) in
    let each_7 = each_more 5 6 (Next two_7_5 6) each_6 (next_held two_7_5 6 7 refl (omega arith)) in
    record { reached = moves two_7_5 6 5 7 at_5 (omega arith) each_7 (next_stops two_7_5 6 8 refl (λ is. omega arith)); known = refl }

-- messages 7, 3, 4, 5 and 6, and no snapshot
abbrev late : List Arrival
late = message 6 ∷ message 5 ∷ message 4 ∷ message 3 ∷ message 7 ∷ []

late_waits : Reaches product late None
late_waits = waits (message 5 ∷ message 4 ∷ message 3 ∷ message 7 ∷ []) 6 (waits (message 4 ∷ message 3 ∷ message 7 ∷ []) 5 (waits (message 3 ∷ message 7 ∷ []) 4 (waits (message 7 ∷ []) 3 (waits [] 7 refl))))

abbrev late_two : List Arrival
late_two = snapshot 2 (1 ∷ 2 ∷ []) ∷ late

outside_reaches : Reaches product late_two (Some 2)
outside_reaches = begins late 2 2 (1 ∷ 2 ∷ []) late_waits refl refl (omega arith) (omega arith) (each_none 2 (Buffered product late_two)) (λ held. (let near = held.1 in omega arith))

pub outside_stands : StandsAt outside_before_the_snapshot 2 7
outside_stands = record { reached = outside_reaches; known = refl }

pub again_stands : StandsAt again_as_the_next 7 7
again_stands =
    let each_3 = each_more 2 2 (Next late_two 3) (each_none 2 (Next late_two 3)) (next_itself late_two 3) in
    let each_4 = each_more 2 3 (Next late_two 3) each_3 (next_held late_two 3 4 refl (omega arith)) in
    let each_5 = each_more 2 4 (Next late_two 3) each_4 (next_held late_two 3 5 refl (omega arith)) in
    let each_6 = each_more 2 5 (Next late_two 3) each_5 (next_held late_two 3 6 refl (omega arith)) in
    let each_7 = each_more 2 6 (Next late_two 3) each_6 (next_held late_two 3 7 refl (omega arith)) in
    record { reached = moves late_two 3 2 7 outside_reaches (omega arith) each_7 (next_stops late_two 3 8 refl (λ is. omega arith)); known = refl }

complete_reaches : Reaches product (in_order nothing_missing) (Some 4)
complete_reaches =
    next_of start_3 4 3 refl (next_of start_2 3 2 refl (next_of start_1 2 1 refl (next_of start 1 0 refl at_0 refl) refl) refl) refl

pub complete_stands : StandsAt nothing_missing 4 4
complete_stands = record { reached = complete_reaches; known = refl }

pub beaten_stands : StandsAt missing_by_a_heartbeat 4 5
beaten_stands = record { reached = complete_reaches; known = refl }
