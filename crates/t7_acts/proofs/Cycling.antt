-- The snapshot datagrams of acts one after another.
use Rattle.std.proofs.Common.{◌≡◌, ◌∙◌, ℕ, ◌+◌, ◌-◌, Bool, true, false, cond, nat_le, List, [], ◌∷◌, ◌++◌, length, map, drop, refl, sym, ap, arith, append_assoc}
use Rattle.std.proofs.lemmas.List.{append-nil}
use Rattle.t7_base.specs.declared.public.Resting.{Resting}
use Rattle.t7_eobi.specs.declared.walks.Snap.{Snap}
use Rattle.t7_eobi.specs.declared.walks.Snap.TheVariants as snap
use Rattle.t7_book.specs.Acts.{Act, Accepts, Beats, Snaps, commands_of}
use Rattle.t7_book.specs.declared.command.Command.{Command}
use Rattle.t7_greedy.specs.Cuts.{cut_from}
use Rattle.t7_packets.specs.Packing.{room_in}
use Rattle.t7_feed.specs.Arrivals.{Terms}
use Rattle.t7_feed.specs.Cycles.{body_of}
use Rattle.t7_eobi.specs.Sizes.{snap_size}
use Rattle.t7_feed.specs.Sending.{cycle_at, cycle_now, first_and, numbered_bytes, parts_of, snap_datagram_bytes, snaps_from, under_way}
use Rattle.t7_acts.specs.Left.{left_from}

-- there is a first
pub record Opened {A : Type 0} (xs : List A) : Type 0 where
  pub first : A
  pub rest : List A
  pub are : xs ≡ first ∷ rest

opened_by : {A : Type 0} (b : Bool) (xs ys : List A) → Opened xs → Opened ys → Opened (cond b xs ys)
opened_by true xs ys p q = p
opened_by false xs ys p q = q

cut_opened : (size : Snap → ℕ) (room : ℕ) (begun : List Snap) (left : ℕ) (xs : List Snap) → Opened (cut_from size room begun left xs)
cut_opened size room begun left [] = record { first = begun; rest = []; are = refl }
cut_opened size room begun left (x ∷ xs) =
    opened_by (nat_le (size x) left) (cut_from size room (begun ++ x ∷ []) (left - size x) xs) (begun ∷ cut_from size room (x ∷ []) (room - size x) xs)
    (cut_opened size room (begun ++ x ∷ []) (left - size x) xs)
    (record { first = begun; rest = cut_from size room (x ∷ []) (room - size x) xs; are = refl })

-- a cycle has a datagram
cycle_opened : (terms : Terms) (m : ℕ) (orders : List Resting) → Opened (cycle_at terms m orders)
cycle_opened terms m orders =
    let size = snap_size terms.layouts in
    let room = room_in terms.layouts terms.listing.datagram in
    let one : Snap = snap.Product m in
    cut_opened size room (one ∷ []) (room - size one) (body_of (parts_of terms.listing.securities orders))

way_opened : (left new : List (List Snap)) → Opened new → Opened (under_way left new)
way_opened [] new o = o
way_opened (x ∷ left) new o = record { first = x; rest = left; are = refl }

-- a datagram is there to be sent next
pub next_opened : (terms : Terms) (left : List (List Snap)) (cs : List Command) → Opened (under_way left (cycle_now terms cs))
next_opened terms left cs = way_opened left (cycle_now terms cs) (cycle_opened terms _ _)

-- what goes on behind the first goes on behind it after more, too
first_both : (xs : List (List Snap)) (one both : List (List Snap) → List (List Snap)) (end : List (List Snap)) → Opened xs
    → both (drop 1 xs) ≡ one (drop 1 xs) ++ end → first_and xs both ≡ first_and xs one ++ end
first_both [] one both end o e = absurd (let gone = o.are in cc)
first_both (x ∷ xs) one both end o e = ap (λ l. x ∷ l) e

module _ (terms : Terms) where
  -- what acts leave of the cycle, after others
  pub left_both : (cs : List Command) (left : List (List Snap)) (acts more : List Act)
      → left_from terms cs left (acts ++ more) ≡ left_from terms (cs ++ commands_of acts) (left_from terms cs left acts) more
  left_both cs left [] more = ap (λ l. left_from terms l left more) (sym (append-nil cs))
  left_both cs left (Accepts c ∷ acts) more =
      left_both (cs ++ c ∷ []) left acts more
      ∙ ap (λ l. left_from terms l (left_from terms (cs ++ c ∷ []) left acts) more) (append_assoc cs (c ∷ []) (commands_of acts))
  left_both cs left (Beats ∷ acts) more = left_both cs left acts more
  left_both cs left (Snaps ∷ acts) more = left_both cs (drop 1 (under_way left (cycle_now terms cs))) acts more

  -- what acts send after others: they go on with the cycle that those before them leave
  pub snaps_both : (cs : List Command) (left : List (List Snap)) (acts more : List Act)
      → snaps_from terms cs left (acts ++ more) ≡ snaps_from terms cs left acts ++ snaps_from terms (cs ++ commands_of acts) (left_from terms cs left acts) more
  snaps_both cs left [] more = ap (λ l. snaps_from terms l left more) (sym (append-nil cs))
  snaps_both cs left (Accepts c ∷ acts) more =
      snaps_both (cs ++ c ∷ []) left acts more
      ∙ ap (λ l. snaps_from terms (cs ++ c ∷ []) left acts ++ snaps_from terms l (left_from terms (cs ++ c ∷ []) left acts) more) (append_assoc cs (c ∷ []) (commands_of acts))
  snaps_both cs left (Beats ∷ acts) more = snaps_both cs left acts more
  snaps_both cs left (Snaps ∷ acts) more =
      let way = under_way left (cycle_now terms cs) in
      first_both way (λ rest. snaps_from terms cs rest acts) (λ rest. snaps_from terms cs rest (acts ++ more))
      (snaps_from terms (cs ++ commands_of acts) (left_from terms cs (drop 1 way) acts) more)
      (next_opened terms left cs) (snaps_both cs (drop 1 way) acts more)

  -- accepted commands send no snapshot datagram, and leave the cycle as it is
  pub commands_snap_none : (cs : List Command) (left : List (List Snap)) (more : List Command) → snaps_from terms cs left (map Accepts more) ≡ []
  commands_snap_none cs left [] = refl
  commands_snap_none cs left (c ∷ more) = commands_snap_none (cs ++ c ∷ []) left more

  pub commands_leave : (cs : List Command) (left : List (List Snap)) (more : List Command) → left_from terms cs left (map Accepts more) ≡ left
  commands_leave cs left [] = refl
  commands_leave cs left (c ∷ more) = commands_leave (cs ++ c ∷ []) left more

  pub numbered_append : (number : ℕ) (xs ys : List (List Snap)) → numbered_bytes terms number (xs ++ ys) ≡ numbered_bytes terms number xs ++ numbered_bytes terms (number + length xs) ys
  numbered_append number [] ys = (let same : number ≡ number + 0 = omega arith in ap (λ n. numbered_bytes terms n ys) same)
  numbered_append number (x ∷ xs) ys =
      let same : number + 1 + length xs ≡ number + length (x ∷ xs) = omega arith in
      ap (λ l. snap_datagram_bytes terms number x ∷ l) (numbered_append (number + 1) xs ys ∙ ap (λ n. numbered_bytes terms (number + 1) xs ++ numbered_bytes terms n ys) same)

  pub numbered_count : (number : ℕ) (xs : List (List Snap)) → length (numbered_bytes terms number xs) ≡ length xs
  numbered_count number [] = refl
  numbered_count number (x ∷ xs) = (let rest = numbered_count (number + 1) xs in omega (arith, rest))
