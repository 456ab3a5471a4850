-- Datagrams that go out one after another.
use Rattle.std.proofs.Common.{◌≡◌, ℕ, ◌+◌, ◌<◌, ◌≤◌, List, [], ◌∷◌, ◌++◌, length, map, get_or, drop, take, refl, sym, ap, subst, ◌∙◌, arith}
use Rattle.std.proofs.lemmas.List.{drop_all, drop_more}
use Rattle.std.proofs.Math.Seq.{take-append_seam}
use Rattle.t7_base.specs.declared.ids.Feed.{Feed}
use Rattle.t7_entry.specs.Days.{Day, Ships, due}
use Rattle.t7_entry.specs.State.{Setting}
use Rattle.t7_feed.specs.Arrivals.{Delivery, Terms}
use Rattle.t7_member.specs.Keeping.{Image}
use Rattle.t7_packets.specs.Packing.{Datagram, datagram_bytes}
use Rattle.t7_drill.specs.Entering.{due_bytes}
use Rattle.t7_drill.specs.Feeding.{Fed, Feeding, Heard, all_delivered, cast, cast_all, came_after, copies_after, delivered}
use Rattle.t7_script.specs.Draws.{next_state}

-- one of several datagrams is delivered
pub one_delivered : (feed : Feed) (datagrams : List (List ℕ)) (i : ℕ) (item bytes : List ℕ) (came : List Delivery) → i < length datagrams
    → item ≡ get_or datagrams i item → bytes ≡ item
    → all_delivered feed (drop (i + 1) datagrams) (delivered feed bytes came) ≡ all_delivered feed (drop i datagrams) came
unfolding all_delivered
one_delivered feed datagrams i item bytes came below is same =
    let e : drop i datagrams ≡ bytes ∷ drop (i + 1) datagrams = drop_more datagrams i item below ∙ ap (λ b. b ∷ drop (i + 1) datagrams) (sym (same ∙ is)) in
    sym (ap (λ ds. all_delivered feed ds came) e)

-- all of them are
pub each_delivered : (feed : Feed) (datagrams : List (List ℕ)) (i : ℕ) (came : List Delivery) → length datagrams ≤ i
    → all_delivered feed (drop i datagrams) came ≡ came
unfolding all_delivered
each_delivered feed datagrams i came past = ap (λ ds. all_delivered feed ds came) (drop_all i datagrams past)

-- the first datagram that was due, as bytes
first_due : (old new : Day) (d : Datagram) → Ships old new d → due_bytes old ≡ datagram_bytes old.setting.layouts old.setting.listing.segment d ∷ due_bytes new
first_due old new d ships =
    let same : new.setting ≡ old.setting = ap (λ (day : Day). day.setting) ships.others in
    ap (λ ds. map (datagram_bytes old.setting.layouts old.setting.listing.segment) ds) ships.first
    ∙ ap (λ (s : Setting). datagram_bytes old.setting.layouts old.setting.listing.segment d ∷ map (datagram_bytes s.layouts s.listing.segment) (due new))
    (sym same)

-- it goes out
pub one_cast : (old new : Day) (d : Datagram) (bytes : List ℕ) (f : Feeding) → Ships old new d
    → bytes ≡ datagram_bytes old.setting.layouts old.setting.listing.segment d
    → cast_all (due_bytes new) (cast bytes f) ≡ cast_all (due_bytes old) f
unfolding cast_all
one_cast old new d bytes f ships is =
    ap (λ b. cast_all (due_bytes new) (cast b f)) is ∙ sym (ap (λ ds. cast_all ds f) (first_due old new d ships))

-- the generator, the copies and the deliveries after it
pub cast_on : (old new : Day) (d : Datagram) (bytes : List ℕ) (f final : Feeding) (draw : ℕ) (copies : List (List ℕ)) → Ships old new d
    → bytes ≡ datagram_bytes old.setting.layouts old.setting.listing.segment d
    → draw ≡ next_state (next_state f.draw) → copies ≡ copies_after bytes f.draw f.copies → cast_all (due_bytes old) f ≡ final
    → cast_all (due_bytes new) (record { draw = draw; copies = copies; came = came_after bytes f.draw f.came }) ≡ final
cast_on old new d bytes f final draw copies ships is draws kept before =
    ap (λ n. cast_all (due_bytes new) (record { draw = n; copies = copies; came = came_after bytes f.draw f.came })) draws
    ∙ ap (λ cs. cast_all (due_bytes new) (record { draw = next_state (next_state f.draw); copies = cs; came = came_after bytes f.draw f.came })) kept
    ∙ one_cast old new d bytes f ships is ∙ before

-- nothing goes out
pub none_cast : (day : Day) (f : Feeding) → day.untold ≡ [] → cast_all (due_bytes day) f ≡ f
unfolding cast_all
none_cast day f none = rw none refl

-- the day goes on but for what is due
pub day_kept : (first old new : Day) (d : Datagram) → old ≡ record first { untold = old.untold; live = old.live } → Ships old new d
    → new ≡ record first { untold = new.untold; live = new.live }
day_kept first old new d kept ships =
    ships.others ∙ ap (λ (o : Day). record o { untold = new.untold; live = old.live + 1 }) kept
    ∙ ap (λ n. record first { untold = new.untold; live = n }) (sym (ap (λ (day : Day). day.live) ships.others))

-- so many are due and were sent
pub live_kept : (old new : Day) (d : Datagram) (n : ℕ) → old.live + length (due old) ≡ n → Ships old new d → new.live + length (due new) ≡ n
live_kept old new d n kept ships =
    let more : length (due old) ≡ length (due new) + 1 = ap length ships.first ∙ omega arith in
    let one : new.live ≡ old.live + 1 = ap (λ (day : Day). day.live) ships.others in
    omega arith

-- fewer are due than before
pub due_falls : (old new : Day) (d : Datagram) → Ships old new d → length (due new) < length (due old)
due_falls old new d ships = (let more : length (due old) ≡ length (due new) + 1 = ap length ships.first ∙ omega arith in omega arith)

-- the bytes at the front are those that were put there
pub put_bytes : (bytes out rest : List ℕ) (n : ℕ) → n ≡ length bytes → out ≡ bytes ++ rest → take n out ≡ bytes
put_bytes bytes out rest n count is =
    ap (λ m. take m out) count ∙ ap (λ o. take (length bytes) o) is ∙ take-append_seam bytes rest

-- what stands when nothing is due
pub all_fed : (terms : Terms) (f g : Feeding) (member : Image) → Heard terms member f.came → f ≡ g → Fed terms g f.draw f.copies member
all_fed terms f g member heard same = record {
  draw_is = ap (λ (h : Feeding). h.draw) same;
  copies_are = ap (λ (h : Feeding). h.copies) same;
  heard = subst (λ (h : Feeding). Heard terms member h.came) same heard;
}
