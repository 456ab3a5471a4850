-- A cycle has no more datagrams than items, and no more items than a full book has.
use Rattle.std.proofs.Common.{◌≡◌, ℕ, ◌+◌, ◌-◌, ◌≤◌, List, [], ◌∷◌, ◌++◌, length, true, false, cond, arith}
use Rattle.std.specs.Prelude.{nat_le}
use Rattle.std.proofs.lemmas.List.{length-map}
use Rattle.t7_base.specs.Listing.{IsListing}
use Rattle.t7_book.specs.declared.command.Command.{Command}
use Rattle.t7_book.specs.Orders.{empty_book, roster_of}
use Rattle.t7_book.specs.Trace.{book_left, market, trace}
use Rattle.t7_feed.specs.Arrivals.{Terms}
use Rattle.t7_feed.specs.Cycles.{cycle_of}
use Rattle.t7_eobi.specs.Sizes.{snap_size}
use Rattle.t7_feed.specs.Sending.{book_at, cycle_now, last_of, parts_of}
use Rattle.t7_greedy.specs.Cuts.{cut, cut_from}
use Rattle.t7_packets.specs.Packing.{room_in}
use Rattle.t7_drill.proofs.Fitting.{body_long}

cut_from_short : {M : Type 0} (size : M → ℕ) (room : ℕ) (begun : List M) (left : ℕ) (xs : List M) → length (cut_from size room begun left xs) ≤ length xs + 1
cut_from_short size room begun left [] = omega arith
cut_from_short size room begun left (x ∷ xs) =
    let fits = cut_from_short size room (begun ++ x ∷ []) (left - size x) xs in
    let over = cut_from_short size room (x ∷ []) (room - size x) xs in
    elim (nat_le (size x) left) as (λ b. length (cond b (cut_from size room (begun ++ x ∷ []) (left - size x) xs)
    (begun ∷ cut_from size room (x ∷ []) (room - size x) xs)) ≤ length (x ∷ xs) + 1) [
      | true ↦ omega arith
      | false ↦ omega arith
    ]

-- greedy datagrams are no more than what they carry
pub cut_short : {M : Type 0} (size : M → ℕ) (room : ℕ) (xs : List M) → length (cut size room xs) ≤ length xs
cut_short size room [] = omega arith
cut_short size room (x ∷ xs) = (let h = cut_from_short size room (x ∷ []) (room - size x) xs in omega arith)

pub cycle_short : (terms : Terms) (cs : List Command) → IsListing terms.listing
    → market terms.listing cs (length (trace terms.listing cs)) ≡ (book_left (empty_book (roster_of terms.listing)) cs).orders
    → length (book_left (empty_book (roster_of terms.listing)) cs).orders ≤ 20_000 → length (cycle_now terms cs) ≤ 21_001
cycle_short terms cs sound same few =
    let orders = book_at terms.listing cs (last_of terms.listing cs) in
    let items = cycle_of (last_of terms.listing cs) (parts_of terms.listing.securities orders) in
    let count : length orders ≤ 20_000 = rw (length-map) (rw same few) in
    let body = body_long terms.listing.securities orders sound.each_once in
    let most = sound.securities.1 in
    let runs : length (cycle_now terms cs) ≤ length items = cut_short (snap_size terms.layouts) (room_in terms.layouts terms.listing.datagram) items in
    omega arith
