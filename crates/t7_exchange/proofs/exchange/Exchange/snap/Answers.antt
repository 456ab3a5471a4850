use Rattle.std.proofs.Common.{◌≡◌, ◌++◌, List, ℕ, length, drop, sym, ap, ◌∙◌}
use Rattle.t7_book.specs.Orders.{shown}
use Rattle.t7_book.specs.Trace.{market, trace}
use Rattle.t7_entry.specs.State.{Setting}
use Rattle.t7_feed.specs.Arrivals.{Terms}
use Rattle.t7_feed.specs.Sending.{cycle_at, snap_datagram_bytes, under_way}
use Rattle.t7_exchange.specs.Outbox.{Outbox}
use Rattle.t7_exchange.specs.Views.{day_of}
use Rattle.t7_exchange.proofs.exchange.Exchange.snap.Goals as goal

pub returns : goal.returns
returns c =
    let e = c.self.inside in
    let was = c.self.invariant in
    let s = c.snap.ensures in
    let listing = e.product.now in
    let setting : Setting = record { layouts = e.table.now; listing = listing } in
    let image : e.outbox.cycle.image ≡ shown (market listing e.desk.accepted (length (trace listing e.desk.accepted))) =
    was.told.image ∙ ap shown (sym (c.last_markets_are_books.ensures listing e.desk.accepted))
    in
    let bytes : snap_datagram_bytes e.outbox.cycle.terms c.snap.result.number s.items ≡ snap_datagram_bytes (record { layouts = e.table.now; listing = listing }) c.snap.result.number s.items =
    ap (λ (t : Terms). snap_datagram_bytes t c.snap.result.number s.items) was.terms
    in
    rw (← c.self.view_is) (record {
      items = s.items;
      next = sym (λ i. under_way e.outbox.cycle.left (cycle_at (was.terms i) (was.told.noted i) (image i))) ∙ s.next;
      number = s.number;
      count = s.count ∙ ap length bytes;
      bytes = s.bytes ∙ ap (λ (b : List ℕ). b ++ drop c.snap.result.len c.args.out.now) bytes;
      others = ap (λ (o : Outbox). day_of setting e.desk.accepted e.wires o) s.goes_on;
    })
