use Rattle.std.proofs.Common.{◌≡◌, ◌+◌, ◌-◌, ◌≤◌, ℕ, List, [], length, take, drop, Option, Some, None, sym, ap, ◌∙◌, subst}
use Rattle.std.specs.Prelude.{MatchOption}
use Rattle.t7_book.specs.declared.command.Command.{Command}
use Rattle.t7_book.specs.Trace.{trace}
use Rattle.t7_greedy.specs.Cuts.{joined}
use Rattle.t7_packets.specs.Packing.{of_messages}
use Rattle.t7_entry.specs.Days.{Day, before_others}
use Rattle.t7_entry.specs.Days as days
use Rattle.t7_entry.specs.State.{Setting}
use Rattle.t7_entry.proofs.Due.{ships}
use Rattle.t7_exchange.specs.declared.sent.Sent.{Sent}
use Rattle.t7_exchange.specs.Outbox.{IsPut, Outbox, Ships, first_in}
use Rattle.t7_exchange.specs.Sending.{IsSent}
use Rattle.t7_exchange.specs.Views.{day_of}
use Rattle.t7_exchange.specs.Wires.{Wires}
use Rattle.t7_exchange.proofs.OutboxFacts.{with_first}
use Rattle.t7_exchange.proofs.exchange.Exchange.next_datagram.Goals as goal

-- what the outbox sends is what the day sends
sends : (setting : Setting) (accepted : List Command) (w : Wires) (old new : Outbox) (old_out new_out : List ℕ) (sent : Sent) → old.last ≡ length (trace setting.listing accepted)
    → Ships setting.layouts setting.listing old new old_out new_out sent → IsSent (day_of setting accepted w old) (day_of setting accepted w new) old_out new_out sent
sends setting accepted w old new old_out new_out sent last is =
    let day = day_of setting accepted w old in
    let first = first_in old.untold in
    let run = take is.used first in
    let left = drop is.used first in
    let others = drop 1 old.untold in
    let number : ℕ → ℕ = λ n. (n - length (joined old.untold)) + 1 in
    let next : record day { untold = before_others left others; live = old.live + 1 } ≡ day_of setting accepted w new = ap (day_of setting accepted w) (sym is.goes_on) in
    record {
      datagram = of_messages (old.live + 1) (days.first_of day) run;
      ships = subst (λ (d : Day). days.Ships day d (of_messages (old.live + 1) (days.first_of day) run)) next
          (ships day first run left others (with_first old.untold is.some) (subst (λ n. length (joined old.untold) ≤ n) last is.few) is.longest);
      put = subst (λ n. IsPut setting.layouts setting.listing.segment (of_messages (old.live + 1) n run) old_out new_out sent) (ap number last) is.put;
    }

pub returns : goal.returns
returns c = by_option c.next_datagram.result c.next_datagram.ensures
  where
    setting : Setting
    setting = record { layouts = c.self.inside.table.now; listing = c.self.inside.product.now }

    now : Day
    now = day_of setting c.self.inside.desk.accepted c.self.inside.wires c.next_datagram.new.self

    by_option : (r : Option Sent) → MatchOption r ((c.self.inside.outbox.untold ≡ []) × (c.next_datagram.new.self ≡ c.self.inside.outbox) × (c.next_datagram.new.out ≡ c.args.out.now))
        (λ s. Ships c.self.inside.table.now c.self.inside.product.now c.self.inside.outbox c.next_datagram.new.self c.args.out.now c.next_datagram.new.out s)
        → MatchOption r ((c.args.self.now.untold ≡ []) × (now ≡ c.args.self.now) × (c.next_datagram.new.out ≡ c.args.out.now)) (λ s. IsSent c.args.self.now now c.args.out.now c.next_datagram.new.out s)
    by_option None is = (
      ap (λ (d : Day). d.untold) (sym c.self.view_is) ∙ is.0,
      ap (day_of setting c.self.inside.desk.accepted c.self.inside.wires) is.1 ∙ c.self.view_is,
      is.2,
    )
    by_option (Some s) is =
        subst (λ (d : Day). IsSent d now c.args.out.now c.next_datagram.new.out s) c.self.view_is
        (sends setting c.self.inside.desk.accepted c.self.inside.wires c.self.inside.outbox c.next_datagram.new.self c.args.out.now c.next_datagram.new.out s c.self.invariant.told.last is)
