use Rattle.std.proofs.Common.{◌≡◌, ◌-◌, ℕ, List, length, min, take, Some, sym, ap, ◌∙◌, subst, arith}
use Rattle.std.specs.Prelude.{IfSome, Option}
use Rattle.t7_frames.proofs.Fronts.{waits-few}
use Rattle.t7_session.specs.Held.{Held}
use Rattle.t7_entry.specs.ByNumber.{get}
use Rattle.t7_entry.specs.Days.{Day}
use Rattle.t7_entry.specs.Stalls.{IsOpen, taken, untreated_of}
use Rattle.t7_entry.specs.State.{Setting}
use Rattle.t7_entry.proofs.Numbers.{get-insert-same}
use Rattle.t7_exchange.specs.Maps.{HoldOnly, fed}
use Rattle.t7_exchange.specs.Wires.{Wires}
use Rattle.t7_exchange.proofs.ExchangeFacts.{held_open, open_held, taken_day, untreated_held}
use Rattle.t7_exchange.proofs.HoldFacts.{only_changed}
use Rattle.t7_exchange.proofs.ServeFacts.{changed_there}
use Rattle.t7_exchange.proofs.exchange.ExchangeEngine.take.Goals as goal

pub invariant_of-self : goal.invariant_of-self
invariant_of-self c =
    let e = c.self.inside in
    let was = c.self.invariant in
    let sessions = e.product.now.sessions in
    record {
      table = was.table;
      listing = was.listing;
      roster = was.roster;
      accepted = was.accepted;
      tellable = was.tellable;
      ranged = was.ranged;
      sessions = subst (λ (w : Wires). HoldOnly sessions w.held) (sym c.feed.ensures.fed) (only_changed sessions e.wires.held c.args.conn (fed c.args.bytes.now c.feed.result c.args.moment) (λ h p. p) was.sessions);
      terms = was.terms;
      told = was.told;
    }

pub returns-clause-count : goal.returns-clause-count
returns-clause-count c =
    let e = c.self.inside in
    let setting : Setting = record { layouts = e.table.now; listing = e.product.now } in
    let there = open_held setting e.desk.accepted e.outbox e.wires c.args.conn (subst (λ (d : Day). IsOpen d c.args.conn) (sym c.self.view_is) c.requires.is_open) in
    let count : c.feed.result ≡ min (length c.args.bytes.now) (8192 - length there.0.untreated) =
    subst (λ (o : Option Held). IfSome o (λ h. c.feed.result ≡ min (length c.args.bytes.now) (8192 - length h.untreated))) there.1 c.feed.ensures.count
    in
    count ∙ ap (λ (u : List ℕ). min (length c.args.bytes.now) (8192 - length u)) (sym (untreated_held setting e.desk.accepted e.outbox e.wires c.args.conn there.0 there.1) ∙ ap (λ (d : Day). untreated_of d c.args.conn) c.self.view_is)

pub returns-clause-room : goal.returns-clause-room
returns-clause-room c = λ waits.
    let e = c.self.inside in
    let setting : Setting = record { layouts = e.table.now; listing = e.product.now } in
    let there = open_held setting e.desk.accepted e.outbox e.wires c.args.conn (subst (λ (d : Day). IsOpen d c.args.conn) (sym c.self.view_is) c.requires.is_open) in
    let count : c.feed.result ≡ min (length c.args.bytes.now) (8192 - length there.0.untreated) =
    subst (λ (o : Option Held). IfSome o (λ h. c.feed.result ≡ min (length c.args.bytes.now) (8192 - length h.untreated))) there.1 c.feed.ensures.count
    in
    let same = ap length (sym (untreated_held setting e.desk.accepted e.outbox e.wires c.args.conn there.0 there.1) ∙ ap (λ (d : Day). untreated_of d c.args.conn) c.self.view_is) in
    let few = waits-few (untreated_of c.args.self.now c.args.conn) waits in
    omega (arith, count, same, few, c.requires.some)

pub returns-clause-taken : goal.returns-clause-taken
returns-clause-taken c =
    let e = c.self.inside in
    let setting : Setting = record { layouts = e.table.now; listing = e.product.now } in
    let there = open_held setting e.desk.accepted e.outbox e.wires c.args.conn (subst (λ (d : Day). IsOpen d c.args.conn) (sym c.self.view_is) c.requires.is_open) in
    taken_day setting e.desk.accepted e.outbox e.wires c.feed.new.self c.args.moment c.args.conn c.feed.result c.args.bytes.now there.0 c.feed.ensures.rises there.1 c.requires.some c.feed.ensures.fed
    ∙ ap (taken c.args.moment c.args.conn (take c.feed.result c.args.bytes.now)) c.self.view_is

pub returns-clause-still_open : goal.returns-clause-still_open
returns-clause-still_open c =
    let e = c.self.inside in
    let setting : Setting = record { layouts = e.table.now; listing = e.product.now } in
    let there = open_held setting e.desk.accepted e.outbox e.wires c.args.conn (subst (λ (d : Day). IsOpen d c.args.conn) (sym c.self.view_is) c.requires.is_open) in
    let f : Held → Held = fed c.args.bytes.now c.feed.result c.args.moment in
    let now : get c.feed.new.self.held c.args.conn ≡ Some (f there.0) =
    ap (λ (w : Wires). get w.held c.args.conn) c.feed.ensures.fed ∙ ap (λ m. get m c.args.conn) (changed_there e.wires.held c.args.conn f there.0 there.1) ∙ get-insert-same e.wires.held c.args.conn (f there.0)
    in
    held_open setting e.desk.accepted e.outbox c.feed.new.self c.args.conn (f there.0) now
