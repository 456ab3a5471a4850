use Rattle.std.proofs.Common.{◌-◌, map, refl, sym, ap, ◌∙◌, subst, max}
use Rattle.std.specs.Option.{option_map_or}
use Rattle.std.specs.VecDeque.{deque_capacity, deque_len}
use Rattle.t7_eti.specs.declared.response.Response.TheVariants as response
use Rattle.t7_session.specs.declared.session.Beat.TheVariants as beat
use Rattle.t7_session.specs.Heartbeats.{beat_of}
use Rattle.t7_session.specs.Held.{Held}
use Rattle.t7_entry.specs.ByNumber.{ByNumber, Rises, get}
use Rattle.t7_entry.specs.State.{pure}
use Rattle.t7_entry.specs.Treatment.{close, send}
use Rattle.t7_exchange.specs.Maps.{Stays}
use Rattle.t7_exchange.specs.Wires.{Wires, reply_of}
use Rattle.t7_entry.proofs.Numbers.{rises-remove}
use Rattle.t7_exchange.proofs.HoldFacts.{stays_changed, stays_removed}
use Rattle.t7_exchange.proofs.MapFacts.{rises-changed}
use Rattle.t7_exchange.proofs.SayFacts.{beat_said}
use Rattle.t7_exchange.proofs.TickFacts.{acts_beat}
use Rattle.t7_exchange.proofs.WireFacts.{acts_from, acts_pure, acts_to}
use Rattle.t7_exchange.proofs.wires.Wires.tick_one.Goals as goal

pub send-requires-clause-sayable : goal.send-requires-clause-sayable
send-requires-clause-sayable c = beat_said

pub returns-in-Nothing-clause-acts : goal.returns-in-Nothing-clause-acts
returns-in-Nothing-clause-acts c = λ accepted.
    let old = c.args.self.now in
    let now : Wires = record { held = c.tick.new.self; waiting = map reply_of c.self.inside.waiting.items; spare = deque_capacity c.self.inside.waiting - deque_len c.self.inside.waiting } in
    let held = c.tick.ensures.kept ∙ ap (λ (w : Wires). w.held) c.self.view_is in
    let is = c.in-Nothing.ensures.beat ∙ ap (λ (w : Wires). option_map_or (λ (h : Held). beat_of h c.args.moment) (get w.held c.args.conn) beat.Nothing) c.self.view_is in
    acts_beat accepted c.args.moment c.args.conn old now beat.Nothing is
    (acts_to accepted old old now pure held (ap (λ (w : Wires). w.waiting) c.self.view_is) (acts_pure accepted old))

pub returns-in-Send-clause-acts : goal.returns-in-Send-clause-acts
returns-in-Send-clause-acts c = λ accepted.
    let old = c.args.self.now in
    let mid : Wires = record { held = c.tick.new.self; waiting = map reply_of c.self.inside.waiting.items; spare = deque_capacity c.self.inside.waiting - deque_len c.self.inside.waiting } in
    let held = c.tick.ensures.kept ∙ ap (λ (w : Wires). w.held) c.self.view_is in
    let is = c.in-Send.ensures.beat ∙ ap (λ (w : Wires). option_map_or (λ (h : Held). beat_of h c.args.moment) (get w.held c.args.conn) beat.Nothing) c.self.view_is in
    acts_beat accepted c.args.moment c.args.conn old c.send.new.self beat.Send is
    (acts_from accepted old mid c.send.new.self (send c.args.moment c.args.conn response.Beat) held (ap (λ (w : Wires). w.waiting) c.self.view_is) (c.send.ensures.acts accepted))

pub returns-in-Close-clause-acts : goal.returns-in-Close-clause-acts
returns-in-Close-clause-acts c = λ accepted.
    let old = c.args.self.now in
    let mid : Wires = record { held = c.tick.new.self; waiting = map reply_of c.self.inside.waiting.items; spare = deque_capacity c.self.inside.waiting - deque_len c.self.inside.waiting } in
    let held = c.tick.ensures.kept ∙ ap (λ (w : Wires). w.held) c.self.view_is in
    let is = c.in-Close.ensures.beat ∙ ap (λ (w : Wires). option_map_or (λ (h : Held). beat_of h c.args.moment) (get w.held c.args.conn) beat.Nothing) c.self.view_is in
    acts_beat accepted c.args.moment c.args.conn old c.close.new.self beat.Close is
    (acts_from accepted old mid c.close.new.self (close c.args.conn) held (ap (λ (w : Wires). w.waiting) c.self.view_is) (c.close.ensures.acts accepted))

pub returns-in-Send-clause-stays : goal.returns-in-Send-clause-stays
returns-in-Send-clause-stays c =
    let held = c.tick.ensures.kept ∙ ap (λ (w : Wires). w.held) c.self.view_is in
    let f : Held → Held = λ h. record h { sent = max h.sent c.args.moment } in
    subst (λ (m : ByNumber Held). Stays m c.send.new.self.held) held (subst (Stays c.tick.new.self) (sym c.send.ensures.held) (stays_changed c.tick.new.self c.args.conn f (λ h. refl)))

pub returns-in-Close-clause-stays : goal.returns-in-Close-clause-stays
returns-in-Close-clause-stays c =
    let held = c.tick.ensures.kept ∙ ap (λ (w : Wires). w.held) c.self.view_is in
    subst (λ (m : ByNumber Held). Stays m c.close.new.self.held) held (subst (Stays c.tick.new.self) (sym c.close.ensures.held) (stays_removed c.tick.new.self c.args.conn))

pub returns-in-Send-clause-rises : goal.returns-in-Send-clause-rises
returns-in-Send-clause-rises c = λ rises.
    let held = c.tick.ensures.kept ∙ ap (λ (w : Wires). w.held) c.self.view_is in
    let f : Held → Held = λ h. record h { sent = max h.sent c.args.moment } in
    subst (λ m. Rises m) (sym c.send.ensures.held) (rises-changed c.tick.new.self c.args.conn f (subst (λ m. Rises m) (sym held) rises))

pub returns-in-Close-clause-rises : goal.returns-in-Close-clause-rises
returns-in-Close-clause-rises c = λ rises.
    let held = c.tick.ensures.kept ∙ ap (λ (w : Wires). w.held) c.self.view_is in
    subst (λ m. Rises m) (sym c.close.ensures.held) (rises-remove c.tick.new.self c.args.conn (subst (λ m. Rises m) (sym held) rises))
