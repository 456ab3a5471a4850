use Rattle.std.proofs.Common.{◌≡◌, ◌-◌, [], ◌∷◌, ◌++◌, map, sym, ap, ◌∙◌, subst, refl, max}
use Rattle.std.proofs.lemmas.List.{map-append}
use Rattle.std.specs.VecDeque.{deque_capacity, deque_len}
use Rattle.t7_session.specs.Held.{Held}
use Rattle.t7_entry.specs.ByNumber.{get}
use Rattle.t7_entry.specs.State.{sends}
use Rattle.t7_entry.specs.Treatment.{send}
use Rattle.t7_exchange.specs.declared.wires.Waiting.TheVariants as waiting
use Rattle.t7_exchange.specs.Maps.{HoldOnly, input_part, inputs_of}
use Rattle.t7_exchange.proofs.HoldFacts.{only_changed}
use Rattle.t7_exchange.specs.Wires.{Acts, Wires, reply_of}
use Rattle.t7_exchange.proofs.MapFacts.{none_there, parts-kept}
use Rattle.t7_exchange.proofs.WireFacts.{acts_none, acts_sent, some_there}
use Rattle.t7_exchange.proofs.wires.Wires.send.Goals as goal

pub returns-then-not-is_open-clause-acts : goal.returns-then-not-is_open-clause-acts
returns-then-not-is_open-clause-acts c = λ accepted.
    let none = none_there (get c.self.inside.connections c.args.conn) (sym c.is_open.ensures.value ∙ c.if-not-is_open.true) in
    subst (λ (w : Wires). Acts accepted w w (send c.args.moment c.args.conn c.args.response)) c.self.view_is (acts_none accepted c.args.moment c.args.conn c.args.response _ none)

pub returns-clause-acts : goal.returns-clause-acts
returns-clause-acts c = λ accepted.
    let there = some_there (get c.self.inside.connections c.args.conn) (sym c.is_open.ensures.value ∙ c.if-not-is_open.false) in
    let was = c.self.inside.waiting in
    let is = c.push_back_reserved.new.self in
    let before : Wires = record { held = c.self.inside.connections; waiting = map reply_of was.items; spare = deque_capacity was - deque_len was } in
    let now : Wires = record { held = c.sent.new.self; waiting = map reply_of is.items; spare = deque_capacity is - deque_len is } in
    let pushed : now.waiting ≡ before.waiting ++ sends c.args.conn c.args.response ∷ [] =
    ap (map reply_of) c.push_back_reserved.ensures.items ∙ map-append reply_of was.items (waiting.Sends c.args.conn c.args.response ∷ [])
    in
    subst (λ (w : Wires). Acts accepted w now (send c.args.moment c.args.conn c.args.response)) c.self.view_is
    (acts_sent accepted c.args.moment c.args.conn c.args.response before now there.0 there.1 c.sent.ensures pushed)

pub returns-clause-inputs : goal.returns-clause-inputs
returns-clause-inputs c =
    ap inputs_of c.sent.ensures
    ∙ parts-kept input_part c.self.inside.connections c.args.conn (λ (h : Held). record h { sent = max h.sent c.args.moment }) c.is_open.ensures.rises (λ h. refl)
    ∙ ap (λ (w : Wires). inputs_of w.held) c.self.view_is

pub returns-clause-only : goal.returns-clause-only
returns-clause-only c = λ sessions only.
    subst (HoldOnly sessions) (sym c.sent.ensures)
    (only_changed sessions c.self.inside.connections c.args.conn (λ (h : Held). record h { sent = max h.sent c.args.moment }) (λ h p. p)
    (subst (λ (w : Wires). HoldOnly sessions w.held) (sym c.self.view_is) only))
