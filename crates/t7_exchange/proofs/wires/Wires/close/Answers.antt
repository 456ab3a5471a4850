use Rattle.std.proofs.Common.{◌-◌, map, sym, ap, ◌∙◌, subst}
use Rattle.std.specs.VecDeque.{deque_capacity, deque_len}
use Rattle.t7_entry.specs.ByNumber.{remove}
use Rattle.t7_entry.specs.Treatment.{close}
use Rattle.t7_exchange.specs.Maps.{HoldOnly, input_part, inputs_of}
use Rattle.t7_exchange.proofs.HoldFacts.{only_removed}
use Rattle.t7_exchange.specs.Wires.{Acts, Wires, reply_of}
use Rattle.t7_exchange.proofs.MapFacts.{parts-remove}
use Rattle.t7_exchange.proofs.WireFacts.{acts_closed}
use Rattle.t7_exchange.proofs.wires.Wires.close.Goals as goal

pub returns-clause-acts : goal.returns-clause-acts
returns-clause-acts c = λ accepted.
    let was = c.self.inside.waiting in
    let is = c.push_reply.new.waiting in
    let before : Wires = record { held = c.self.inside.connections; waiting = map reply_of was.items; spare = deque_capacity was - deque_len was } in
    let now : Wires = record { held = c.close.new.self; waiting = map reply_of is.items; spare = deque_capacity is - deque_len is } in
    subst (λ (w : Wires). Acts accepted w now (close c.args.conn)) c.self.view_is (acts_closed accepted c.args.conn before now c.close.ensures c.push_reply.ensures.items)

pub returns-clause-inputs : goal.returns-clause-inputs
returns-clause-inputs c = ap inputs_of c.close.ensures ∙ parts-remove input_part c.self.inside.connections c.args.conn ∙ ap (λ (w : Wires). remove (inputs_of w.held) c.args.conn) c.self.view_is

pub returns-clause-only : goal.returns-clause-only
returns-clause-only c = λ sessions only.
    subst (HoldOnly sessions) (sym c.close.ensures)
    (only_removed sessions c.self.inside.connections c.args.conn (subst (λ (w : Wires). HoldOnly sessions w.held) (sym c.self.view_is) only))
