use Rattle.std.proofs.Common.{◌≡◌, ℕ, ◌+◌, ◌∷◌, ◌++◌, [], List, take, get_or, sym, ap, ◌∙◌, subst, arith}
use Rattle.std.proofs.lemmas.List.{take_more}
use Rattle.t7_entry.specs.ByNumber.{Rises, keys}
use Rattle.t7_entry.specs.State.{and_then}
use Rattle.t7_entry.specs.Events.{tick_each}
use Rattle.t7_exchange.specs.Maps.{HoldOnly, Stays, input_part, inputs_of}
use Rattle.t7_exchange.specs.Wires.{Acts, Wires, ticked}
use Rattle.t7_exchange.proofs.DeskFacts.{take_all}
use Rattle.t7_exchange.proofs.HoldFacts.{stays_same, stays_then}
use Rattle.t7_exchange.proofs.MapFacts.{keys-parts}
use Rattle.t7_exchange.proofs.TickFacts.{settled_is, tick_more, ticked_still}
use Rattle.t7_exchange.proofs.WireFacts.{acts_at, acts_pure, acts_same, acts_then, acts_to}
use Rattle.t7_exchange.proofs.wires.Wires.tick.Goals as goal

pub loop-conn-init : goal.loop-conn-init
unfolding tick_each
loop-conn-init c =
    let old = c.args.self.now in
    let held = c.reserve.ensures.held in
    record {
      acts = λ accepted. acts_to accepted old old c.reserve.new.self (tick_each c.args.moment (inputs_of old.held) []) held c.reserve.ensures.waiting (acts_pure accepted old);
      stays = subst (Stays old.held) (sym held) (stays_same old.held);
      rises = subst (λ m. Rises m) (ap (λ (w : Wires). w.held) c.self.view_is ∙ sym held) c.numbers.ensures.rises;
      only = λ sessions p. subst (HoldOnly sessions) (sym held) p;
      room = omega (arith, c.in_ok-reserve.ensures.room, c.len.ensures, c.deref-conn-items.ensures.len, c.in_ok-conns.conns.ok);
    }

pub loop-conn-preserved : goal.loop-conn-preserved
loop-conn-preserved c =
    let old = c.args.self.now in
    let mid = c.loop-conn.self in
    let new = c.tick_one.new.self in
    let moment = c.args.moment in
    let conns = c.deref-conn-items.result.now in
    let i = c.loop-conn.conn-index in
    let x = get_or conns i 0 in
    let inputs = inputs_of old.held in
    let more : take i conns ++ x ∷ [] ≡ take (i + 1) conns = sym (take_more conns i 0 (omega arith)) in
    record {
      acts = λ accepted.
          let next : Acts accepted mid new (ticked moment x inputs) =
          acts_at accepted mid new (ticked moment x (inputs_of mid.held)) (ticked moment x inputs) (ticked_still accepted moment x old.held mid.held c.loop-conn.invariant.stays) (c.tick_one.ensures.acts accepted)
          in
          subst (λ (l : List ℕ). Acts accepted old new (tick_each moment inputs l)) more
          (acts_same accepted old new (λ core. and_then (tick_each moment inputs (take i conns) core) (ticked moment x inputs)) (tick_each moment inputs (take i conns ++ x ∷ [])) (tick_more moment inputs (take i conns) x)
          (acts_then accepted old mid new (tick_each moment inputs (take i conns)) (ticked moment x inputs) (c.loop-conn.invariant.acts accepted) next));
      stays = stays_then old.held mid.held new.held c.loop-conn.invariant.stays c.tick_one.ensures.stays;
      rises = c.tick_one.ensures.rises c.loop-conn.invariant.rises;
      only = λ sessions p. c.tick_one.ensures.only sessions (c.loop-conn.invariant.only sessions p);
      room = omega (arith, c.tick_one.ensures.room, c.loop-conn.invariant.room);
    }

pub returns-clause-acts : goal.returns-clause-acts
returns-clause-acts c = λ accepted.
    let old = c.args.self.now in
    let conns = c.deref-conn-items.result.now in
    let all = take_all conns c.loop-conn.conn-index (omega arith) in
    let are = c.deref-conn-items.ensures.value ∙ c.in_ok-conns.ensures.keys ∙ ap (λ (w : Wires). keys w.held) c.self.view_is ∙ sym (keys-parts input_part old.held) in
    subst (λ (l : List ℕ). Acts accepted old c.loop-conn.self (tick_each c.args.moment (inputs_of old.held) l)) (all ∙ are) (c.loop-conn.invariant.acts accepted)

pub returns-clause-inputs : goal.returns-clause-inputs
returns-clause-inputs c = λ accepted.
    settled_is accepted c.args.self.now.held c.loop-conn.self.held c.loop-conn.invariant.stays (subst (λ m. Rises m) (ap (λ (w : Wires). w.held) c.self.view_is) c.numbers.ensures.rises) c.loop-conn.invariant.rises
