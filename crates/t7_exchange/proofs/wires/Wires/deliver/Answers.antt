use Rattle.std.proofs.Common.{◌≡◌, ◌+◌, List, [], ◌∷◌, ◌++◌, take, sym, ap, ◌∙◌, subst, refl, arith}
use Rattle.std.proofs.lemmas.List.{take_more}
use Rattle.t7_orders.specs.declared.response.Numbered.{Numbered}
use Rattle.t7_entry.specs.State.{and_then}
use Rattle.t7_entry.specs.Treatment.{deliver}
use Rattle.t7_exchange.specs.Wires.{Acts, delivered}
use Rattle.std.proofs.lemmas.List.Elements.{All-get_or}
use Rattle.t7_eti.specs.declared.response.Response.TheVariants as response
use Rattle.t7_exchange.specs.Sayable.{IsSayable}
use Rattle.t7_exchange.proofs.WireFacts.{acts_pure, acts_same, acts_then, deliver_more}
use Rattle.t7_exchange.proofs.wires.Wires.deliver.Goals as goal

pub loop-one-init : goal.loop-one-init
unfolding deliver
loop-one-init c = record { acts = λ accepted. acts_pure accepted c.args.self.now; inputs = refl; only = λ sessions p. p; room = omega (arith, c.requires.room) }

pub loop-one-preserved : goal.loop-one-preserved
loop-one-preserved c =
    let stored = c.args.stored.now in
    let i = c.loop-one.one-index in
    let x = c.one-item.result in
    let moment = c.args.moment in
    let old = c.args.self.now in
    let mid = c.loop-one.self in
    let new = c.deliver_one.new.self in
    let more : take i stored ++ x ∷ [] ≡ take (i + 1) stored = ap (λ (y : Numbered). take i stored ++ y ∷ []) c.one-item.is ∙ sym (take_more stored i x (omega arith)) in
    record {
      acts = λ accepted.
          subst (λ (l : List Numbered). Acts accepted old new (deliver moment l)) more
          (acts_same accepted old new (λ core. and_then (deliver moment (take i stored) core) (delivered moment x)) (deliver moment (take i stored ++ x ∷ [])) (deliver_more moment (take i stored) x)
          (acts_then accepted old mid new (deliver moment (take i stored)) (delivered moment x) (c.loop-one.invariant.acts accepted) (c.deliver_one.ensures.acts accepted)));
      inputs = c.deliver_one.ensures.inputs ∙ c.loop-one.invariant.inputs;
      only = λ sessions p. c.deliver_one.ensures.only sessions (c.loop-one.invariant.only sessions p);
      room = omega (arith, c.deliver_one.ensures.room, c.loop-one.invariant.room);
    }

pub deliver_one-requires-clause-sayable : goal.deliver_one-requires-clause-sayable
deliver_one-requires-clause-sayable c =
    let x = c.one-item.result in
    let said = All-get_or (λ (n : Numbered). IsSayable (response.Kept 0 n.what)) c.args.stored.now c.loop-one.one-index x (omega arith) c.requires.sayable in
    subst (λ (n : Numbered). IsSayable (response.Kept 0 n.what)) (sym c.one-item.is) said
