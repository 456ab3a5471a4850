use Rattle.std.proofs.Common.{◌≡◌, ◌+◌, List, [], ◌∷◌, ◌++◌, length, take, sym, ap, ◌∙◌, subst, refl, arith, length-take}
use Rattle.std.proofs.lemmas.List.{take_more}
use Rattle.t7_eti.specs.declared.response.Kept.{Kept}
use Rattle.t7_eti.specs.declared.response.Response.TheVariants as response
use Rattle.t7_entry.specs.State.{and_then}
use Rattle.t7_entry.specs.Treatment.{send, send_again}
use Rattle.t7_exchange.specs.Wires.{Acts}
use Rattle.std.proofs.lemmas.List.Elements.{All-get_or}
use Rattle.t7_exchange.specs.Sayable.{IsSayable}
use Rattle.t7_exchange.proofs.SayFacts.{kept_said}
use Rattle.t7_exchange.proofs.WireFacts.{acts_pure, acts_same, acts_then, again_more}
use Rattle.t7_exchange.proofs.wires.Wires.send_again.Goals as goal

pub loop-i-init : goal.loop-i-init
unfolding send_again
loop-i-init c = record { acts = λ accepted. acts_pure accepted c.args.self.now; inputs = refl; only = λ sessions p. p; room = omega (arith, c.requires.room) }

pub loop-i-preserved : goal.loop-i-preserved
loop-i-preserved c =
    let range = c.args.range.now in
    let i = c.loop-i.i in
    let x = c.index-range-i.result in
    let moment = c.args.moment in
    let conn = c.args.conn in
    let number = c.args.after + 1 in
    let old = c.args.self.now in
    let mid = c.loop-i.self in
    let new = c.send.new.self in
    let long : i ≡ length (take i range) = omega (arith, length-take i range) in
    let more : take i range ++ x ∷ [] ≡ take (i + 1) range = ap (λ (y : Kept). take i range ++ y ∷ []) c.index-range-i.is ∙ sym (take_more range i x (omega arith)) in
    record {
      acts = λ accepted.
          let next : Acts accepted mid new (send moment conn (response.Kept (number + length (take i range)) x)) =
          subst (λ n. Acts accepted mid new (send moment conn (response.Kept (number + n) x))) long (c.send.ensures.acts accepted)
          in
          subst (λ (l : List Kept). Acts accepted old new (send_again moment conn number l)) more
          (acts_same accepted old new (λ core. and_then (send_again moment conn number (take i range) core) (send moment conn (response.Kept (number + length (take i range)) x))) (send_again moment conn number (take i range ++ x ∷ []))
          (again_more moment conn number (take i range) x)
          (acts_then accepted old mid new (send_again moment conn number (take i range)) (send moment conn (response.Kept (number + length (take i range)) x)) (c.loop-i.invariant.acts accepted) next));
      inputs = c.send.ensures.inputs ∙ c.loop-i.invariant.inputs;
      only = λ sessions p. c.send.ensures.only sessions (c.loop-i.invariant.only sessions p);
      room = omega (arith, c.send.ensures.room, c.loop-i.invariant.room);
    }

pub send-requires-clause-sayable : goal.send-requires-clause-sayable
send-requires-clause-sayable c =
    let x = c.index-range-i.result in
    let said = All-get_or (λ (what : Kept). IsSayable (response.Kept 0 what)) c.args.range.now c.loop-i.i x (omega arith) c.requires.sayable in
    kept_said 0 (c.args.after + 1 + c.loop-i.i) x (subst (λ (what : Kept). IsSayable (response.Kept 0 what)) (sym c.index-range-i.is) said)
