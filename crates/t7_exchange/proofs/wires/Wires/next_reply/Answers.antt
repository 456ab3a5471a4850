use Rattle.std.proofs.Common.{map, sym, ap, ◌∙◌, subst}
use Rattle.std.specs.List.{All}
use Rattle.std.proofs.lemmas.List.Elements.{All-drop}
use Rattle.t7_exchange.specs.Sayable.{CanBeSaid}
use Rattle.t7_exchange.specs.Wires.{reply_of}
use Rattle.t7_exchange.proofs.WireFacts.{map-drop_one}
use Rattle.t7_exchange.proofs.wires.Wires.next_reply.Goals as goal

pub invariant_of-self : goal.invariant_of-self
invariant_of-self c =
    subst (All CanBeSaid) (sym (ap (map reply_of) c.pop_front.ensures.rest ∙ map-drop_one reply_of c.self.inside.waiting.items))
    (All-drop CanBeSaid 1 (map reply_of c.self.inside.waiting.items) c.self.invariant)
