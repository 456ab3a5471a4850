use Rattle.std.proofs.Common.{◌≤◌, ◌+◌, ap, sym, ◌∙◌, subst, length, arith}
use Rattle.std.proofs.lemmas.Bool.{eqb-false}
use Rattle.t7_exchange.specs.Outbox.{IsOutbox, Outbox}
use Rattle.t7_exchange.proofs.OutboxFacts.{ships_from}
use Rattle.t7_exchange.proofs.outbox.Outbox.next_datagram.Goals as goal

pub pack-packed-requires-clause-first : goal.pack-packed-requires-clause-first
pack-packed-requires-clause-first c = c.self.invariant.0.some

pub returns : goal.returns
returns c =
    let old = c.args.self.now in
    let messages = c.waiting-messages.result.now in
    let is = subst (λ (o : Outbox). IsOutbox o c.self.inside.next) c.self.view_is c.self.invariant.0 in
    let filled = eqb-false _ _ (sym c.is_empty.ensures ∙ c.if-is_empty.false) in
    let some : 1 ≤ length messages = omega (arith, filled) in
    let live = ap (λ (o : Outbox). o.live + 1) c.self.view_is in
    ships_from c.args.table.now c.args.product.now old c.pass.new.self c.self.inside.next messages c.segment.result c.datagram-limit.result _ c.pack-packed.result.used c.pack-packed.result.len c.args.out.now
    c.pack-packed.new.out is c.waiting-messages.ensures some c.datagram-limit.ensures.value c.segment.ensures.value live c.pack-packed.ensures.greedy c.pass.ensures c.pack-packed.ensures.length c.pack-packed.ensures.bytes
