use Rattle.std.proofs.Common.{◌≡◌, List, [], ◌∷◌, ℕ, Err, take}
use Rattle.t7_base.specs.Outside.{Begins}
use Rattle.t7_base.proofs.Grown.{grew_as}
use Rattle.t7_net.specs.Links.{Gave}
use Rattle.t7_outcome.specs.declared.ending.Stop.TheVariants.{NetFault}
use Rattle.t7_gather.specs.Steps.{SendsNext}
use Rattle.t7_gather.proofs.Sending.{begins_queued}
use Rattle.t7_gather.proofs.gatherer.Gatherer.send_next.Goals as goal

pub returns-in-Err-clause-sent : goal.returns-in-Err-clause-sent
returns-in-Err-clause-sent g c =
    let n = c.up-count.result in
    let queue = c.args.self.now.client.queue in
    let new = c.up-count.new.out in
    grew_as _ _ (λ added. (front : List ℕ) × Begins front (take n new) × (added ≡ Gave c.args.self.now.conn front ∷ []))
    (SendsNext {T = Unit {0}} c.args.self.now.conn queue c.up-count.new.self.queue (Err NetFault)) c.in-Err.ensures.err
    (λ added sent. (sent.0, sent.2, begins_queued n sent.0 queue c.args.out.now new c.up-count.ensures.count c.up-count.ensures.bytes sent.1))
