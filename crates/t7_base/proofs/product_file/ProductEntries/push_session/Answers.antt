use Rattle.std.proofs.Common.{◌≡◌, ap}
use Rattle.t7_base.specs.ProductLists.{ProductRows}
use Rattle.t7_base.proofs.ProductFacts.{lists_with_session}
use Rattle.t7_base.proofs.product_file.ProductEntries.push_session.Goals as goal

pub invariant_of-self-2 : goal.invariant_of-self-2
invariant_of-self-2 c =
    let before : ProductRows =
    record { securities = c.self.inside.securities.items; ticks = c.self.inside.ticks.items; sessions = c.self.inside.sessions.items } in
    let sessions : c.self.inside.sessions.items ≡ c.args.self.now.sessions = ap (λ (l : ProductRows). l.sessions) c.self.view_is in
    let securities : c.self.inside.securities.items ≡ c.args.self.now.securities = ap (λ (l : ProductRows). l.securities) c.self.view_is in
    rw c.in_ok-push.ensures.items
    (lists_with_session before c.args.session c.self.invariant (rw sessions c.requires.few) c.requires.session (rw sessions c.requires.absent) (rw securities c.requires.begun))
