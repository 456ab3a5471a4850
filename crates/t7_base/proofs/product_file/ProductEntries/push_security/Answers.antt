use Rattle.std.proofs.Common.{◌≡◌, ap, rules}
use Rattle.t7_base.specs.ProductLists.{ProductRows}
use Rattle.t7_base.proofs.ProductFacts.{adds_security}
use Rattle.t7_base.proofs.product_file.ProductEntries.push_security.Goals as goal

pub invariant_of-self-2 : goal.invariant_of-self-2
invariant_of-self-2 c =
    let before : ProductRows =
    record { securities = c.self.inside.securities.items; ticks = c.self.inside.ticks.items; sessions = c.self.inside.sessions.items } in
    let same : c.self.inside.securities.items ≡ c.args.self.now.securities = ap (λ (l : ProductRows). l.securities) c.self.view_is in
    adds_security before _ _ c.args.security c.args.tick c.self.invariant (rw same c.requires.few) c.requires.security c.requires.tick (rw same c.requires.absent)
    (search rules) (search rules)
