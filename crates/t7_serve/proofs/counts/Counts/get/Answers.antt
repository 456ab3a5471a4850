use Rattle.std.proofs.Common.{rules, ◌≡◌, ℕ, Option, Some, None, sym, ap, unwrap_or}
use Rattle.t7_entry.specs.ByNumber.{get}
use Rattle.t7_serve.proofs.Counted.{found_there}
use Rattle.t7_serve.proofs.counts.Counts.get.Goals as goal

pub returns-in-Some : goal.returns-in-Some
returns-in-Some c =
    let is : get c.args.self.now c.args.conn ≡ Some c.in-Some.count.now =
    found_there c.self.inside.counts.entries c.args.self.now c.args.conn (Some c.in-Some.count.now) c.self.view_is (search rules) in
    sym (ap (λ (o : Option ℕ). unwrap_or o 0) is)

pub returns-in-None : goal.returns-in-None
returns-in-None c =
    let is : get c.args.self.now c.args.conn ≡ None =
    found_there c.self.inside.counts.entries c.args.self.now c.args.conn None c.self.view_is (search rules) in
    sym (ap (λ (o : Option ℕ). unwrap_or o 0) is)
