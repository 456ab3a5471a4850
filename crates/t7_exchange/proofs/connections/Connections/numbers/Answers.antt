use Rattle.std.proofs.Common.{◌≡◌, subst, rules}
use Rattle.std.specs.Prelude.{IfOk}
use Rattle.t7_entry.specs.ByNumber.{keys}
use Rattle.t7_exchange.proofs.connections.Connections.numbers.Goals as goal

pub returns-clause-keys : goal.returns-clause-keys
returns-clause-keys c =
    let all : IfOk c.collect.result (λ numbers. numbers.items ≡ keys c.self.inside.sessions.entries) = search rules in
    subst (λ m. IfOk c.collect.result (λ numbers. numbers.items ≡ keys m)) c.self.view_is all
