-- The sessions log on one after the other.
use Rattle.std.proofs.Common.{subst, arith}
use Rattle.t7_eti.specs.declared.request.Request.{Request}
use Rattle.t7_drill.specs.Asking.{logon}
use Rattle.t7_drill.specs.Kits.{Stands}
use Rattle.t7_drill.specs.Worlds.{counted, entered}
use Rattle.t7_drill.proofs.Standing.{within_more}
use Rattle.t7_drill.proofs.day.Drill.log_on.Goals as goal

pub enter-requires-2-clause-within : goal.enter-requires-2-clause-within
enter-requires-2-clause-within c = within_more 11 100_000 c.enter.new.self (c.in_ok-enter.ensures.within 10 c.requires) (omega arith)

pub returns-clause-stands : goal.returns-clause-stands
returns-clause-stands c = λ w stands.
    let one = c.in_ok-enter.ensures.stands w stands in
    let first = subst (λ (r : Request). Stands (counted 1 (entered 1 r w)) c.enter.new.self) c.logon.ensures.request one in
    let both = c.in_ok-enter-2.ensures.stands (counted 1 (entered 1 (logon 21) w)) first in
    subst (λ (r : Request). Stands (counted 2 (entered 2 r (counted 1 (entered 1 (logon 21) w)))) c.enter-2.new.self) c.logon-2.ensures.request both

pub returns-clause-within : goal.returns-clause-within
returns-clause-within c = c.in_ok-enter-2.ensures.within 11 (c.in_ok-enter.ensures.within 10 c.requires)
