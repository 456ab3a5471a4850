use Rattle.std.proofs.Common.{refl, sym, ◌∙◌}
use Rattle.t7_feed.proofs.Growth.{some_one}
use Rattle.t7_member.proofs.Moves.{stepped_fits}
use Rattle.t7_member.proofs.Standings.{unrefused}
use Rattle.t7_member.proofs.Staging.{none_of_ok, some_of_err}
use Rattle.t7_member.proofs.member.Member.advance.Goals as goal

pub returns-in-Ok-clause-fits : goal.returns-in-Ok-clause-fits
returns-in-Ok-clause-fits c = rw (← c.self.view_is) (λ list steps. (let f = stepped_fits _ _ _ list steps in
    let none = unrefused c.self.inside.standing c.args.n (rw (← c.self.view_is) at c.requires.based) in
    rw (c.in-Ok.ensures.ok, c.self.invariant.securities, f.1, none) refl))

pub returns-in-Ok-clause-misfits : goal.returns-in-Ok-clause-misfits
returns-in-Ok-clause-misfits c = rw (← c.self.view_is) (λ why is.
    (let none = none_of_ok _ c.apply.result c.in-Ok.field-0 c.in-Ok.is (rw c.self.invariant.securities at c.apply.ensures.misfit) in absurd (cc (none, is))))

pub returns-in-Err-clause-fits : goal.returns-in-Err-clause-fits
returns-in-Err-clause-fits c = rw (← c.self.view_is) (λ list steps.
    (let some = some_of_err _ c.apply.result c.in-Err.why c.in-Err.is (rw c.self.invariant.securities at c.apply.ensures.misfit) in
    let f = stepped_fits _ _ _ list steps in absurd (cc (some, f.0))))

pub returns-in-Err-clause-misfits : goal.returns-in-Err-clause-misfits
returns-in-Err-clause-misfits c = rw (← c.self.view_is) (λ why is.
    (let some = some_of_err _ c.apply.result c.in-Err.why c.in-Err.is (rw c.self.invariant.securities at c.apply.ensures.misfit) in
    let same = some_one (sym is ∙ some) in rw (c.adopt.ensures, c.stage.ensures, same) refl))
