use Rattle.std.proofs.Common.{rules, ◌≡◌, Ok, Err, refl}
use Rattle.t7_follow.proofs.Ending.{told_ended, told_stopped}
use Rattle.t7_follow.proofs.command.show.Goals as goal

-- it was stopped while receipts were taken
pub returns-in_err-watch-clause-shown : goal.returns-in_err-watch-clause-shown
returns-in_err-watch-clause-shown g c = λ terms are stands.
    let is : c.watch.result ≡ Err c.in_err-watch.field-0.0 = search rules in
    let ended : c.from_residual.result ≡ Err c.in_err-watch.field-0.0 = search rules in
    told_stopped terms c.args.count c.watch.new.follower c.watch.result c.from_residual.result c.in_err-watch.field-0.0 _ _ _ _ _
    refl is ended (c.watch.ensures.watched terms are stands)

-- it came to its end
pub returns-clause-shown : goal.returns-clause-shown
returns-clause-shown g c = λ terms are stands.
    let is : c.watch.result ≡ Ok c.in_ok-watch.field-0 = search rules in
    told_ended terms c.args.count c.watch.new.follower c.watch.result c.in_ok-watch.field-0 c.finish.result _ _ _ _ _ _
    refl is are c.finish.ensures.shown (c.watch.ensures.watched terms are stands) c.finish.ensures.end c.finish.ensures.only c.finish.ensures.printed
