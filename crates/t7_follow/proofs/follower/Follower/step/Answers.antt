use Rattle.std.proofs.Common.{rules, ◌≡◌, ◌≢◌}
use Rattle.t7_base.proofs.Grown.{grew_as}
use Rattle.t7_net.specs.declared.line.Received.TheVariants.{Failed}
use Rattle.t7_net.specs.Lines.{line_taken}
use Rattle.t7_follow.specs.Followers.{Stepped}
use Rattle.t7_follow.proofs.Stepping.{step_taken}
use Rattle.t7_follow.proofs.follower.Follower.step.Goals as goal

pub returns-clause-stepped : goal.returns-clause-stepped
returns-clause-stepped g c = λ terms before are stands.
    let what = c.receive-received.result in
    let into = c.receive-received.new.into in
    let some : c.receive-received.result ≢ Failed = search rules in
    let old = g.S.Sink.written c.args.sink.now in
    let new = g.S.Sink.written c.show.new.sink in
    grew_as _ _ (λ added. added ≡ line_taken what into) (Stepped terms before c.show.new.self old new c.show.result) c.receive-received.ensures.taken
    (step_taken terms before what into c.args.self.now c.take.new.self c.show.new.self old new c.show.result c.what_is_kept_is_shown.ensures are stands some
    c.take.ensures.took c.take.ensures.printed c.show.ensures.member c.show.ensures.datagrams c.show.ensures.line c.show.ensures.only c.show.ensures.printed)
