use Rattle.std.proofs.Common.{ap}
use Rattle.t7_follow.specs.Followers.{Following}
use Rattle.t7_follow.proofs.Keeping.{delivers}
use Rattle.t7_follow.proofs.follower.Follower.deliver.Goals as goal

pub returns-clause-delivered : goal.returns-clause-delivered
returns-clause-delivered c =
    let kept = c.deliver-delivered.ensures in
    delivers c.args.feed c.args.bytes.now c.args.self.now.member c.self.inside.member c.deliver-delivered.new.self (ap (λ (f : Following). f.member) c.self.view_is)
    kept.accepted kept.refused kept.step
