use Rattle.t7_feed.proofs.Grown.{grows_heard}
use Rattle.t7_feed.proofs.laws.what_came_only_grows.Goals as goal

pub returns : goal.returns
returns c = grows_heard
