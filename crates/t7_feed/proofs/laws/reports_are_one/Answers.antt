use Rattle.t7_feed.proofs.OneReport.{reports_one}
use Rattle.t7_feed.proofs.laws.reports_are_one.Goals as goal

pub returns : goal.returns
returns c = reports_one
