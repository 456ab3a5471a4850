use Rattle.t7_feed.proofs.Examples.{again_stands, ahead_stands, beaten_stands, complete_stands, filled_stands, found_stands, lost_stands, next_outside_stands, outside_stands}
use Rattle.t7_feed.proofs.laws.short_deliveries.Goals as goal

pub returns-clause-lost : goal.returns-clause-lost
returns-clause-lost c = lost_stands

pub returns-clause-found : goal.returns-clause-found
returns-clause-found c = found_stands

pub returns-clause-ahead : goal.returns-clause-ahead
returns-clause-ahead c = ahead_stands

pub returns-clause-filled : goal.returns-clause-filled
returns-clause-filled c = filled_stands

pub returns-clause-next_outside : goal.returns-clause-next_outside
returns-clause-next_outside c = next_outside_stands

pub returns-clause-outside_before : goal.returns-clause-outside_before
returns-clause-outside_before c = outside_stands

pub returns-clause-again : goal.returns-clause-again
returns-clause-again c = again_stands

pub returns-clause-complete : goal.returns-clause-complete
returns-clause-complete c = complete_stands

pub returns-clause-beaten : goal.returns-clause-beaten
returns-clause-beaten c = beaten_stands
