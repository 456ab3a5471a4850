use Rattle.t7_entry.specs.Events.{happens}
use Rattle.t7_acts.proofs.Adding.{behind}
use Rattle.t7_acts.proofs.Happening.{happens-adds}
use Rattle.t7_acts.proofs.events.events_only_add.Goals as goal

pub returns : goal.returns
returns c = λ setting state event. let result = happens setting state event in
    behind setting state.core.accepted result.state.core.accepted result.doings (happens-adds setting state event)
