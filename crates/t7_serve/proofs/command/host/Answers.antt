use Rattle.std.proofs.Common.{◌≡◌}
use Rattle.t7_feed.specs.Arrivals.{Terms}
use Rattle.t7_serve.specs.Venues.{new_venue}
use Rattle.t7_serve.proofs.Ending.{came_none, if_ok_as}
use Rattle.t7_serve.proofs.command.host.Goals as goal

-- memory was wanting
pub returns-in_default-clause-came : goal.returns-in_default-clause-came
returns-in_default-clause-came g c =
    let terms : Terms = record { layouts = c.args.table.now; listing = c.args.product.now } in
    came_none terms c.args.count _ _ _ _

-- the events were taken

pub returns-clause-came : goal.returns-clause-came
returns-clause-came g c =
    let terms : Terms = record { layouts = c.args.table.now; listing = c.args.product.now } in
    let new : c.in-Ok.server ≡ new_venue terms = c.in-Ok.ensures in
    c.run.ensures.came terms new

pub returns-clause-acts : goal.returns-clause-acts
returns-clause-acts g c =
    let terms : Terms = record { layouts = c.args.table.now; listing = c.args.product.now } in
    let new : c.in-Ok.server ≡ new_venue terms = c.in-Ok.ensures in
    if_ok_as _ _ c.run.result c.run.ensures.acts (λ finish acts. acts terms new)
