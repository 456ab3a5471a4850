use Rattle.std.proofs.Common.{rules, ◌≡◌, List, Ok, refl}
use Rattle.t7_feed.specs.Arrivals.{Terms}
use Rattle.t7_feed.specs.Sending.{AreActs}
use Rattle.t7_serve.specs.Clauses.{binds_of}
use Rattle.t7_serve.specs.Served.{Taking, done_by}
use Rattle.t7_serve.proofs.Asking.{asks_all, listens_still}
use Rattle.t7_serve.proofs.Ending.{came_cast, came_end, came_from, came_moments, came_sent, cast_none, events_from, if_ok_as, sent_none, upto_from}
use Rattle.t7_serve.proofs.command.serve.Goals as goal

-- no connection could be listened for

pub returns-in_err-listen-clause-sent : goal.returns-in_err-listen-clause-sent
returns-in_err-listen-clause-sent g c =
    let terms : Terms = record { layouts = c.args.table.now; listing = c.args.product.now } in
    sent_none terms _ _ _ _ _ c.from_residual.result c.listen.ensures.events c.listen.ensures.sent

pub returns-in_err-listen-clause-cast : goal.returns-in_err-listen-clause-cast
returns-in_err-listen-clause-cast g c =
    let terms : Terms = record { layouts = c.args.table.now; listing = c.args.product.now } in
    cast_none terms _ _ _ _ _ c.from_residual.result c.listen.ensures.events refl

-- a feed could not be bound

pub returns-in_err-bind_all-clause-sent : goal.returns-in_err-bind_all-clause-sent
returns-in_err-bind_all-clause-sent g c =
    let terms : Terms = record { layouts = c.args.table.now; listing = c.args.product.now } in
    sent_none terms _ _ _ _ _ c.from_residual-in_err-bind_all.result c.listen.ensures.events c.listen.ensures.sent

pub returns-in_err-bind_all-clause-cast : goal.returns-in_err-bind_all-clause-cast
returns-in_err-bind_all-clause-cast g c =
    let terms : Terms = record { layouts = c.args.table.now; listing = c.args.product.now } in
    cast_none terms _ _ _ _ _ c.from_residual-in_err-bind_all.result c.listen.ensures.events c.bind_all.ensures.cast

-- the events were taken

pub returns-clause-end : goal.returns-clause-end
returns-clause-end g c =
    let terms : Terms = record { layouts = c.args.table.now; listing = c.args.product.now } in
    came_end terms c.args.count c.host.result _ _ _ _ _ _ _ _
    (came_from _ _ _ c.listen.ensures.events terms c.args.count _ _ _ _ _ _ _ _ c.host.result c.listen.ensures.sent c.bind_all.ensures.cast c.host.ensures.came)

pub returns-clause-sent : goal.returns-clause-sent
returns-clause-sent g c =
    let terms : Terms = record { layouts = c.args.table.now; listing = c.args.product.now } in
    came_sent terms c.args.count c.host.result _ _ _ _ _ _ _ _
    (came_from _ _ _ c.listen.ensures.events terms c.args.count _ _ _ _ _ _ _ _ c.host.result c.listen.ensures.sent c.bind_all.ensures.cast c.host.ensures.came)

pub returns-clause-cast : goal.returns-clause-cast
returns-clause-cast g c =
    let terms : Terms = record { layouts = c.args.table.now; listing = c.args.product.now } in
    came_cast terms c.args.count c.host.result _ _ _ _ _ _ _ _
    (came_from _ _ _ c.listen.ensures.events terms c.args.count _ _ _ _ _ _ _ _ c.host.result c.listen.ensures.sent c.bind_all.ensures.cast c.host.ensures.came)

pub returns-clause-moments : goal.returns-clause-moments
returns-clause-moments g c =
    let terms : Terms = record { layouts = c.args.table.now; listing = c.args.product.now } in
    came_moments terms c.args.count c.host.result _ _ _ _ _ _ _ _
    (came_from _ _ _ c.listen.ensures.events terms c.args.count _ _ _ _ _ _ _ _ c.host.result c.listen.ensures.sent c.bind_all.ensures.cast c.host.ensures.came)

pub returns-clause-events : goal.returns-clause-events
returns-clause-events g c = upto_from _ _ _ c.listen.ensures.events c.args.count c.host.result c.host.ensures.events

pub returns-clause-acts : goal.returns-clause-acts
returns-clause-acts g c =
    let terms : Terms = record { layouts = c.args.table.now; listing = c.args.product.now } in
    let those : (List Taking → Type 0) = (λ ts. AreActs terms.listing (done_by terms ts).acts) in
    if_ok_as _ _ c.host.result c.host.ensures.acts (λ finish acts. events_from _ _ _ c.listen.ensures.events _ _ those acts)

pub returns-clause-listens : goal.returns-clause-listens
returns-clause-listens g c =
    let is : c.listen.result ≡ Ok c.in_ok-listen.field-0 = search rules in
    listens_still _ _ _ c.args.addresses.now.listen.now c.listen.result c.in_ok-listen.field-0 c.host.result is c.host.ensures.listens c.listen.ensures.asked

pub returns-clause-binds : goal.returns-clause-binds
returns-clause-binds g c =
    let is : c.bind_all.result ≡ Ok c.in_ok-bind_all.field-0 = search rules in
    asks_all _ _ _ (binds_of c.args.addresses.now) c.bind_all.result c.in_ok-bind_all.field-0 c.host.result is c.host.ensures.binds c.bind_all.ensures.asked
