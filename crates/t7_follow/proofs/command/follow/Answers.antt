use Rattle.std.proofs.Common.{rules, ◌≡◌, Ok, Err, inl, inr, refl}
use Rattle.t7_feed.specs.Arrivals.{AreTerms, Terms}
use Rattle.t7_outcome.specs.declared.ending.Stop.TheVariants.{Memory, NetFault}
use Rattle.t7_follow.specs.Clauses.{binds_of}
use Rattle.t7_follow.proofs.Asking.{asks_all}
use Rattle.t7_follow.proofs.Ending.{told_due, told_end, told_from, told_none, told_taken, told_written}
use Rattle.t7_follow.proofs.command.follow.Goals as goal

-- a feed could not be bound
pub returns-in_err-bind_all-clause-written : goal.returns-in_err-bind_all-clause-written
returns-in_err-bind_all-clause-written g c =
    let terms : Terms = record { layouts = c.args.table.now; listing = c.args.product.now } in
    let is : c.from_residual.result ≡ Err NetFault = search rules in
    told_written terms c.args.count c.from_residual.result _ _ _ _ (told_none terms c.args.count c.from_residual.result _ _ _ c.bind_all.ensures.taken (inl is))

-- memory was wanting
pub returns-in_default-clause-written : goal.returns-in_default-clause-written
returns-in_default-clause-written g c =
    let terms : Terms = record { layouts = c.args.table.now; listing = c.args.product.now } in
    told_written terms c.args.count (Err Memory) _ _ _ _ (told_none terms c.args.count (Err Memory) _ _ _ c.bind_all.ensures.taken (inr refl))

-- the receipts were taken

pub returns-clause-end : goal.returns-clause-end
returns-clause-end g c =
    let terms : Terms = record { layouts = c.args.table.now; listing = c.args.product.now } in
    let are : AreTerms terms = c.are_terms.ensures in
    told_end terms c.args.count c.show.result _ _ _ _
    (told_from terms c.args.count c.show.result _ _ _ _ _ c.bind_all.ensures.taken (c.show.ensures.shown terms are c.in-Ok.ensures.stands))

pub returns-clause-written : goal.returns-clause-written
returns-clause-written g c =
    let terms : Terms = record { layouts = c.args.table.now; listing = c.args.product.now } in
    let are : AreTerms terms = c.are_terms.ensures in
    told_written terms c.args.count c.show.result _ _ _ _
    (told_from terms c.args.count c.show.result _ _ _ _ _ c.bind_all.ensures.taken (c.show.ensures.shown terms are c.in-Ok.ensures.stands))

pub returns-clause-due : goal.returns-clause-due
returns-clause-due g c =
    let terms : Terms = record { layouts = c.args.table.now; listing = c.args.product.now } in
    let are : AreTerms terms = c.are_terms.ensures in
    told_due terms c.args.count c.show.result _ _ _ _
    (told_from terms c.args.count c.show.result _ _ _ _ _ c.bind_all.ensures.taken (c.show.ensures.shown terms are c.in-Ok.ensures.stands))

pub returns-clause-taken : goal.returns-clause-taken
returns-clause-taken g c =
    let terms : Terms = record { layouts = c.args.table.now; listing = c.args.product.now } in
    let are : AreTerms terms = c.are_terms.ensures in
    told_taken terms c.args.count c.show.result _ _ _ _
    (told_from terms c.args.count c.show.result _ _ _ _ _ c.bind_all.ensures.taken (c.show.ensures.shown terms are c.in-Ok.ensures.stands))

pub returns-clause-asked : goal.returns-clause-asked
returns-clause-asked g c =
    let is : c.bind_all.result ≡ Ok c.in_ok-bind_all.field-0 = search rules in
    asks_all _ _ _ (binds_of c.args.addresses.now) c.bind_all.result c.in_ok-bind_all.field-0 c.show.result is c.show.ensures.asked c.bind_all.ensures.asked
