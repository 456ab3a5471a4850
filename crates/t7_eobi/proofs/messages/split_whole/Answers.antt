use Rattle.std.proofs.Common.{rules}
use Rattle.t7_eobi.specs.Datagrams.{body_of, front_message}
use Rattle.t7_eobi.proofs.FaultFacts.{not_cut}
use Rattle.t7_eobi.proofs.messages.split_whole.Goals as goal

pub read_u16-requires : goal.read_u16-requires
unfolding body_of front_message
read_u16-requires c =
    let (long, inside) = not_cut c.args.rest.now c.requires in
    search (rules, long, inside)

pub split_at-requires : goal.split_at-requires
unfolding body_of front_message
split_at-requires c =
    let (long, inside) = not_cut c.args.rest.now c.requires in
    search (rules, long, inside)

pub returns-clause-message : goal.returns-clause-message
unfolding body_of front_message
returns-clause-message c =
    let (long, inside) = not_cut c.args.rest.now c.requires in
    search (rules, long, inside)

pub returns-clause-after : goal.returns-clause-after
unfolding body_of front_message
returns-clause-after c =
    let (long, inside) = not_cut c.args.rest.now c.requires in
    search (rules, long, inside)

pub returns-clause-said : goal.returns-clause-said
unfolding body_of front_message
returns-clause-said c =
    let (long, inside) = not_cut c.args.rest.now c.requires in
    search (rules, long, inside)

pub returns-clause-long : goal.returns-clause-long
unfolding body_of front_message
returns-clause-long c =
    let (long, inside) = not_cut c.args.rest.now c.requires in
    search (rules, long, inside)

pub returns-clause-length : goal.returns-clause-length
unfolding body_of front_message
returns-clause-length c =
    let (long, inside) = not_cut c.args.rest.now c.requires in
    search (rules, long, inside)
