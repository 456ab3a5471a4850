-- The drill begins where its definition does.
use Rattle.t7_drill.proofs.run.drill.Goals as goal

pub returns-clause-written : goal.returns-clause-written
returns-clause-written g c =
    c.play.ensures.written (record { layouts = c.args.table.now; listing = c.args.product.now }) c.args.seed c.in-Ok.ensures.stands

pub returns-clause-end : goal.returns-clause-end
returns-clause-end g c = c.play.ensures.end (record { layouts = c.args.table.now; listing = c.args.product.now }) c.args.seed c.in-Ok.ensures.stands
