-- The drill begins as its definition does.
use Rattle.std.proofs.Common.{refl, rules}
use Rattle.t7_drill.proofs.Standing.{begins}
use Rattle.t7_drill.proofs.day.Drill.new.Goals as goal

pub returns-clause-stands : goal.returns-clause-stands
returns-clause-stands c =
    begins (record { layouts = c.args.table.now; listing = c.args.product.now }) c.args.seed _ c.new-2.ensures c.in_ok-exchange.ensures
    refl refl refl (search rules) c.in_ok-new.ensures.terms c.in_ok-new.ensures.tallies c.in_ok-new.ensures.keeps
