use Rattle.std.proofs.Common.{◌≡◌}
use Rattle.t7_layout.specs.Tables.{layouts_before}
use Rattle.t7_layout.proofs.templates.templates_of.Given as goal

abbrev pub invariant-loop-at : goal.invariant-loop-at
invariant-loop-at l = l.templates.items ≡ layouts_before l.rows l.at
