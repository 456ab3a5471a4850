-- The tests of a layout table and of a product file, before what follows them.
use Rattle.std.specs.Prelude.{◌≡◌, Option, None, Some}
use Rattle.t7_base.specs.ProductFile.{ProductFault}
use Rattle.t7_layout.specs.declared.words.TableFault.{TableFault}
use Rattle.t7_outcome.specs.declared.ending.Stop.{Stop}
use Rattle.t7_outcome.specs.declared.ending.Stop.TheVariants.{Layout as LayoutStop, Product, Memory}
use Rattle.t7_outcome.specs.Outcome.{Outcome, stops}
use Rattle.t7_top.specs.Moments.{Moment}

-- a table is checked, and a valid one says what follows
abbrev pub checked : Option TableFault → Outcome Moment → Outcome Moment
checked None later = later
checked (Some fault) later = stops (LayoutStop fault)

-- a product file is checked, and a valid one says what follows
abbrev pub checked_product : Option ProductFault → Outcome Moment → Outcome Moment
checked_product None later = later
checked_product (Some fault) later = stops (Product fault.row fault.why)

-- The table with that fault, or with none, is refused with that stop; memory may run out whatever the table is.
abbrev pub RefusesTable : Option TableFault → Stop → Type 0
RefusesTable fault (LayoutStop found) = fault ≡ Some found
RefusesTable fault Memory = Unit {0}
RefusesTable fault _ = ⊥

-- The same of a product file.
abbrev pub RefusesProduct : Option ProductFault → Stop → Type 0
RefusesProduct fault (Product row why) = fault ≡ Some (record { row = row; why = why })
RefusesProduct fault Memory = Unit {0}
RefusesProduct fault _ = ⊥
