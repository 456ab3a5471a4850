-- `drill`: a generated day over the sample table and the drill's product.
use Rattle.std.specs.Prelude.{ℕ, [], ◌∷◌, Some, Ok}
use Rattle.t7_base.specs.ProductFile.{product_of}
use Rattle.t7_drill.specs.declared.run.TheConstants.{PRODUCT}
use Rattle.t7_drill.specs.Worlds.{World, drilled}
use Rattle.t7_entry.specs.Days.{last_of}
use Rattle.t7_entry.specs.State.{Setting}
use Rattle.t7_layout.specs.Tables.{table_of}
use Rattle.t7_outcome.specs.declared.ending.Finish.TheVariants.{End}
use Rattle.t7_outcome.specs.Outcome.{Outcome, Shows}
use Rattle.t7_records.specs.Records.{records_of}
use Rattle.t7_sample.specs.declared.TheConstants.{SAMPLE}
use Rattle.t7_top.specs.Moments.{Moment, OfDrill}

-- the table and the product of the drill
abbrev pub drill_setting : Setting
drill_setting = record { layouts = table_of (records_of SAMPLE.now); listing = product_of (records_of PRODUCT.now) }

-- the end of a day: its lines are due, and the last line has the number of the last message
abbrev pub told_day : World → Outcome Moment
told_day world = record { names = []; parts = Shows (OfDrill world) ∷ []; end = Some (Ok (End (last_of world.day))) }

-- the day of a seed and of so many orders
abbrev pub exercised : ℕ → ℕ → Outcome Moment
exercised seed orders = told_day (drilled drill_setting seed orders)
