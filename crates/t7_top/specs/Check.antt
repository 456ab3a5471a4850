-- `check`: a line for each template of a layout table, and their number.
use Rattle.std.specs.Prelude.{ℕ, List, [], ◌++◌, Some, Ok, codes, length, map}
use Rattle.std.specs.Fmt.{decimal}
use Rattle.t7_layout.specs.Faults.{fault_of}
use Rattle.t7_layout.specs.Layouts.{Layout}
use Rattle.t7_layout.specs.Rows.{family_text}
use Rattle.t7_layout.specs.Tables.{table_of}
use Rattle.t7_outcome.specs.declared.ending.Finish.TheVariants.{End}
use Rattle.t7_outcome.specs.declared.ending.Stop.{Stop}
use Rattle.t7_outcome.specs.declared.ending.Stop.TheVariants.{Layout as LayoutStop, ReadFault, WriteFault, TooLong, Memory}
use Rattle.t7_outcome.specs.Outcome.{Outcome, Given, says, taking}
use Rattle.t7_records.specs.Records.{records_of}
use Rattle.t7_top.specs.Moments.{Moment}
use Rattle.t7_top.specs.Refusals.{checked}

-- the line of a template: its family, its id, its name and its length
abbrev pub template_line : Layout → List ℕ
template_line t = family_text t.family ++ codes " " ++ decimal t.id ++ codes " " ++ t.name ++ codes " " ++ decimal t.size

-- a line for each template, and their number at the end
abbrev pub check_lines : List Layout → Outcome Moment
check_lines layouts = record { names = []; parts = says (map template_line layouts); end = Some (Ok (End (length layouts))) }

-- `check TABLE`
abbrev pub check_run : List ℕ → Given → Outcome Moment
check_run table given = taking table given.files (λ rows. checked (fault_of (records_of rows)) (check_lines (table_of (records_of rows))))

-- the stops of `check`
abbrev pub OfCheck : Stop → Type 0
OfCheck (LayoutStop fault) = Unit {0}
OfCheck ReadFault = Unit {0}
OfCheck WriteFault = Unit {0}
OfCheck TooLong = Unit {0}
OfCheck Memory = Unit {0}
OfCheck _ = ⊥
