use Rattle.std.proofs.Common.{arith}
use Rattle.std.proofs.lemmas.List.{length-map}
use Rattle.csv.specs.Records.{fields_of}
use Rattle.t7_records.proofs.CellFacts.{cell_found, cell_missing, record_of}
use Rattle.t7_records.proofs.records.Records.cell.Goals as goal

pub returns-in-Some : goal.returns-in-Some
returns-in-Some c =
    let row = record_of fields_of c.self.inside.rows.items c.args.row c.index.result.now (omega (arith, rw (← c.self.view_is, length-map) at c.requires)) c.index.ensures in
    rw (← c.self.view_is, ← row) (cell_found (fields_of c.index.result.now) c.args.at _ (rw c.in-Some.is at c.get.ensures.value))

pub returns-in-None : goal.returns-in-None
returns-in-None c =
    let row = record_of fields_of c.self.inside.rows.items c.args.row c.index.result.now (omega (arith, rw (← c.self.view_is, length-map) at c.requires)) c.index.ensures in
    rw (← c.self.view_is, ← row) (cell_missing (fields_of c.index.result.now) c.args.at (rw c.in-None.is at c.get.ensures.value))
