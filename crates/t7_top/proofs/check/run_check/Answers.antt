use Rattle.std.proofs.Common.{rules, ◌≡◌, None, Err}
use Rattle.t7_layout.specs.Faults.{fault_of}
use Rattle.t7_layout.specs.Tables.{table_of}
use Rattle.t7_outcome.proofs.Taking.{sink_missed}
use Rattle.t7_records.specs.Records.{records_of}
use Rattle.t7_top.specs.Check.{check_lines}
use Rattle.t7_top.specs.Moments.{IsReported}
use Rattle.t7_top.specs.Refusals.{RefusesTable, checked}
use Rattle.t7_top.proofs.Listing.{listed_sink}
use Rattle.t7_top.proofs.Reading.{table_refused}
use Rattle.t7_top.proofs.check.run_check.Goals as goal

pub returns-in_err-fetch-clause-sink : goal.returns-in_err-fetch-clause-sink
returns-in_err-fetch-clause-sink g c =
    let is : c.from_residual.result ≡ Err c.in_err-fetch.field-0.0 = search rules in
    rw is (sink_missed IsReported _ _ c.args.table.now
    (λ given rows. checked (fault_of (records_of rows)) (check_lines (table_of (records_of rows))))
    c.in_err-fetch.field-0.0 _ c.in_err-fetch.ensures.no_other (λ long. search rules))

pub returns-in_err-table-clause-sink : goal.returns-in_err-table-clause-sink
returns-in_err-table-clause-sink g c =
    let is : c.from_residual-in_err-table.result ≡ Err c.in_err-table.field-0.0 = search rules in
    let refused : RefusesTable (fault_of (records_of c.fetch.new.into.items)) c.in_err-table.field-0.0 = search rules in
    rw is (table_refused _ _ c.args.table.now c.fetch.new.into.items (λ layouts given. check_lines layouts)
    c.in_err-table.field-0.0 _ c.in_ok-fetch.ensures.ok refused)

pub returns-clause-sink : goal.returns-clause-sink
returns-clause-sink g c =
    let valid : fault_of (records_of c.fetch.new.into.items) ≡ None = search rules in
    let same : c.in_ok-table.table ≡ table_of (records_of c.fetch.new.into.items) = search rules in
    listed_sink (g.F.Files.held c.args.files.now) _ _ c.args.table.now c.fetch.new.into.items c.in_ok-table.table _ _ c.print_table.result same
    c.in_ok-fetch.ensures.ok valid c.print_table.ensures.finish c.print_table.ensures.whole c.print_table.ensures.cut c.print_table.ensures.nothing
    c.print_table.ensures.only c.print_table.ensures.count c.print_table.ensures.write_fault
