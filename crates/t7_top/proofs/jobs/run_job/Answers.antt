use Rattle.std.proofs.Common.{rules, ◌≡◌, None, Err}
use Rattle.t7_layout.specs.Faults.{fault_of}
use Rattle.t7_layout.specs.Tables.{table_of}
use Rattle.t7_records.specs.Records.{records_of}
use Rattle.t7_top.specs.Jobs.{over_product, over_table}
use Rattle.t7_top.specs.Meaning.{job_meant}
use Rattle.t7_top.specs.Network.{no_intake}
use Rattle.t7_top.specs.Refusals.{RefusesTable}
use Rattle.t7_top.proofs.Doing.{none_sent, of_fetch, of_table, table_bad, table_good, table_missed, table_sent, unused}
use Rattle.t7_top.proofs.Reading.{files_more, table_names}
use Rattle.t7_top.proofs.jobs.run_job.Goals as goal

pub returns-in_err-fetch-clause-sink : goal.returns-in_err-fetch-clause-sink
returns-in_err-fetch-clause-sink g c =
    let is : c.from_residual.result ≡ Err c.in_err-fetch.field-0.0 = search rules in
    rw is (table_missed (job_meant c.args.job.now) _ _ _ c.args.table.now c.args.product.now c.in_err-fetch.field-0.0 _ c.in_err-fetch.ensures.no_other (λ long. search rules))

pub returns-in_err-fetch-clause-network : goal.returns-in_err-fetch-clause-network
returns-in_err-fetch-clause-network g c =
    let is : c.from_residual.result ≡ Err c.in_err-fetch.field-0.0 = search rules in
    rw is (unused (job_meant c.args.job.now) (Err c.in_err-fetch.field-0.0) _ (of_fetch c.in_err-fetch.field-0.0 c.in_err-fetch.ensures.no_other))

pub returns-in_err-fetch-clause-sent : goal.returns-in_err-fetch-clause-sent
returns-in_err-fetch-clause-sent g c =
    let is : c.from_residual.result ≡ Err c.in_err-fetch.field-0.0 = search rules in
    rw is (none_sent (job_meant c.args.job.now) _ _ c.args.table.now c.args.product.now (Err c.in_err-fetch.field-0.0)
    (of_fetch c.in_err-fetch.field-0.0 c.in_err-fetch.ensures.no_other))

pub returns-in_err-table-clause-sink : goal.returns-in_err-table-clause-sink
returns-in_err-table-clause-sink g c =
    let is : c.from_residual-in_err-table.result ≡ Err c.in_err-table.field-0.0 = search rules in
    let refused : RefusesTable (fault_of (records_of c.fetch.new.into.items)) c.in_err-table.field-0.0 = search rules in
    rw is (table_bad (job_meant c.args.job.now) _ _ _ c.args.table.now c.fetch.new.into.items c.args.product.now c.in_err-table.field-0.0 _ c.in_ok-fetch.ensures.ok refused)

pub returns-in_err-table-clause-network : goal.returns-in_err-table-clause-network
returns-in_err-table-clause-network g c =
    let is : c.from_residual-in_err-table.result ≡ Err c.in_err-table.field-0.0 = search rules in
    let refused : RefusesTable (fault_of (records_of c.fetch.new.into.items)) c.in_err-table.field-0.0 = search rules in
    rw is (unused (job_meant c.args.job.now) (Err c.in_err-table.field-0.0) _ (of_table _ c.in_err-table.field-0.0 refused))

pub returns-in_err-table-clause-sent : goal.returns-in_err-table-clause-sent
returns-in_err-table-clause-sent g c =
    let is : c.from_residual-in_err-table.result ≡ Err c.in_err-table.field-0.0 = search rules in
    let refused : RefusesTable (fault_of (records_of c.fetch.new.into.items)) c.in_err-table.field-0.0 = search rules in
    rw is (none_sent (job_meant c.args.job.now) _ _ c.args.table.now c.args.product.now (Err c.in_err-table.field-0.0) (of_table _ c.in_err-table.field-0.0 refused))

pub returns-clause-files : goal.returns-clause-files
returns-clause-files g c =
    let valid : fault_of (records_of c.fetch.new.into.items) ≡ None = search rules in
    let same : c.in_ok-table.table ≡ table_of (records_of c.fetch.new.into.items) = search rules in
    let names = table_names (g.F.Files.held c.args.files.now) c.args.table.now c.fetch.new.into.items c.in_ok-table.table
    (λ layouts given. over_product layouts c.args.product.now (job_meant c.args.job.now) no_intake given) same c.in_ok-fetch.ensures.ok valid in
    let rest = rw c.fetch.ensures.held at c.trade.ensures.files in
    files_more (g.F.Files.held c.args.files.now) (over_table c.args.table.now c.args.product.now (job_meant c.args.job.now) no_intake)
    (over_product c.in_ok-table.table c.args.product.now (job_meant c.args.job.now) no_intake) c.args.table.now _ _ _ _ _ _ _ _ names
    c.fetch.ensures.asked c.fetch.ensures.count rest

pub returns-clause-sink : goal.returns-clause-sink
returns-clause-sink g c =
    let valid : fault_of (records_of c.fetch.new.into.items) ≡ None = search rules in
    let same : c.in_ok-table.table ≡ table_of (records_of c.fetch.new.into.items) = search rules in
    let rest = rw c.fetch.ensures.held at c.trade.ensures.sink in
    table_good (job_meant c.args.job.now) _ _ _ c.args.table.now c.fetch.new.into.items c.in_ok-table.table c.args.product.now c.trade.result _ _ _ _ same c.in_ok-fetch.ensures.ok valid rest

pub returns-clause-sent : goal.returns-clause-sent
returns-clause-sent g c =
    let same : c.in_ok-table.table ≡ table_of (records_of c.fetch.new.into.items) = search rules in
    let rest = rw c.fetch.ensures.held at c.trade.ensures.sent in
    table_sent (job_meant c.args.job.now) _ _ _ c.args.table.now c.fetch.new.into.items c.in_ok-table.table c.args.product.now c.trade.result same c.in_ok-fetch.ensures.ok rest
