use Rattle.std.proofs.Common.{rules, ◌≡◌, None, Err}
use Rattle.t7_base.specs.ProductFile.{fault_of as product_fault_of, product_of}
use Rattle.t7_records.specs.Records.{records_of}
use Rattle.t7_top.specs.Jobs.{started, terms_of, over_product}
use Rattle.t7_top.specs.Meaning.{job_meant}
use Rattle.t7_top.specs.Network.{no_intake}
use Rattle.t7_top.specs.Refusals.{RefusesProduct}
use Rattle.t7_top.proofs.Doing.{none_sent_behind, of_fetch, of_product, product_bad, product_good, product_missed, product_sent, unused}
use Rattle.t7_top.proofs.Reading.{files_more, product_names}
use Rattle.t7_top.proofs.jobs.trade.Goals as goal

pub returns-in_err-fetch-clause-sink : goal.returns-in_err-fetch-clause-sink
returns-in_err-fetch-clause-sink g c =
    let is : c.from_residual.result ≡ Err c.in_err-fetch.field-0.0 = search rules in
    rw is (product_missed (job_meant c.args.job.now) _ _ _ c.args.table.now c.args.product.now c.in_err-fetch.field-0.0 _ c.in_err-fetch.ensures.no_other (λ long. search rules))

pub returns-in_err-fetch-clause-network : goal.returns-in_err-fetch-clause-network
returns-in_err-fetch-clause-network g c =
    let is : c.from_residual.result ≡ Err c.in_err-fetch.field-0.0 = search rules in
    rw is (unused (job_meant c.args.job.now) (Err c.in_err-fetch.field-0.0) _ (of_fetch c.in_err-fetch.field-0.0 c.in_err-fetch.ensures.no_other))

pub returns-in_err-fetch-clause-sent : goal.returns-in_err-fetch-clause-sent
returns-in_err-fetch-clause-sent g c =
    let is : c.from_residual.result ≡ Err c.in_err-fetch.field-0.0 = search rules in
    rw is (none_sent_behind (job_meant c.args.job.now) _ _ c.args.table.now c.args.product.now (Err c.in_err-fetch.field-0.0)
    (of_fetch c.in_err-fetch.field-0.0 c.in_err-fetch.ensures.no_other))

pub returns-in_err-product-clause-sink : goal.returns-in_err-product-clause-sink
returns-in_err-product-clause-sink g c =
    let is : c.from_residual-in_err-product.result ≡ Err c.in_err-product.field-0.0 = search rules in
    let refused : RefusesProduct (product_fault_of (records_of c.fetch.new.into.items)) c.in_err-product.field-0.0 = search rules in
    rw is (product_bad (job_meant c.args.job.now) _ _ _ c.args.table.now c.args.product.now c.fetch.new.into.items c.in_err-product.field-0.0 _ c.in_ok-fetch.ensures.ok refused)

pub returns-in_err-product-clause-network : goal.returns-in_err-product-clause-network
returns-in_err-product-clause-network g c =
    let is : c.from_residual-in_err-product.result ≡ Err c.in_err-product.field-0.0 = search rules in
    let refused : RefusesProduct (product_fault_of (records_of c.fetch.new.into.items)) c.in_err-product.field-0.0 = search rules in
    rw is (unused (job_meant c.args.job.now) (Err c.in_err-product.field-0.0) _ (of_product _ c.in_err-product.field-0.0 refused))

pub returns-in_err-product-clause-sent : goal.returns-in_err-product-clause-sent
returns-in_err-product-clause-sent g c =
    let is : c.from_residual-in_err-product.result ≡ Err c.in_err-product.field-0.0 = search rules in
    let refused : RefusesProduct (product_fault_of (records_of c.fetch.new.into.items)) c.in_err-product.field-0.0 = search rules in
    rw is (none_sent_behind (job_meant c.args.job.now) _ _ c.args.table.now c.args.product.now (Err c.in_err-product.field-0.0) (of_product _ c.in_err-product.field-0.0 refused))

pub returns-clause-files : goal.returns-clause-files
returns-clause-files g c =
    let valid : product_fault_of (records_of c.fetch.new.into.items) ≡ None = search rules in
    let same : c.in_ok-product.product ≡ product_of (records_of c.fetch.new.into.items) = search rules in
    let names = product_names (g.F.Files.held c.args.files.now) c.args.product.now c.fetch.new.into.items c.in_ok-product.product
    (λ listing given. started (terms_of c.args.table.now listing) (job_meant c.args.job.now) no_intake given) same c.in_ok-fetch.ensures.ok valid in
    let rest = rw c.fetch.ensures.held at c.work.ensures.files in
    files_more (g.F.Files.held c.args.files.now) (over_product c.args.table.now c.args.product.now (job_meant c.args.job.now) no_intake)
    (started (terms_of c.args.table.now c.in_ok-product.product) (job_meant c.args.job.now) no_intake) c.args.product.now _ _ _ _ _ _ _ _ names
    c.fetch.ensures.asked c.fetch.ensures.count rest

pub returns-clause-sink : goal.returns-clause-sink
returns-clause-sink g c =
    let valid : product_fault_of (records_of c.fetch.new.into.items) ≡ None = search rules in
    let same : c.in_ok-product.product ≡ product_of (records_of c.fetch.new.into.items) = search rules in
    let rest = rw c.fetch.ensures.held at c.work.ensures.sink in
    product_good (job_meant c.args.job.now) _ _ _ c.args.table.now c.args.product.now c.fetch.new.into.items c.in_ok-product.product c.work.result _ _ _ _ same c.in_ok-fetch.ensures.ok valid rest

pub returns-clause-sent : goal.returns-clause-sent
returns-clause-sent g c =
    let same : c.in_ok-product.product ≡ product_of (records_of c.fetch.new.into.items) = search rules in
    product_sent (job_meant c.args.job.now) _ _ _ c.args.table.now c.args.product.now c.fetch.new.into.items c.in_ok-product.product c.work.result same c.in_ok-fetch.ensures.ok c.work.ensures.sent
