use Rattle.std.proofs.Common.{rules, ◌≡◌, ◌∙◌, ap, Err}
use Rattle.t7_base.specs.ProductFile.{fault_of as product_fault_of, product_of}
use Rattle.t7_drill.specs.declared.run.TheConstants.{PRODUCT}
use Rattle.t7_entry.specs.State.{Setting}
use Rattle.t7_layout.specs.Faults.{fault_of}
use Rattle.t7_layout.specs.Tables.{table_of}
use Rattle.t7_outcome.specs.declared.ending.Stop.TheVariants.{Memory}
use Rattle.t7_records.specs.Records.{records_of}
use Rattle.t7_sample.specs.declared.TheConstants.{SAMPLE}
use Rattle.t7_top.specs.Exercise.{drill_setting}
use Rattle.t7_top.specs.Refusals.{RefusesProduct, RefusesTable}
use Rattle.t7_top.proofs.Exercising.{day_end, day_text, memory_end, memory_only, memory_text, product_memory, settings, table_memory}
use Rattle.t7_top.proofs.Roomy.{product_valid, table_valid}
use Rattle.t7_top.proofs.exercise.exercise.Goals as goal

pub returns-in_err-table-clause-end : goal.returns-in_err-table-clause-end
returns-in_err-table-clause-end g c =
    let is : c.from_residual.result ≡ Err c.in_err-table.field-0.0 = search rules in
    let text : c.sample.result.now ≡ SAMPLE.now = search rules in
    let refused : RefusesTable (fault_of (records_of c.sample.result.now)) c.in_err-table.field-0.0 = search rules in
    let wants : c.in_err-table.field-0.0 ≡ Memory = table_memory _ _ (ap (λ bytes. fault_of (records_of bytes)) text ∙ table_valid) refused in
    rw is (memory_end c.args.seed c.args.orders _ wants)

pub returns-in_err-table-clause-written : goal.returns-in_err-table-clause-written
returns-in_err-table-clause-written g c =
    let is : c.from_residual.result ≡ Err c.in_err-table.field-0.0 = search rules in
    let text : c.sample.result.now ≡ SAMPLE.now = search rules in
    let refused : RefusesTable (fault_of (records_of c.sample.result.now)) c.in_err-table.field-0.0 = search rules in
    let wants : c.in_err-table.field-0.0 ≡ Memory = table_memory _ _ (ap (λ bytes. fault_of (records_of bytes)) text ∙ table_valid) refused in
    rw is (memory_text c.args.seed c.args.orders _ _ wants)

pub returns-in_err-table-clause-only : goal.returns-in_err-table-clause-only
returns-in_err-table-clause-only g c =
    let is : c.from_residual.result ≡ Err c.in_err-table.field-0.0 = search rules in
    let text : c.sample.result.now ≡ SAMPLE.now = search rules in
    let refused : RefusesTable (fault_of (records_of c.sample.result.now)) c.in_err-table.field-0.0 = search rules in
    let wants : c.in_err-table.field-0.0 ≡ Memory = table_memory _ _ (ap (λ bytes. fault_of (records_of bytes)) text ∙ table_valid) refused in
    rw is (memory_only _ wants)

pub returns-in_err-product-clause-end : goal.returns-in_err-product-clause-end
returns-in_err-product-clause-end g c =
    let is : c.from_residual-in_err-product.result ≡ Err c.in_err-product.field-0.0 = search rules in
    let text : c.as_bytes.result.now ≡ PRODUCT.now = search rules in
    let refused : RefusesProduct (product_fault_of (records_of c.as_bytes.result.now)) c.in_err-product.field-0.0 = search rules in
    let wants : c.in_err-product.field-0.0 ≡ Memory = product_memory _ _ (ap (λ bytes. product_fault_of (records_of bytes)) text ∙ product_valid) refused in
    rw is (memory_end c.args.seed c.args.orders _ wants)

pub returns-in_err-product-clause-written : goal.returns-in_err-product-clause-written
returns-in_err-product-clause-written g c =
    let is : c.from_residual-in_err-product.result ≡ Err c.in_err-product.field-0.0 = search rules in
    let text : c.as_bytes.result.now ≡ PRODUCT.now = search rules in
    let refused : RefusesProduct (product_fault_of (records_of c.as_bytes.result.now)) c.in_err-product.field-0.0 = search rules in
    let wants : c.in_err-product.field-0.0 ≡ Memory = product_memory _ _ (ap (λ bytes. product_fault_of (records_of bytes)) text ∙ product_valid) refused in
    rw is (memory_text c.args.seed c.args.orders _ _ wants)

pub returns-in_err-product-clause-only : goal.returns-in_err-product-clause-only
returns-in_err-product-clause-only g c =
    let is : c.from_residual-in_err-product.result ≡ Err c.in_err-product.field-0.0 = search rules in
    let text : c.as_bytes.result.now ≡ PRODUCT.now = search rules in
    let refused : RefusesProduct (product_fault_of (records_of c.as_bytes.result.now)) c.in_err-product.field-0.0 = search rules in
    let wants : c.in_err-product.field-0.0 ≡ Memory = product_memory _ _ (ap (λ bytes. product_fault_of (records_of bytes)) text ∙ product_valid) refused in
    rw is (memory_only _ wants)

pub returns-clause-end : goal.returns-clause-end
returns-clause-end g c =
    let table : c.in_ok-table.table ≡ table_of (records_of c.sample.result.now) = search rules in
    let product : c.in_ok-product.product ≡ product_of (records_of c.as_bytes.result.now) = search rules in
    let sample : c.sample.result.now ≡ SAMPLE.now = search rules in
    let text : c.as_bytes.result.now ≡ PRODUCT.now = search rules in
    let setting : Setting = record { layouts = c.in_ok-table.table; listing = c.in_ok-product.product } in
    let same : setting ≡ drill_setting = settings _ _ _ _ (table ∙ ap (λ bytes. table_of (records_of bytes)) sample) (product ∙ ap (λ bytes. product_of (records_of bytes)) text) in
    day_end setting c.args.seed c.args.orders c.drill.result same c.drill.ensures.end c.drill.ensures.only

pub returns-clause-written : goal.returns-clause-written
returns-clause-written g c =
    let table : c.in_ok-table.table ≡ table_of (records_of c.sample.result.now) = search rules in
    let product : c.in_ok-product.product ≡ product_of (records_of c.as_bytes.result.now) = search rules in
    let sample : c.sample.result.now ≡ SAMPLE.now = search rules in
    let text : c.as_bytes.result.now ≡ PRODUCT.now = search rules in
    let setting : Setting = record { layouts = c.in_ok-table.table; listing = c.in_ok-product.product } in
    let same : setting ≡ drill_setting = settings _ _ _ _ (table ∙ ap (λ bytes. table_of (records_of bytes)) sample) (product ∙ ap (λ bytes. product_of (records_of bytes)) text) in
    day_text setting c.args.seed c.args.orders c.drill.result _ _ same c.drill.ensures.only c.drill.ensures.written
