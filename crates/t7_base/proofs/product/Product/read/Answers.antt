use Rattle.std.proofs.Common.{◌≡◌, ◌∙◌, ap}
use Rattle.t7_base.specs.ProductFile.{fixed_range, product_of}
use Rattle.t7_base.specs.ProductLists.{ProductRows}
use Rattle.t7_base.proofs.ProductFacts.{is_listing, product_is}
use Rattle.t7_base.proofs.product.Product.read.Goals as goal

pub invariant_of-result : goal.invariant_of-result
unfolding fixed_range
invariant_of-result c =
    let sessions : c.listed.inside.sessions.items ≡ c.in_ok-listed.listed.sessions = ap (λ (l : ProductRows). l.sessions) c.listed.view_is in
    is_listing c.fixed_number.result c.fixed_number-2.result c.fixed_number-3.result c.fixed_number-4.result
    (record { securities = c.listed.inside.securities.items; ticks = c.listed.inside.ticks.items; sessions = c.listed.inside.sessions.items })
    (c.fixed_number.ensures.least, c.fixed_number.ensures.most) (c.fixed_number-2.ensures.least, c.fixed_number-2.ensures.most)
    (c.fixed_number-3.ensures.least, c.fixed_number-3.ensures.most) (c.fixed_number-4.ensures.least, c.fixed_number-4.ensures.most)
    c.listed.invariant (rw sessions c.in_ok-listed.ensures.some)

pub returns-clause-product : goal.returns-clause-product
returns-clause-product c =
    let before : ProductRows = record { securities = c.listed.inside.securities.items; ticks = c.listed.inside.ticks.items; sessions = c.listed.inside.sessions.items } in
    let read = product_is c.in_ok-rows.rows before (c.listed.view_is ∙ c.in_ok-listed.ensures.lists) in
    rw (c.fixed_number.ensures.value, c.fixed_number-2.ensures.value, c.fixed_number-3.ensures.value, c.fixed_number-4.ensures.value)
    (read ∙ ap product_of c.in_ok-rows.ensures)
