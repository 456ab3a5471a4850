use Rattle.std.proofs.Common.{◌≤◌, length, ap, subst, ◌∙◌}
use Rattle.t7_book.specs.Orders.{BookState}
use Rattle.t7_exchange.specs.Sending.{terms_of}
use Rattle.t7_drill.specs.Entering.{accepted_in}
use Rattle.t7_drill.proofs.Cycles.{cycle_short}
use Rattle.t7_drill.proofs.snapping.cycles_are_short.Goals as goal

pub returns : goal.returns
returns c = let day = c.args.exchange.now in
    cycle_short (terms_of day) (accepted_in day) c.is_sound.ensures.terms.product (c.last_markets_are_books.ensures day.setting.listing (accepted_in day))
    (subst (λ n. n ≤ 20000) (c.len-len.ensures.value ∙ ap (λ (b : BookState). length b.orders) c.book.ensures) c.len-len.ensures.within)
