use Rattle.std.proofs.Common.{sym, subst, refl}
use Rattle.t7_book.specs.declared.order.Order.{Order}
use Rattle.t7_book.specs.Kept.{Requantifies}
use Rattle.t7_book.proofs.trade.carry_out_one.Goals as goal

pub renew-requires : goal.renew-requires
renew-requires c = subst (λ (x : Order). Requantifies c.args.orders.now.list x) (sym c.with_left.ensures) (record { kept = c.args.t.now.maker; stands = c.requires; same_id = refl; same_rest = refl })
