use Rattle.std.proofs.Common.{arith, ap, ◌≡◌, length, []}
use Rattle.std.proofs.lemmas.Grind.{common_steps}
use Rattle.t7_book.specs.Orders.{BookState}
use Rattle.t7_book.proofs.ApplyLemmas.{withdrew}
use Rattle.t7_linear.proofs.book.LinearBook.withdraw.Goals as goal

pub returns : goal.returns
returns c =
    let inside = c.self.inside in
    let book : BookState = record { roster = record { securities = inside.securities.items; sessions = inside.sessions.items }; orders = inside.orders; last_id = inside.last_id; last_stamp = inside.last_stamp; applied = inside.applied } in
    let same : book ≡ c.args.self.now = c.self.view_is in
    let count : c.len.result ≡ length c.in-Ok.gone.items = grind (arith, common_steps, ap length c.deref-2.ensures.value) in
    rw (← same) (withdrew book c.args.moment c.args.session c.args.security c.in-Ok.gone.items c.remove_all.new.orders c.args.out.now.items c.append_deletions.new.out.items [] c.first_stamp.result c.len.result
    c.in-Ok.ensures.found (rw (← c.deref-2.ensures.value) c.remove_all.ensures) (rw (← c.deref.ensures.value) c.in-Ok-append_deletions.ensures.ok) c.first_stamp.ensures count)
