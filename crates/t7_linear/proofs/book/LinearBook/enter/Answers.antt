use Rattle.std.proofs.Common.{sym, subst, ◌∙◌, ◌≡◌, false}
use Rattle.t7_book.specs.Orders.{BookState}
use Rattle.t7_book.specs.Commands.{new_stamp, is_full}
use Rattle.t7_book.proofs.ApplyLemmas.{entered}
use Rattle.t7_linear.proofs.book.LinearBook.enter.Goals as goal

pub returns : goal.returns
returns c =
    let rest = c.args.rest.now in
    let inside = c.self.inside in
    let book : BookState = record { roster = record { securities = inside.securities.items; sessions = inside.sessions.items }; orders = inside.orders; last_id = inside.last_id; last_stamp = inside.last_stamp; applied = inside.applied } in
    let same : book ≡ c.args.self.now = c.self.view_is in
    let fresh : rest.stamp ≡ new_stamp book c.args.moment = subst (λ (b : BookState). rest.stamp ≡ new_stamp b c.args.moment) (sym same) c.requires.stamp in
    let room : is_full book.orders rest.security ≡ false = subst (λ (b : BookState). is_full b.orders rest.security ≡ false) (sym same) (sym c.is_full.ensures ∙ c.if-is_full.false) in
    let listed = c.deref.ensures.value in
    rw (← same) (entered book c.args.moment c.args.session rest.security rest.side rest.price rest.qty c.args.client rest.stamp c.get-self-inside.result
    c.arrive.new.orders c.args.out.now.items c.arrive.new.out.items c.args.notes.now.items c.arrive.new.notes.items
    fresh c.get-self-inside.ensures.value room (rw (← listed) c.in-Ok.ensures.orders) (rw (← listed) c.in-Ok.ensures.out) c.in-Ok.ensures.notes)
