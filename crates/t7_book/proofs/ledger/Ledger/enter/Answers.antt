use Rattle.std.proofs.Common.{sym, subst, refl, ◌∙◌, ◌≡◌, false}
use Rattle.std.specs.List.{Contains}
use Rattle.t7_book.specs.Orders.{BookState}
use Rattle.t7_book.specs.Commands.{new_stamp, is_full}
use Rattle.t7_book.specs.Sound.{IsRunning}
use Rattle.t7_book.proofs.ApplyLemmas.{entered}
use Rattle.t7_book.proofs.NextBook.{enters_new}
use Rattle.t7_book.proofs.ledger.Ledger.enter.Goals as goal

pub arrive-requires : goal.arrive-requires
arrive-requires c =
    let rest = c.args.rest.now in
    let inside = c.self.inside in
    let book : BookState = record { roster = record { securities = inside.orders.securities; sessions = inside.sessions.items }; orders = inside.orders.list; last_id = inside.last_id; last_stamp = inside.last_stamp; applied = inside.applied } in
    let same : book ≡ c.args.self.now = c.self.view_is in
    let running : IsRunning book = subst IsRunning (sym same) c.requires.running in
    let listed : Contains book.roster.securities rest.security = subst (λ (b : BookState). Contains b.roster.securities rest.security) (sym same) c.requires.listed in
    let fresh : rest.stamp ≡ new_stamp book c.args.moment = subst (λ (b : BookState). rest.stamp ≡ new_stamp b c.args.moment) (sym same) c.requires.stamp in
    let room : is_full book.orders rest.security ≡ false = subst (λ (b : BookState). is_full b.orders rest.security ≡ false) (sym same) (sym c.is_full.ensures ∙ c.if-is_full.false) in
    record { enters = enters_new book c.args.moment _ running listed room fresh refl }

pub returns : goal.returns
returns c =
    let rest = c.args.rest.now in
    let inside = c.self.inside in
    let book : BookState = record { roster = record { securities = inside.orders.securities; sessions = inside.sessions.items }; orders = inside.orders.list; last_id = inside.last_id; last_stamp = inside.last_stamp; applied = inside.applied } in
    let same : book ≡ c.args.self.now = c.self.view_is in
    let running : IsRunning book = subst IsRunning (sym same) c.requires.running in
    let fresh : rest.stamp ≡ new_stamp book c.args.moment = subst (λ (b : BookState). rest.stamp ≡ new_stamp b c.args.moment) (sym same) c.requires.stamp in
    let room : is_full book.orders rest.security ≡ false = subst (λ (b : BookState). is_full b.orders rest.security ≡ false) (sym same) (sym c.is_full.ensures ∙ c.if-is_full.false) in
    rw (← same, c.arrive.ensures.securities) (entered book c.args.moment c.args.session rest.security rest.side rest.price rest.qty c.args.client rest.stamp c.get-self-inside.result
    c.arrive.new.orders.list c.args.out.now.items c.arrive.new.out.items c.args.notes.now.items c.arrive.new.notes.items
    fresh c.get-self-inside.ensures.value room c.in-Ok.ensures.orders c.in-Ok.ensures.out c.in-Ok.ensures.notes)
