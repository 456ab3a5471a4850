use Rattle.std.proofs.Common.{◌≡◌, List, ◌∷◌, ◌++◌, [], length, sym, ap, ◌∙◌, subst, arith}
use Rattle.std.specs.List.{All}
use Rattle.t7_base.specs.declared.public.Public.{Public}
use Rattle.t7_eti.specs.declared.response.Response.TheVariants as response
use Rattle.t7_orders.specs.declared.response.Numbered.{Numbered}
use Rattle.t7_book.specs.declared.command.Command.{Command}
use Rattle.t7_book.specs.Orders.{Roster, empty_book}
use Rattle.t7_book.specs.Steps.{messages as messages_of, steps}
use Rattle.t7_book.specs.Trace.{book_left}
use Rattle.t7_orders.specs.Answers.{answers_of, numbered, stored_from}
use Rattle.std.proofs.lemmas.List.Elements.{All-push}
use Rattle.t7_entry.specs.Tellable.{IsTellable}
use Rattle.t7_snapshot.specs.Noting.{FitInTurn}
use Rattle.t7_exchange.specs.Outbox.{Outbox, told}
use Rattle.t7_exchange.specs.Sayable.{IsSayable}
use Rattle.t7_exchange.specs.Serving.{HasTold}
use Rattle.t7_exchange.specs.Trading.{Trading, book_at}
use Rattle.t7_exchange.proofs.AcceptFacts.{fresh_sayable}
use Rattle.t7_exchange.proofs.EnterFacts.{length-numbered, left_roster, responses_few}
use Rattle.t7_exchange.proofs.Tells.{fit_more, messages_at, messages_few, told_more}
use Rattle.t7_exchange.proofs.serving.enter.Goals as goal

pub returns-clause-ok : goal.returns-clause-ok
returns-clause-ok c =
    let d = c.args.desk.now in
    let cmd = c.args.command.now in
    let listing = c.args.product.now in
    let stored = stored_from (empty_book d.roster) d.accepted in
    let fresh : c.enter.new.self.fresh ≡ numbered stored (answers_of (book_at d) cmd) = ap (λ (t : Trading). t.fresh) c.in_ok-enter.ensures.ok in
    let long : length c.enter.new.self.fresh ≡ length (answers_of (book_at d) cmd) = ap length fresh ∙ length-numbered stored (answers_of (book_at d) cmd) in
    let few = responses_few (book_at d) cmd in
    let orders : c.len-orders.result ≡ length (book_at d).orders = c.len-orders.ensures.value ∙ ap (λ b. length b.orders) c.book.ensures in
    let sessions : length c.sessions.result.now ≡ length (book_at d).roster.sessions =
    ap length c.sessions.ensures.value ∙ sym (ap (λ (r : Roster). length r.sessions) (left_roster (empty_book d.roster) d.accepted ∙ c.requires.product))
    in
    let all = c.responses_may_be_written.ensures listing (d.accepted ++ cmd ∷ []) c.sessions.ensures.listing c.in_ok-enter.ensures.accepted (All-push IsTellable d.accepted cmd c.requires.tellable c.requires.tells) in
    let said = fresh_sayable listing d.accepted cmd all in
    let messages : c.enter.new.told.items ≡ messages_of (steps (book_at d) cmd) = c.in_ok-enter.ensures.messages ∙ ap (λ (l : List Public). l ++ messages_of (steps (book_at d) cmd)) c.new-told.ensures.items in
    record {
      desk = c.in_ok-enter.ensures.ok;
      wires = record { held = c.reserve.ensures.held; waiting = c.reserve.ensures.waiting };
      room = omega (arith, c.in_ok-reserve.ensures.room, long, few, orders, sessions);
      sayable =
          subst (All (λ (n : Numbered). IsSayable (response.Kept 0 n.what))) (sym fresh)
          (subst (λ (r : Roster). All (λ (n : Numbered). IsSayable (response.Kept 0 n.what)) (numbered (stored_from (empty_book r) d.accepted) (answers_of (book_left (empty_book r) d.accepted) cmd))) (sym c.requires.product) said);
      outbox = c.tell.ensures ∙ (λ i. told (c.reserve-2.ensures.same i) (messages i) c.tell.new.self.spare c.tell.new.self.cycle.spare);
    }

pub tell-requires-clause-noting : goal.tell-requires-clause-noting
tell-requires-clause-noting c =
    let d = c.args.desk.now in
    let cmd = c.args.command.now in
    let orders : c.len-orders.result ≡ length (book_at d).orders = c.len-orders.ensures.value ∙ ap (λ b. length b.orders) c.book.ensures in
    let messages : c.enter.new.told.items ≡ messages_of (steps (book_at d) cmd) = c.in_ok-enter.ensures.messages ∙ ap (λ (l : List Public). l ++ messages_of (steps (book_at d) cmd)) c.new-told.ensures.items in
    let few = messages_few (book_at d) cmd in
    omega (arith, orders, ap length messages, few, c.in_ok-reserve-2.ensures.noting)

pub tell-requires-clause-fit : goal.tell-requires-clause-fit
tell-requires-clause-fit c =
    let d = c.args.desk.now in
    let cmd = c.args.command.now in
    let listing = c.args.product.now in
    let out = c.args.outbox.now in
    let messages : c.enter.new.told.items ≡ messages_of (steps (book_at d) cmd) = c.in_ok-enter.ensures.messages ∙ ap (λ (l : List Public). l ++ messages_of (steps (book_at d) cmd)) c.new-told.ensures.items in
    let same : messages_at listing d.accepted cmd ≡ c.enter.new.told.items =
    ap (λ (r : Roster). messages_of (steps (book_left (empty_book r) d.accepted) cmd)) (sym c.requires.product) ∙ sym messages
    in
    let fits = fit_more listing d.accepted cmd out c.messages_fit.ensures c.traces_grow.ensures c.last_markets_are_books.ensures c.in_ok-enter.ensures.accepted c.requires.told in
    subst (λ (ms : List Public). FitInTurn c.reserve-2.new.self.cycle.terms.listing.securities c.reserve-2.new.self.cycle.image ms) same
    (subst (λ (o : Outbox). FitInTurn o.cycle.terms.listing.securities o.cycle.image (messages_at listing d.accepted cmd)) (sym c.reserve-2.ensures.same) fits)

pub returns-clause-told : goal.returns-clause-told
returns-clause-told c =
    let d = c.args.desk.now in
    let cmd = c.args.command.now in
    let listing = c.args.product.now in
    let out = c.args.outbox.now in
    let messages : c.enter.new.told.items ≡ messages_of (steps (book_at d) cmd) = c.in_ok-enter.ensures.messages ∙ ap (λ (l : List Public). l ++ messages_of (steps (book_at d) cmd)) c.new-told.ensures.items in
    let same : c.enter.new.told.items ≡ messages_at listing d.accepted cmd =
    messages ∙ ap (λ (r : Roster). messages_of (steps (book_left (empty_book r) d.accepted) cmd)) c.requires.product
    in
    let now = c.tell.new.self in
    let is : now ≡ told out (messages_at listing d.accepted cmd) now.spare now.cycle.spare = c.tell.ensures ∙ (λ i. told (c.reserve-2.ensures.same i) (same i) now.spare now.cycle.spare) in
    let more : c.enter.new.self.accepted ≡ d.accepted ++ cmd ∷ [] = ap (λ (t : Trading). t.accepted) c.in_ok-enter.ensures.ok in
    subst (λ (o : Outbox). HasTold listing c.enter.new.self.accepted o) (sym is)
    (subst (λ (l : List Command). HasTold listing l (told out (messages_at listing d.accepted cmd) now.spare now.cycle.spare)) (sym more)
    (told_more listing d.accepted cmd out now.spare now.cycle.spare c.messages_fit.ensures c.traces_grow.ensures c.last_markets_are_books.ensures c.in_ok-enter.ensures.accepted c.requires.told))
