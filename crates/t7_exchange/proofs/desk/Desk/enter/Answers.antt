use Rattle.std.proofs.Common.{◌≡◌, ℕ, ◌<◌, List, [], ◌∷◌, ◌++◌, length, None, sym, ap, ◌∙◌, subst, arith}
use Rattle.std.specs.Prelude.{Contains}
use Rattle.t7_book.specs.declared.command.Note.{Note}
use Rattle.t7_book.specs.Orders.{BookState, Roster, empty_book, roster_of}
use Rattle.t7_book.specs.declared.command.Command.{Command}
use Rattle.t7_book.specs.declared.command.Done.{Done}
use Rattle.t7_book.specs.Commands.{IsForProduct, refusal}
use Rattle.t7_book.specs.Steps.{done_of, notes_of}
use Rattle.t7_orders.specs.Answers.{Stored, answers, answers_of, stored_from}
use Rattle.t7_recover.specs.Shelves.{sessions_of}
use Rattle.t7_entry.specs.Answered.{AreFor}
use Rattle.t7_book.specs.Trace.{book_left}
use Rattle.t7_exchange.specs.Desks.{ListsOf}
use Rattle.t7_exchange.specs.Trading.{Trading, book_at}
use Rattle.t7_entry.proofs.Answering.{notes_few}
use Rattle.std.specs.List.{All}
use Rattle.t7_packets.specs.Packing.{IsWritable}
use Rattle.t7_book.specs.Trace.{AreAcceptedFrom}
use Rattle.t7_book.specs.Steps.{messages, steps}
use Rattle.t7_exchange.proofs.AcceptFacts.{last_more, steps_writable}
use Rattle.t7_exchange.proofs.EnterFacts.{accepted_next, one_longer, responses_few, responses_for, taken_in}
use Rattle.t7_exchange.proofs.desk.Desk.enter.Goals as goal

pub answers-requires : goal.answers-requires
answers-requires c =
    let b = c.self.inside.book in
    let cmd = c.args.command.now in
    let few = notes_few b cmd in
    let notes : c.deref.result.now ≡ notes_of b cmd = c.deref.ensures.value ∙ c.in-Ok.ensures.notes ∙ ap (λ (l : List Note). l ++ notes_of b cmd) c.clear.ensures.items in
    let long : length c.deref.result.now ≡ length (notes_of b cmd) = ap length notes in
    let roster : b.roster ≡ roster_of c.args.product.now = ap (λ (d : Trading). d.roster) c.self.view_is ∙ c.requires.product in
    let sessions : length c.sessions.result.now ≡ length b.roster.sessions = ap length c.sessions.ensures.value ∙ sym (ap (λ (r : Roster). length r.sessions) roster) in
    let orders = c.len.ensures.value in
    let room = c.in_ok-make_room.ensures.room.answers_too in
    let empty : length c.make_room.new.answers.items ≡ 0 = ap length c.make_room.ensures.answers in
    omega (arith, few, long, sessions, orders, room, empty)

pub store_all-requires-clause-sessions : goal.store_all-requires-clause-sessions
store_all-requires-clause-sessions c =
    let b = c.self.inside.book in
    let cmd = c.args.command.now in
    let notes : c.deref.result.now ≡ notes_of b cmd = c.deref.ensures.value ∙ c.in-Ok.ensures.notes ∙ ap (λ (l : List Note). l ++ notes_of b cmd) c.clear.ensures.items in
    let what : c.deref-2.result.now ≡ answers_of b cmd =
    c.deref-2.ensures.value ∙ c.answers.ensures.items
    ∙ ap (λ (l : List Stored). l ++ answers cmd c.in-Ok.done c.deref.result.now) c.make_room.ensures.answers
    ∙ ap (λ (d : Done). answers cmd d c.deref.result.now) c.in-Ok.ensures.done
    ∙ ap (λ (l : List Note). answers cmd (done_of b cmd) l) notes in
    let product : IsForProduct b.roster cmd = subst (λ (d : Trading). IsForProduct d.roster cmd) (sym c.self.view_is) c.requires.for_it in
    let kept : sessions_of c.make_room.new.store ≡ b.roster.sessions = c.make_room.ensures.kept.sessions ∙ c.self.invariant.sessions in
    let each : AreFor b.roster.sessions (answers_of b cmd) = responses_for b c.self.inside.accepted.items cmd c.self.invariant.left c.self.invariant.each product in
    subst (λ (l : List Stored). AreFor (sessions_of c.make_room.new.store) l) (sym what) (subst (λ (l : List ℕ). AreFor l (answers_of b cmd)) (sym kept) each)

pub store_all-requires-clause-spare : goal.store_all-requires-clause-spare
store_all-requires-clause-spare c = λ session there.
    let b = c.self.inside.book in
    let cmd = c.args.command.now in
    let notes : c.deref.result.now ≡ notes_of b cmd = c.deref.ensures.value ∙ c.in-Ok.ensures.notes ∙ ap (λ (l : List Note). l ++ notes_of b cmd) c.clear.ensures.items in
    let what : c.deref-2.result.now ≡ answers_of b cmd =
    c.deref-2.ensures.value ∙ c.answers.ensures.items
    ∙ ap (λ (l : List Stored). l ++ answers cmd c.in-Ok.done c.deref.result.now) c.make_room.ensures.answers
    ∙ ap (λ (d : Done). answers cmd d c.deref.result.now) c.in-Ok.ensures.done
    ∙ ap (λ (l : List Note). answers cmd (done_of b cmd) l) notes in
    let roster : b.roster ≡ roster_of c.args.product.now = ap (λ (d : Trading). d.roster) c.self.view_is ∙ c.requires.product in
    let sessions : length c.sessions.result.now ≡ length b.roster.sessions = ap length c.sessions.ensures.value ∙ sym (ap (λ (r : Roster). length r.sessions) roster) in
    let orders = c.len.ensures.value in
    let few = responses_few b cmd in
    let long : length c.deref-2.result.now ≡ length (answers_of b cmd) = ap length what in
    let same : sessions_of c.make_room.new.store ≡ c.sessions-2.result.now =
    c.make_room.ensures.kept.sessions ∙ c.self.invariant.sessions ∙ ap (λ (r : Roster). r.sessions) roster ∙ sym c.sessions-2.ensures.value in
    let room = c.in_ok-make_room.ensures.room.spares session (subst (λ (l : List ℕ). Contains l session) same there) in
    omega (arith, sessions, orders, few, long, room)

pub store_all-requires-clause-room : goal.store_all-requires-clause-room
store_all-requires-clause-room c =
    let b = c.self.inside.book in
    let cmd = c.args.command.now in
    let notes : c.deref.result.now ≡ notes_of b cmd = c.deref.ensures.value ∙ c.in-Ok.ensures.notes ∙ ap (λ (l : List Note). l ++ notes_of b cmd) c.clear.ensures.items in
    let what : c.deref-2.result.now ≡ answers_of b cmd =
    c.deref-2.ensures.value ∙ c.answers.ensures.items
    ∙ ap (λ (l : List Stored). l ++ answers cmd c.in-Ok.done c.deref.result.now) c.make_room.ensures.answers
    ∙ ap (λ (d : Done). answers cmd d c.deref.result.now) c.in-Ok.ensures.done
    ∙ ap (λ (l : List Note). answers cmd (done_of b cmd) l) notes in
    let roster : b.roster ≡ roster_of c.args.product.now = ap (λ (d : Trading). d.roster) c.self.view_is ∙ c.requires.product in
    let sessions : length c.sessions.result.now ≡ length b.roster.sessions = ap length c.sessions.ensures.value ∙ sym (ap (λ (r : Roster). length r.sessions) roster) in
    let orders = c.len.ensures.value in
    let few = responses_few b cmd in
    let long : length c.deref-2.result.now ≡ length (answers_of b cmd) = ap length what in
    let room = c.in_ok-make_room.ensures.room.fresh_too in
    let empty : length c.make_room.new.fresh.items ≡ 0 = ap length c.make_room.ensures.fresh in
    omega (arith, sessions, orders, few, long, room, empty)

pub invariant_of-self-2 : goal.invariant_of-self-2
invariant_of-self-2 c =
    let b = c.self.inside.book in
    let cmd = c.args.command.now in
    let notes : c.deref.result.now ≡ notes_of b cmd = c.deref.ensures.value ∙ c.in-Ok.ensures.notes ∙ ap (λ (l : List Note). l ++ notes_of b cmd) c.clear.ensures.items in
    let what : c.deref-2.result.now ≡ answers_of b cmd =
    c.deref-2.ensures.value ∙ c.answers.ensures.items
    ∙ ap (λ (l : List Stored). l ++ answers cmd c.in-Ok.done c.deref.result.now) c.make_room.ensures.answers
    ∙ ap (λ (d : Done). answers cmd d c.deref.result.now) c.in-Ok.ensures.done
    ∙ ap (λ (l : List Note). answers cmd (done_of b cmd) l) notes in
    let product : IsForProduct b.roster cmd = subst (λ (d : Trading). IsForProduct d.roster cmd) (sym c.self.view_is) c.requires.for_it in
    let cs = c.self.inside.accepted.items in
    let start = stored_from (empty_book b.roster) cs in
    let kept = c.make_room.ensures.kept in
    let held : ListsOf c.make_room.new.store start = λ s there. kept.lists s ∙ c.self.invariant.lists s (subst (λ (l : List ℕ). Contains l s) kept.sessions there) in
    let lists : ListsOf c.store_all.new.store (start ++ answers_of b cmd) = subst (λ (l : List Stored). ListsOf c.store_all.new.store (start ++ l)) what (c.store_all.ensures.lists start held) in
    let at_it : refusal (book_left (empty_book b.roster) cs) cmd ≡ None = subst (λ (d : Trading). refusal (book_at d) cmd ≡ None) (sym c.self.view_is) c.requires.allowed in
    let allowed : refusal b cmd ≡ None = subst (λ (x : BookState). refusal x cmd ≡ None) (sym c.self.invariant.left) at_it in
    let few : length cs < 200_000 = subst (λ (d : Trading). length d.accepted < 200_000) (sym c.self.view_is) c.requires.few in
    let items : c.push_reserved.new.self.items ≡ cs ++ cmd ∷ [] = c.push_reserved.ensures.items ∙ ap (λ (l : List Command). l ++ cmd ∷ []) c.make_room.ensures.accepted in
    taken_in b c.store_all.new.store cs cmd c.self.inside.store c.self.invariant product allowed few (c.store_all.ensures.sessions ∙ kept.sessions) lists c.apply.new.self c.push_reserved.new.self.items c.in-Ok.ensures.book items

pub returns-clause-accepted : goal.returns-clause-accepted
returns-clause-accepted c =
    accepted_next c.args.product.now c.args.self.now c.args.command.now c.requires.product
    (subst (λ (d : Trading). AreAcceptedFrom (empty_book d.roster) d.accepted) c.self.view_is c.self.invariant.each) c.requires.few c.requires.for_it c.requires.allowed

pub returns-clause-writable : goal.returns-clause-writable
returns-clause-writable c =
    let d = c.args.self.now in
    let each = subst (λ (d : Trading). AreAcceptedFrom (empty_book d.roster) d.accepted) c.self.view_is c.self.invariant.each in
    let next = accepted_next c.args.product.now d c.args.command.now c.requires.product each c.requires.few c.requires.for_it c.requires.allowed in
    subst (λ (r : Roster). All IsWritable (messages (steps (book_left (empty_book r) d.accepted) c.args.command.now))) (sym c.requires.product)
    (steps_writable c.args.product.now d.accepted c.args.command.now c.sessions.ensures.listing (c.messages_are_about_the_product.ensures c.args.product.now (d.accepted ++ c.args.command.now ∷ []) next))

pub returns-clause-few : goal.returns-clause-few
returns-clause-few c =
    let d = c.args.self.now in
    let cmd = c.args.command.now in
    let each = subst (λ (d : Trading). AreAcceptedFrom (empty_book d.roster) d.accepted) c.self.view_is c.self.invariant.each in
    let next = accepted_next c.args.product.now d cmd c.requires.product each c.requires.few c.requires.for_it c.requires.allowed in
    let few = c.messages_are_few.ensures c.args.product.now (d.accepted ++ cmd ∷ []) next in
    let long = one_longer d.accepted cmd in
    let more = last_more c.args.product.now d.accepted cmd in
    let same : length (messages (steps (book_left (empty_book d.roster) d.accepted) cmd)) ≡ length (messages (steps (book_left (empty_book (roster_of c.args.product.now)) d.accepted) cmd)) =
    ap (λ (r : Roster). length (messages (steps (book_left (empty_book r) d.accepted) cmd))) c.requires.product in
    omega (arith, few, long, more, same, c.requires.few)
