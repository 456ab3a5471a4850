use Rattle.std.proofs.Common.{◌≡◌, ℕ, List, ◌∷◌, ◌++◌, [], length, Some, None, Ok, Err, refl, sym, ap, ◌∙◌, subst, arith}
use Rattle.std.specs.List.{All}
use Rattle.std.specs.Prelude.{Result}
use Rattle.std.proofs.lemmas.List.Elements.{All-push}
use Rattle.t7_base.specs.Listing.{Listing}
use Rattle.t7_eti.specs.declared.reason.Reason.{Reason}
use Rattle.t7_eti.specs.declared.request.Request.{Request}
use Rattle.t7_eti.specs.declared.response.Response.TheVariants as response
use Rattle.t7_book.specs.declared.command.Command.{Command}
use Rattle.t7_book.specs.Orders.{BookState, Roster, empty_book, roster_of}
use Rattle.t7_book.specs.Commands.{IsForProduct, refusal}
use Rattle.t7_book.specs.Steps.{messages, steps}
use Rattle.t7_book.specs.Trace.{AreAccepted, AreAcceptedFrom, book_left}
use Rattle.t7_orders.specs.declared.response.Numbered.{Numbered}
use Rattle.t7_orders.specs.Answers.{answers_of, numbered, stored_from}
use Rattle.t7_orders.specs.Judged.{judged}
use Rattle.t7_session.specs.Steps.{done_of}
use Rattle.t7_entry.specs.State.{Core, Outcome, Setting, with_line}
use Rattle.t7_entry.specs.Days.{before_others, went_on}
use Rattle.t7_entry.specs.Stalls.{with_input}
use Rattle.t7_entry.specs.Tellable.{IsTellable}
use Rattle.t7_entry.specs.Treatment.{accept, answer, counted, deliver, ordered, send}
use Rattle.t7_feed.specs.Sending.{AreRanged}
use Rattle.t7_exchange.specs.Maps.{HoldOnly, changed, input_part, inputs_of, line_part}
use Rattle.t7_exchange.specs.Outbox.{Outbox}
use Rattle.t7_exchange.specs.Sayable.{IsSayable}
use Rattle.t7_exchange.specs.Serving.{HasSession, WasAsked}
use Rattle.t7_exchange.specs.Trading.{Trading, book_at}
use Rattle.t7_exchange.specs.Views.{day_of, state_of}
use Rattle.t7_exchange.specs.Wires.{Acts, Wires, core_of}
use Rattle.t7_exchange.proofs.AcceptFacts.{ranged_more, was_accepted, went_accepted}
use Rattle.t7_exchange.proofs.EnterFacts.{accepted_next, left_roster}
use Rattle.t7_exchange.proofs.FrontFacts.{front_asked, front_served}
use Rattle.t7_exchange.proofs.HoldFacts.{only_changed}
use Rattle.t7_exchange.proofs.JudgedFacts.{fits}
use Rattle.t7_exchange.proofs.ServeFacts.{answer_order, done_core, done_inputs, on_ok, open_settled, serves_open}
use Rattle.t7_exchange.proofs.serving.order.Goals as goal

pub command-requires-clause-product : goal.command-requires-clause-product
command-requires-clause-product c =
    ap (λ (b : BookState). b.roster) c.book.ensures ∙ left_roster (empty_book c.args.desk.now.roster) c.args.desk.now.accepted ∙ c.requires.product

pub enter-requires-clause-for_it : goal.enter-requires-clause-for_it
enter-requires-clause-for_it c =
    let fit = fits c.args.product.now c.book.result.now c.args.session (length c.commands.result.now) c.args.moment c.args.request.now c.in-Ok.command c.requires.known (sym c.in-Ok.ensures) in
    subst (λ (r : Roster). IsForProduct r c.in-Ok.command) (sym c.requires.product) fit.product

pub enter-requires-clause-allowed : goal.enter-requires-clause-allowed
enter-requires-clause-allowed c =
    let fit = fits c.args.product.now c.book.result.now c.args.session (length c.commands.result.now) c.args.moment c.args.request.now c.in-Ok.command c.requires.known (sym c.in-Ok.ensures) in
    subst (λ (b : BookState). refusal b c.in-Ok.command ≡ None) c.book.ensures fit.allowed

pub enter-requires-clause-few : goal.enter-requires-clause-few
enter-requires-clause-few c =
    let fit = fits c.args.product.now c.book.result.now c.args.session (length c.commands.result.now) c.args.moment c.args.request.now c.in-Ok.command c.requires.known (sym c.in-Ok.ensures) in
    let few = fit.few in
    let long = ap length c.commands.ensures.value in
    omega (arith, few, long)

pub enter-requires-clause-tells : goal.enter-requires-clause-tells
enter-requires-clause-tells c =
    let fit = fits c.args.product.now c.book.result.now c.args.session (length c.commands.result.now) c.args.moment c.args.request.now c.in-Ok.command c.requires.known (sym c.in-Ok.ensures) in
    fit.tellable c.get-nanoseconds.ensures.in_range c.requires.askable

pub deliver-requires-clause-sayable : goal.deliver-requires-clause-sayable
deliver-requires-clause-sayable c = subst (All (λ (n : Numbered). IsSayable (response.Kept 0 n.what))) (sym c.fresh.ensures) c.in_ok-enter.ensures.ok.sayable

-- the book of the day
day_book : (listing : Listing) (d : Trading) (book : BookState) → d.roster ≡ roster_of listing → book ≡ book_at d → book ≡ book_left (empty_book (roster_of listing)) d.accepted
day_book listing d book same is = is ∙ ap (λ (r : Roster). book_left (empty_book r) d.accepted) same

-- what the request comes to
comes_to : (listing : Listing) (d : Trading) (book : BookState) (commands : List Command) (session moment : ℕ) (asked : Request) (r : Result Command Reason) → d.roster ≡ roster_of listing → book ≡ book_at d
    → commands ≡ d.accepted → r ≡ judged listing book session (length commands) moment asked
    → judged listing (book_left (empty_book (roster_of listing)) d.accepted) session (length d.accepted) moment asked ≡ r
comes_to listing d book commands session moment asked r same is are value =
    sym (value ∙ (λ i. judged listing (day_book listing d book same is i) session (length (are i)) moment asked))

pub returns-in-Err-clause-ok : goal.returns-in-Err-clause-ok
returns-in-Err-clause-ok c = on_ok c.reject.result (λ sends layouts.
    let listing = c.args.product.now in
    let setting : Setting = record { layouts = layouts; listing = listing } in
    let conn = c.args.conn in
    let moment = c.args.moment in
    let asked = c.args.request.now in
    let d = c.args.desk.now in
    let old = c.args.wires.now in
    let new = c.reject.new.wires in
    record {
      roster = refl;
      accepted = record { few = c.commands.ensures.few; each = subst (λ (r : Roster). AreAcceptedFrom (empty_book r) d.accepted) c.requires.product c.commands.ensures.each };
      tellable = c.requires.tellable;
      ranged = c.requires.ranged;
      terms = refl;
      told = c.requires.told;
      only = c.reject.ensures.only listing.sessions;
      treated = λ h there stepped.
          let was : h.asked ≡ Some asked = subst (WasAsked asked) there c.requires.asked in
          let has : h.session ≡ Some c.args.session = subst (HasSession c.args.session) there c.requires.session in
          let went = sends d.accepted asked h there was in
          let act : Core → Outcome = λ core. send moment conn (response.Reject (Some c.args.seq) c.in-Err.reason) (with_line core conn (counted (line_part h) asked)) in
          let core = core_of d.accepted old.held in
          let judged_is = comes_to listing d c.book.result.now c.commands.result.now c.args.session moment asked (Err c.in-Err.reason) c.requires.product c.book.ensures c.commands.ensures.value c.in-Err.ensures in
          let is : act core ≡ answer setting moment conn (line_part h) core asked =
          sym (answer_order setting moment conn (line_part h) core asked c.args.seq c.args.session c.requires.order has c.requires.seq
          ∙ ap (ordered setting moment conn (Some c.args.seq) (with_line core conn (counted (line_part h) asked))) judged_is) in
          front_served setting d.accepted c.args.outbox.now moment conn old h there new asked stepped (serves_open setting d.accepted moment conn h asked old new act is went.acts went.inputs);
    }) c.reject.ensures.sends

pub returns-clause-ok : goal.returns-clause-ok
returns-clause-ok c = λ layouts.
    let listing = c.args.product.now in
    let setting : Setting = record { layouts = layouts; listing = listing } in
    let conn = c.args.conn in
    let moment = c.args.moment in
    let asked = c.args.request.now in
    let cmd = c.in-Ok.command in
    let d = c.args.desk.now in
    let accepted = d.accepted in
    let old = c.args.wires.now in
    let b = c.done.new.self in
    let new = c.deliver.new.self in
    let out = c.args.outbox.now in
    let now = c.enter.new.outbox in
    let e = c.in_ok-enter.ensures.ok in
    let fit = fits listing c.book.result.now c.args.session (length c.commands.result.now) moment asked cmd c.requires.known (sym c.in-Ok.ensures) in
    let tells = fit.tellable c.get-nanoseconds.ensures.in_range c.requires.askable in
    let more : c.enter.new.desk.accepted ≡ accepted ++ cmd ∷ [] = ap (λ (t : Trading). t.accepted) e.desk in
    let book_is = day_book listing d (book_at d) c.requires.product refl in
    let b_is : b.held ≡ changed old.held conn done_of = ap (λ (w : Wires). w.held) c.done.ensures ∙ ap (λ m. changed m conn done_of) e.wires.held in
    record {
      roster = ap (λ (t : Trading). t.roster) e.desk;
      accepted =
          subst (AreAccepted listing) (sym more)
          (accepted_next listing d cmd c.requires.product c.commands.ensures.each (let few = fit.few in let long = ap length c.commands.ensures.value in omega (arith, few, long))
          (subst (λ (r : Roster). IsForProduct r cmd) (sym c.requires.product) fit.product) (subst (λ (b : BookState). refusal b cmd ≡ None) c.book.ensures fit.allowed));
      tellable = subst (All IsTellable) (sym more) (All-push IsTellable accepted cmd c.requires.tellable tells);
      ranged = subst AreRanged (sym more) (ranged_more accepted cmd c.requires.ranged (fit.ranged c.get-nanoseconds.ensures.in_range));
      terms = ap (λ (o : Outbox). o.cycle.terms) e.outbox;
      told = c.in_ok-enter.ensures.told;
      only = λ p. c.deliver.ensures.only listing.sessions (subst (HoldOnly listing.sessions) (sym b_is) (only_changed listing.sessions old.held conn done_of (λ h q. q) p));
      treated = λ h there stepped.
          let was : h.asked ≡ Some asked = subst (WasAsked asked) there c.requires.asked in
          let has : h.session ≡ Some c.args.session = subst (HasSession c.args.session) there c.requires.session in
          let core = core_of accepted old.held in
          let core1 = with_line core conn (counted (line_part h) asked) in
          let judged_is = comes_to listing d c.book.result.now c.commands.result.now c.args.session moment asked (Ok cmd) c.requires.product c.book.ensures c.commands.ensures.value c.in-Ok.ensures in
          let is : answer setting moment conn (line_part h) core asked ≡ accept setting moment cmd core1 =
          answer_order setting moment conn (line_part h) core asked c.args.seq c.args.session c.requires.order has c.requires.seq ∙ ap (ordered setting moment conn (Some c.args.seq) core1) judged_is in
          let core_is : core_of accepted b.held ≡ core1 = ap (core_of accepted) b_is ∙ done_core accepted conn old.held h there asked was in
          let fresh : c.fresh.result.now ≡ numbered (stored_from (empty_book (roster_of listing)) accepted) (answers_of (book_left (empty_book (roster_of listing)) accepted) cmd) =
          c.fresh.ensures ∙ ap (λ (t : Trading). t.fresh) e.desk
          ∙ ap (λ (r : Roster). numbered (stored_from (empty_book r) accepted) (answers_of (book_left (empty_book r) accepted) cmd)) c.requires.product in
          let acts = subst (λ (l : List Numbered). Acts (accepted ++ cmd ∷ []) b new (deliver moment l)) fresh (c.deliver.ensures.acts (accepted ++ cmd ∷ [])) in
          let accept_is = was_accepted setting accepted moment cmd b new acts in
          let waiting : b.waiting ≡ old.waiting = ap (λ (w : Wires). w.waiting) c.done.ensures ∙ e.wires.waiting in
          let untold = ap (λ (o : Outbox). o.untold) e.outbox ∙ ap (λ (k : BookState). out.untold ++ before_others (messages (steps k cmd)) []) book_is in
          let inputs = open_settled (accepted ++ cmd ∷ []) conn old new (input_part (done_of h)) (accept setting moment cmd (core_of accepted b.held)).core accept_is.core
          (c.deliver.ensures.inputs ∙ ap inputs_of b_is ∙ done_inputs accepted conn old.held h there) in
          front_asked setting accepted out moment conn old h there asked stepped
          ∙ ap (λ o. went_on (day_of setting accepted old out) (with_input conn (state_of accepted old) (input_part (done_of h)) o)) (is ∙ ap (accept setting moment cmd) (sym core_is))
          ∙ went_accepted setting accepted out now moment conn cmd old b new accept_is waiting untold (ap (λ (o : Outbox). o.live) e.outbox) (ap (λ (o : Outbox). o.beats) e.outbox) (ap (λ (o : Outbox). o.cycle.left) e.outbox) (ap (λ (o : Outbox). o.snaps) e.outbox) (input_part (done_of h)) inputs
          ∙ (λ i. day_of setting (sym more i) new now);
    }
