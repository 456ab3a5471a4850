use Rattle.std.proofs.Common.{◌≡◌, ◌∷◌, ◌++◌, [], ℤ, ℕ, Bool, true, List, length, refl, sym, ap, ◌∙◌, subst, cond, ◌&&◌, arith}
use Rattle.std.specs.Prelude.{Contains, nat_lt}
use Rattle.std.specs.List.{All}
use Rattle.std.proofs.lemmas.Bool.{lt-ltb}
use Rattle.std.proofs.lemmas.List.Elements.{All-push}
use Rattle.t7_book.specs.declared.command.Command.TheVariants as command
use Rattle.t7_book.specs.Orders.{BookState, Roster, empty_book, roster_of}
use Rattle.t7_book.specs.Steps.{messages, steps}
use Rattle.t7_book.specs.Trace.{AreAccepted, book_left}
use Rattle.t7_orders.specs.declared.response.Numbered.{Numbered}
use Rattle.t7_orders.specs.Answers.{answers_of, numbered, stored_from}
use Rattle.t7_orders.specs.Judged.{is_listed}
use Rattle.t7_entry.specs.State.{Setting}
use Rattle.t7_entry.specs.Days.{Day, before_others, day_after, went_on}
use Rattle.t7_entry.specs.Events.{Clear, Result, unchanged}
use Rattle.t7_entry.specs.Tellable.{IsTellable}
use Rattle.t7_entry.specs.Treatment.{accept, deliver}
use Rattle.t7_feed.specs.Sending.{AreRanged}
use Rattle.t7_exchange.specs.Maps.{HoldOnly, inputs_of}
use Rattle.t7_exchange.specs.Outbox.{Outbox}
use Rattle.t7_exchange.specs.Trading.{Trading}
use Rattle.t7_exchange.specs.Views.{day_of}
use Rattle.t7_exchange.specs.Wires.{Acts, core_of}
use Rattle.t7_exchange.proofs.AcceptFacts.{ranged_more, was_accepted, went_cleared}
use Rattle.t7_exchange.proofs.EnterFacts.{accepted_more}
use Rattle.t7_exchange.proofs.JudgedFacts.{listed_security}
use Rattle.t7_exchange.proofs.exchange.Exchange.clear.Goals as goal

pub invariant_of-self-2 : goal.invariant_of-self-2
invariant_of-self-2 c =
    let e = c.self.inside in
    let was = c.self.invariant in
    let listing = e.product.now in
    let cmd = command.Clear c.args.moment c.args.security in
    let enters = c.in_default.ensures.ok in
    let more : c.enter.new.desk.accepted ≡ e.desk.accepted ++ cmd ∷ [] = ap (λ (t : Trading). t.accepted) enters.desk in
    let there : Contains listing.securities c.args.security = subst (λ (d : Day). Contains d.setting.listing.securities c.args.security) (sym c.self.view_is) c.requires in
    record {
      table = was.table;
      listing = was.listing;
      roster = ap (λ (t : Trading). t.roster) enters.desk ∙ was.roster;
      accepted = subst (AreAccepted listing) (sym more) (accepted_more listing e.desk.accepted cmd was.accepted (omega (arith, c.if-len.false, c.len.ensures.value)) there refl);
      tellable = subst (All IsTellable) (sym more) (All-push IsTellable e.desk.accepted cmd was.tellable tt);
      ranged = subst AreRanged (sym more) (ranged_more e.desk.accepted cmd was.ranged c.get-nanoseconds.ensures.in_range);
      sessions = c.deliver.ensures.only listing.sessions (subst (HoldOnly listing.sessions) (sym enters.wires.held) was.sessions);
      terms = ap (λ (o : Outbox). o.cycle.terms) enters.outbox ∙ was.terms;
      told = c.in_default.ensures.told;
    }

-- the security is the product's, and the day takes a command more
clears : (day : Day) (security : ℤ) (moment : ℕ) (a b : Bool) (done : Result) → a ≡ true → b ≡ true → went_on day (cond (a && b) done (unchanged day.state)) ≡ went_on day done
clears day security moment a b done listed few = ap (λ x. went_on day (cond (x && b) done (unchanged day.state))) listed ∙ ap (λ x. went_on day (cond x done (unchanged day.state))) few

pub returns-clause-ok : goal.returns-clause-ok
returns-clause-ok c =
    let e = c.self.inside in
    let listing = e.product.now in
    let setting : Setting = record { layouts = e.table.now; listing = listing } in
    let accepted = e.desk.accepted in
    let was = c.self.invariant in
    let moment = c.args.moment in
    let cmd = command.Clear moment c.args.security in
    let enters = c.in_default.ensures.ok in
    let mid = c.enter.new.wires in
    let new = c.deliver.new.self in
    let out = e.outbox in
    let now = c.enter.new.outbox in
    let day = day_of setting accepted e.wires out in
    let more : c.enter.new.desk.accepted ≡ accepted ++ cmd ∷ [] = ap (λ (t : Trading). t.accepted) enters.desk in
    let there : Contains listing.securities c.args.security = subst (λ (d : Day). Contains d.setting.listing.securities c.args.security) (sym c.self.view_is) c.requires in
    let book_is = ap (λ (r : Roster). book_left (empty_book r) accepted) was.roster in
    let fresh : c.fresh.result.now ≡ numbered (stored_from (empty_book (roster_of listing)) accepted) (answers_of (book_left (empty_book (roster_of listing)) accepted) cmd) =
    c.fresh.ensures ∙ ap (λ (t : Trading). t.fresh) enters.desk
    ∙ ap (λ (r : Roster). numbered (stored_from (empty_book r) accepted) (answers_of (book_left (empty_book r) accepted) cmd)) was.roster
    in
    let acts = subst (λ (l : List Numbered). Acts (accepted ++ cmd ∷ []) mid new (deliver moment l)) fresh (c.deliver.ensures.acts (accepted ++ cmd ∷ [])) in
    let accept_is = was_accepted setting accepted moment cmd mid new acts in
    let untold = ap (λ (o : Outbox). o.untold) enters.outbox ∙ ap (λ (k : BookState). out.untold ++ before_others (messages (steps k cmd)) []) book_is in
    let outcome = accept setting moment cmd (core_of accepted e.wires.held) in
    let done : Result = record { state = record { core = outcome.core; inputs = inputs_of e.wires.held }; doings = outcome.doings } in
    let few : nat_lt (length accepted) 200_000 ≡ true = lt-ltb (length accepted) 200_000 (omega (arith, c.if-len.false, c.len.ensures.value)) in
    (λ i. day_of setting (more i) new now)
    ∙ sym (went_cleared setting accepted out now moment 0 cmd e.wires mid new accept_is enters.wires.waiting untold (ap (λ (o : Outbox). o.live) enters.outbox) (ap (λ (o : Outbox). o.beats) enters.outbox) (ap (λ (o : Outbox). o.cycle.left) enters.outbox) (ap (λ (o : Outbox). o.snaps) enters.outbox)
    enters.wires.held (c.deliver.ensures.inputs ∙ ap inputs_of enters.wires.held))
    ∙ sym (clears day c.args.security moment (is_listed listing c.args.security) (nat_lt (length accepted) 200_000) done (listed_security listing.securities c.args.security there) few)
    ∙ ap (λ (d : Day). day_after d (Clear c.args.security moment)) c.self.view_is
