-- What an event leaves of a client's connection, and says on it.
use Rattle.std.proofs.Common.{◌≡◌, ◌≢◌, ℕ, ℤ, Bool, true, false, cond, List, [], ◌∷◌, ◌++◌, length, map, Option, Some, None, refl, sym, ap, ◌∙◌, subst, max, append_assoc}
use Rattle.std.proofs.lemmas.List.{append-nil}
use Rattle.std.specs.Prelude.{◌==◌, ◌&&◌, ◌||◌, is_some, nat_le, nat_lt}
use Rattle.std.specs.List.{AllByRecursion, concat}
use Rattle.std.specs.Ordering.{nat_cmp, eq_by_cmp}
use Rattle.t7_base.specs.Outside.{Begins}
use Rattle.t7_book.specs.declared.command.Command.{Command}
use Rattle.t7_book.specs.declared.command.Command.TheVariants as command
use Rattle.t7_eti.specs.declared.reason.Reason.TheVariants.{BadLength}
use Rattle.t7_eti.specs.declared.request.Request.{Request}
use Rattle.t7_eti.specs.declared.response.Kept.{Kept}
use Rattle.t7_eti.specs.declared.response.Response.{Response}
use Rattle.t7_eti.specs.declared.response.Response.TheVariants as response
use Rattle.t7_eti.specs.Saying.{request_bytes}
use Rattle.t7_frames.specs.Frames.{IsFrame, front_of}
use Rattle.t7_frames.specs.Split.{split_of}
use Rattle.t7_layout.specs.Lookups.{IsTable}
use Rattle.t7_orders.specs.Answers.{responses}
use Rattle.t7_orders.specs.Judged.{is_listed}
use Rattle.t7_recover.specs.Entries.{AreEntries, IsEntry}
use Rattle.t7_session.specs.declared.session.Beat.{Beat}
use Rattle.t7_session.specs.declared.session.Beat.TheVariants as beat
use Rattle.t7_session.specs.Heartbeats.{beat_of, is_empty}
use Rattle.t7_session.specs.Steps.{frame_step}
use Rattle.t7_entry.specs.ByNumber.{ByNumber, contains_key, get, insert, keys, len, remove}
use Rattle.t7_entry.specs.State.{Core, Input, Line, Outcome, Setting, State, and_then, fresh_input, fresh_line, held_of, line_of, pure, with_line}
use Rattle.t7_entry.specs.Stalls.{untreated_at}
use Rattle.t7_entry.specs.Treatment.{accept, close, refuse, send, send_at, session_at, session_of, treat}
use Rattle.t7_entry.specs.Events.{Bytes, Clear, Closed, Event, Opened, Result, Tick, bytes, bytes_at, clear, do_beat, end_frames, happens, is_bad, opened, refuse_open, settled, settled_at, settled_each, tick, tick_at, tick_each, treat_all, treat_bytes}
use Rattle.t7_entry.proofs.EntryFacts.{accept-accepted, accept-names, responses-begin}
use Rattle.t7_entry.proofs.Numbers.{apart, get-insert, get-insert-other, get-insert-same, get-remove, tied}
use Rattle.t7_entry.proofs.Treated.{treat-names}
use Rattle.t7_acts.proofs.Adding.{Extends}
use Rattle.t7_acts.proofs.Treating.{accept-adds, close-adds, send-adds, treat-adds}
use Rattle.t7_dialog.specs.Asking.{AreAsked, AreMade}
use Rattle.t7_dialog.specs.Reaching.{Reached}
use Rattle.t7_dialog.specs.Saying.{is_shut, said_on}
use Rattle.t7_dialog.specs.Serving.{IsElsewhere, IsFor, IsServed, IsTold, Serves, stored_for}
use Rattle.t7_dialog.proofs.Holding.{told_within}
use Rattle.t7_dialog.proofs.Moving.{Keeps, Moves, close_keeps, keeps_none, keeps_then, send_keeps}
use Rattle.t7_dialog.proofs.Parting.{halves, parts}
use Rattle.t7_dialog.proofs.Reading.{Writes, asks}
use Rattle.t7_dialog.proofs.Saying.{entries_both, entries_stay, names_said}
use Rattle.t7_dialog.proofs.Telling as telling
use Rattle.t7_dialog.proofs.Treating.{IsOfStep, accept_keeps, of_step, treat_keeps}

begins_both : {A : Type 0} (xs ys zs : List A) → Begins xs ys → Begins ys zs → Begins xs zs
begins_both xs ys zs one two = (one.0 ++ two.0, sym (append_assoc xs one.0 two.0) ∙ ap (λ l. l ++ two.0) one.1 ∙ two.1)

module _ (setting : Setting) (conn session : ℕ) where
  -- what the session has stored by these commands
  abbrev kept : List Command → List Kept
  kept cs = responses setting.listing cs session

  grown : (before after : List Command) → Begins before after → Begins (kept before) (kept after)
  grown before after begins = subst (λ (l : List Command). Begins (kept before) (kept l)) begins.1 (responses-begin setting.listing before begins.0 session)

  -- an outcome accepts more, keeps the connection, and says entries on it, each live one in its turn
  record Goes (a : Core) (o : Outcome) : Type 0 where
    grows : Begins a.accepted o.core.accepted
    keeps : Keeps conn session a o
    says : IsFor session (session_of a conn) → AreEntries (kept o.core.accepted) (said_on conn o.doings)
    tells : IsFor session (session_of a conn) → telling.Goes setting conn session a o

  goes_none : (a : Core) → Goes a (pure a)
  goes_none a = record { grows = ([], append-nil a.accepted); keeps = keeps_none conn session a; says = λ own. tt; tells = λ own. telling.none_goes setting conn session a }

  goes_then : (a : Core) (first : Outcome) (next : Core → Outcome) → Goes a first → ((k : Core) → Goes k (next k)) → Goes a (and_then first next)
  goes_then a first next one more =
      let rest = next first.core in
      let two = more first.core in
      record {
        grows = begins_both a.accepted first.core.accepted rest.core.accepted one.grows two.grows;
        keeps = keeps_then conn session a first next one.keeps (λ k. (more k).keeps);
        says = λ own. entries_both (kept rest.core.accepted) conn first.doings rest.doings
            (entries_stay (kept first.core.accepted) (kept rest.core.accepted) (said_on conn first.doings) (grown first.core.accepted rest.core.accepted two.grows) (one.says own))
            (λ open_still. two.says ((one.keeps open_still).0 own));
        tells = λ own. telling.goes_on setting conn session a first next (one.tells own) (λ open_still. two.tells ((one.keeps open_still).0 own));
      }

  extends : (a : Core) (o : Outcome) → Extends setting a o → Begins a.accepted o.core.accepted
  extends a o grows = (grows.commands, sym grows.adds.accepted)

  -- one response that is not recoverable
  quiet_one : (list : List Kept) (b : Bool) (said : Response) → IsEntry list said → AreEntries list (cond b (said ∷ []) [])
  quiet_one list true said is = (is, tt)
  quiet_one list false said is = tt

  quiet_at : (list : List Kept) (moment other : ℕ) (said : Response) (core : Core) (line : Option Line) → IsEntry list said → AreEntries list (said_on conn (send_at moment other said core line).doings)
  quiet_at list moment other said core None is = tt
  quiet_at list moment other said core (Some line) is = quiet_one list (conn == other) said is

  quiet_send : (list : List Kept) (moment other : ℕ) (said : Response) (core : Core) → IsEntry list said → AreEntries list (said_on conn (send moment other said core).doings)
  unfolding send
  quiet_send list moment other said core is = quiet_at list moment other said core (line_of core other) is

  quiet_close : (list : List Kept) (other : ℕ) (core : Core) → AreEntries list (said_on conn (close other core).doings)
  unfolding close
  quiet_close list other core = by (conn == other)
    where
      by : (b : Bool) → AreEntries list (cond b [] [])
      by true = tt
      by false = tt

  goes_beat : (moment other : ℕ) (core : Core) → Goes core (send moment other response.Beat core)
  goes_beat moment other core = record {
    grows = extends core (send moment other response.Beat core) (send-adds setting moment other response.Beat core);
    keeps = send_keeps conn session moment other response.Beat core;
    says = λ own. quiet_send _ moment other response.Beat core tt;
    tells = λ own. telling.quiet_goes setting conn session moment other response.Beat core (λ r. (tt, refl));
  }

  goes_close : (other : ℕ) (core : Core) → Goes core (close other core)
  goes_close other core = record {
    grows = extends core (close other core) (close-adds setting other core);
    keeps = close_keeps conn session other core;
    says = λ own. quiet_close _ other core;
    tells = λ own. telling.close_goes setting conn session other core;
  }

  goes_refuse : (moment other : ℕ) (core : Core) → Goes core (refuse moment other None BadLength core)
  unfolding refuse
  goes_refuse moment other core =
      let said = response.Reject None BadLength in
      goes_then core (send moment other said core) (close other)
      (record {
        grows = extends core (send moment other said core) (send-adds setting moment other said core);
        keeps = send_keeps conn session moment other said core;
        says = λ own. quiet_send _ moment other said core tt;
        tells = λ own. telling.quiet_goes setting conn session moment other said core (λ r. (tt, refl));
      })
      (λ k. goes_close other k)

  goes_test : (a : Core) (b : Bool) (first other : Outcome) → Goes a first → Goes a other → Goes a (cond b first other)
  goes_test a true first other p q = p
  goes_test a false first other p q = q

  goes_open : (moment other : ℕ) (core : Core) (line : Option Line) → Goes core (refuse_open moment other core line)
  goes_open moment other core (Some line) = goes_refuse moment other core
  goes_open moment other core None = goes_none core

  goes_end : (moment other : ℕ) (rest : List ℕ) (core : Core) → Goes core (end_frames moment other rest core)
  unfolding end_frames
  goes_end moment other rest core = goes_test core (is_bad (front_of rest)) (refuse_open moment other core (line_of core other)) (pure core) (goes_open moment other core (line_of core other)) (goes_none core)

  -- a frame: where it comes on the connection, one of the client's requests
  goes_treat : (moment other : ℕ) (frame : List ℕ) (core : Core) → (conn ≡ other → (l : Line) → IsOfStep session (frame_step setting.layouts l.session l.next frame))
      → Goes core (treat setting moment other frame core)
  goes_treat moment other frame core asks_own = record {
    grows = extends core (treat setting moment other frame core) (treat-adds setting moment other frame core);
    keeps = treat_keeps setting conn session moment other frame core asks_own;
    says = λ own. names_said setting.listing core _ conn session own (treat setting moment other frame core).doings (treat-names setting moment other frame core);
    tells = λ own. telling.treat_goes setting conn session moment other frame core asks_own own;
  }

  goes_accept : (moment : ℕ) (c : Command) (core : Core) → Goes core (accept setting moment c core)
  goes_accept moment c core = record {
    grows = extends core (accept setting moment c core) (accept-adds setting moment c core);
    keeps = accept_keeps setting conn session moment c core;
    says = λ own. subst (λ (cs : List Command). AreEntries (kept cs) (said_on conn (accept setting moment c core).doings)) (sym (accept-accepted setting moment c core))
        (names_said setting.listing core (core.accepted ++ c ∷ []) conn session own (accept setting moment c core).doings (accept-names setting core moment c core (λ d. refl)));
    tells = λ own. telling.accept_goes setting conn session moment c core;
  }

  -- frames of another connection
  goes_others : (moment other : ℕ) (frames : List (List ℕ)) (core : Core) → conn ≢ other → Goes core (treat_all setting moment other frames core)
  unfolding treat_all
  goes_others moment other [] core apart_is = goes_none core
  goes_others moment other (frame ∷ frames) core apart_is =
      goes_then core (treat setting moment other frame core) (treat_all setting moment other frames)
      (goes_treat moment other frame core (λ here. absurd (apart_is here)))
      (λ k. goes_others moment other frames k apart_is)

  -- requests of the client
  goes_own : Writes → IsTable setting.layouts → (moment : ℕ) (requests : List Request) (core : Core) → AreMade session requests
      → Goes core (treat_all setting moment conn (map (request_bytes setting.layouts) requests) core)
  unfolding treat_all
  goes_own law table moment [] core made = goes_none core
  goes_own law table moment (asked ∷ requests) core made =
      let frame = request_bytes setting.layouts asked in
      let reads = asks law setting.layouts session asked table made.0 in
      goes_then core (treat setting moment conn frame core) (treat_all setting moment conn (map (request_bytes setting.layouts) requests))
      (goes_treat moment conn frame core (λ here l. of_step setting.layouts session l.session l.next frame asked reads.asked made.0.own))
      (λ k. goes_own law table moment requests k made.1)

  -- each connection has its heartbeat
  goes_do_beat : (moment other : ℕ) (core : Core) (b : Beat) → Goes core (do_beat moment other core b)
  goes_do_beat moment other core beat.Nothing = goes_none core
  goes_do_beat moment other core beat.Send = goes_beat moment other core
  goes_do_beat moment other core beat.Close = goes_close other core

  goes_tick_at : (moment other : ℕ) (core : Core) (line : Option Line) (input : Option Input) → Goes core (tick_at moment other core line input)
  goes_tick_at moment other core (Some line) (Some input) = goes_do_beat moment other core (beat_of (held_of line input) moment)
  goes_tick_at moment other core (Some line) None = goes_none core
  goes_tick_at moment other core None input = goes_none core

  goes_tick : (moment : ℕ) (inputs : ByNumber Input) (conns : List ℕ) (core : Core) → Goes core (tick_each moment inputs conns core)
  unfolding tick_each
  goes_tick moment inputs [] core = goes_none core
  goes_tick moment inputs (other ∷ conns) core =
      goes_then core (tick_at moment other core (line_of core other) (get inputs other)) (tick_each moment inputs conns)
      (goes_tick_at moment other core (line_of core other) (get inputs other)) (λ k. goes_tick moment inputs conns k)

  -- what has come on the connection, where something came on another one
  other_settled : (inputs : ByNumber Input) (other : ℕ) (input : Input) (line : Option Line) → conn ≢ other → get (settled_at inputs other input line) conn ≡ get inputs conn
  other_settled inputs other input (Some line) apart_is = get-insert-other inputs other input conn apart_is
  other_settled inputs other input None apart_is = get-remove inputs other conn ∙ ap (λ (x : Bool). cond x None (get inputs conn)) (apart conn other apart_is)

  -- an outcome that leaves what has come on the connection as it is
  serves_same : (unsent : List ℕ) (state : State) (o : Outcome) (inputs : ByNumber Input) → Goes state.core o → IsServed setting conn session unsent state
      → (is_shut conn o.doings ≡ false → get inputs conn ≡ get state.inputs conn)
      → Serves setting conn session unsent state (record { state = record { core = o.core; inputs = inputs }; doings = o.doings })
  serves_same unsent state o inputs goes is same = record {
    grows = goes.grows;
    entries = goes.says is.own;
    telling = λ reached paired told. goes.tells is.own reached told;
    served = λ open_still.
        let moves = goes.keeps open_still in
        let there = same open_still in
        record {
          own = moves.0 is.own;
          shut = λ none. there ∙ is.shut (moves.1 none);
          asked = subst (λ (i : Option Input). AreAsked setting.layouts session (untreated_at i ++ unsent)) (sym there) is.asked;
        };
  }

  -- bytes on another connection
  others_bytes : (unsent : List ℕ) (moment other : ℕ) (piece : List ℕ) (state : State) (input : Option Input) → conn ≢ other → IsServed setting conn session unsent state
      → Serves setting conn session unsent state (bytes_at setting moment other piece state input)
  unfolding treat_bytes
  others_bytes unsent moment other piece state None apart_is is = serves_same unsent state (pure state.core) state.inputs (goes_none state.core) is (λ _. refl)
  others_bytes unsent moment other piece state (Some input) apart_is is =
      let all = input.untreated ++ piece in
      let o = and_then (treat_all setting moment other (split_of all).frames state.core) (end_frames moment other (split_of all).rest) in
      let now : Input = record { untreated = (split_of all).rest; received = cond (is_empty piece) input.received (max input.received moment) } in
      serves_same unsent state o (settled state.inputs other now o.core)
      (goes_then state.core (treat_all setting moment other (split_of all).frames state.core) (end_frames moment other (split_of all).rest)
      (goes_others moment other (split_of all).frames state.core apart_is) (λ k. goes_end moment other (split_of all).rest k))
      is (λ _. other_settled state.inputs other now (line_of o.core other) apart_is)

  -- each made request is a frame
  frames_of : Writes → IsTable setting.layouts → (requests : List Request) → AreMade session requests → AllByRecursion IsFrame (map (request_bytes setting.layouts) requests)
  frames_of law table [] made = tt
  frames_of law table (asked ∷ requests) made = ((asks law setting.layouts session asked table made.0).frame, frames_of law table requests made.1)

  made_first : (xs ys : List Request) → AreMade session (xs ++ ys) → AreMade session xs × AreMade session ys
  made_first [] ys made = (tt, made)
  made_first (x ∷ xs) ys made = let more = made_first xs ys made.1 in ((made.0, more.0), more.1)

  -- bytes of the client
  own_bytes : Writes → IsTable setting.layouts → (unsent : List ℕ) (moment : ℕ) (piece : List ℕ) (state : State) (input : Option Input) → get state.inputs conn ≡ input
      → is_some input ≡ true → IsServed setting conn session (piece ++ unsent) state → Serves setting conn session unsent state (bytes_at setting moment conn piece state input)
  unfolding treat_bytes
  own_bytes law table unsent moment piece state None none some is = absurd (cc)
  own_bytes law table unsent moment piece state (Some input) there some is =
      let layouts = setting.layouts in
      let all = input.untreated ++ piece in
      let frames = (split_of all).frames in
      let o = and_then (treat_all setting moment conn frames state.core) (end_frames moment conn (split_of all).rest) in
      let now : Input = record { untreated = (split_of all).rest; received = cond (is_empty piece) input.received (max input.received moment) } in
      let before : untreated_at (get state.inputs conn) ≡ input.untreated = ap untreated_at there in
      let whole : all ++ unsent ≡ concat (map (request_bytes layouts) is.asked.requests) =
      append_assoc input.untreated piece unsent ∙ ap (λ (l : List ℕ). l ++ (piece ++ unsent)) (sym before) ∙ is.asked.whole in
      let apart_of = parts (map (request_bytes layouts) is.asked.requests) all unsent (frames_of law table is.asked.requests is.asked.made) whole in
      let both = halves (request_bytes layouts) is.asked.requests frames apart_of.later apart_of.whole in
      let made = made_first both.first both.later (subst (AreMade session) both.whole is.asked.made) in
      let one : Goes state.core (treat_all setting moment conn frames state.core) =
      subst (λ (fs : List (List ℕ)). Goes state.core (treat_all setting moment conn fs state.core)) both.ones (goes_own law table moment both.first state.core made.0) in
      let goes : Goes state.core o = goes_then state.core (treat_all setting moment conn frames state.core) (end_frames moment conn (split_of all).rest) one (λ k. goes_end moment conn (split_of all).rest k) in
      record {
        grows = goes.grows;
        entries = goes.says is.own;
        telling = λ reached paired told. goes.tells is.own reached told;
        served = λ open_still. by_line o.core now (line_of o.core conn) refl (goes.keeps open_still)
            (record { requests = both.later; whole = apart_of.rest ∙ ap concat (sym both.others); made = made.1 });
      }
    where
      by_line : (core : Core) (now : Input) (line : Option Line) → line_of core conn ≡ line → Moves conn session state.core core → AreAsked setting.layouts session (now.untreated ++ unsent)
          → IsServed setting conn session unsent (record { core = core; inputs = settled state.inputs conn now core })
      by_line core now (Some line) here moves asked =
          let at : get (settled state.inputs conn now core) conn ≡ Some now =
          ap (λ (l : Option Line). get (settled_at state.inputs conn now l) conn) here ∙ get-insert-same state.inputs conn now in
          record {
            own = moves.0 is.own;
            shut = λ none. absurd (let no : None ≡ Some line = sym none ∙ here in cc);
            asked = subst (λ (i : Option Input). AreAsked setting.layouts session (untreated_at i ++ unsent)) (sym at) asked;
          }
      by_line core now None here moves asked = absurd (let no : None ≡ Some input = sym (is.shut (moves.1 here)) ∙ there in cc)

  pub own_happens : Writes → IsTable setting.layouts → (piece unsent : List ℕ) (moment : ℕ) (state : State) → contains_key state.inputs conn ≡ true
      → IsServed setting conn session (piece ++ unsent) state → Serves setting conn session unsent state (happens setting state (Bytes conn piece moment))
  unfolding bytes
  own_happens law table piece unsent moment state open_is is = own_bytes law table unsent moment piece state (get state.inputs conn) refl open_is is

  -- connections that are closed at a tick
  still : (b : Bool) (inputs : ByNumber Input) (other : ℕ) → (conn ≡ other → b ≡ true) → get (cond b inputs (remove inputs other)) conn ≡ get inputs conn
  still true inputs other here = refl
  still false inputs other here = get-remove inputs other conn ∙ ap (λ (x : Bool). cond x None (get inputs conn)) (apart conn other (λ same. let no : false ≡ true = here same in cc no))

  stays_there : (conns : List ℕ) (inputs : ByNumber Input) (core : Core) → contains_key core.lines conn ≡ true → get (settled_each conns inputs core) conn ≡ get inputs conn
  stays_there [] inputs core there = refl
  stays_there (other ∷ conns) inputs core there =
      stays_there conns (cond (contains_key core.lines other) inputs (remove inputs other)) core there
      ∙ still (contains_key core.lines other) inputs other (λ here. subst (λ (c : ℕ). contains_key core.lines c ≡ true) here there)

  gone : (b : Bool) (inputs : ByNumber Input) (other : ℕ) → get inputs conn ≡ None → get (cond b inputs (remove inputs other)) conn ≡ None
  gone true inputs other none = none
  gone false inputs other none = get-remove inputs other conn ∙ by (eq_by_cmp nat_cmp conn other)
    where
      by : (x : Bool) → cond x None (get inputs conn) ≡ None
      by true = refl
      by false = none

  stays_gone : (conns : List ℕ) (inputs : ByNumber Input) (core : Core) → get inputs conn ≡ None → get (settled_each conns inputs core) conn ≡ None
  stays_gone [] inputs core none = none
  stays_gone (other ∷ conns) inputs core none =
      stays_gone conns (cond (contains_key core.lines other) inputs (remove inputs other)) core (gone (contains_key core.lines other) inputs other none)

  tick_same : (conns : List ℕ) (inputs : ByNumber Input) (core : Core) (line : Option Line) → line_of core conn ≡ line → (line_of core conn ≡ None → get inputs conn ≡ None)
      → get (settled_each conns inputs core) conn ≡ get inputs conn
  tick_same conns inputs core (Some line) here shut = stays_there conns inputs core (ap is_some here)
  tick_same conns inputs core None here shut = stays_gone conns inputs core (shut here) ∙ sym (shut here)

  ticks : (unsent : List ℕ) (moment : ℕ) (state : State) → IsServed setting conn session unsent state → Serves setting conn session unsent state (tick moment state)
  ticks unsent moment state is =
      let conns = keys state.inputs in
      let o = tick_each moment state.inputs conns state.core in
      let goes = goes_tick moment state.inputs conns state.core in
      serves_same unsent state o (settled_each conns state.inputs o.core) goes is
      (λ open_still. tick_same conns state.inputs o.core (line_of o.core conn) refl (λ none. is.shut ((goes.keeps open_still).1 none)))

  unchanged_serves : (unsent : List ℕ) (state : State) → IsServed setting conn session unsent state → Serves setting conn session unsent state (record { state = state; doings = [] })
  unchanged_serves unsent state is = serves_same unsent state (pure state.core) state.inputs (goes_none state.core) is (λ _. refl)

  by_test : (b : Bool) (unsent : List ℕ) (state : State) (first other : Result) → (b ≡ true → Serves setting conn session unsent state first) → (b ≡ false → Serves setting conn session unsent state other)
      → Serves setting conn session unsent state (cond b first other)
  by_test true unsent state first other p q = p refl
  by_test false unsent state first other p q = q refl

  -- a connection that was not open is opened
  or_first : (a b : Bool) → (a || b) ≡ false → a ≡ false
  or_first true b is = is
  or_first false b is = refl

  none_of : (o : Option Input) → is_some o ≡ false → o ≡ None
  none_of None is = refl
  none_of (Some input) is = absurd (cc)

  opens : (unsent : List ℕ) (other : ℕ) (state : State) → IsServed setting conn session unsent state → Serves setting conn session unsent state (opened other state)
  opens unsent other state is =
      by_test (contains_key state.inputs other || nat_le 1024 (len state.inputs)) unsent state _ _ (λ _. unchanged_serves unsent state is) (λ none. record {
        grows = ([], append-nil state.core.accepted);
        entries = tt;
        telling = λ reached paired told. record { step = tt; told = λ _. told_by reached (eq_by_cmp nat_cmp conn other) refl (or_first (contains_key state.inputs other) (nat_le 1024 (len state.inputs)) none) paired told };
        served = λ _. by (eq_by_cmp nat_cmp conn other) refl (or_first (contains_key state.inputs other) (nat_le 1024 (len state.inputs)) none);
      })
    where
      core : Core
      core = with_line state.core other fresh_line

      inputs : ByNumber Input
      inputs = insert state.inputs other fresh_input

      at : (d : ℕ) (b : Bool) → eq_by_cmp nat_cmp d other ≡ b → session_of core d ≡ session_at (cond b (Some fresh_line) (line_of state.core d))
      at d b e = ap session_at (get-insert state.core.lines other fresh_line d) ∙ ap (λ (x : Bool). session_at (cond x (Some fresh_line) (line_of state.core d))) e

      within : (d : ℕ) → session_of core d ≡ Some session → session_of state.core d ≡ Some session
      within d there = within_by (eq_by_cmp nat_cmp d other) refl
        where
          within_by : (b : Bool) → eq_by_cmp nat_cmp d other ≡ b → session_of state.core d ≡ Some session
          within_by true e = absurd (let no : None ≡ Some session = sym (at d true e) ∙ there in cc)
          within_by false e = sym (at d false e) ∙ there

      told_by : (reached : Reached) (b : Bool) → eq_by_cmp nat_cmp conn other ≡ b → contains_key state.inputs other ≡ false → (get state.inputs conn ≡ None → line_of state.core conn ≡ None)
          → IsTold conn session (stored_for setting session state.core) reached state.core → IsTold conn session (stored_for setting session state.core) reached core
      told_by reached true e none paired told =
          let before : get state.inputs conn ≡ None = ap (get state.inputs) (tied conn other e) ∙ none_of (get state.inputs other) none in
          told_within conn session (stored_for setting session state.core) reached state.core core (at conn true e ∙ sym (ap session_at (paired before))) within told
      told_by reached false e none paired told = told_within conn session (stored_for setting session state.core) reached state.core core (at conn false e) within told

      by : (b : Bool) → eq_by_cmp nat_cmp conn other ≡ b → contains_key state.inputs other ≡ false → IsServed setting conn session unsent (record { core = core; inputs = inputs })
      by true e none =
          let here = tied conn other e in
          let line : line_of core conn ≡ Some fresh_line = get-insert state.core.lines other fresh_line conn ∙ ap (λ (x : Bool). cond x (Some fresh_line) (line_of state.core conn)) e in
          let input : get inputs conn ≡ Some fresh_input = get-insert state.inputs other fresh_input conn ∙ ap (λ (x : Bool). cond x (Some fresh_input) (get state.inputs conn)) e in
          let before : get state.inputs conn ≡ None = ap (get state.inputs) here ∙ none_of (get state.inputs other) none in
          record {
            own = subst (λ (l : Option Line). IsFor session (session_at l)) (sym line) tt;
            shut = λ gone_is. absurd (let no : None ≡ Some fresh_line = sym gone_is ∙ line in cc);
            asked = subst (λ (i : Option Input). AreAsked setting.layouts session (untreated_at i ++ unsent)) (sym input)
                (subst (λ (i : Option Input). AreAsked setting.layouts session (untreated_at i ++ unsent)) before is.asked);
          }
      by false e none =
          let line : line_of core conn ≡ line_of state.core conn = get-insert state.core.lines other fresh_line conn ∙ ap (λ (x : Bool). cond x (Some fresh_line) (line_of state.core conn)) e in
          let input : get inputs conn ≡ get state.inputs conn = get-insert state.inputs other fresh_input conn ∙ ap (λ (x : Bool). cond x (Some fresh_input) (get state.inputs conn)) e in
          record {
            own = subst (λ (l : Option Line). IsFor session (session_at l)) (sym line) is.own;
            shut = λ gone_is. input ∙ is.shut (sym line ∙ gone_is);
            asked = subst (λ (i : Option Input). AreAsked setting.layouts session (untreated_at i ++ unsent)) (sym input) is.asked;
          }

  -- another one is closed
  closes_other : (unsent : List ℕ) (other : ℕ) (state : State) → conn ≢ other → IsServed setting conn session unsent state → Serves setting conn session unsent state (happens setting state (Closed other))
  closes_other unsent other state apart_is is =
      let no = apart conn other apart_is in
      let line : get (remove state.core.lines other) conn ≡ line_of state.core conn = get-remove state.core.lines other conn ∙ ap (λ (x : Bool). cond x None (line_of state.core conn)) no in
      let input : get (remove state.inputs other) conn ≡ get state.inputs conn = get-remove state.inputs other conn ∙ ap (λ (x : Bool). cond x None (get state.inputs conn)) no in
      record {
        grows = ([], append-nil state.core.accepted);
        entries = tt;
        telling = λ reached paired told. record {
          step = tt;
          told = λ _. told_within conn session (stored_for setting session state.core) reached state.core left (ap session_at line) within told;
        };
        served = λ _. record {
          own = subst (λ (l : Option Line). IsFor session (session_at l)) (sym line) is.own;
          shut = λ gone_is. input ∙ is.shut (sym line ∙ gone_is);
          asked = subst (λ (i : Option Input). AreAsked setting.layouts session (untreated_at i ++ unsent)) (sym input) is.asked;
        };
      }
    where
      left : Core
      left = record { accepted = state.core.accepted; lines = remove state.core.lines other }

      within : (d : ℕ) → session_of left d ≡ Some session → session_of state.core d ≡ Some session
      within d there = by (eq_by_cmp nat_cmp d other) (sym (ap session_at (get-remove state.core.lines other d)) ∙ there)
        where
          by : (b : Bool) → session_at (cond b None (line_of state.core d)) ≡ Some session → session_of state.core d ≡ Some session
          by true e = absurd (let no : None ≡ Some session = e in cc)
          by false e = e

  clears : (unsent : List ℕ) (security : ℤ) (moment : ℕ) (state : State) → IsServed setting conn session unsent state → Serves setting conn session unsent state (clear setting security moment state)
  clears unsent security moment state is =
      by_test (is_listed setting.listing security && nat_lt (length state.core.accepted) 200_000) unsent state _ _
      (λ _. serves_same unsent state (accept setting moment (command.Clear moment security) state.core) state.inputs (goes_accept moment (command.Clear moment security) state.core) is (λ _. refl))
      (λ _. unchanged_serves unsent state is)

  pub other_happens : (unsent : List ℕ) (state : State) (event : Event) → IsElsewhere conn event → IsServed setting conn session unsent state
      → Serves setting conn session unsent state (happens setting state event)
  unfolding bytes
  other_happens unsent state (Opened other) elsewhere is = opens unsent other state is
  other_happens unsent state (Bytes other piece moment) elsewhere is = others_bytes unsent moment other piece state (get state.inputs other) elsewhere is
  other_happens unsent state (Closed other) elsewhere is = closes_other unsent other state elsewhere is
  other_happens unsent state (Tick moment) elsewhere is = ticks unsent moment state is
  other_happens unsent state (Clear security moment) elsewhere is = clears unsent security moment state is
