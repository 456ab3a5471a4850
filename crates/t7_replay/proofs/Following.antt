-- The client of a world follows the exchange, line by line.
use Rattle.std.proofs.Common.{◌≡◌, ◌≢◌, ◌<◌, ◌≤◌, ◌==◌, ◌&&◌, ◌||◌, not, ℕ, ℤ, pos, Bool, true, false, cond, List, [], ◌∷◌, ◌++◌, length, map, take, drop, Option, Some, None, is_some, option_map, unwrap_or, nat_lt}
use Rattle.std.proofs.Common.{Result, Ok, Err, refl, sym, ◌∙◌, ap, subst, arith, append_assoc, eq-eqb}
use Rattle.std.proofs.lemmas.List.{append-nil, map-append, take-append-drop}
use Rattle.std.proofs.lemmas.List.Folds.{concat-append}
use Rattle.std.proofs.lemmas.Bool.{eqb-true}
use Rattle.std.specs.List.{concat}
use Rattle.t7_base.specs.Outside.{Begins}
use Rattle.t7_layout.specs.Layouts.{Layout}
use Rattle.t7_layout.specs.Lookups.{IsTable}
use Rattle.t7_eti.specs.declared.request.Request.TheVariants as request
use Rattle.t7_eti.specs.declared.response.Response.{Response}
use Rattle.t7_eti.specs.declared.response.Response.TheVariants as response
use Rattle.t7_eti.specs.Saying.{request_bytes, response_bytes}
use Rattle.t7_book.specs.declared.command.Command.{Command}
use Rattle.t7_orders.specs.Answers.{responses}
use Rattle.t7_recover.specs.Entries.{AreEntries}
use Rattle.t7_client.specs.Fronts.{known_by, last_known}
use Rattle.t7_client.specs.Hearing.{heard}
use Rattle.t7_client.specs.Recovering.{Recovery, making}
use Rattle.t7_entry.specs.ByNumber.{contains_key, get}
use Rattle.t7_entry.specs.Days.{replies_in}
use Rattle.t7_entry.specs.Events as entry
use Rattle.t7_entry.specs.Stalls.{untreated_at}
use Rattle.t7_entry.specs.State.{Doing, Input, Line, Reply, State, closes, line_of, replies, sends, tells}
use Rattle.t7_entry.specs.Treatment.{session_at}
use Rattle.t7_entry.proofs.EntryFacts.{responses-begin}
use Rattle.t7_exchange.specs.Paired.{ArePaired}
use Rattle.t7_acts.specs.InStep.{setting_of}
use Rattle.t7_acts.proofs.Happening.{happens-adds}
use Rattle.t7_feed.specs.Arrivals.{Terms, channel_of}
use Rattle.t7_feed.specs.Sending.{at_number, sent_on}
use Rattle.t7_base.specs.declared.ids.Feed.{Feed}
use Rattle.t7_base.specs.declared.ids.Side.{Side}
use Rattle.t7_eti.specs.Saying.{side_number}
use Rattle.t7_script.specs.declared.event.Event.{Event}
use Rattle.t7_script.specs.declared.event.Event.TheVariants as kind
use Rattle.t7_script.specs.declared.event.LineRefusal.{LineRefusal}
use Rattle.t7_script.specs.Events.{Setting as Reading, event_of}
use Rattle.t7_outcome.specs.declared.ending.ScriptWhy.TheVariants.{Long}
use Rattle.t7_outcome.specs.declared.ending.Stop.TheVariants.{Script}
use Rattle.t7_outcome.specs.Steps.{Goes, LineStep, Stops, Went}
use Rattle.t7_dialog.specs.Asking.{AreAsked}
use Rattle.t7_dialog.specs.Coming.{ClientsAsk, Comes, Queues, WhatComesIsGathered}
use Rattle.t7_dialog.specs.Reaching.{AreInStep, KeepsUp, Reached, reached_by, unanswered}
use Rattle.t7_dialog.specs.Saying.{AreSaid, bytes_of, is_shut, said_on}
use Rattle.t7_dialog.specs.Serving.{ClientsAreServed, IsElsewhere, IsFor, IsServed, IsTold, Serves, Tells, stored_for}
use Rattle.t7_dialog.proofs.Coming.{entries_first, said_first}
use Rattle.t7_dialog.proofs.Making.{asked_more, logon_made, order_made, resends_made}
use Rattle.t7_dialog.proofs.Reaching.{reached_on, step_both, step_first}
use Rattle.t7_dialog.proofs.Saying.{entries_behind, entries_stay}
use Rattle.t7_replay.specs.Calling.{Calling, IsSoundCaller, IsSoundCalling, any_on, any_on_line, client_for, cut_on, dials, hangs_up, heard_so, is_for, is_on, is_on_line, is_too_much, new_calling, said_to, sent_up, told_all}
use Rattle.t7_replay.specs.Following.{Follows, FollowsAs, IsComing, IsFollowing}
use Rattle.t7_replay.specs.Reports.{Moment}
use Rattle.t7_replay.specs.Steps.{bytes_fault, client_fault, connection_fault, delivering, dialing, done_by, done_read, entered, going_down, going_up, on_open, opening, ordering, read_as, reporting, step_at}
use Rattle.t7_replay.proofs.Forms.{IsFormed, formed}
use Rattle.t7_replay.specs.World.{World, on_next_line}

-- the laws of what is said on a connection
pub record Laws : Type 0 where
  pub served : ClientsAreServed
  pub comes : WhatComesIsGathered
  pub asks : ClientsAsk

-- where a step goes on
abbrev pub IfGoes : LineStep World Moment → (World → Type 0) → Type 0
IfGoes (Goes state parts) P = P state
IfGoes (Stops stop) P = Unit {0}

pub goes_on : (step : LineStep World Moment) (P : World → Type 0) (after : World) → Went step after → IfGoes step P → P after
goes_on (Goes state parts) P after went is = subst P (sym went) is
goes_on (Stops stop) P after went is = absurd went

pub if_test : (b : Bool) (x y : LineStep World Moment) (P : World → Type 0) → (b ≡ true → IfGoes x P) → (b ≡ false → IfGoes y P) → IfGoes (cond b x y) P
if_test true x y P one other = one refl
if_test false x y P one other = other refl

-- tests
both_true : (a b : Bool) → (a && b) ≡ true → (a ≡ true) × (b ≡ true)
both_true true true is = (refl, refl)
both_true true false is = absurd (cc)
both_true false b is = absurd (cc)

not_true : (b : Bool) → not b ≡ true → b ≡ false
not_true true is = absurd (cc)
not_true false is = refl

begins_both : {A : Type 0} (xs ys zs : List A) → Begins xs ys → Begins ys zs → Begins xs zs
begins_both xs ys zs one two = (one.0 ++ two.0, sym (append_assoc xs one.0 two.0) ∙ ap (λ l. l ++ two.0) one.1 ∙ two.1)

-- what is stored only grows
grown : (terms : Terms) (before after : List Command) (session : ℕ) → Begins before after → Begins (responses terms.listing before session) (responses terms.listing after session)
grown terms before after session begins =
    subst (λ (l : List Command). Begins (responses terms.listing before session) (responses terms.listing l session)) begins.1 (responses-begin terms.listing before begins.0 session)

-- the bytes of responses, one after another
bytes_both : (layouts : List Layout) (xs ys : List Response) → bytes_of layouts (xs ++ ys) ≡ bytes_of layouts xs ++ bytes_of layouts ys
bytes_both layouts xs ys = ap concat (map-append (response_bytes layouts) xs ys) ∙ concat-append (map (response_bytes layouts) xs) (map (response_bytes layouts) ys)

-- the client that is told replies, on its connection
abbrev told_as : List Layout → Calling → List Doing → Calling
told_as layouts calling doings = record calling {
  coming = calling.coming ++ bytes_of layouts (said_on calling.conn doings);
  lasts = not (is_shut calling.conn doings);
}

told_off : (layouts : List Layout) (all : List Reply) (calling : Calling) → is_on_line calling ≡ false → told_all layouts all (Some calling) ≡ Some calling
told_off layouts [] calling off = refl
told_off layouts (sends conn r ∷ more) calling off =
    ap (λ (b : Bool). told_all layouts more (Some (cond (b && (calling.conn == conn)) (record calling { coming = calling.coming ++ response_bytes layouts r }) calling))) off
    ∙ told_off layouts more calling off
told_off layouts (closes conn ∷ more) calling off =
    ap (λ (b : Bool). told_all layouts more (Some (cond (b && (calling.conn == conn)) (record calling { lasts = false }) calling))) off
    ∙ told_off layouts more calling off

module _ (layouts : List Layout) where
  on_conn : (calling : Calling) (b : Bool) (conn : ℕ) → is_on_line calling ≡ true → (calling.conn == conn) ≡ b → is_on conn calling ≡ b
  on_conn calling b conn on is = ap (λ (x : Bool). x && (calling.conn == conn)) on ∙ is

  told_on : (doings : List Doing) (calling : Calling) → is_on_line calling ≡ true → told_all layouts (replies_in doings) (Some calling) ≡ Some (told_as layouts calling doings)
  told_on [] calling on =
      let lasts = (both_true calling.client.dialed calling.lasts on).1 in
      ap (λ (l : List ℕ). let o : Option Calling = Some (record calling { coming = l }) in o) (sym (append-nil calling.coming))
      ∙ ap (λ (b : Bool). let o : Option Calling = Some (record calling { coming = calling.coming ++ []; lasts = b }) in o) lasts
  told_on (tells messages ∷ doings) calling on = told_on doings calling on
  told_on (replies (sends conn r) ∷ doings) calling on = by (calling.conn == conn) refl (told_on doings calling on) (λ frame. told_on doings (record calling { coming = calling.coming ++ frame }) on)
    where
      later : List Reply
      later = replies_in doings

      frame : List ℕ
      frame = response_bytes layouts r

      ending : (b : Bool) → Calling
      ending b = record calling { coming = calling.coming ++ bytes_of layouts (cond b (r ∷ said_on calling.conn doings) (said_on calling.conn doings)); lasts = not (is_shut calling.conn doings) }

      by : (b : Bool) → (calling.conn == conn) ≡ b → told_all layouts later (Some calling) ≡ Some (told_as layouts calling doings)
          → ((f : List ℕ) → told_all layouts later (Some (record calling { coming = calling.coming ++ f })) ≡ Some (told_as layouts (record calling { coming = calling.coming ++ f }) doings))
          → told_all layouts later (Some (cond (is_on conn calling) (record calling { coming = calling.coming ++ frame }) calling)) ≡ Some (ending b)
      by true is plain other =
          ap (λ (x : Bool). told_all layouts later (Some (cond x (record calling { coming = calling.coming ++ frame }) calling))) (on_conn calling true conn on is)
          ∙ other frame
          ∙ ap (λ (l : List ℕ). let o : Option Calling = Some (record calling { coming = l; lasts = not (is_shut calling.conn doings) }) in o)
          (append_assoc calling.coming frame (bytes_of layouts (said_on calling.conn doings)))
      by false is plain other =
          ap (λ (x : Bool). told_all layouts later (Some (cond x (record calling { coming = calling.coming ++ frame }) calling))) (on_conn calling false conn on is) ∙ plain
  told_on (replies (closes conn) ∷ doings) calling on = by (calling.conn == conn) refl (told_on doings calling on)
    where
      later : List Reply
      later = replies_in doings

      shut : Calling
      shut = record calling { lasts = false }

      off : (b : Bool) → (b && false) ≡ false
      off true = refl
      off false = refl

      ending : (b : Bool) → Calling
      ending b = record calling { coming = calling.coming ++ bytes_of layouts (cond b [] (said_on calling.conn doings)); lasts = not (cond b true (is_shut calling.conn doings)) }

      by : (b : Bool) → (calling.conn == conn) ≡ b → told_all layouts later (Some calling) ≡ Some (told_as layouts calling doings)
          → told_all layouts later (Some (cond (is_on conn calling) shut calling)) ≡ Some (ending b)
      by true is plain =
          ap (λ (x : Bool). told_all layouts later (Some (cond x shut calling))) (on_conn calling true conn on is)
          ∙ told_off layouts later shut (off calling.client.dialed)
          ∙ ap (λ (l : List ℕ). let o : Option Calling = Some (record calling { coming = l; lasts = false }) in o) (sym (append-nil calling.coming))
      by false is plain = ap (λ (x : Bool). told_all layouts later (Some (cond x shut calling))) (on_conn calling false conn on is) ∙ plain

-- what comes to a client, where the exchange has gone on
module _ (terms : Terms) (said : List Response) (state : State) (calling : Calling) where
  -- a client that follows in all but how it is served
  pub record Heeds : Type 0 where
    pub session : calling.client.session ≡ calling.session
    pub layouts : calling.client.layouts ≡ terms.layouts
    pub front : Begins calling.client.gathered (responses terms.listing state.core.accepted calling.session)
    pub off : calling.client.dialed ≡ false → known_by calling.client ≡ None
    pub comes : calling.client.dialed ≡ true → IsComing terms said state calling

  pub heeds : IsFollowing terms said state calling → Heeds
  heeds is = record { session = is.session; layouts = is.layouts; front = is.front; off = is.off; comes = is.comes }

  module _ (result : entry.Result) (grows : Begins state.core.accepted result.state.core.accepted) (is : Heeds) where
    more : Begins (responses terms.listing state.core.accepted calling.session) (responses terms.listing result.state.core.accepted calling.session)
    more = grown terms state.core.accepted result.state.core.accepted calling.session grows

    front_more : Begins calling.client.gathered (responses terms.listing result.state.core.accepted calling.session)
    front_more = begins_both calling.client.gathered (responses terms.listing state.core.accepted calling.session) (responses terms.listing result.state.core.accepted calling.session) is.front more

    -- off its connection nothing is said to it
    follows_off : is_on_line calling ≡ false → IsFollowing terms said result.state calling
    follows_off off = record {
      session = is.session;
      layouts = is.layouts;
      front = front_more;
      off = is.off;
      comes = λ on. let c = is.comes on in record {
        read = c.read;
        left = c.left;
        parts = c.parts;
        known = c.known;
        bytes = c.bytes;
        entries = entries_stay (responses terms.listing state.core.accepted calling.session) (responses terms.listing result.state.core.accepted calling.session) c.left more c.entries;
        step = c.step;
        keeps_up = c.keeps_up;
      };
      served = λ on. absurd (let no : true ≡ false = sym on ∙ off in cc no);
      told = λ on. absurd (let no : true ≡ false = sym on ∙ off in cc no);
    }

    -- what an event says on the connection, and leaves told of there
    abbrev TellsOn : Type 0
    TellsOn = Tells calling.conn calling.session (stored_for (setting_of terms) calling.session result.state.core) (reached_by unanswered said) result.doings result.state.core

    -- on it what goes out is on its way to it
    follows_on : is_on_line calling ≡ true → Serves (setting_of terms) calling.conn calling.session calling.client.queue state result → TellsOn
        → IsFollowing terms (said ++ said_on calling.conn result.doings) result.state (told_as terms.layouts calling result.doings)
    follows_on on serves tells_so = record {
      session = is.session;
      layouts = is.layouts;
      front = front_more;
      off = is.off;
      comes = λ dialed. let c = is.comes dialed in record {
        read = c.read;
        left = c.left ++ said_on calling.conn result.doings;
        parts = ap (λ (l : List Response). l ++ said_on calling.conn result.doings) c.parts ∙ append_assoc c.read c.left (said_on calling.conn result.doings);
        known = c.known;
        bytes = sym (append_assoc calling.client.rest calling.coming (bytes_of terms.layouts (said_on calling.conn result.doings)))
            ∙ ap (λ (l : List ℕ). l ++ bytes_of terms.layouts (said_on calling.conn result.doings)) c.bytes
            ∙ sym (bytes_both terms.layouts c.left (said_on calling.conn result.doings));
        entries = entries_behind (responses terms.listing result.state.core.accepted calling.session) c.left (said_on calling.conn result.doings)
            (entries_stay (responses terms.listing state.core.accepted calling.session) (responses terms.listing result.state.core.accepted calling.session) c.left more c.entries) serves.entries;
        step = step_both unanswered said (said_on calling.conn result.doings) c.step tells_so.step;
        keeps_up = c.keeps_up;
      };
      served = λ still. serves.served (lasts_still still);
      told = λ still. subst (λ (r : Reached). IsTold calling.conn calling.session (stored_for (setting_of terms) calling.session result.state.core) r result.state.core)
          (sym (reached_on unanswered said (said_on calling.conn result.doings))) (tells_so.told (lasts_still still));
    }
      where
        lasts_still : (calling.client.dialed && not (is_shut calling.conn result.doings)) ≡ true → is_shut calling.conn result.doings ≡ false
        lasts_still still = not_true (is_shut calling.conn result.doings) (both_true calling.client.dialed (not (is_shut calling.conn result.doings)) still).1

    follows_by : (b : Bool) → is_on_line calling ≡ b → (is_on_line calling ≡ true → Serves (setting_of terms) calling.conn calling.session calling.client.queue state result)
        → (is_on_line calling ≡ true → TellsOn) → FollowsAs terms (said ++ cond b (said_on calling.conn result.doings) []) result.state (told_all terms.layouts (replies_in result.doings) (Some calling))
    follows_by true on serves tells_so =
        subst (FollowsAs terms (said ++ said_on calling.conn result.doings) result.state) (sym (told_on terms.layouts result.doings calling on)) (follows_on on (serves on) (tells_so on))
    follows_by false off serves tells_so =
        subst (λ (l : List Response). FollowsAs terms l result.state (told_all terms.layouts (replies_in result.doings) (Some calling))) (sym (append-nil said))
        (subst (FollowsAs terms said result.state) (sym (told_off terms.layouts (replies_in result.doings) calling off)) (follows_off off))

    pub follows_after : (is_on_line calling ≡ true → Serves (setting_of terms) calling.conn calling.session calling.client.queue state result) → (is_on_line calling ≡ true → TellsOn)
        → FollowsAs terms (said ++ said_to (Some calling) result.doings) result.state (told_all terms.layouts (replies_in result.doings) (Some calling))
    follows_after serves tells_so = follows_by (is_on_line calling) refl serves tells_so

-- nothing is told where there is no client
pub told_nobody : (layouts : List Layout) (all : List Reply) → told_all layouts all None ≡ None
told_nobody layouts [] = refl
told_nobody layouts (reply ∷ later) = told_nobody layouts later

-- an event that is elsewhere
pub elsewhere : Laws → (terms : Terms) (said : List Response) (state : State) (caller : Option Calling) (event : entry.Event) → IsTable terms.layouts → ArePaired state
    → ((calling : Calling) → caller ≡ Some calling → is_on_line calling ≡ true → IsElsewhere calling.conn event) → FollowsAs terms said state caller
    → let result = entry.happens (setting_of terms) state event in
    FollowsAs terms (said ++ said_to caller result.doings) result.state (told_all terms.layouts (replies_in result.doings) caller)
elsewhere laws terms said state None event table paired apart follows =
    let result = entry.happens (setting_of terms) state event in
    subst (FollowsAs terms (said ++ []) result.state) (sym (told_nobody terms.layouts (replies_in result.doings))) tt
elsewhere laws terms said state (Some calling) event table paired apart follows =
    let result = entry.happens (setting_of terms) state event in
    let adds = happens-adds (setting_of terms) state event in
    follows_after terms said state calling result (adds.commands, sym adds.adds.accepted) (heeds terms said state calling follows)
    serves
    (λ on. (serves on).telling (reached_by unanswered said) (paired calling.conn) (follows.told on))
  where
    serves : is_on_line calling ≡ true → Serves (setting_of terms) calling.conn calling.session calling.client.queue state (entry.happens (setting_of terms) state event)
    serves on = laws.served.others (setting_of terms) calling.conn calling.session calling.client.queue state event table (apart calling refl on) (follows.served on)

-- a client that is cut has its list, and nothing of its connection
hung : (terms : Terms) (said : List Response) (state : State) (calling : Calling) → calling.client.session ≡ calling.session → calling.client.layouts ≡ terms.layouts
    → Begins calling.client.gathered (responses terms.listing state.core.accepted calling.session) → IsFollowing terms said state (hangs_up calling)
hung terms said state calling session layouts front = record {
  session = session;
  layouts = layouts;
  front = front;
  off = λ off. refl;
  comes = λ on. absurd (let no : false ≡ true = on in cc no);
  served = λ on. absurd (let no : false ≡ true = on in cc no);
  told = λ on. absurd (let no : false ≡ true = on in cc no);
}

cut_by : (terms : Terms) (said : List Response) (state : State) (calling : Calling) (b : Bool) → IsFollowing terms said state calling
    → FollowsAs terms said state (let o : Option Calling = cond b (option_map hangs_up (Some calling)) (Some calling) in o)
cut_by terms said state calling true is = hung terms said state calling is.session is.layouts is.front
cut_by terms said state calling false is = is

cut_follows : (terms : Terms) (said : List Response) (state : State) (caller : Option Calling) (conn : ℕ) → FollowsAs terms said state caller → FollowsAs terms said state (cut_on caller conn)
cut_follows terms said state None conn is = tt
cut_follows terms said state (Some calling) conn is = cut_by terms said state calling (is_on conn calling) is

-- a client that is on no such connection
not_on : (calling : Calling) (conn : ℕ) → is_on_line calling ≡ true → is_on conn calling ≡ false → calling.conn ≢ conn
not_on calling conn on off same =
    let equal : (calling.conn == conn) ≡ true = eq-eqb calling.conn conn same in
    let yes : is_on conn calling ≡ true = ap (λ (b : Bool). b && (calling.conn == conn)) on ∙ equal in
    let no : true ≡ false = sym yes ∙ off in
    cc no

cut_apart_by : (calling now : Calling) (conn : ℕ) (b : Bool) → is_on conn calling ≡ b → (let o : Option Calling = cond b (option_map hangs_up (Some calling)) (Some calling) in o) ≡ Some now
    → is_on_line now ≡ true → now.conn ≢ conn
cut_apart_by calling now conn true is same on = absurd (let gone : hangs_up calling ≡ now = cc same in let no : false ≡ true = ap is_on_line gone ∙ on in cc no)
cut_apart_by calling now conn false is same on =
    let one : calling ≡ now = cc same in
    subst (λ (c : Calling). c.conn ≢ conn) one (not_on calling conn (ap is_on_line one ∙ on) is)

cut_apart : (caller : Option Calling) (now : Calling) (conn : ℕ) → cut_on caller conn ≡ Some now → is_on_line now ≡ true → now.conn ≢ conn
cut_apart None now conn same on = absurd (let no : None ≡ Some now = same in cc)
cut_apart (Some calling) now conn same on = cut_apart_by calling now conn (is_on conn calling) refl same on

other_apart : (caller : Option Calling) (calling : Calling) (conn : ℕ) → any_on caller conn ≡ false → caller ≡ Some calling → is_on_line calling ≡ true → calling.conn ≢ conn
other_apart caller calling conn off is on = not_on calling conn on (sym (ap (λ (c : Option Calling). any_on c conn) is) ∙ off)

-- bytes that the client sends
sends_up : Laws → (terms : Terms) (said : List Response) (state : State) (calling : Calling) (count moment : ℕ) → IsTable terms.layouts → ArePaired state → contains_key state.inputs calling.conn ≡ true
    → is_on_line calling ≡ true → IsFollowing terms said state calling
    → let result = entry.happens (setting_of terms) state (entry.Bytes calling.conn (take count calling.client.queue) moment) in
    FollowsAs terms (said ++ said_to (Some (sent_up count calling)) result.doings) result.state (told_all terms.layouts (replies_in result.doings) (Some (sent_up count calling)))
sends_up laws terms said state calling count moment table paired open_is on is =
    let event = entry.Bytes calling.conn (take count calling.client.queue) moment in
    let result = entry.happens (setting_of terms) state event in
    let adds = happens-adds (setting_of terms) state event in
    let queue = calling.client.queue in
    let served : IsServed (setting_of terms) calling.conn calling.session (take count queue ++ drop count queue) state =
    subst (λ (q : List ℕ). IsServed (setting_of terms) calling.conn calling.session q state) (sym (take-append-drop count queue)) (is.served on) in
    let serves = laws.served.own (setting_of terms) calling.conn calling.session (take count queue) (drop count queue) moment state table open_is served in
    follows_after terms said state (sent_up count calling) result (adds.commands, sym adds.adds.accepted)
    (record {
      session = is.session;
      layouts = is.layouts;
      front = is.front;
      off = is.off;
      comes = λ dialed.
          let c = is.comes dialed in record { read = c.read; left = c.left; parts = c.parts; known = c.known; bytes = c.bytes; entries = c.entries; step = c.step; keeps_up = c.keeps_up };
    })
    (λ _. serves)
    (λ _. serves.telling (reached_by unanswered said) (paired calling.conn) (is.told on))

-- the last answer of what was read
known_on : (xs ys : List Response) (known : Option ℕ) → last_known (xs ++ ys) known ≡ last_known ys (last_known xs known)
known_on [] ys known = refl
known_on (response.Kept number what ∷ xs) ys known = known_on xs ys known
known_on (response.Logon seq heart ∷ xs) ys known = known_on xs ys known
known_on (response.Logout seq ∷ xs) ys known = known_on xs ys known
known_on (response.Beat ∷ xs) ys known = known_on xs ys known
known_on (response.Reject seq reason ∷ xs) ys known = known_on xs ys known
known_on (response.Resent seq count last now ∷ xs) ys known = known_on xs ys (Some now)

said_left : (layouts : List Layout) (said read left : List Response) → said ≡ read ++ left → AreSaid layouts said → AreSaid layouts left
said_left layouts said read left parts are = (said_first layouts read left (subst (AreSaid layouts) parts are)).1

-- bytes that come down
module _ (laws : Laws) (terms : Terms) (said : List Response) (state : State) (calling : Calling) (count : ℕ) (table : IsTable terms.layouts) (is : IsFollowing terms said state calling)
    (fine : AreSaid terms.layouts said) where
  abbrev bytes : List ℕ
  bytes = take count calling.coming

  abbrev later : Calling
  later = record calling { coming = drop count calling.coming }

  heard_follows : calling.client.dialed ≡ true → (misfit : Option ℕ) → (heard calling.client bytes).misfit ≡ misfit
      → IsSoundCalling (cond (is_some misfit) (hangs_up (record later { client = (heard calling.client bytes).client })) (record later { client = (heard calling.client bytes).client }))
      → IsFollowing terms said state (cond (is_some misfit) (hangs_up (record later { client = (heard calling.client bytes).client })) (record later { client = (heard calling.client bytes).client }))
  heard_follows dialed misfit was sound =
      let c = is.comes dialed in
      let stored = responses terms.listing state.core.accepted calling.session in
      let whole : calling.client.rest ++ (bytes ++ drop count calling.coming) ≡ bytes_of terms.layouts c.left =
      ap (λ (l : List ℕ). calling.client.rest ++ l) (take-append-drop count calling.coming) ∙ c.bytes in
      let comes = laws.comes terms.layouts stored calling.client bytes (drop count calling.coming) c.left table is.layouts whole c.entries (said_left terms.layouts said c.read c.left c.parts fine) is.front in
      let asks = laws.asks calling.client bytes in
      by misfit was sound c comes asks
    where
      new : Recovery
      new = (heard calling.client bytes).client

      by : (misfit : Option ℕ) → (heard calling.client bytes).misfit ≡ misfit
          → IsSoundCalling (cond (is_some misfit) (hangs_up (record later { client = new })) (record later { client = new }))
          → (c : IsComing terms said state calling)
          → Comes terms.layouts (responses terms.listing state.core.accepted calling.session) calling.client bytes (drop count calling.coming) c.left
          → Queues calling.client new
          → IsFollowing terms said state (cond (is_some misfit) (hangs_up (record later { client = new })) (record later { client = new }))
      by (Some place) was sound c comes asks = hung terms said state (record later { client = new }) (asks.session ∙ is.session) (asks.layouts ∙ is.layouts) comes.front
      by None was sound c comes asks = record {
        session = asks.session ∙ is.session;
        layouts = asks.layouts ∙ is.layouts;
        front = comes.front;
        off = λ off. absurd (let no : true ≡ false = sym dialed ∙ sym asks.dialed ∙ off in cc no);
        comes = λ on. record {
          read = c.read ++ comes.read;
          left = comes.later;
          parts = c.parts ∙ ap (λ (l : List Response). c.read ++ l) comes.parts ∙ sym (append_assoc c.read comes.read comes.later);
          known = comes.known ∙ ap (last_known comes.read) c.known ∙ sym (known_on c.read comes.read None);
          bytes = comes.rest was;
          entries = (entries_first (responses terms.listing state.core.accepted calling.session) comes.read comes.later
              (subst (AreEntries (responses terms.listing state.core.accepted calling.session)) comes.parts c.entries)).1;
          step = c.step;
          keeps_up = subst (λ (r : Reached). KeepsUp r (known_by new) (length new.gathered)) (sym (reached_on unanswered c.read comes.read))
              (comes.keeps_up (reached_by unanswered c.read) (step_first unanswered c.read c.left (subst (AreInStep unanswered) c.parts c.step)).1 c.keeps_up);
        };
        told = λ on. is.told (ap (λ (b : Bool). b && calling.lasts) dialed ∙ (both_true new.dialed calling.lasts on).1);
        served = λ on.
            let lasts = (both_true new.dialed calling.lasts on).1 in
            let before = is.served (ap (λ (b : Bool). b && calling.lasts) dialed ∙ lasts) in
            let numbers = sound.sound.numbers in
            let made = sound.sound.made in
            let few = sound.sound.few in
            let bound : new.next ≤ 4_294_967_295 = omega (arith, numbers, made, few) in
            record {
              own = before.own;
              shut = before.shut;
              asked = asked_more terms.layouts calling.session (untreated_at (get state.inputs calling.conn)) calling.client.queue new.queue asks.asked before.asked
                  (resends_made calling.session new.next (length new.gathered) asks.asked bound sound.few asks.each)
                  (asks.queue ∙ ap (λ (l : List Layout). calling.client.queue ++ concat (map (request_bytes l) asks.asked)) is.layouts);
            };
      }

  pub down_follows : (b : Bool) → calling.client.dialed ≡ b
      → IsSoundCalling (cond b (heard_so later (heard calling.client bytes)) calling)
      → IsFollowing terms said state (cond b (heard_so later (heard calling.client bytes)) calling)
  down_follows true dialed sound = heard_follows dialed (heard calling.client bytes).misfit refl sound
  down_follows false dialed sound = is

-- what is owed of a step: the client follows in the world that it leads to
abbrev pub Then : Terms → World → Type 0
Then terms after = AreSaid terms.layouts after.said → IsSoundCaller after.caller → Follows terms after

module _ (laws : Laws) (terms : Terms) (table : IsTable terms.layouts) where
  entered_follows : (world : World) (event : entry.Event) → ArePaired world.state → ((calling : Calling) → world.caller ≡ Some calling → is_on_line calling ≡ true → IsElsewhere calling.conn event) → Follows terms world
      → IfGoes (entered terms world event) (Then terms)
  entered_follows world event paired apart follows = λ fine sound. elsewhere laws terms world.said world.state world.caller event table paired apart follows

  open_follows : (world : World) (event : entry.Event) (b : Bool) → ArePaired world.state → ((calling : Calling) → world.caller ≡ Some calling → is_on_line calling ≡ true → IsElsewhere calling.conn event) → Follows terms world
      → IfGoes (on_open terms world event b) (Then terms)
  open_follows world event true paired apart follows = entered_follows world event paired apart follows
  open_follows world event false paired apart follows = tt

  opening_follows : (world : World) (conn : ℕ) (b : Bool) → ArePaired world.state → Follows terms world → IfGoes (opening terms world conn b) (Then terms)
  opening_follows world conn true paired follows = tt
  opening_follows world conn false paired follows = entered_follows world (entry.Opened conn) paired (λ calling is on. tt) follows

  delivering_follows : (world : World) (feed : Feed) (found : Option (List ℕ)) → Follows terms world → IfGoes (delivering terms world feed found) (Then terms)
  delivering_follows world feed (Some bytes) follows = λ fine sound. follows
  delivering_follows world feed None follows = tt

  -- a client that dials
  dialed_one : (said : List Response) (state : State) (calling : Calling) (conn session : ℕ) → calling.client.session ≡ session → calling.session ≡ session → calling.client.layouts ≡ terms.layouts
      → Begins calling.client.gathered (responses terms.listing state.core.accepted calling.session) → get state.inputs conn ≡ None → line_of state.core conn ≡ None → session ≤ 4_000_000_000
      → IsFollowing terms [] state (dials conn calling)
  dialed_one said state calling conn session own name layouts front came line most = record {
    session = own ∙ sym name;
    layouts = layouts;
    front = front;
    off = λ off. absurd (let no : true ≡ false = off in cc no);
    comes = λ on. record { read = []; left = []; parts = refl; known = refl; bytes = refl; entries = tt; step = tt; keeps_up = refl };
    told = λ on. record {
      sole = λ here. absurd (let no : None ≡ Some calling.session = sym (ap session_at line) ∙ here in cc no);
      all = λ count is. absurd (let no : None ≡ Some count = is in cc no);
    };
    served = λ on. record {
      own = subst (λ (l : Option Line). IsFor calling.session (session_at l)) (sym line) tt;
      shut = λ none. came;
      asked = subst (λ (i : Option Input). AreAsked terms.layouts calling.session (untreated_at i ++ request_bytes calling.client.layouts (request.Logon 1 30_000 calling.client.session))) (sym came)
          (subst (λ (l : List Layout). AreAsked terms.layouts calling.session (request_bytes l (request.Logon 1 30_000 calling.client.session))) (sym layouts)
          (subst (λ (n : ℕ). AreAsked terms.layouts calling.session (request_bytes terms.layouts (request.Logon 1 30_000 n))) (sym (own ∙ sym name))
          (record {
            requests = request.Logon 1 30_000 calling.session ∷ [];
            whole = sym (append-nil (request_bytes terms.layouts (request.Logon 1 30_000 calling.session)));
            made = (logon_made calling.session (subst (λ (n : ℕ). n ≤ 4_000_000_000) (sym name) most), tt);
          })));
    };
  }

  dialed_any : (said : List Response) (state : State) (caller : Option Calling) (conn session : ℕ) → FollowsAs terms said state caller → is_for session caller ≡ true
      → get state.inputs conn ≡ None → line_of state.core conn ≡ None → session ≤ 4_000_000_000 → IsFollowing terms [] state (dials conn (client_for terms.layouts session caller))
  dialed_any said state None conn session follows own came line most =
      dialed_one said state (new_calling terms.layouts session) conn session refl refl refl (responses terms.listing state.core.accepted session, refl) came line most
  dialed_any said state (Some calling) conn session follows own came line most =
      let name = eqb-true calling.session session own in
      dialed_one said state calling conn session (follows.session ∙ name) name follows.layouts follows.front came line most

  either_false : (a b : Bool) → (a || b) ≡ false → a ≡ false
  either_false true b is = is
  either_false false b is = refl

  none_of : (o : Option Input) → is_some o ≡ false → o ≡ None
  none_of None is = refl
  none_of (Some input) is = absurd (cc)

  dialing_follows : (world : World) (conn session : ℕ) → ArePaired world.state → session ≤ 4_000_000_000 → Follows terms world → IfGoes (dialing terms world conn session) (Then terms)
  dialing_follows world conn session paired most follows =
      if_test (contains_key world.state.inputs conn || any_on_line world.caller) (connection_fault world) _ (Then terms) (λ _. tt) (λ shut.
      if_test (is_for session world.caller) _ (client_fault world) (Then terms) (λ own.
      let came = none_of (get world.state.inputs conn) (either_false (contains_key world.state.inputs conn) (any_on_line world.caller) shut) in
      entered_follows (record world { caller = Some (dials conn (client_for terms.layouts session world.caller)); said = [] }) (entry.Opened conn) paired (λ calling is on. tt)
      (dialed_any world.said world.state world.caller conn session follows own came (paired conn came) most))
      (λ _. tt))

  -- an order
  ordered_follows : (said : List Response) (state : State) (calling : Calling) (security : ℤ) (side : Side) (price : ℤ) (quantity client : ℕ) → IsFormed (kind.Order security side price quantity client)
      → IsFollowing terms said state calling
      → IsSoundCalling (record calling { client = making calling.client (request.New calling.client.next security (side_number side) price (pos quantity) client) })
      → IsFollowing terms said state (record calling { client = making calling.client (request.New calling.client.next security (side_number side) price (pos quantity) client) })
  ordered_follows said state calling security side price quantity client formed is sound =
      let asked = request.New calling.client.next security (side_number side) price (pos quantity) client in
      let numbers = sound.sound.numbers in
      let made = sound.sound.made in
      let few = sound.sound.few in
      let bound : calling.client.next < 4_294_967_295 = omega (arith, numbers, made, few) in
      record {
        session = is.session;
        layouts = is.layouts;
        front = is.front;
        off = is.off;
        comes = λ on. let c = is.comes on in record { read = c.read; left = c.left; parts = c.parts; known = c.known; bytes = c.bytes; entries = c.entries; step = c.step; keeps_up = c.keeps_up };
        told = is.told;
        served = λ on. let before = is.served on in record {
          own = before.own;
          shut = before.shut;
          asked = asked_more terms.layouts calling.session (untreated_at (get state.inputs calling.conn)) calling.client.queue (calling.client.queue ++ request_bytes calling.client.layouts asked) (asked ∷ []) before.asked
              (order_made calling.session calling.client.next security side price quantity client bound formed.0 formed.1 formed.3.0 formed.3.1 formed.4 formed.2, tt)
              (ap (λ (l : List Layout). calling.client.queue ++ request_bytes l asked) is.layouts
              ∙ ap (λ (q : List ℕ). calling.client.queue ++ q) (sym (append-nil (request_bytes terms.layouts asked))));
        };
      }

  ordering_follows : (world : World) (caller : Option Calling) (security : ℤ) (side : Side) (price : ℤ) (quantity client : ℕ) → IsFormed (kind.Order security side price quantity client)
      → FollowsAs terms world.said world.state caller
      → IfGoes (ordering world (λ number. request.New number security (side_number side) price (pos quantity) client) caller) (Then terms)
  ordering_follows world None security side price quantity client formed follows = tt
  ordering_follows world (Some calling) security side price quantity client formed follows =
      if_test calling.client.logged_on _ (client_fault world) (Then terms) (λ _. λ fine sound. ordered_follows world.said world.state calling security side price quantity client formed follows sound) (λ _. tt)

  -- bytes that go up, and that come down
  up_follows : (world : World) (count : Option ℕ) (caller : Option Calling) → ArePaired world.state → FollowsAs terms world.said world.state caller → IfGoes (going_up terms world count caller) (Then terms)
  up_follows world count None paired follows = tt
  up_follows world count (Some calling) paired follows =
      let n = unwrap_or count (length calling.client.queue) in
      if_test (is_on_line calling && contains_key world.state.inputs calling.conn) _ (connection_fault world) (Then terms) (λ on.
      let both = both_true (is_on_line calling) (contains_key world.state.inputs calling.conn) on in
      if_test (nat_lt (length calling.client.queue) n) (bytes_fault world) _ (Then terms) (λ _. tt)
      (λ _. λ fine sound. sends_up laws terms world.said world.state calling n world.moment table paired both.1 both.0 follows))
      (λ _. tt)

  down_goes : (world : World) (count : Option ℕ) (caller : Option Calling) → FollowsAs terms world.said world.state caller → IfGoes (going_down world count caller) (Then terms)
  down_goes world count None follows = tt
  down_goes world count (Some calling) follows =
      let n = unwrap_or count (length calling.coming) in
      if_test (is_too_much n calling) (bytes_fault world) _ (Then terms) (λ _. tt)
      (λ _. λ fine sound. down_follows laws terms world.said world.state calling n table follows fine calling.client.dialed refl sound)

  listing_follows : (world : World) (caller : Option Calling) → Follows terms world → IfGoes (reporting terms world caller) (Then terms)
  listing_follows world None follows = tt
  listing_follows world (Some calling) follows = λ fine sound. follows

  -- each event
  event_follows : (world : World) (event : Event) → ArePaired world.state → IsFormed event → Follows terms world → IfGoes (done_by terms world event) (Then terms)
  event_follows world kind.Raw paired formed follows = λ fine sound. follows
  event_follows world (kind.Opens conn) paired formed follows = opening_follows world conn (contains_key world.state.inputs conn) paired follows
  event_follows world (kind.Input conn bytes) paired formed follows =
      if_test (any_on world.caller conn) (connection_fault world) _ (Then terms) (λ _. tt) (λ off.
      open_follows world (entry.Bytes conn bytes world.moment) (contains_key world.state.inputs conn) paired (λ calling is on. other_apart world.caller calling conn off is on) follows)
  event_follows world (kind.Cut conn) paired formed follows =
      open_follows (record world { caller = cut_on world.caller conn }) (entry.Closed conn) (contains_key world.state.inputs conn) paired
      (λ calling is on. cut_apart world.caller calling conn is on) (cut_follows terms world.said world.state world.caller conn follows)
  event_follows world (kind.Tick moment) paired formed follows = entered_follows (record world { moment = moment }) (entry.Tick moment) paired (λ calling is on. tt) follows
  event_follows world (kind.Clear security) paired formed follows =
      if_test (nat_lt (length world.state.core.accepted) 200_000) _ _ (Then terms)
      (λ _. entered_follows world (entry.Clear security world.moment) paired (λ calling is on. tt) follows) (λ _. λ fine sound. follows)
  event_follows world kind.Beat paired formed follows = λ fine sound. follows
  event_follows world kind.Snap paired formed follows = λ fine sound. follows
  event_follows world (kind.Deliver feed number) paired formed follows = delivering_follows world feed (at_number (sent_on terms world.acts (channel_of feed)) number) follows
  event_follows world (kind.Forge feed bytes) paired formed follows = λ fine sound. follows
  event_follows world kind.Show paired formed follows = λ fine sound. follows
  event_follows world (kind.Dial conn session) paired formed follows = dialing_follows world conn session paired formed.1 follows
  event_follows world (kind.Order security side price quantity client) paired formed follows = ordering_follows world world.caller security side price quantity client formed follows
  event_follows world (kind.Up count) paired formed follows = up_follows world count world.caller paired follows
  event_follows world (kind.Down count) paired formed follows = down_goes world count world.caller follows
  event_follows world kind.List paired formed follows = listing_follows world world.caller follows

  read_follows : (world : World) (line : List ℕ) (setting : Reading) (read : Result Event LineRefusal) → event_of setting line ≡ read → ArePaired world.state → Follows terms world
      → IfGoes (read_as terms world read) (Then terms)
  read_follows world line setting (Ok event) is paired follows = event_follows world event paired (formed setting line event is) follows
  read_follows world line setting (Err why) is paired follows = tt

-- each line
pub follow_step : Laws → (terms : Terms) (world : World) (line : List ℕ) → IsTable terms.layouts → ArePaired world.state → Follows terms world
    → IfGoes (step_at terms world line) (λ after. AreSaid terms.layouts after.said → IsSoundCaller after.caller → Follows terms after)
follow_step laws terms world line table paired follows =
    let next = on_next_line world in
    let setting : Reading = record { listing = terms.listing; moment = world.moment } in
    if_test (nat_lt 200_000 next.row) (Stops (Script next.row Long)) (done_read terms next line) (Then terms) (λ _. tt)
    (λ _. read_follows laws terms table next line setting (event_of setting line) refl paired follows)
