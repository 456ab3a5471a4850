-- The day of an exchange after its calls.
use Rattle.std.proofs.Common.{◌≡◌, ◌≢◌, ℕ, ◌<◌, Bool, true, false, not, cond, ◌&&◌, ◌||◌, List, [], ◌∷◌, ◌++◌, length, take, max, Option, Some, None, is_some, Result, Ok, Err, refl, sym, ap, ◌∙◌, subst, arith}
use Rattle.std.specs.Prelude.{MatchBool, OnErr, OnOk, nat_le}
use Rattle.std.specs.Option.{option_map, option_map_or}
use Rattle.std.proofs.lemmas.Bool.{lt-leb}
use Rattle.std.proofs.lemmas.List.{append-nil}
use Rattle.t7_layout.specs.Layouts.{Layout}
use Rattle.t7_frames.specs.Frames.{Front, whole, not_yet, bad_length, front_of}
use Rattle.t7_eti.specs.declared.reason.Reason.{Reason}
use Rattle.t7_eti.specs.declared.reason.Reason.TheVariants.{BadLength, SeqNum, NotLoggedOn, AlreadyLoggedOn}
use Rattle.t7_eti.specs.declared.request.Request.{Request}
use Rattle.t7_eti.specs.Requests.{request_number}
use Rattle.t7_book.specs.declared.command.Command.{Command}
use Rattle.t7_session.specs.declared.session.Step.{Step}
use Rattle.t7_session.specs.declared.session.Step.TheVariants as step
use Rattle.t7_session.specs.Asked.{asked_of}
use Rattle.t7_session.specs.Held.{Held, opened}
use Rattle.t7_session.specs.Steps.{asked_in, has_number, is_logon, session_step, step_at, step_by, step_of, wanted_number}
use Rattle.t7_entry.specs.ByNumber.{Rises, contains_key, get, insert, keys, len, remove}
use Rattle.t7_entry.specs.State.{Setting, State, line_of}
use Rattle.t7_entry.specs.Days.{Day, day_after, went_on}
use Rattle.t7_entry.specs.Events.{Closed, Opened, Tick, settled_each, tick_each, unchanged}
use Rattle.t7_entry.specs.Stalls.{IsOpen, IsShut, front_treated, input_of, opens, taken, taken_at, untreated_at, untreated_of}
use Rattle.t7_entry.proofs.Numbers.{get-insert-same}
use Rattle.t7_exchange.specs.Maps.{changed, fed, input_part, inputs_of, line_part, lines_of}
use Rattle.t7_exchange.specs.Outbox.{Outbox}
use Rattle.t7_exchange.specs.Paired.{ArePaired}
use Rattle.t7_exchange.specs.Views.{day_of, state_of}
use Rattle.t7_exchange.specs.Wires.{Acts, Wires, core_of}
use Rattle.t7_exchange.proofs.MapFacts.{get-parts, parts-insert, parts-kept, parts-remove}
use Rattle.t7_exchange.proofs.ServeFacts.{changed_there}
use Rattle.t7_exchange.proofs.ShrinkFacts.{front_shrinks, step_stands}

module _ (setting : Setting) (accepted : List Command) (out : Outbox) where
  -- a connection is open or it isn't
  pub open_or_shut : (w : Wires) (conn : ℕ) → MatchBool (contains_key w.held conn) (IsOpen (day_of setting accepted w out) conn) (IsShut (day_of setting accepted w out) conn)
  open_or_shut w conn = by_value (get w.held conn) refl
    where
      by_value : (o : Option Held) → get w.held conn ≡ o → MatchBool (is_some o) (IsOpen (day_of setting accepted w out) conn) (IsShut (day_of setting accepted w out) conn)
      by_value None is = record { line = get-parts line_part w.held conn ∙ ap (option_map line_part) is; input = get-parts input_part w.held conn ∙ ap (option_map input_part) is }
      by_value (Some h) is = opens (line_part h) (input_part h) (get-parts line_part w.held conn ∙ ap (option_map line_part) is) (get-parts input_part w.held conn ∙ ap (option_map input_part) is)

  -- one on which nothing may come has no line
  pub paired : (w : Wires) → ArePaired (state_of accepted w)
  paired w conn none = by_value (get w.held conn) refl
    where
      by_value : (o : Option Held) → get w.held conn ≡ o → line_of (core_of accepted w.held) conn ≡ None
      by_value None is = get-parts line_part w.held conn ∙ ap (option_map line_part) is
      by_value (Some h) is = absurd (let e : None ≡ Some (input_part h) = sym none ∙ get-parts input_part w.held conn ∙ ap (option_map input_part) is in cc)

  -- what an open connection holds
  pub open_held : (w : Wires) (conn : ℕ) → IsOpen (day_of setting accepted w out) conn → (h : Held) × (get w.held conn ≡ Some h)
  open_held w conn (opens line input here came) = by_value (get w.held conn) refl
    where
      by_value : (o : Option Held) → get w.held conn ≡ o → (h : Held) × (get w.held conn ≡ Some h)
      by_value (Some h) is = (h, is)
      by_value None is = absurd (let e : None ≡ Some input = sym (get-parts input_part w.held conn ∙ ap (option_map input_part) is) ∙ came in cc)

  pub held_open : (w : Wires) (conn : ℕ) (h : Held) → get w.held conn ≡ Some h → IsOpen (day_of setting accepted w out) conn
  held_open w conn h is = opens (line_part h) (input_part h) (get-parts line_part w.held conn ∙ ap (option_map line_part) is) (get-parts input_part w.held conn ∙ ap (option_map input_part) is)

  pub input_held : (w : Wires) (conn : ℕ) (h : Held) → get w.held conn ≡ Some h → input_of (day_of setting accepted w out) conn ≡ Some (input_part h)
  input_held w conn h is = get-parts input_part w.held conn ∙ ap (option_map input_part) is

  pub untreated_held : (w : Wires) (conn : ℕ) (h : Held) → get w.held conn ≡ Some h → untreated_of (day_of setting accepted w out) conn ≡ h.untreated
  untreated_held w conn h is = ap untreated_at (input_held w conn h is)

  -- the same connections and replies are the same day
  pub same_day : (w new : Wires) → new.held ≡ w.held → new.waiting ≡ w.waiting → day_of setting accepted new out ≡ day_of setting accepted w out
  same_day w new held waiting = λ i. record { setting = setting; state = record { core = core_of accepted (held i); inputs = inputs_of (held i) }; waiting = waiting i; untold = out.untold; live = out.live; beats = out.beats; left = out.cycle.left; snaps = out.snaps }

  -- so is a change that neither part sees
  pub unseen_day : (w : Wires) (conn : ℕ) (f : Held → Held) → Rises w.held → ((h : Held) → line_part (f h) ≡ line_part h) → ((h : Held) → input_part (f h) ≡ input_part h)
      → (new : Wires) → new ≡ record w { held = changed w.held conn f } → day_of setting accepted new out ≡ day_of setting accepted w out
  unseen_day w conn f rises line input new is =
      ap (λ (x : Wires). day_of setting accepted x out) is
      ∙ (λ i. record {
        setting = setting;
        state = record { core = record { accepted = accepted; lines = parts-kept line_part w.held conn f rises line i }; inputs = parts-kept input_part w.held conn f rises input i };
        waiting = w.waiting;
        untold = out.untold;
        live = out.live;
        beats = out.beats;
        left = out.cycle.left;
        snaps = out.snaps;
      })

  -- bytes are taken
  pub taken_day : (w new : Wires) (moment conn count : ℕ) (bytes : List ℕ) (h : Held) → Rises w.held → get w.held conn ≡ Some h → 0 < length bytes
      → new ≡ record w { held = changed w.held conn (fed bytes count moment) } → day_of setting accepted new out ≡ taken moment conn (take count bytes) (day_of setting accepted w out)
  taken_day w new moment conn count bytes h rises there some is =
      ap (λ (x : Wires). day_of setting accepted x out) is
      ∙ (λ i. record {
        setting = setting;
        state = record {
          core = record { accepted = accepted; lines = parts-kept line_part w.held conn (fed bytes count moment) rises (λ g. refl) i };
          inputs = (ap inputs_of (changed_there w.held conn (fed bytes count moment) h there) ∙ parts-insert input_part w.held conn (fed bytes count moment h) ∙ ap (insert (inputs_of w.held) conn) (came bytes some)) i;
        };
        waiting = w.waiting;
        untold = out.untold;
        live = out.live;
        beats = out.beats;
        left = out.cycle.left;
        snaps = out.snaps;
      })
      ∙ sym (ap (taken_at moment conn (take count bytes) (day_of setting accepted w out)) (input_held w conn h there))
    where
      came : (b : List ℕ) → 0 < length b → input_part (fed b count moment h) ≡ record { untreated = h.untreated ++ take count b; received = max h.received moment }
      came [] some = absurd (omega arith)
      came (x ∷ b) some = refl

  -- nothing but the state is changed
  pub went_quiet : (w : Wires) (state : State) → went_on (day_of setting accepted w out) (unchanged state) ≡ record (day_of setting accepted w out) { state = state }
  went_quiet w state = λ i. record (day_of setting accepted w out) { state = state; waiting = append-nil w.waiting i; untold = append-nil out.untold i }

  pub closed_day : (w new : Wires) (conn : ℕ) → new ≡ record w { held = remove w.held conn } → day_of setting accepted new out ≡ day_after (day_of setting accepted w out) (Closed conn)
  closed_day w new conn is =
      ap (λ (x : Wires). day_of setting accepted x out) is
      ∙ (λ i. record (day_of setting accepted w out) { state = record { core = record { accepted = accepted; lines = parts-remove line_part w.held conn i }; inputs = parts-remove input_part w.held conn i } })
      ∙ sym (went_quiet w (record { core = record { accepted = accepted; lines = remove (lines_of w.held) conn }; inputs = remove (inputs_of w.held) conn }))

  pub opened_day : (w new : Wires) (conn : ℕ) → IsShut (day_of setting accepted w out) conn → len (inputs_of w.held) < 1024 → new ≡ record w { held = insert w.held conn opened }
      → day_of setting accepted new out ≡ day_after (day_of setting accepted w out) (Opened conn)
  opened_day w new conn shut few is =
      let state : State = record { core = record { accepted = accepted; lines = insert (lines_of w.held) conn (line_part opened) }; inputs = insert (inputs_of w.held) conn (input_part opened) } in
      let none : contains_key (inputs_of w.held) conn ≡ false = ap is_some shut.input in
      let open_still : nat_le 1024 (len (inputs_of w.held)) ≡ false = fewer (len (inputs_of w.held)) few in
      ap (λ (x : Wires). day_of setting accepted x out) is
      ∙ (λ i. record (day_of setting accepted w out) { state = record { core = record { accepted = accepted; lines = parts-insert line_part w.held conn opened i }; inputs = parts-insert input_part w.held conn opened i } })
      ∙ sym (went_quiet w state)
      ∙ sym (ap (λ b. went_on (day_of setting accepted w out) (cond (b || nat_le 1024 (len (inputs_of w.held))) (unchanged (state_of accepted w)) (unchanged state))) none
      ∙ ap (λ b. went_on (day_of setting accepted w out) (cond b (unchanged (state_of accepted w)) (unchanged state))) open_still)
    where
      fewer : (n : ℕ) → n < 1024 → nat_le 1024 n ≡ false
      fewer n less = lt-leb 1024 n less

  pub ticked_day : (w new : Wires) (moment : ℕ) → Acts accepted w new (tick_each moment (inputs_of w.held) (keys (inputs_of w.held)))
      → inputs_of new.held ≡ settled_each (keys (inputs_of w.held)) (inputs_of w.held) (core_of accepted new.held)
      → day_of setting accepted new out ≡ day_after (day_of setting accepted w out) (Tick moment)
  ticked_day w new moment acts inputs = λ i. record {
    setting = setting;
    state = record { core = acts.core i; inputs = (inputs ∙ ap (settled_each (keys (inputs_of w.held)) (inputs_of w.held)) acts.core) i };
    waiting = acts.replied i;
    untold = sym (ap (λ ts. out.untold ++ ts) acts.silent ∙ append-nil out.untold) i;
    live = out.live;
    beats = out.beats;
    left = out.cycle.left;
    snaps = out.snaps;
  }

-- a step that asks was allowed by the session
past : (b : Bool) (seq : Option ℕ) (why : Reason) (rest : Step) (r : Request) → cond b (step.Refuse seq why) rest ≡ step.Ask r → (b ≡ false) × (rest ≡ step.Ask r)
past true seq why rest r is = absurd (let e : step.Refuse seq why ≡ step.Ask r = is in cc)
past false seq why rest r is = (refl, is)

fits_session : (logs_on has : Bool) → (logs_on && has) ≡ false → (not logs_on && not has) ≡ false → has ≡ not logs_on
fits_session true true a b = absurd (let e : true ≡ false = a in cc)
fits_session true false a b = refl
fits_session false true a b = refl
fits_session false false a b = absurd (let e : true ≡ false = b in cc)

asked_session : (session : Option ℕ) (next : ℕ) (q r : Request) → session_step session next q ≡ step.Ask r → is_some session ≡ not (is_logon r)
asked_session session next q r is =
    let a = past (is_logon q && is_some session) (request_number q) AlreadyLoggedOn _ r is in
    let b = past (not (is_logon q) && not (is_some session)) (request_number q) NotLoggedOn _ r a.1 in
    let d = past (not (has_number (wanted_number next q) (request_number q))) (request_number q) SeqNum _ r b.1 in
    let same : q ≡ r = (let e : step.Ask q ≡ step.Ask r = d.1 in cc) in
    fits_session (is_logon q) (is_some session) a.0 b.0 ∙ ap (λ (x : Request). not (is_logon x)) same

not_refused : (seq : Option ℕ) (why : Reason) (r : Request) → step.Refuse seq why ≡ step.Ask r → ⊥
not_refused seq why r is = cc

pub ask_session : (layouts : List Layout) (h : Held) (r : Request) → step_of layouts h ≡ step.Ask r → is_some h.session ≡ not (is_logon r)
ask_session layouts h r is = by_front (front_of h.untreated) is
  where
    by_front : (f : Front) → step_at layouts h f ≡ step.Ask r → is_some h.session ≡ not (is_logon r)
    by_front (whole frame) is = (elim (asked_of layouts frame) as (λ x. step_by h.session h.next x ≡ step.Ask r → is_some h.session ≡ not (is_logon r)) [
      | Ok q ↦ λ e. asked_session h.session h.next q r e
      | Err refusal ↦ λ e. absurd (not_refused _ _ r e)
    ]) is
    by_front (bad_length n) is = absurd (let e : step.Refuse None BadLength ≡ step.Ask r = is in cc)
    by_front not_yet is = absurd (let e : step.NotYet ≡ step.Ask r = is in cc)

-- by what a call answered
pub by_result : {T E : Type 0} {A B P : Type 0} (r : Result T E) → (A → P) → (B → P) → OnOk r A → OnErr r B → P
by_result (Ok x) f g a b = f a
by_result (Err e) f g a b = g b

pub both_ok : {T E : Type 0} {A B P : Type 0} (r : Result T E) → (A → B → P) → OnOk r A → OnOk r B → OnOk r P
both_ok (Ok x) f a b = f a b
both_ok (Err e) f a b = tt

-- what a step of an open connection leaves
pub record Stepped (setting : Setting) (accepted : List Command) (out : Outbox) (w0 w : Wires) (conn : ℕ) (s : Step) : Type 0 where
  pub h : Held
  pub there : get w0.held conn ≡ Some h
  pub now : get w.held conn ≡ Some (record h { asked = asked_in s })
  pub is : step_of setting.layouts h ≡ s
  pub day : day_of setting accepted w out ≡ day_of setting accepted w0 out

pub was_stepped : (setting : Setting) (accepted : List Command) (out : Outbox) (w0 w : Wires) (conn : ℕ) (s : Step) → IsOpen (day_of setting accepted w0 out) conn → Rises w0.held
    → s ≡ option_map_or (step_of setting.layouts) (get w0.held conn) step.NotYet → w ≡ record w0 { held = changed w0.held conn (λ h. record h { asked = asked_in s }) }
    → Stepped setting accepted out w0 w conn s
was_stepped setting accepted out w0 w conn s open_still rises is asks =
    let there = open_held setting accepted out w0 conn open_still in
    let f : Held → Held = λ h. record h { asked = asked_in s } in
    record {
      h = there.0;
      there = there.1;
      now = ap (λ (x : Wires). get x.held conn) asks ∙ ap (λ m. get m conn) (changed_there w0.held conn f there.0 there.1) ∙ get-insert-same w0.held conn (f there.0);
      is = sym (is ∙ ap (λ o. option_map_or (step_of setting.layouts) o step.NotYet) there.1);
      day = unseen_day setting accepted out w0 conn f rises (λ h. refl) (λ h. refl) w asks;
    }

-- fewer bytes are untreated
pub treats_shrink : (setting : Setting) (accepted : List Command) (out : Outbox) (w0 : Wires) (old now : Day) (moment conn : ℕ) (h : Held) (s : Step) → day_of setting accepted w0 out ≡ old → get w0.held conn ≡ Some h
    → step_of setting.layouts h ≡ s → (s ≡ step.NotYet → ⊥) → now ≡ front_treated moment conn old → length (untreated_of now conn) < length (untreated_of old conn)
treats_shrink setting accepted out w0 old now moment conn h s day there is other treated =
    let got : input_of old conn ≡ Some (input_part h) = ap (λ (d : Day). input_of d conn) (sym day) ∙ input_held setting accepted out w0 conn h there in
    subst (λ (d : Day). length (untreated_of d conn) < length (untreated_of old conn)) (sym treated) (front_shrinks old moment conn (input_part h) got (step_stands setting.layouts h s is other))

-- something stands at the front
pub old_stands : (setting : Setting) (accepted : List Command) (out : Outbox) (w0 : Wires) (old : Day) (conn : ℕ) (h : Held) (s : Step) → day_of setting accepted w0 out ≡ old → get w0.held conn ≡ Some h
    → step_of setting.layouts h ≡ s → (s ≡ step.NotYet → ⊥) → front_of (untreated_of old conn) ≢ not_yet
old_stands setting accepted out w0 old conn h s day there is other =
    λ none. step_stands setting.layouts h s is other (ap front_of (sym (untreated_held setting accepted out w0 conn h there)) ∙ ap (λ (d : Day). front_of (untreated_of d conn)) day ∙ none)

-- what holds anyway
pub on_err : {T E : Type 0} {A : Type 0} (r : Result T E) → A → OnErr r A
on_err (Ok x) a = tt
on_err (Err e) a = a
