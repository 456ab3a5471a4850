-- The client's events.
use Rattle.std.proofs.lemmas.Bool.Decides.{nat_tests}
use Rattle.std.proofs.Common.{◌≡◌, ◌<◌, ◌≤◌, ◌∷◌, option_map, ℕ, ℤ, Bool, true, false, ◌&&◌, ◌||◌, List, [], Option, Some, None, unwrap_or, Result, IfOk}
use Rattle.std.proofs.Common.{length, nat_lt, take, pos, refl, sym, ◌∙◌, ap, subst, arith, if◌then◌else◌}
use Rattle.t7_base.specs.declared.ids.Side.{Side}
use Rattle.t7_base.specs.Listing.{Listing}
use Rattle.t7_base.specs.Outside.{Begins}
use Rattle.t7_book.specs.Acts.{Act as Doing, commands_of}
use Rattle.t7_book.specs.declared.command.Command.{Command}
use Rattle.t7_orders.specs.Answers.{responses}
use Rattle.t7_eti.specs.declared.response.Response.{Response}
use Rattle.t7_entry.specs.State.{State}
use Rattle.t7_layout.specs.Layouts.{Layout}
use Rattle.t7_eti.specs.declared.request.Request.{Request}
use Rattle.t7_eti.specs.declared.request.Request.TheVariants as request
use Rattle.t7_eti.specs.Saying.{side_number}
use Rattle.t7_client.specs.declared.machine.Answer.{Answer}
use Rattle.t7_client.specs.Fronts.{last_known}
use Rattle.t7_client.specs.Recovering.{holds_known, is_recovered, making}
use Rattle.t7_dialog.specs.Reaching.{AreInStep, reached_by, unanswered}
use Rattle.t7_dialog.proofs.Keeping.{recovered_has}
use Rattle.t7_dialog.proofs.Reaching.{needed_is, step_first}
use Rattle.t7_entry.specs.ByNumber.{contains_key}
use Rattle.t7_entry.specs.Days.{day_after}
use Rattle.t7_entry.specs.Events as entry
use Rattle.t7_entry.specs.Stalls.{IsOpen, IsShut}
use Rattle.t7_feed.specs.Arrivals.{Terms}
use Rattle.t7_outcome.specs.declared.ending.ScriptWhy.TheVariants as why
use Rattle.t7_outcome.specs.declared.ending.Stop.{Stop}
use Rattle.t7_outcome.specs.declared.ending.Stop.TheVariants.{Script}
use Rattle.t7_outcome.specs.Outcome.{Shows, text_of}
use Rattle.t7_outcome.specs.Steps.{Goes, GoesTo, LineStep, Stops, WentOn}
use Rattle.t7_outcome.proofs.Lines.{spelled_shown}
use Rattle.t7_report.specs.Gathered.{gathered_lines}
use Rattle.t7_script.specs.declared.event.Event.TheVariants as kind
use Rattle.t7_replay.specs.Calling.{Calling, HandsUp, IsSoundCaller, IsSoundCalling, any_on_line, came_down, client_for, dials, is_for, is_on_line, is_too_much, made_by, sent_up}
use Rattle.t7_replay.specs.Following.{FollowsAs, IsFollowing}
use Rattle.t7_replay.specs.Kits.{Does, Enters, Kit, Stands}
use Rattle.t7_replay.specs.Reports.{AtList, IsGathered, IsReported, Moment}
use Rattle.t7_replay.specs.Steps.{bytes_fault, client_fault, connection_fault, done_by, entered, gathering_of, going_down, going_up, ordering, reporting, sending}
use Rattle.t7_replay.specs.World.{World}
use Rattle.t7_replay.proofs.Doing.{Act, does_says}
use Rattle.t7_replay.proofs.Opening.{after_call, at_caller, open_key, shut_key}

-- the client of the world
pub caller_of : (terms : Terms) (world : World) (kit : Kit) (caller : Option Calling) → Stands terms world kit → kit.caller ≡ caller → world.caller ≡ caller
caller_of terms world kit caller stands is = sym stands.caller ∙ is

-- a step that changes the client alone
pub called_done : (step : Act) (kit new : Kit) (next : Calling) (text : List ℕ) → new ≡ record kit { caller = Some next } → text ≡ [] → next.client.made ≤ kit.row
    → ((terms : Terms) (world : World) → Stands terms world kit → IsSoundCalling next)
    → ((terms : Terms) (world : World) → Stands terms world kit → step terms world ≡ Goes (record world { caller = Some next }) [])
    → Does step kit new text
called_done step kit new next text is none few sound same =
    does_says step (λ terms world. record world { caller = Some next }) (λ terms world. []) kit new text same
    (λ terms world stands. subst (Stands terms (record world { caller = Some next })) (sym is)
    (at_caller terms world kit (Some next) (Some next) world.said refl (subst (λ (n : ℕ). next.client.made ≤ n) stands.row few) (sound terms world stands) stands.said stands))
    (λ terms world stands. none)

-- a sound client
pub sound_of : (terms : Terms) (world : World) (kit : Kit) (calling : Calling) → Stands terms world kit → kit.caller ≡ Some calling → IsSoundCalling calling
sound_of terms world kit calling stands is = subst IsSoundCaller (caller_of terms world kit (Some calling) stands is) stands.sound

pub sound_any : (kit : Kit) (next : Calling) → IsSoundCalling next → (terms : Terms) (world : World) → Stands terms world kit → IsSoundCalling next
sound_any kit next is terms world stands = is

-- the request that an ORDER makes
abbrev pub order_of : ℤ → Side → ℤ → ℕ → ℕ → ℕ → Request
order_of security side price quantity client number = request.New number security (side_number side) price (pos quantity) client

abbrev pub with_order : Calling → (ℕ → Request) → Calling
with_order calling order = record calling { client = making calling.client (order calling.client.next) }

pub order_sound : (kit : Kit) (calling : Calling) (security : ℤ) (side : Side) (price : ℤ) (quantity client : ℕ) → kit.caller ≡ Some calling → calling.client.made < 1_000_000_000
    → (terms : Terms) (world : World) → Stands terms world kit → IsSoundCalling (with_order calling (order_of security side price quantity client))
order_sound kit calling security side price quantity client is few terms world stands =
    let sound = sound_of terms world kit calling stands is in
    let numbers = sound.sound.numbers in
    record {
      sound = record { least = sound.sound.least; most = sound.sound.most; numbers = omega (arith, numbers); made = omega (arith, few); few = sound.sound.few };
      few = sound.few;
    }

pub order_as : (kit : Kit) (calling : Calling) (security : ℤ) (side : Side) (price : ℤ) (quantity client : ℕ) → kit.caller ≡ Some calling → calling.client.logged_on ≡ true
    → (terms : Terms) (world : World) → Stands terms world kit
    → done_by terms world (kind.Order security side price quantity client)
    ≡ Goes (record world { caller = Some (with_order calling (order_of security side price quantity client)) }) []
order_as kit calling security side price quantity client is logged terms world stands =
    let order = order_of security side price quantity client in
    ap (ordering world order) (caller_of terms world kit (Some calling) stands is)
    ∙ ap (λ (b : Bool). let s : LineStep World Moment = if b then Goes (record world { caller = Some (with_order calling order) }) [] else client_fault world in s) logged

pub order_off : (kit : Kit) (calling : Calling) (security : ℤ) (side : Side) (price : ℤ) (quantity client : ℕ) → kit.caller ≡ Some calling → calling.client.logged_on ≡ false
    → (terms : Terms) (world : World) → Stands terms world kit
    → done_by terms world (kind.Order security side price quantity client) ≡ Stops (Script world.row why.Client)
order_off kit calling security side price quantity client is off terms world stands =
    let order = order_of security side price quantity client in
    ap (ordering world order) (caller_of terms world kit (Some calling) stands is)
    ∙ ap (λ (b : Bool). let s : LineStep World Moment = if b then Goes (record world { caller = Some (with_order calling order) }) [] else client_fault world in s) off

pub order_none : (kit : Kit) (security : ℤ) (side : Side) (price : ℤ) (quantity client : ℕ) → kit.caller ≡ None
    → (terms : Terms) (world : World) → Stands terms world kit
    → done_by terms world (kind.Order security side price quantity client) ≡ Stops (Script world.row why.Client)
order_none kit security side price quantity client is terms world stands =
    ap (ordering world (order_of security side price quantity client)) (caller_of terms world kit None stands is)

pub down_as : (kit : Kit) (calling : Calling) (count : Option ℕ) (n : ℕ) → kit.caller ≡ Some calling → n ≡ unwrap_or count (length calling.coming) → is_too_much n calling ≡ false
    → (terms : Terms) (world : World) → Stands terms world kit
    → done_by terms world (kind.Down count) ≡ Goes (record world { caller = Some (came_down n calling) }) []
down_as kit calling count n is so fits terms world stands =
    ap (going_down world count) (caller_of terms world kit (Some calling) stands is)
    ∙ ap (λ (m : ℕ). let s : LineStep World Moment = if is_too_much m calling then bytes_fault world else Goes (record world { caller = Some (came_down m calling) }) [] in s) (sym so)
    ∙ ap (λ (b : Bool). let s : LineStep World Moment =
    if b then bytes_fault world else Goes (record world { caller = Some (came_down n calling) }) [] in s) fits

pub down_over : (kit : Kit) (calling : Calling) (count : Option ℕ) → kit.caller ≡ Some calling → is_too_much (unwrap_or count (length calling.coming)) calling ≡ true
    → (terms : Terms) (world : World) → Stands terms world kit → done_by terms world (kind.Down count) ≡ Stops (Script world.row why.Bytes)
down_over kit calling count is over terms world stands =
    let n = unwrap_or count (length calling.coming) in
    ap (going_down world count) (caller_of terms world kit (Some calling) stands is)
    ∙ ap (λ (b : Bool). let s : LineStep World Moment =
    if b then bytes_fault world else Goes (record world { caller = Some (came_down n calling) }) [] in s) over

pub down_none : (kit : Kit) (count : Option ℕ) → kit.caller ≡ None
    → (terms : Terms) (world : World) → Stands terms world kit → done_by terms world (kind.Down count) ≡ Stops (Script world.row why.Client)
down_none kit count is terms world stands = ap (going_down world count) (caller_of terms world kit None stands is)

-- what a client that follows the exchange lists
listed_of : (commands accepted : List Command) (listing : Listing) (said : List Response) (calling : Calling) → commands ≡ accepted
    → Begins calling.client.gathered (responses listing accepted calling.session) → Begins calling.client.gathered (responses listing commands calling.session)
listed_of commands accepted listing said calling is front = subst (λ (cs : List Command). Begins calling.client.gathered (responses listing cs calling.session)) (sym is) front

has_known : (count : ℕ) (answer : Option Answer) (known : Option ℕ) → option_map (λ (a : Answer). a.known) answer ≡ known → holds_known count answer ≡ true
    → (n : ℕ) × (known ≡ Some n) × (n ≤ count)
has_known count None known is holds = absurd (cc)
has_known count (Some answer) known is holds = (answer.known, sym is, grind (arith, nat_tests))

gathered_by : (terms : Terms) (acts : List Doing) (said : List Response) (state : State) (calling : Calling) → commands_of acts ≡ state.core.accepted → IsFollowing terms said state calling
    → IsGathered (record { listing = terms.listing; acts = acts; said = said; calling = calling })
gathered_by terms acts said state calling commands is = by calling.client.dialed refl
  where
    front : Begins calling.client.gathered (responses terms.listing (commands_of acts) calling.session)
    front = listed_of (commands_of acts) state.core.accepted terms.listing said calling commands is.front

    by : (b : Bool) → calling.client.dialed ≡ b → IsGathered (record { listing = terms.listing; acts = acts; said = said; calling = calling })
    by true on =
        let comes = is.comes on in record {
          front = front;
          read = comes.read;
          first = (comes.left, sym comes.parts);
          whole = λ recovered. has_known (length calling.client.gathered) calling.client.answer (last_known comes.read None) comes.known recovered;
          since = λ recovered.
              let has = recovered_has (reached_by unanswered comes.read) calling.client comes.keeps_up recovered in
              let step = (step_first unanswered comes.read comes.left (subst (AreInStep unanswered) comes.parts comes.step)).0 in
              (has.0, needed_is unanswered comes.read step ∙ has.1, has.2);
        }
    by false off = record {
      front = front;
      read = [];
      first = (said, refl);
      whole = λ recovered. has_known (length calling.client.gathered) calling.client.answer None (is.off off) recovered;
      since = λ recovered. recovered_has unanswered calling.client (is.off off) recovered;
    }

pub list_done : (kit : Kit) (calling : Calling) (text : List ℕ) → kit.caller ≡ Some calling
    → text ≡ text_of (gathered_lines (is_recovered calling.client) calling.client.gathered) → Does (λ terms world. done_by terms world kind.List) kit kit text
list_done kit calling text is said = record {
  went = λ terms world stands. subst (λ (s : LineStep World Moment). GoesTo s (λ after. Stands terms after kit)) (sym (listed terms world stands)) stands;
  wrote = λ terms world stands follows. subst (λ (s : LineStep World Moment). WentOn IsReported s text) (sym (listed terms world stands)) (
    gathered_lines (is_recovered calling.client) calling.client.gathered,
    spelled_shown IsReported (AtList (gathering_of terms world calling)) (gathered_lines (is_recovered calling.client) calling.client.gathered)
        (record {
          printed = refl;
          gathered = gathered_by terms world.acts world.said world.state calling stands.commands
              (subst (FollowsAs terms world.said world.state) (caller_of terms world kit (Some calling) stands is) follows);
        }),
    said,
  );
}
  where
    listed : (terms : Terms) (world : World) → Stands terms world kit → done_by terms world kind.List ≡ Goes world (Shows (AtList (gathering_of terms world calling)) ∷ [])
    listed terms world stands = ap (reporting terms world) (caller_of terms world kit (Some calling) stands is)

pub list_none : (kit : Kit) → kit.caller ≡ None
    → (terms : Terms) (world : World) → Stands terms world kit → done_by terms world kind.List ≡ Stops (Script world.row why.Client)
list_none kit is terms world stands = ap (reporting terms world) (caller_of terms world kit None stands is)

module _ (kit : Kit) (calling : Calling) (count : Option ℕ) (is : kit.caller ≡ Some calling) where
  abbrev n : ℕ
  n = unwrap_or count (length calling.client.queue)

  up_on : (terms : Terms) (world : World) → Stands terms world kit → is_on_line calling ≡ true → IsOpen kit.day calling.conn
      → done_by terms world (kind.Up count) ≡ sending terms world calling n
  up_on terms world stands on open_now =
      ap (going_up terms world count) (caller_of terms world kit (Some calling) stands is)
      ∙ ap (λ (b : Bool). if b && contains_key world.state.inputs calling.conn then sending terms world calling n else connection_fault world) on
      ∙ ap (λ (b : Bool). if b then sending terms world calling n else connection_fault world) (open_key terms world kit calling.conn stands open_now)

  pub up_as : is_on_line calling ≡ true → IsOpen kit.day calling.conn → nat_lt (length calling.client.queue) n ≡ false
      → (terms : Terms) (world : World) → Stands terms world kit
      → entered terms (record world { caller = Some (sent_up n calling) }) (entry.Bytes calling.conn (take n calling.client.queue) kit.moment)
      ≡ done_by terms world (kind.Up count)
  up_as on open_now fits terms world stands =
      let bytes = take n calling.client.queue in
      let sent : World = record world { caller = Some (sent_up n calling) } in
      ap (λ (m : ℕ). entered terms sent (entry.Bytes calling.conn bytes m)) stands.moment
      ∙ sym (up_on terms world stands on open_now
      ∙ ap (λ (b : Bool). if b then bytes_fault world else entered terms sent (entry.Bytes calling.conn bytes world.moment)) fits)

  pub up_over : is_on_line calling ≡ true → IsOpen kit.day calling.conn → nat_lt (length calling.client.queue) n ≡ true
      → (terms : Terms) (world : World) → Stands terms world kit → done_by terms world (kind.Up count) ≡ Stops (Script world.row why.Bytes)
  up_over on open_now over terms world stands =
      up_on terms world stands on open_now
      ∙ ap (λ (b : Bool). if b then bytes_fault world
      else entered terms (record world { caller = Some (sent_up n calling) }) (entry.Bytes calling.conn (take n calling.client.queue) world.moment)) over

  pub up_off : is_on_line calling ≡ false
      → (terms : Terms) (world : World) → Stands terms world kit → done_by terms world (kind.Up count) ≡ Stops (Script world.row why.Connection)
  up_off off terms world stands =
      ap (going_up terms world count) (caller_of terms world kit (Some calling) stands is)
      ∙ ap (λ (b : Bool). if b && contains_key world.state.inputs calling.conn then sending terms world calling n else connection_fault world) off

  pub up_shut : IsShut kit.day calling.conn
      → (terms : Terms) (world : World) → Stands terms world kit → done_by terms world (kind.Up count) ≡ Stops (Script world.row why.Connection)
  up_shut shut terms world stands =
      ap (going_up terms world count) (caller_of terms world kit (Some calling) stands is)
      ∙ ap (λ (b : Bool). if is_on_line calling && b then sending terms world calling n else connection_fault world) (shut_key terms world kit calling.conn stands shut)
      ∙ neither (is_on_line calling)
    where
      neither : (b : Bool) → (if b && false then sending terms world calling n else connection_fault world) ≡ connection_fault world
      neither true = refl
      neither false = refl

pub up_none : (kit : Kit) (count : Option ℕ) → kit.caller ≡ None
    → (terms : Terms) (world : World) → Stands terms world kit → done_by terms world (kind.Up count) ≡ Stops (Script world.row why.Connection)
up_none kit count is terms world stands = ap (going_up terms world count) (caller_of terms world kit None stands is)

-- the client that dials
abbrev pub dialed_in : Terms → World → ℕ → ℕ → Option Calling
dialed_in terms world conn session = Some (dials conn (client_for terms.layouts session world.caller))

module _ (kit : Kit) (conn session : ℕ) where
  abbrev enters : Terms → World → LineStep World Moment
  enters terms world = entered terms (record world { caller = dialed_in terms world conn session; said = [] }) (entry.Opened conn)

  pub dial_as : IsShut kit.day conn → any_on_line kit.caller ≡ false → is_for session kit.caller ≡ true
      → (terms : Terms) (world : World) → Stands terms world kit → enters terms world ≡ done_by terms world (kind.Dial conn session)
  dial_as shut off own terms world stands =
      let same = stands.caller in
      sym (ap (λ (b : Bool). if b || any_on_line world.caller then connection_fault world
      else if is_for session world.caller then enters terms world else client_fault world) (shut_key terms world kit conn stands shut)
      ∙ ap (λ (b : Bool). if b then connection_fault world else if is_for session world.caller then enters terms world else client_fault world)
      (sym (ap any_on_line same) ∙ off)
      ∙ ap (λ (b : Bool). if b then enters terms world else client_fault world) (sym (ap (is_for session) same) ∙ own))

  pub dial_open : IsOpen kit.day conn
      → (terms : Terms) (world : World) → Stands terms world kit → done_by terms world (kind.Dial conn session) ≡ Stops (Script world.row why.Connection)
  dial_open open_now terms world stands =
      ap (λ (b : Bool). if b || any_on_line world.caller then connection_fault world
      else if is_for session world.caller then enters terms world else client_fault world) (open_key terms world kit conn stands open_now)

  pub dial_twice : any_on_line kit.caller ≡ true
      → (terms : Terms) (world : World) → Stands terms world kit → done_by terms world (kind.Dial conn session) ≡ Stops (Script world.row why.Connection)
  dial_twice on terms world stands =
      ap (λ (b : Bool). if contains_key world.state.inputs conn || b then connection_fault world
      else if is_for session world.caller then enters terms world else client_fault world) (sym (ap any_on_line stands.caller) ∙ on)
      ∙ either (contains_key world.state.inputs conn)
    where
      either : (b : Bool) → (if b || true then connection_fault world else if is_for session world.caller then enters terms world else client_fault world) ≡ connection_fault world
      either true = refl
      either false = refl

  pub dial_other : IsShut kit.day conn → any_on_line kit.caller ≡ false → is_for session kit.caller ≡ false
      → (terms : Terms) (world : World) → Stands terms world kit → done_by terms world (kind.Dial conn session) ≡ Stops (Script world.row why.Client)
  dial_other shut off other terms world stands =
      let same = stands.caller in
      ap (λ (b : Bool). if b || any_on_line world.caller then connection_fault world
      else if is_for session world.caller then enters terms world else client_fault world) (shut_key terms world kit conn stands shut)
      ∙ ap (λ (b : Bool). if b then connection_fault world else if is_for session world.caller then enters terms world else client_fault world)
      (sym (ap any_on_line same) ∙ off)
      ∙ ap (λ (b : Bool). if b then enters terms world else client_fault world) (sym (ap (is_for session) same) ∙ other)

  pub dial_same : (terms : Terms) (world : World) → Stands terms world kit
      → (let o : Option Calling = Some (dials conn (client_for kit.layouts session kit.caller)) in o) ≡ dialed_in terms world conn session
  dial_same terms world stands =
      ap (λ (l : List Layout). let o : Option Calling = Some (dials conn (client_for l session kit.caller)) in o) stands.layouts
      ∙ ap (λ (c : Option Calling). let o : Option Calling = Some (dials conn (client_for terms.layouts session c)) in o) stands.caller

  dial_sound_by : (layouts : List Layout) (caller : Option Calling) → 1 ≤ session → session ≤ 4_000_000_000 → IsSoundCaller caller → IsSoundCaller (Some (dials conn (client_for layouts session caller)))
  dial_sound_by layouts None least most is = record {
    sound = record { least = least; most = most; numbers = omega arith; made = omega arith; few = omega arith };
    few = omega arith;
  }
  dial_sound_by layouts (Some calling) least most is = record {
    sound = record { least = is.sound.least; most = is.sound.most; numbers = omega arith; made = omega arith; few = omega arith };
    few = is.few;
  }

  pub dial_sound : 1 ≤ session → session ≤ 4_000_000_000 → (terms : Terms) (world : World) → Stands terms world kit → IsSoundCaller (dialed_in terms world conn session)
  dial_sound least most terms world stands = dial_sound_by terms.layouts world.caller least most stands.sound

  pub dial_few : (terms : Terms) (world : World) → Stands terms world kit → made_by (dialed_in terms world conn session) ≤ world.row
  dial_few terms world stands = omega arith

-- a client stays sound as it sends
sent_sound : (n : ℕ) (calling : Calling) → IsSoundCalling calling → IsSoundCalling (sent_up n calling)
sent_sound n calling is = record {
  sound = record { least = is.sound.least; most = is.sound.most; numbers = is.sound.numbers; made = is.sound.made; few = is.sound.few };
  few = is.few;
}

-- the bytes that were handed out came to the exchange
pub up_done : {T : Type 0} (items : T → List ℕ) (kit mid new : Kit) (calling sent : Calling) (count : Option ℕ) (conn : ℕ) (bytes : List ℕ) (r : Result T Stop)
    → kit.caller ≡ Some calling → is_on_line calling ≡ true → conn ≡ calling.conn → IsOpen kit.day conn
    → HandsUp (unwrap_or count (length calling.client.queue)) calling sent (Some bytes)
    → IfOk r (λ text. (b : Kit) (e : entry.Event) → mid ≡ record b { day = day_after b.day e } → Enters (λ terms world. entered terms world e) b new (items text))
    → mid ≡ record kit { caller = Some sent; day = day_after kit.day (entry.Bytes conn bytes kit.moment) }
    → IfOk r (λ text. Does (λ terms world. done_by terms world (kind.Up count)) kit new (items text))
up_done items kit mid new calling sent count conn bytes r is on same open_now hands done so =
    let n = unwrap_or count (length calling.client.queue) in
    let queue = calling.client.queue in
    let after : Option Calling = Some (sent_up n calling) in
    let now : mid ≡ record kit { caller = after; day = day_after kit.day (entry.Bytes calling.conn (take n queue) kit.moment) } =
    so
    ∙ ap (λ (s : Calling). let k : Kit = record kit { caller = Some s; day = day_after kit.day (entry.Bytes conn bytes kit.moment) } in k) hands.2
    ∙ ap (λ (b : List ℕ). let k : Kit = record kit { caller = after; day = day_after kit.day (entry.Bytes conn b kit.moment) } in k) hands.1
    ∙ ap (λ (m : ℕ). let k : Kit = record kit { caller = after; day = day_after kit.day (entry.Bytes m (take n queue) kit.moment) } in k) same in
    let is_open : IsOpen kit.day calling.conn = subst (IsOpen kit.day) same open_now in
    after_call items (λ terms world. done_by terms world (kind.Up count)) kit mid new after (λ terms world. after) (λ world. world.said) (entry.Bytes calling.conn (take n queue) kit.moment)
    r done now (λ terms world stands. refl)
    (λ terms world stands. subst (λ (c : Option Calling). made_by c ≤ world.row) (caller_of terms world kit (Some calling) stands is) stands.few_made)
    (λ terms world stands. let sound = sound_of terms world kit calling stands is in sent_sound n calling sound)
    (λ terms world stands. stands.said)
    (up_as kit calling count is on is_open hands.0)
