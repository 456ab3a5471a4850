-- Events on connections.
use Rattle.std.proofs.Common.{◌≡◌, ◌≤◌, ℕ, Bool, MatchBool, true, false, List, Option, Some, None, is_some, option_map, Result, Ok, Err, IfOk}
use Rattle.std.proofs.Common.{refl, sym, ◌∙◌, ap, subst, arith, if◌then◌else◌}
use Rattle.t7_entry.specs.ByNumber.{contains_key, get}
use Rattle.t7_entry.specs.Days.{Day, day_after}
use Rattle.t7_entry.specs.Events as entry
use Rattle.t7_entry.specs.Stalls.{IsOpen, IsShut, opens}
use Rattle.t7_entry.specs.State.{State}
use Rattle.t7_feed.specs.Arrivals.{Terms}
use Rattle.t7_outcome.specs.declared.ending.Stop.{Stop}
use Rattle.t7_outcome.specs.Steps.{GoesTo, LineStep, WentOn}
use Rattle.t7_script.specs.declared.event.Event.TheVariants as kind
use Rattle.t7_eti.specs.declared.response.Response.{Response}
use Rattle.t7_dialog.specs.Saying.{AreSaid}
use Rattle.t7_replay.specs.Calling.{Calling, IsSoundCaller, IsSoundCalling, any_on, cut_on, hangs_up, is_on, made_by}
use Rattle.t7_replay.specs.Kits.{Does, Enters, Kit, Stands}
use Rattle.t7_replay.specs.Reports.{IsReported, Moment}
use Rattle.t7_replay.specs.Steps.{connection_fault, done_by, entered, on_open, opening}
use Rattle.t7_replay.specs.World.{World}
use Rattle.t7_replay.proofs.Doing.{Act, enters_as}

-- the state of the exchange is that of the world
pub state_of : (terms : Terms) (world : World) (kit : Kit) → Stands terms world kit → kit.day.state ≡ world.state
state_of terms world kit stands = ap (λ (d : Day). d.state) stands.day

either_way : {A : Type 0} (b : Bool) (x : A) → (if b then x else x) ≡ x
either_way {A} b x = elim b as (λ (v : Bool). (let y : A = if v then x else x in y) ≡ x) [ true ↦ refl | false ↦ refl ]

is_some_of : {A : Type 0} (o : Option A) (x : A) → o ≡ Some x → is_some o ≡ true
is_some_of o x is = ap is_some is

pub open_key : (terms : Terms) (world : World) (kit : Kit) (conn : ℕ) → Stands terms world kit → IsOpen kit.day conn → contains_key world.state.inputs conn ≡ true
open_key terms world kit conn stands (opens line input has_line has_input) =
    ap (λ (s : State). contains_key s.inputs conn) (sym (state_of terms world kit stands)) ∙ is_some_of (get kit.day.state.inputs conn) input has_input

pub shut_key : (terms : Terms) (world : World) (kit : Kit) (conn : ℕ) → Stands terms world kit → IsShut kit.day conn → contains_key world.state.inputs conn ≡ false
shut_key terms world kit conn stands shut =
    ap (λ (s : State). contains_key s.inputs conn) (sym (state_of terms world kit stands)) ∙ ap is_some shut.input

-- an event that was entered is done, where that is what the step says
pub after_event : {T : Type 0} (items : T → List ℕ) (other : Act) (before mid new : Kit) (event : entry.Event) (r : Result T Stop)
    → IfOk r (λ text. (b : Kit) (e : entry.Event) → mid ≡ record b { day = day_after b.day e } → Enters (λ terms world. entered terms world e) b new (items text))
    → mid ≡ record before { day = day_after before.day event }
    → ((terms : Terms) (world : World) → Stands terms world before → entered terms world event ≡ other terms world)
    → IfOk r (λ text. Does other before new (items text))
after_event items other before mid new event (Ok text) done is same = enters_as (λ terms world. entered terms world event) other before new (items text) same (done before event is)
after_event items other before mid new event (Err stop) done is same = tt

pub opens_as : (kit : Kit) (conn : ℕ) → IsShut kit.day conn → (terms : Terms) (world : World) → Stands terms world kit
    → entered terms world (entry.Opened conn) ≡ done_by terms world (kind.Opens conn)
opens_as kit conn shut terms world stands = ap (opening terms world conn) (sym (shut_key terms world kit conn stands shut))

-- the client is on a connection exactly where that of the world is
pub same_on : (terms : Terms) (world : World) (kit : Kit) (conn : ℕ) (on : Bool) → Stands terms world kit → any_on kit.caller conn ≡ on → any_on world.caller conn ≡ on
same_on terms world kit conn on stands is = ap (λ (c : Option Calling). any_on c conn) (sym stands.caller) ∙ is

pub input_as : (kit : Kit) (conn : ℕ) (bytes : List ℕ) → any_on kit.caller conn ≡ false → IsOpen kit.day conn → (terms : Terms) (world : World) → Stands terms world kit
    → entered terms world (entry.Bytes conn bytes kit.moment) ≡ done_by terms world (kind.Input conn bytes)
input_as kit conn bytes other open_now terms world stands =
    ap (λ (m : ℕ). entered terms world (entry.Bytes conn bytes m)) stands.moment
    ∙ ap (on_open terms world (entry.Bytes conn bytes world.moment)) (sym (open_key terms world kit conn stands open_now))
    ∙ ap (λ (b : Bool). if b then connection_fault world else on_open terms world (entry.Bytes conn bytes world.moment) (contains_key world.state.inputs conn))
    (sym (same_on terms world kit conn false stands other))

pub input_shut_as : (kit : Kit) (conn : ℕ) (bytes : List ℕ) → IsShut kit.day conn → (terms : Terms) (world : World) → Stands terms world kit
    → done_by terms world (kind.Input conn bytes) ≡ connection_fault world
input_shut_as kit conn bytes shut terms world stands =
    ap (λ (b : Bool). if any_on world.caller conn then connection_fault world else on_open terms world (entry.Bytes conn bytes world.moment) b)
    (shut_key terms world kit conn stands shut)
    ∙ either_way (any_on world.caller conn) (connection_fault world)

pub input_own_as : (kit : Kit) (conn : ℕ) (bytes : List ℕ) → any_on kit.caller conn ≡ true → (terms : Terms) (world : World) → Stands terms world kit
    → done_by terms world (kind.Input conn bytes) ≡ connection_fault world
input_own_as kit conn bytes own terms world stands =
    ap (λ (b : Bool). if b then connection_fault world else on_open terms world (entry.Bytes conn bytes world.moment) (contains_key world.state.inputs conn))
    (same_on terms world kit conn true stands own)

-- the moment goes on
pub at_moment : (terms : Terms) (world : World) (kit : Kit) (moment : ℕ) → Stands terms world kit → Stands terms (record world { moment = moment }) (record kit { moment = moment })
at_moment terms world kit moment stands = record {
  day = stands.day;
  lives = stands.lives;
  snaps = stands.snaps;
  caller = stands.caller;
  moment = refl;
  raw = stands.raw;
  row = stands.row;
  layouts = stands.layouts;
  listing = stands.listing;
  commands = stands.commands;
  numbered = stands.numbered;
  few_beats = stands.few_beats;
  few_snaps = stands.few_snaps;
  few_made = stands.few_made;
  few_lines = stands.few_lines;
  genuine = stands.genuine;
  keeps = stands.keeps;
  table = stands.table;
  said = stands.said;
  sound = stands.sound;
  paired = stands.paired;
}

pub tick_done : {T : Type 0} (items : T → List ℕ) (before mid new : Kit) (moment : ℕ) (r : Result T Stop)
    → IfOk r (λ text. (b : Kit) (e : entry.Event) → mid ≡ record b { day = day_after b.day e } → Enters (λ terms world. entered terms world e) b new (items text))
    → mid ≡ record before { moment = moment; day = day_after before.day (entry.Tick moment) }
    → IfOk r (λ text. Does (λ terms world. done_by terms world (kind.Tick moment)) before new (items text))
tick_done items before mid new moment (Err stop) done is = tt
tick_done items before mid new moment (Ok text) done is =
    let ticked = done (record before { moment = moment }) (entry.Tick moment) is in record {
      went = λ terms world stands. ticked.went terms (record world { moment = moment }) (at_moment terms world before moment stands);
      wrote = λ terms world stands follows. ticked.wrote terms (record world { moment = moment }) (at_moment terms world before moment stands);
    }

-- with another client
pub at_caller : (terms : Terms) (world : World) (kit : Kit) (caller own : Option Calling) (now : List Response) → own ≡ caller → made_by caller ≤ world.row → IsSoundCaller caller
    → AreSaid terms.layouts now → Stands terms world kit → Stands terms (record world { caller = caller; said = now }) (record kit { caller = own })
at_caller terms world kit caller own now same few sound fine stands = record {
  day = stands.day;
  lives = stands.lives;
  snaps = stands.snaps;
  caller = same;
  moment = stands.moment;
  raw = stands.raw;
  row = stands.row;
  layouts = stands.layouts;
  listing = stands.listing;
  commands = stands.commands;
  numbered = stands.numbered;
  few_beats = stands.few_beats;
  few_snaps = stands.few_snaps;
  few_made = few;
  few_lines = stands.few_lines;
  genuine = stands.genuine;
  keeps = stands.keeps;
  table = stands.table;
  said = fine;
  sound = sound;
  paired = stands.paired;
}

-- an event that was entered with another client is done, where that is what the step says
pub after_call : {T : Type 0} (items : T → List ℕ) (other : Act) (before mid new : Kit) (own : Option Calling) (caller : Terms → World → Option Calling) (now : World → List Response)
    (event : entry.Event) (r : Result T Stop)
    → IfOk r (λ text. (b : Kit) (e : entry.Event) → mid ≡ record b { day = day_after b.day e } → Enters (λ terms world. entered terms world e) b new (items text))
    → mid ≡ record before { caller = own; day = day_after before.day event }
    → ((terms : Terms) (world : World) → Stands terms world before → own ≡ caller terms world)
    → ((terms : Terms) (world : World) → Stands terms world before → made_by (caller terms world) ≤ world.row)
    → ((terms : Terms) (world : World) → Stands terms world before → IsSoundCaller (caller terms world))
    → ((terms : Terms) (world : World) → Stands terms world before → AreSaid terms.layouts (now world))
    → ((terms : Terms) (world : World) → Stands terms world before → entered terms (record world { caller = caller terms world; said = now world }) event ≡ other terms world)
    → IfOk r (λ text. Does other before new (items text))
after_call items other before mid new own caller now event (Err stop) done is owns few sound fine same = tt
after_call items other before mid new own caller now event (Ok text) done is owns few sound fine same =
    let did = done (record before { caller = own }) event is in record {
      went = λ terms world stands. subst (λ (s : LineStep World Moment). GoesTo s (λ after. Stands terms after new)) (same terms world stands)
          (did.went terms (record world { caller = caller terms world; said = now world })
          (at_caller terms world before (caller terms world) own (now world) (owns terms world stands) (few terms world stands) (sound terms world stands) (fine terms world stands) stands));
      wrote = λ terms world stands follows. subst (λ (s : LineStep World Moment). WentOn IsReported s (items text)) (same terms world stands)
          (did.wrote terms (record world { caller = caller terms world; said = now world })
          (at_caller terms world before (caller terms world) own (now world) (owns terms world stands) (few terms world stands) (sound terms world stands) (fine terms world stands) stands));
    }

-- a client that is cut has made no order since
cut_one : (conn : ℕ) (calling : Calling) (b : Bool) → (n : ℕ) → calling.client.made ≤ n
    → made_by (let o : Option Calling = if b then option_map hangs_up (Some calling) else Some calling in o) ≤ n
cut_one conn calling true n few = omega arith
cut_one conn calling false n few = few

cut_made : (caller : Option Calling) (conn n : ℕ) → made_by caller ≤ n → made_by (cut_on caller conn) ≤ n
cut_made None conn n few = few
cut_made (Some calling) conn n few = cut_one conn calling (is_on conn calling) n few

pub cut_few : (kit : Kit) (conn : ℕ) (terms : Terms) (world : World) → Stands terms world kit → made_by (cut_on world.caller conn) ≤ world.row
cut_few kit conn terms world stands = cut_made world.caller conn world.row stands.few_made

pub cut_same : (kit : Kit) (conn : ℕ) (terms : Terms) (world : World) → Stands terms world kit → cut_on kit.caller conn ≡ cut_on world.caller conn
cut_same kit conn terms world stands = ap (λ (c : Option Calling). cut_on c conn) stands.caller

-- and is sound
pub cut_sound_one : (calling : Calling) → IsSoundCalling calling → IsSoundCalling (hangs_up calling)
cut_sound_one calling is =
    let least = is.sound.least in
    let most = is.sound.most in
    record { sound = record { least = least; most = most; numbers = omega arith; made = omega arith; few = omega arith }; few = is.few }

cut_sound_by : (calling : Calling) (b : Bool) → IsSoundCalling calling → IsSoundCaller (let o : Option Calling = if b then option_map hangs_up (Some calling) else Some calling in o)
cut_sound_by calling true is = cut_sound_one calling is
cut_sound_by calling false is = is

cut_sound_of : (caller : Option Calling) (conn : ℕ) → IsSoundCaller caller → IsSoundCaller (cut_on caller conn)
cut_sound_of None conn is = tt
cut_sound_of (Some calling) conn is = cut_sound_by calling (is_on conn calling) is

pub cut_sound : (kit : Kit) (conn : ℕ) (terms : Terms) (world : World) → Stands terms world kit → IsSoundCaller (cut_on world.caller conn)
cut_sound kit conn terms world stands = cut_sound_of world.caller conn stands.sound

pub said_same : (kit : Kit) (terms : Terms) (world : World) → Stands terms world kit → AreSaid terms.layouts world.said
said_same kit terms world stands = stands.said

pub cut_as : (kit : Kit) (conn : ℕ) → IsOpen kit.day conn → (terms : Terms) (world : World) → Stands terms world kit
    → entered terms (record world { caller = cut_on world.caller conn }) (entry.Closed conn) ≡ done_by terms world (kind.Cut conn)
cut_as kit conn open_now terms world stands =
    ap (on_open terms (record world { caller = cut_on world.caller conn }) (entry.Closed conn)) (sym (open_key terms world kit conn stands open_now))

-- what a test says where it is true
pub where_true : (b : Bool) (P Q : Type 0) → b ≡ true → MatchBool b P Q → P
where_true true P Q is said = said
where_true false P Q is said = absurd (cc)
