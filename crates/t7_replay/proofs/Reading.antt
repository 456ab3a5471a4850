-- What is read of a line, and what is done with it.
use Rattle.std.proofs.Common.{◌≡◌, ◌≤◌, ◌<◌, ℕ, ◌+◌, Bool, true, false, List, Result, Ok, Err, IfErr, IfOk, nat_lt, sym, ◌∙◌, ap, subst, arith, if◌then◌else◌, inl, inr}
use Rattle.std.proofs.lemmas.Bool.Decides.{nat_tests}
use Rattle.t7_base.specs.Listing.{Listing}
use Rattle.t7_feed.specs.Arrivals.{Terms, arrivals}
use Rattle.t7_member.specs.Keeping.{Image, Keeps}
use Rattle.t7_outcome.specs.declared.ending.ScriptWhy.TheVariants.{Long}
use Rattle.t7_outcome.specs.declared.ending.Stop.{Stop}
use Rattle.t7_outcome.specs.declared.ending.Stop.TheVariants.{Memory, Script}
use Rattle.t7_outcome.specs.Steps.{GoesTo, LineStep, Stopped, Stops, WentOn}
use Rattle.t7_script.specs.declared.event.Event.{Event}
use Rattle.t7_script.specs.declared.event.LineRefusal.{LineRefusal}
use Rattle.t7_script.specs.declared.event.LineRefusal.TheVariants as refusal
use Rattle.t7_script.specs.Events.{IsRead, event_of}
use Rattle.t7_replay.specs.Kits.{Does, Kit, OfLine, Refuses, Stands}
use Rattle.t7_replay.specs.Reports.{IsReported, Moment}
use Rattle.t7_replay.specs.Steps.{done_by, done_read, read_as, step_at, stop_of}
use Rattle.t7_replay.specs.World.{World, on_next_line}
use Rattle.t7_replay.proofs.Doing.{does_as, refuses_memory}

-- an event that was read
pub said_event : (said : Result Event LineRefusal) (event : Event) → IsRead said (Ok event) → said ≡ Ok event
said_event said event (inl memory) = absurd (cc)
said_event said event (inr same) = sym same

-- what is read by the program is what is read in the world
same_setting : (terms : Terms) (world : World) (kit : Kit) (line : List ℕ) → Stands terms world kit
    → event_of (record { listing = kit.listing; moment = kit.moment }) line ≡ event_of (record { listing = terms.listing; moment = world.moment }) line
same_setting terms world kit line stands =
    ap (λ (l : Listing). event_of (record { listing = l; moment = kit.moment }) line) stands.listing
    ∙ ap (λ (m : ℕ). event_of (record { listing = terms.listing; moment = m }) line) stands.moment

event_as : (kit : Kit) (line : List ℕ) (read : Result Event LineRefusal) → event_of (record { listing = kit.listing; moment = kit.moment }) line ≡ read
    → (terms : Terms) (world : World) → Stands terms world kit → read_as terms world read ≡ done_read terms world line
event_as kit line read is terms world stands = ap (read_as terms world) (sym is ∙ same_setting terms world kit line stands)

pub line_done : {T : Type 0} (items : T → List ℕ) (kit new : Kit) (line : List ℕ) (event : Event) (r : Result T Stop) → event_of (record { listing = kit.listing; moment = kit.moment }) line ≡ Ok event
    → IfOk r (λ text. Does (λ terms world. done_by terms world event) kit new (items text)) → IfOk r (λ text. Does (λ terms world. done_read terms world line) kit new (items text))
line_done items kit new line event (Err stop) is done = tt
line_done items kit new line event (Ok text) is done =
    does_as (λ terms world. done_by terms world event) (λ terms world. done_read terms world line) kit new (items text) (event_as kit line (Ok event) is) done

pub line_refused : {T : Type 0} (kit : Kit) (line : List ℕ) (event : Event) (r : Result T Stop) → event_of (record { listing = kit.listing; moment = kit.moment }) line ≡ Ok event
    → IfErr r (Refuses (λ terms world. done_by terms world event) kit) → IfErr r (Refuses (λ terms world. done_read terms world line) kit)
line_refused kit line event (Ok text) is refuses = tt
line_refused kit line event (Err stop) is refuses = record {
  stopped = λ terms world stands. subst (λ (s : LineStep World Moment). Stopped s stop) (event_as kit line (Ok event) is terms world stands) (refuses.stopped terms world stands);
  of_line = refuses.of_line;
}

-- a line that is no event
of_line : (row : ℕ) (why : LineRefusal) → OfLine (stop_of row why)
of_line row refusal.Event = tt
of_line row refusal.Number = tt
of_line row refusal.Memory = tt

stops_so : (kit : Kit) (why : LineRefusal) (world : World) → kit.row ≡ world.row → Stopped (let s : LineStep World Moment = Stops (stop_of world.row why) in s) (stop_of kit.row why)
stops_so kit refusal.Event world same = ap (λ (n : ℕ). stop_of n refusal.Event) same
stops_so kit refusal.Number world same = ap (λ (n : ℕ). stop_of n refusal.Number) same
stops_so kit refusal.Memory world same = tt

pub no_event : (kit : Kit) (line : List ℕ) (why : LineRefusal) (stop : Stop) → IsRead (event_of (record { listing = kit.listing; moment = kit.moment }) line) (Err why)
    → stop ≡ stop_of kit.row why → Refuses (λ terms world. done_read terms world line) kit stop
no_event kit line why stop (inl memory) is =
    refuses_memory (λ terms world. done_read terms world line) kit stop (is ∙ ap (λ (r : Result Event LineRefusal). stop_in kit.row r) memory)
  where
    stop_in : ℕ → Result Event LineRefusal → Stop
    stop_in row (Ok event) = Memory
    stop_in row (Err why) = stop_of row why
no_event kit line why stop (inr same) is = record {
  stopped = λ terms world stands. subst (λ (s : LineStep World Moment). Stopped s stop) (event_as kit line (Err why) (sym same) terms world stands)
      (subst (λ (s : Stop). Stopped (read_as terms world (Err why)) s) (sym is) (stops_so kit why world stands.row));
  of_line = subst OfLine (sym is) (of_line kit.row why);
}

-- a line more is played
pub stands_next : (terms : Terms) (world : World) (kit new : Kit) → Stands terms world kit → new ≡ record kit { row = kit.row + 1 } → kit.row + 1 ≤ 200_000
    → Stands terms (on_next_line world) new
stands_next terms world kit new stands is few = record {
  day = ap (λ (k : Kit). k.day) is ∙ stands.day;
  lives = ap (λ (k : Kit). k.lives) is ∙ stands.lives;
  snaps = ap (λ (k : Kit). k.snaps) is ∙ stands.snaps;
  caller = ap (λ (k : Kit). k.caller) is ∙ stands.caller;
  moment = ap (λ (k : Kit). k.moment) is ∙ stands.moment;
  raw = ap (λ (k : Kit). k.raw) is ∙ stands.raw;
  row = ap (λ (k : Kit). k.row) is ∙ ap (λ (n : ℕ). n + 1) stands.row;
  layouts = ap (λ (k : Kit). k.layouts) is ∙ stands.layouts;
  listing = ap (λ (k : Kit). k.listing) is ∙ stands.listing;
  commands = stands.commands;
  numbered = stands.numbered;
  few_beats = omega (arith, stands.few_beats);
  few_snaps = omega (arith, stands.few_snaps);
  few_made = omega (arith, stands.few_made);
  few_lines = omega (arith, few, stands.row);
  genuine = stands.genuine;
  keeps = λ acts are. subst (λ (i : Image). Keeps terms acts i (arrivals terms world.came)) (sym (ap (λ (k : Kit). k.image) is)) (stands.keeps acts are);
  table = stands.table;
  said = stands.said;
  sound = stands.sound;
  paired = stands.paired;
}

in_day : (terms : Terms) (world : World) (kit : Kit) → Stands terms world kit → kit.row + 1 ≤ 200_000 → nat_lt 200_000 (world.row + 1) ≡ false
in_day terms world kit stands few =
    let within : world.row + 1 ≤ 200_000 = omega (arith, few, stands.row) in
    grind (arith, nat_tests)

past_day : (terms : Terms) (world : World) (kit : Kit) → Stands terms world kit → 200_000 < kit.row + 1 → nat_lt 200_000 (world.row + 1) ≡ true
past_day terms world kit stands many =
    let past : 200_000 < world.row + 1 = omega (arith, many, stands.row) in
    grind (arith, nat_tests)

step_as : (terms : Terms) (world : World) (line : List ℕ) (test : Bool) → nat_lt 200_000 (world.row + 1) ≡ test
    → step_at terms world line ≡ (if test then Stops (Script (world.row + 1) Long) else done_read terms (on_next_line world) line)
step_as terms world line test is = ap (λ (b : Bool). if b then Stops (Script (world.row + 1) Long) else done_read terms (on_next_line world) line) is

pub next_done : {T : Type 0} (items : T → List ℕ) (kit mid new : Kit) (line : List ℕ) (r : Result T Stop)
    → IfOk r (λ text. Does (λ terms world. done_read terms world line) mid new (items text)) → mid ≡ record kit { row = kit.row + 1 } → kit.row + 1 ≤ 200_000
    → IfOk r (λ text. Does (λ terms world. step_at terms world line) kit new (items text))
next_done items kit mid new line (Err stop) done is few = tt
next_done items kit mid new line (Ok text) done is few = record {
  went = λ terms world stands. subst (λ (s : LineStep World Moment). GoesTo s (λ after. Stands terms after new)) (sym (step_as terms world line false (in_day terms world kit stands few)))
      (done.went terms (on_next_line world) (stands_next terms world kit mid stands is few));
  wrote = λ terms world stands follows. subst (λ (s : LineStep World Moment). WentOn IsReported s (items text)) (sym (step_as terms world line false (in_day terms world kit stands few)))
      (done.wrote terms (on_next_line world) (stands_next terms world kit mid stands is few) follows);
}

pub next_refused : {T : Type 0} (kit mid : Kit) (line : List ℕ) (r : Result T Stop) → IfErr r (Refuses (λ terms world. done_read terms world line) mid)
    → mid ≡ record kit { row = kit.row + 1 } → kit.row + 1 ≤ 200_000 → IfErr r (Refuses (λ terms world. step_at terms world line) kit)
next_refused kit mid line (Ok text) refuses is few = tt
next_refused kit mid line (Err stop) refuses is few = record {
  stopped = λ terms world stands. subst (λ (s : LineStep World Moment). Stopped s stop)
      (sym (step_as terms world line false (in_day terms world kit stands few)))
      (refuses.stopped terms (on_next_line world) (stands_next terms world kit mid stands is few));
  of_line = refuses.of_line;
}

pub too_long : (kit : Kit) (line : List ℕ) (stop : Stop) → stop ≡ Script (kit.row + 1) Long → 200_000 < kit.row + 1 → Refuses (λ terms world. step_at terms world line) kit stop
too_long kit line stop is many = record {
  stopped = λ terms world stands. subst (λ (s : Stop). Stopped (step_at terms world line) s) (sym is)
      (subst (λ (s : LineStep World Moment). Stopped s (Script (kit.row + 1) Long)) (sym (step_as terms world line true (past_day terms world kit stands many)))
      (ap (λ (n : ℕ). Script (n + 1) Long) stands.row));
  of_line = subst OfLine (sym is) tt;
}
