-- An event happens at the exchange, and what it has to say is handed out.
use Rattle.std.proofs.Common.{◌≡◌, ◌≤◌, ℕ, ◌+◌, Bool, List, [], ◌++◌, codes, drop, length, map, refl, sym, ◌∙◌, ap, subst, arith, length-append, Result, Ok, Err, IfOk, OnOk}
use Rattle.std.proofs.lemmas.List.{append-nil, length-map}
use Rattle.std.proofs.Math.Seq.{drop-append_seam}
use Rattle.t7_base.specs.declared.ids.Channel.TheVariants.{Live, Snap}
use Rattle.t7_book.specs.declared.command.Command.{Command}
use Rattle.t7_book.specs.Acts.{Accepts, Act}
use Rattle.t7_eobi.specs.declared.walks.Snap.{Snap as Item}
use Rattle.t7_entry.specs.Days.{Day, day_after, due}
use Rattle.t7_entry.specs.Events.{Event, happens}
use Rattle.t7_entry.specs.State.{Doing, Setting, State}
use Rattle.t7_exchange.specs.Paired.{ArePaired}
use Rattle.t7_acts.specs.Added.{added_by}
use Rattle.t7_acts.specs.InStep.{IsInStep, setting_of}
use Rattle.t7_acts.specs.Left.{left_of}
use Rattle.t7_feed.specs.Arrivals.{Delivery, Terms, arrivals}
use Rattle.t7_feed.specs.Sending.{Genuine, beats_in, sent_on, snaps_in}
use Rattle.t7_member.specs.Keeping.{Image, Keeps}
use Rattle.t7_packets.specs.Packing.{datagram_bytes}
use Rattle.t7_outcome.specs.declared.ending.Stop.{Stop}
use Rattle.t7_outcome.specs.Outcome.{text_of}
use Rattle.t7_outcome.proofs.Lines.{spelled_says}
use Rattle.t7_replay.specs.Calling.{said_to, told_all}
use Rattle.t7_replay.specs.Handing.{AreSaidReplies, due_bytes, handed_out}
use Rattle.t7_replay.specs.Kits.{Enters, Kit, Stands, day_at, handed, waiting_lines}
use Rattle.t7_replay.specs.Lines.{datagram_lines, replies_lines, sent_lines, under}
use Rattle.t7_replay.specs.Reports.{IsReported}
use Rattle.t7_replay.specs.Steps.{after_entry, entered, entry_lines}
use Rattle.t7_replay.specs.World.{World}
use Rattle.t7_replay.proofs.Telling.{said_behind, said_caller, told_made, told_sound}

-- how what is sent grows as commands are accepted
pub record Grows : Type 0 where
  pub step : (terms : Terms) (acts : List Act) (day : Day) (put : List (List ℕ)) (event : Event) → IsInStep terms acts day put
      → IsInStep terms (acts ++ map Accepts (added_by day.setting day.state event)) (day_after day event) put
  pub snap : (terms : Terms) (acts : List Act) (cs : List Command) → sent_on terms (acts ++ map Accepts cs) Snap ≡ sent_on terms acts Snap
  pub left : (terms : Terms) (acts : List Act) (cs : List Command) → left_of terms (acts ++ map Accepts cs) ≡ left_of terms acts
  pub beats : (acts : List Act) (cs : List Command) → beats_in (acts ++ map Accepts cs) ≡ beats_in acts
  pub snaps : (acts : List Act) (cs : List Command) → snaps_in (acts ++ map Accepts cs) ≡ snaps_in acts
  pub genuine : (terms : Terms) (acts more : List Act) (dl : List Delivery) → Genuine terms acts dl → Genuine terms (acts ++ more) dl

-- a program that stands in a world is in step with it
pub in_step : (terms : Terms) (world : World) (kit : Kit) → Stands terms world kit → IsInStep terms world.acts (day_at terms world) kit.lives
in_step terms world kit stands = record {
  setting = refl;
  accepted = sym stands.commands;
  live = sym (ap length stands.lives);
  few = omega arith;
  whole = append-nil kit.lives ∙ stands.lives;
}

-- days that differ in their counts alone
pub same_day : (setting : Setting) (state : State) (l l2 b b2 s s2 : ℕ) (left left2 : List (List Item)) → l ≡ l2 → b ≡ b2 → left ≡ left2 → s ≡ s2
    → (let one : Day = record { setting = setting; state = state; waiting = []; untold = []; live = l; beats = b; left = left; snaps = s } in one)
    ≡ record { setting = setting; state = state; waiting = []; untold = []; live = l2; beats = b2; left = left2; snaps = s2 }
same_day setting state l l2 b b2 s s2 left left2 a c d e = rw (a, c, d, e) refl

-- the datagrams that stand behind those that were sent before
pub sent_behind : (word : List ℕ) (before more now : List (List ℕ)) → now ≡ before ++ more → sent_lines word before now ≡ datagram_lines word (length before) more
sent_behind word before more now is =
    ap (λ (l : List (List ℕ)). datagram_lines word (length before) (drop (length before) l)) is ∙ ap (datagram_lines word (length before)) (drop-append_seam before more)

module _ (laws : Grows) (terms : Terms) (world : World) (before mid new : Kit) (event : Event) (stands : Stands terms world before)
    (is : mid ≡ record before { day = day_after before.day event }) (next : new ≡ handed mid)
    (spoken : AreSaidReplies mid.day.setting.layouts mid.day.waiting) (whole : ArePaired mid.day.state) where
  -- the day after the event
  abbrev day : Day
  day = day_after (day_at terms world) event

  abbrev after : World
  after = after_entry terms world (happens (setting_of terms) world.state event)

  -- what is done
  abbrev doings : List Doing
  doings = (happens (setting_of terms) world.state event).doings

  -- the commands that it accepts
  abbrev cs : List Command
  cs = added_by (setting_of terms) world.state event

  mid_day : mid.day ≡ day
  mid_day = ap (λ (k : Kit). k.day) is ∙ ap (λ (d : Day). day_after d event) stands.day

  mid_step : IsInStep terms after.acts day before.lives
  mid_step = laws.step terms world.acts (day_at terms world) before.lives event (in_step terms world before stands)

  -- the live datagrams are those of the acts
  all_lives : sent_on terms after.acts Live ≡ sent_on terms world.acts Live ++ due_bytes day
  all_lives = sym mid_step.whole ∙ ap (λ (l : List (List ℕ)). l ++ due_bytes day) stands.lives

  live_count : length (sent_on terms world.acts Live) + length (due day) ≡ length (sent_on terms after.acts Live)
  live_count = omega (
    arith,
    ap length all_lives,
    length-append (sent_on terms world.acts Live) (due_bytes day),
    length-map (due day) (datagram_bytes terms.layouts terms.listing.segment),
  )

  new_day : new.day ≡ day_at terms after
  new_day =
      ap (λ (k : Kit). k.day) next ∙ ap handed_out mid_day
      ∙ same_day (setting_of terms) after.state _ _ _ _ _ _ _ _ live_count (sym (laws.beats world.acts cs)) (sym (laws.left terms world.acts cs)) (sym (laws.snaps world.acts cs))

  new_lives : new.lives ≡ sent_on terms after.acts Live
  new_lives =
      ap (λ (k : Kit). k.lives) next
      ∙ ap (λ (d : Day). mid.lives ++ due_bytes d) mid_day
      ∙ ap (λ (l : List (List ℕ)). l ++ due_bytes day) (ap (λ (k : Kit). k.lives) is ∙ stands.lives)
      ∙ sym all_lives

  new_caller : new.caller ≡ told_all terms.layouts day.waiting world.caller
  new_caller =
      ap (λ (k : Kit). k.caller) next
      ∙ ap (λ (d : Day). told_all d.setting.layouts d.waiting mid.caller) mid_day
      ∙ ap (told_all terms.layouts day.waiting) (ap (λ (k : Kit). k.caller) is ∙ stands.caller)

  new_image : new.image ≡ before.image
  new_image = ap (λ (k : Kit). k.image) next ∙ ap (λ (k : Kit). k.image) is

  pub stands_after : Stands terms after new
  stands_after = record {
    day = new_day;
    lives = new_lives;
    snaps = ap (λ (k : Kit). k.snaps) next ∙ ap (λ (k : Kit). k.snaps) is ∙ stands.snaps ∙ sym (laws.snap terms world.acts cs);
    caller = new_caller;
    moment = ap (λ (k : Kit). k.moment) next ∙ ap (λ (k : Kit). k.moment) is ∙ stands.moment;
    raw = ap (λ (k : Kit). k.raw) next ∙ ap (λ (k : Kit). k.raw) is ∙ stands.raw;
    row = ap (λ (k : Kit). k.row) next ∙ ap (λ (k : Kit). k.row) is ∙ stands.row;
    layouts = ap (λ (k : Kit). k.layouts) next ∙ ap (λ (k : Kit). k.layouts) is ∙ stands.layouts;
    listing = ap (λ (k : Kit). k.listing) next ∙ ap (λ (k : Kit). k.listing) is ∙ stands.listing;
    commands = sym mid_step.accepted;
    numbered = ap length (laws.snap terms world.acts cs) ∙ stands.numbered ∙ sym (laws.snaps world.acts cs);
    few_beats = subst (λ (n : ℕ). n ≤ world.row) (sym (laws.beats world.acts cs)) stands.few_beats;
    few_snaps = subst (λ (n : ℕ). n ≤ world.row) (sym (laws.snaps world.acts cs)) stands.few_snaps;
    few_made = subst (λ (n : ℕ). n ≤ world.row) (sym (told_made terms.layouts day.waiting world.caller)) stands.few_made;
    few_lines = stands.few_lines;
    genuine = λ not. laws.genuine terms world.acts (map Accepts cs) world.came (stands.genuine not);
    keeps = λ acts are. subst (λ (i : Image). Keeps terms acts i (arrivals terms world.came)) (sym new_image) (stands.keeps acts are);
    table = stands.table;
    said = said_behind terms.layouts world.said (said_to world.caller doings) stands.said
        (said_caller terms.layouts world.caller doings (subst (λ (d : Day). AreSaidReplies d.setting.layouts d.waiting) mid_day spoken));
    sound = told_sound terms.layouts day.waiting world.caller stands.sound;
    paired = subst (λ (d : Day). ArePaired d.state) mid_day whole;
  }

  pub lines_after : waiting_lines mid ≡ entry_lines terms world (happens (setting_of terms) world.state event)
  lines_after =
      ap (λ (d : Day). replies_lines d.setting.layouts mid.raw d.waiting ++ under mid.raw (datagram_lines (codes "LIVE") (length mid.lives) (due_bytes d))) mid_day
      ∙ ap (λ (raw : Bool). replies_lines terms.layouts raw day.waiting ++ under raw (datagram_lines (codes "LIVE") (length mid.lives) (due_bytes day)))
      (ap (λ (k : Kit). k.raw) is ∙ stands.raw)
      ∙ ap (λ (l : List (List ℕ)). replies_lines terms.layouts world.raw day.waiting ++ under world.raw (datagram_lines (codes "LIVE") (length l) (due_bytes day)))
      (ap (λ (k : Kit). k.lives) is ∙ stands.lives)
      ∙ ap (λ (l : List (List ℕ)). replies_lines terms.layouts world.raw day.waiting ++ under world.raw l)
      (sym (sent_behind (codes "LIVE") (sent_on terms world.acts Live) (due_bytes day) (sent_on terms after.acts Live) all_lives))

-- so the event is done
pub does_entered : Grows → (before mid new : Kit) (event : Event) (text : List ℕ) → mid ≡ record before { day = day_after before.day event } → new ≡ handed mid
    → text ≡ text_of (waiting_lines mid) → AreSaidReplies mid.day.setting.layouts mid.day.waiting → ArePaired mid.day.state → Enters (λ terms world. entered terms world event) before new text
does_entered laws before mid new event text is next said spoken whole = record {
  went = λ terms world stands. stands_after laws terms world before mid new event stands is next spoken whole;
  wrote = λ terms world stands. (
    entry_lines terms world (happens (setting_of terms) world.state event),
    spelled_says IsReported (entry_lines terms world (happens (setting_of terms) world.state event)),
    said ∙ ap text_of (lines_after laws terms world before mid new event stands is next spoken whole),
  );
}

-- The same of a call's answer: the items of its text are what was printed.
pub entered_all : {T : Type 0} (items : T → List ℕ) → Grows → (mid new : Kit) (r : Result T Stop) → OnOk r (new ≡ handed mid) → IfOk r (λ text. items text ≡ text_of (waiting_lines mid))
    → OnOk r (AreSaidReplies mid.day.setting.layouts mid.day.waiting) → ArePaired mid.day.state
    → IfOk r (λ text. (before : Kit) (event : Event) → mid ≡ record before { day = day_after before.day event } → Enters (λ terms world. entered terms world event) before new (items text))
entered_all items laws mid new (Ok text) next said spoken whole = λ before event is. does_entered laws before mid new event (items text) is next said spoken whole
entered_all items laws mid new (Err stop) next said spoken whole = tt
