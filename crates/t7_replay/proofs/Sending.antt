-- Heartbeats and snapshot datagrams that are sent.
use Rattle.std.proofs.Common.{◌≡◌, ◌≤◌, ℕ, ◌+◌, Bool, List, [], ◌∷◌, ◌++◌, codes, length, refl, sym, ◌∙◌, ap, subst, arith, length-append, Result, Ok, Err, IfOk, OnOk}
use Rattle.t7_base.specs.declared.ids.Channel.TheVariants.{Live, Snap}
use Rattle.t7_book.specs.declared.command.Command.{Command}
use Rattle.t7_book.specs.Acts.{Act, Beats, Snaps, commands_of}
use Rattle.t7_book.specs.Trace.{trace}
use Rattle.t7_eobi.specs.declared.walks.Snap.{Snap as Item}
use Rattle.t7_entry.specs.Days.{Day}
use Rattle.t7_acts.specs.InStep.{setting_of}
use Rattle.t7_acts.specs.Left.{left_of, next_snaps}
use Rattle.t7_acts.specs.Next.{live_bytes, next_datagram}
use Rattle.t7_packets.specs.Packing.{of_beat}
use Rattle.t7_feed.specs.Arrivals.{Delivery, Terms, arrivals}
use Rattle.t7_feed.specs.Sending.{Genuine, beats_in, cycle_now, last_of, sent_on, snap_datagram_bytes, snaps_in, under_way}
use Rattle.t7_member.specs.Keeping.{Image, Keeps}
use Rattle.t7_outcome.specs.declared.ending.Stop.{Stop}
use Rattle.t7_outcome.specs.Outcome.{text_of}
use Rattle.t7_script.specs.declared.event.Event.TheVariants as kind
use Rattle.t7_replay.specs.Kits.{Does, IsPlaying, KeepsSnap, Kit, Stands, after_beat, beat_of, day_at, terms_of}
use Rattle.t7_replay.specs.Lines.{datagram_lines, sent_lines, under}
use Rattle.t7_replay.specs.Steps.{done_by}
use Rattle.t7_replay.specs.World.{World}
use Rattle.t7_replay.proofs.Doing.{does_says}
use Rattle.t7_replay.proofs.Entering.{same_day, sent_behind}

-- how what is sent grows with a heartbeat
pub record GrowsByBeat : Type 0 where
  pub live : (terms : Terms) (acts : List Act) → sent_on terms (acts ++ Beats ∷ []) Live
      ≡ sent_on terms acts Live ++ live_bytes terms (of_beat (next_datagram terms acts Live) (last_of terms.listing (commands_of acts)) ∷ [])
  pub snap : (terms : Terms) (acts : List Act) → sent_on terms (acts ++ Beats ∷ []) Snap ≡ sent_on terms acts Snap
  pub commands : (acts : List Act) → commands_of (acts ++ Beats ∷ []) ≡ commands_of acts
  pub left : (terms : Terms) (acts : List Act) → left_of terms (acts ++ Beats ∷ []) ≡ left_of terms acts
  pub beats : (acts : List Act) → beats_in (acts ++ Beats ∷ []) ≡ beats_in acts + 1
  pub snaps : (acts : List Act) → snaps_in (acts ++ Beats ∷ []) ≡ snaps_in acts
  pub genuine : (terms : Terms) (acts more : List Act) (dl : List Delivery) → Genuine terms acts dl → Genuine terms (acts ++ more) dl

module _ (laws : GrowsByBeat) (terms : Terms) (world : World) (kit new : Kit) (ready : IsPlaying kit) (stands : Stands terms world kit) (is : new ≡ after_beat kit) where
  abbrev acts : List Act
  acts = world.acts ++ Beats ∷ []

  -- the bytes of the heartbeat
  abbrev bytes : List ℕ
  bytes = beat_of (day_at terms world)

  same_last : length (trace terms.listing world.state.core.accepted) ≡ last_of terms.listing (commands_of world.acts)
  same_last = ap (λ (l : List Command). length (trace terms.listing l)) (sym stands.commands)

  all_lives : sent_on terms acts Live ≡ sent_on terms world.acts Live ++ bytes ∷ []
  all_lives = laws.live terms world.acts
      ∙ ap (λ (n : ℕ). sent_on terms world.acts Live ++ live_bytes terms (of_beat (next_datagram terms world.acts Live) n ∷ [])) (sym same_last)

  beat_is : beat_of kit.day ≡ bytes
  beat_is = ap beat_of stands.day

  few : beats_in world.acts + 1 ≤ world.row
  few = omega (arith, ready.beats, ap (λ (d : Day). d.beats) stands.day, stands.row)

  pub stands_beat : Stands terms (record world { acts = acts }) new
  stands_beat = record {
    day = ap (λ (k : Kit). k.day) is
        ∙ ap (λ (d : Day). record d { live = d.live + 1; beats = d.beats + 1 }) stands.day
        ∙ same_day (setting_of terms) world.state _ _ _ _ _ _ _ _
        (omega (arith, ap length all_lives, length-append (sent_on terms world.acts Live) (bytes ∷ [])))
        (sym (laws.beats world.acts)) (sym (laws.left terms world.acts)) (sym (laws.snaps world.acts));
    lives = ap (λ (k : Kit). k.lives) is
        ∙ ap (λ (b : List ℕ). kit.lives ++ b ∷ []) beat_is
        ∙ ap (λ (l : List (List ℕ)). l ++ bytes ∷ []) stands.lives
        ∙ sym all_lives;
    snaps = ap (λ (k : Kit). k.snaps) is ∙ stands.snaps ∙ sym (laws.snap terms world.acts);
    caller = ap (λ (k : Kit). k.caller) is ∙ stands.caller;
    moment = ap (λ (k : Kit). k.moment) is ∙ stands.moment;
    raw = ap (λ (k : Kit). k.raw) is ∙ stands.raw;
    row = ap (λ (k : Kit). k.row) is ∙ stands.row;
    layouts = ap (λ (k : Kit). k.layouts) is ∙ stands.layouts;
    listing = ap (λ (k : Kit). k.listing) is ∙ stands.listing;
    commands = laws.commands world.acts ∙ stands.commands;
    numbered = ap length (laws.snap terms world.acts) ∙ stands.numbered ∙ sym (laws.snaps world.acts);
    few_beats = subst (λ (n : ℕ). n ≤ world.row) (sym (laws.beats world.acts)) few;
    few_snaps = subst (λ (n : ℕ). n ≤ world.row) (sym (laws.snaps world.acts)) stands.few_snaps;
    few_made = stands.few_made;
    few_lines = stands.few_lines;
    genuine = λ not. laws.genuine terms world.acts (Beats ∷ []) world.came (stands.genuine not);
    keeps = λ all are. subst (λ (i : Image). Keeps terms all i (arrivals terms world.came)) (sym (ap (λ (k : Kit). k.image) is)) (stands.keeps all are);
    table = stands.table;
    said = stands.said;
    sound = stands.sound;
    paired = stands.paired;
  }

  pub lines_beat : under kit.raw (datagram_lines (codes "LIVE") (length kit.lives) (beat_of kit.day ∷ []))
      ≡ under world.raw (sent_lines (codes "LIVE") (sent_on terms world.acts Live) (sent_on terms acts Live))
  lines_beat =
      ap (λ (raw : Bool). under raw (datagram_lines (codes "LIVE") (length kit.lives) (beat_of kit.day ∷ []))) stands.raw
      ∙ ap (λ (l : List (List ℕ)). under world.raw (datagram_lines (codes "LIVE") (length l) (beat_of kit.day ∷ []))) stands.lives
      ∙ ap (λ (b : List ℕ). under world.raw (datagram_lines (codes "LIVE") (length (sent_on terms world.acts Live)) (b ∷ []))) beat_is
      ∙ ap (under world.raw) (sym (sent_behind (codes "LIVE") (sent_on terms world.acts Live) (bytes ∷ []) (sent_on terms acts Live) all_lives))

pub beat_done : {T : Type 0} (items : T → List ℕ) → GrowsByBeat → (kit new : Kit) (r : Result T Stop) → IsPlaying kit → OnOk r (new ≡ after_beat kit)
    → IfOk r (λ text. items text ≡ text_of (under kit.raw (datagram_lines (codes "LIVE") (length kit.lives) (beat_of kit.day ∷ []))))
    → IfOk r (λ text. Does (λ terms world. done_by terms world kind.Beat) kit new (items text))
beat_done items laws kit new (Err stop) ready is said = tt
beat_done items laws kit new (Ok text) ready is said =
    does_says (λ terms world. done_by terms world kind.Beat) (λ terms world. record world { acts = world.acts ++ Beats ∷ [] })
    (λ terms world. under world.raw (sent_lines (codes "LIVE") (sent_on terms world.acts Live) (sent_on terms (world.acts ++ Beats ∷ []) Live)))
    kit new (items text) (λ terms world stands. refl)
    (λ terms world stands. stands_beat laws terms world kit new ready stands is)
    (λ terms world stands. said ∙ ap text_of (lines_beat laws terms world kit new ready stands is))

-- how what is sent grows with a snapshot datagram
pub record GrowsBySnap : Type 0 where
  pub live : (terms : Terms) (acts : List Act) → sent_on terms (acts ++ Snaps ∷ []) Live ≡ sent_on terms acts Live
  pub snap : (terms : Terms) (acts : List Act) (items : List Item) (rest : List (List Item)) → next_snaps terms acts ≡ items ∷ rest
      → sent_on terms (acts ++ Snaps ∷ []) Snap ≡ sent_on terms acts Snap ++ snap_datagram_bytes terms (next_datagram terms acts Snap) items ∷ []
  pub commands : (acts : List Act) → commands_of (acts ++ Snaps ∷ []) ≡ commands_of acts
  pub left : (terms : Terms) (acts : List Act) (items : List Item) (rest : List (List Item)) → next_snaps terms acts ≡ items ∷ rest
      → left_of terms (acts ++ Snaps ∷ []) ≡ rest
  pub beats : (acts : List Act) → beats_in (acts ++ Snaps ∷ []) ≡ beats_in acts
  pub snaps : (acts : List Act) → snaps_in (acts ++ Snaps ∷ []) ≡ snaps_in acts + 1
  pub genuine : (terms : Terms) (acts more : List Act) (dl : List Delivery) → Genuine terms acts dl → Genuine terms (acts ++ more) dl

module _ (laws : GrowsBySnap) (terms : Terms) (world : World) (kit new : Kit) (text : List ℕ) (ready : IsPlaying kit) (stands : Stands terms world kit)
    (keeps : KeepsSnap kit new text) where
  abbrev snap_acts : List Act
  snap_acts = world.acts ++ Snaps ∷ []

  same_terms : terms_of kit ≡ terms
  same_terms = ap (λ (d : Day). let t : Terms = record { layouts = d.setting.layouts; listing = d.setting.listing } in t) stands.day

  next : next_snaps terms world.acts ≡ keeps.items ∷ new.day.left
  next =
      ap (λ (l : List Command). under_way (left_of terms world.acts) (cycle_now terms l)) stands.commands
      ∙ ap (λ (d : Day). under_way d.left (cycle_now (record { layouts = d.setting.layouts; listing = d.setting.listing }) d.state.core.accepted)) (sym stands.day)
      ∙ keeps.next

  -- the bytes of the datagram
  abbrev snap_bytes : List ℕ
  snap_bytes = snap_datagram_bytes terms (next_datagram terms world.acts Snap) keeps.items

  same_number : kit.day.snaps + 1 ≡ next_datagram terms world.acts Snap
  same_number = omega (arith, ap (λ (d : Day). d.snaps) stands.day, stands.numbered)

  same_bytes : snap_datagram_bytes (terms_of kit) (kit.day.snaps + 1) keeps.items ≡ snap_bytes
  same_bytes = ap (λ (t : Terms). snap_datagram_bytes t (kit.day.snaps + 1) keeps.items) same_terms ∙ ap (λ (n : ℕ). snap_datagram_bytes terms n keeps.items) same_number

  all_snaps : sent_on terms snap_acts Snap ≡ sent_on terms world.acts Snap ++ snap_bytes ∷ []
  all_snaps = laws.snap terms world.acts keeps.items new.day.left next

  few_snaps : snaps_in world.acts + 1 ≤ world.row
  few_snaps = omega (arith, ready.snaps, ap (λ (d : Day). d.snaps) stands.day, stands.row)

  pub stands_snap : Stands terms (record world { acts = snap_acts }) new
  stands_snap = record {
    day = ap (λ (k : Kit). k.day) keeps.others
        ∙ ap (λ (d : Day). record d { left = new.day.left; snaps = d.snaps + 1 }) stands.day
        ∙ same_day (setting_of terms) world.state _ _ _ _ _ _ _ _ (sym (ap length (laws.live terms world.acts))) (sym (laws.beats world.acts))
        (sym (laws.left terms world.acts keeps.items new.day.left next)) (sym (laws.snaps world.acts));
    lives = ap (λ (k : Kit). k.lives) keeps.others ∙ stands.lives ∙ sym (laws.live terms world.acts);
    snaps = ap (λ (k : Kit). k.snaps) keeps.others
        ∙ ap (λ (b : List ℕ). kit.snaps ++ b ∷ []) same_bytes
        ∙ ap (λ (l : List (List ℕ)). l ++ snap_bytes ∷ []) stands.snaps
        ∙ sym all_snaps;
    caller = ap (λ (k : Kit). k.caller) keeps.others ∙ stands.caller;
    moment = ap (λ (k : Kit). k.moment) keeps.others ∙ stands.moment;
    raw = ap (λ (k : Kit). k.raw) keeps.others ∙ stands.raw;
    row = ap (λ (k : Kit). k.row) keeps.others ∙ stands.row;
    layouts = ap (λ (k : Kit). k.layouts) keeps.others ∙ stands.layouts;
    listing = ap (λ (k : Kit). k.listing) keeps.others ∙ stands.listing;
    commands = laws.commands world.acts ∙ stands.commands;
    numbered = omega (arith, ap length all_snaps, length-append (sent_on terms world.acts Snap) (snap_bytes ∷ []), stands.numbered, laws.snaps world.acts);
    few_beats = subst (λ (n : ℕ). n ≤ world.row) (sym (laws.beats world.acts)) stands.few_beats;
    few_snaps = subst (λ (n : ℕ). n ≤ world.row) (sym (laws.snaps world.acts)) few_snaps;
    few_made = stands.few_made;
    few_lines = stands.few_lines;
    genuine = λ not. laws.genuine terms world.acts (Snaps ∷ []) world.came (stands.genuine not);
    keeps = λ all are. subst (λ (i : Image). Keeps terms all i (arrivals terms world.came)) (sym (ap (λ (k : Kit). k.image) keeps.others)) (stands.keeps all are);
    table = stands.table;
    said = stands.said;
    sound = stands.sound;
    paired = stands.paired;
  }

  pub lines_snap : text ≡ text_of (under world.raw (sent_lines (codes "SNAP") (sent_on terms world.acts Snap) (sent_on terms snap_acts Snap)))
  lines_snap =
      keeps.lines
      ∙ ap (λ (raw : Bool). text_of (under raw (datagram_lines (codes "SNAP") (length kit.snaps) (snap_datagram_bytes (terms_of kit) (kit.day.snaps + 1) keeps.items ∷ [])))) stands.raw
      ∙ ap (λ (l : List (List ℕ)). text_of (under world.raw (datagram_lines (codes "SNAP") (length l) (snap_datagram_bytes (terms_of kit) (kit.day.snaps + 1) keeps.items ∷ [])))) stands.snaps
      ∙ ap (λ (b : List ℕ). text_of (under world.raw (datagram_lines (codes "SNAP") (length (sent_on terms world.acts Snap)) (b ∷ [])))) same_bytes
      ∙ ap (λ (l : List (List ℕ)). text_of (under world.raw l)) (sym (sent_behind (codes "SNAP") (sent_on terms world.acts Snap) (snap_bytes ∷ []) (sent_on terms snap_acts Snap) all_snaps))

pub snap_done : {T : Type 0} (items : T → List ℕ) → GrowsBySnap → (kit new : Kit) (r : Result T Stop) → IsPlaying kit
    → IfOk r (λ text. KeepsSnap kit new (items text)) → IfOk r (λ text. Does (λ terms world. done_by terms world kind.Snap) kit new (items text))
snap_done items laws kit new (Err stop) ready keeps = tt
snap_done items laws kit new (Ok text) ready keeps =
    does_says (λ terms world. done_by terms world kind.Snap) (λ terms world. record world { acts = world.acts ++ Snaps ∷ [] })
    (λ terms world. under world.raw (sent_lines (codes "SNAP") (sent_on terms world.acts Snap) (sent_on terms (world.acts ++ Snaps ∷ []) Snap)))
    kit new (items text) (λ terms world stands. refl)
    (λ terms world stands. stands_snap laws terms world kit new (items text) ready stands keeps)
    (λ terms world stands. lines_snap laws terms world kit new (items text) ready stands keeps)
