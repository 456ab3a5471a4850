-- What the program of a replay keeps, and how it stands in a world.
use Rattle.std.specs.Prelude.{◌≡◌, ℕ, ℤ, pos, ◌≤ℤ◌, ◌+◌, ◌≤◌, ◌<◌, Bool, false, Contains, List, Option, Some, None, [], ◌∷◌, ◌++◌, codes, length}
use Rattle.t7_base.specs.declared.ids.Channel.{Channel}
use Rattle.t7_base.specs.declared.ids.Channel.TheVariants.{Live, Snap}
use Rattle.t7_base.specs.declared.ids.Feed.{Feed}
use Rattle.t7_base.specs.Listing.{Listing}
use Rattle.t7_book.specs.Acts.{Act, commands_of}
use Rattle.t7_eobi.specs.declared.faults.PacketFault.{PacketFault}
use Rattle.t7_eobi.specs.declared.walks.Snap.{Snap as Item}
use Rattle.t7_eobi.specs.Faults.{fault_of}
use Rattle.t7_entry.specs.Days.{Day, last_of}
use Rattle.t7_packets.specs.Packing.{datagram_bytes, of_beat}
use Rattle.t7_acts.specs.InStep.{setting_of}
use Rattle.t7_acts.specs.Left.{left_of}
use Rattle.t7_feed.specs.Arrivals.{Delivery, Terms, arrivals, reading_of}
use Rattle.t7_feed.specs.Sending.{AreActs, Genuine, beats_in, cycle_now, sent_on, snap_datagram_bytes, snaps_in, under_way}
use Rattle.t7_layout.specs.Layouts.{Layout}
use Rattle.t7_layout.specs.Lookups.{IsTable}
use Rattle.t7_member.specs.Keeping.{Image, Keeps}
use Rattle.t7_member.specs.declared.member.Delivered.{Delivered}
use Rattle.t7_member.specs.declared.member.Delivered.TheVariants.{Bad, Taken}
use Rattle.t7_outcome.specs.declared.ending.Stop.{Stop}
use Rattle.t7_outcome.specs.declared.ending.Stop.TheVariants.{Memory, Script}
use Rattle.t7_outcome.specs.Outcome.{text_of}
use Rattle.t7_outcome.specs.Steps.{GoesTo, LineStep, Stopped, WentOn}
use Rattle.t7_script.specs.declared.event.Event.{Event}
use Rattle.t7_script.specs.declared.event.Event.TheVariants.{Clear, Dial, Order}
use Rattle.t7_exchange.specs.Paired.{ArePaired}
use Rattle.t7_dialog.specs.Saying.{AreSaid}
use Rattle.t7_replay.specs.Calling.{Calling, IsSoundCaller, made_by, told_all}
use Rattle.t7_replay.specs.Following.{Follows}
use Rattle.t7_replay.specs.Handing.{due_bytes, handed_out}
use Rattle.t7_replay.specs.Lines.{bad_lines, datagram_lines, replies_lines, under}
use Rattle.t7_replay.specs.Reports.{IsReported, Moment}
use Rattle.t7_replay.specs.World.{World}

-- what contracts see of the program: the exchange, the member, the datagrams that were sent, the client, the moment, whether bytes are
-- printed, how many lines were played, the table by which the client reads, and the product by which lines are read
pub record Kit : Type 0 where
  pub day : Day
  pub image : Image
  pub lives : List (List ℕ)
  pub snaps : List (List ℕ)
  pub caller : Option Calling
  pub moment : ℕ
  pub raw : Bool
  pub row : ℕ
  pub layouts : List Layout
  pub listing : Listing

-- the exchange in a world, between two lines: nothing waits
abbrev pub day_at : Terms → World → Day
day_at terms world = record {
  setting = setting_of terms;
  state = world.state;
  waiting = [];
  untold = [];
  live = length (sent_on terms world.acts Live);
  beats = beats_in world.acts;
  left = left_of terms world.acts;
  snaps = snaps_in world.acts;
}

-- The program stands in a world: it keeps what the world says and the datagrams that its acts send. The commands of the acts are the accepted
-- ones, there are no more heartbeats, snapshot datagrams and orders of the client than lines, and where nothing was forged what was
-- delivered is genuine. Whatever the exchange did, the member keeps what it is to keep of what was delivered. The table is valid, the bytes of each response that was
-- said to the client say it, the client is one that a program may hold, and a connection on which nothing may come has no line.
pub record Stands (terms : Terms) (world : World) (kit : Kit) : Type 0 where
  pub day : kit.day ≡ day_at terms world
  pub lives : kit.lives ≡ sent_on terms world.acts Live
  pub snaps : kit.snaps ≡ sent_on terms world.acts Snap
  pub caller : kit.caller ≡ world.caller
  pub moment : kit.moment ≡ world.moment
  pub raw : kit.raw ≡ world.raw
  pub row : kit.row ≡ world.row
  pub layouts : kit.layouts ≡ terms.layouts
  pub listing : kit.listing ≡ terms.listing
  pub commands : commands_of world.acts ≡ world.state.core.accepted
  pub numbered : length (sent_on terms world.acts Snap) ≡ snaps_in world.acts
  pub few_beats : beats_in world.acts ≤ world.row
  pub few_snaps : snaps_in world.acts ≤ world.row
  pub few_made : made_by world.caller ≤ world.row
  pub few_lines : world.row ≤ 200_000
  pub genuine : world.forged ≡ false → Genuine terms world.acts world.came
  pub keeps : (acts : List Act) → AreActs terms.listing acts → Keeps terms acts kit.image (arrivals terms world.came)
  pub table : IsTable terms.layouts
  pub said : AreSaid terms.layouts world.said
  pub sound : IsSoundCaller world.caller
  pub paired : ArePaired world.state

-- the table and the product of a program
abbrev pub terms_of : Kit → Terms
terms_of kit = record { layouts = kit.day.setting.layouts; listing = kit.day.setting.listing }

-- the datagrams of a channel
abbrev pub on_channel : Channel → List (List ℕ) → List (List ℕ) → List (List ℕ)
on_channel Live lives snaps = lives
on_channel Snap lives snaps = snaps

-- the fault of a delivery, if it was refused
abbrev pub fault_in : Delivered → Option PacketFault
fault_in Taken = None
fault_in (Bad fault) = Some fault

-- what the cells of an event owe: a security to be cleared is one of these, and a session, a security and a ClOrdID of the client are in their ranges
abbrev pub IsOfForm : List ℤ → Event → Type 0
IsOfForm listed (Clear security) = Contains listed security
IsOfForm listed (Dial conn session) = (1 ≤ session) × (session ≤ 4_000_000_000)
IsOfForm listed (Order security side price quantity client) =
    (pos 1 ≤ℤ security) × (security ≤ℤ pos 1_000_000_000_000_000_000) × (client < 18_446_744_073_709_551_615)
IsOfForm listed event = Unit {0}

-- nothing waits, and a line more may be played
pub record IsReady (kit : Kit) : Type 0 where
  pub listing : kit.listing ≡ kit.day.setting.listing
  pub told : kit.day.untold ≡ []
  pub beats : kit.day.beats ≤ kit.row
  pub snaps : kit.day.snaps ≤ kit.row
  pub made : made_by kit.caller ≤ kit.row
  pub few : kit.row ≤ 200_000

-- nothing waits, and a line is played
pub record IsPlaying (kit : Kit) : Type 0 where
  pub listing : kit.listing ≡ kit.day.setting.listing
  pub told : kit.day.untold ≡ []
  pub beats : kit.day.beats < kit.row
  pub snaps : kit.day.snaps < kit.row
  pub made : made_by kit.caller < kit.row
  pub few : kit.row ≤ 200_000

-- the program once all that waits was handed out
abbrev pub handed : Kit → Kit
handed kit = record kit {
  day = handed_out kit.day;
  lives = kit.lives ++ due_bytes kit.day;
  caller = told_all kit.day.setting.layouts kit.day.waiting kit.caller;
}

-- the lines of all that waits
abbrev pub waiting_lines : Kit → List (List ℕ)
waiting_lines kit =
    replies_lines kit.day.setting.layouts kit.raw kit.day.waiting
    ++ under kit.raw (datagram_lines (codes "LIVE") (length kit.lives) (due_bytes kit.day))

-- the bytes of the next heartbeat
abbrev pub beat_of : Day → List ℕ
beat_of day = datagram_bytes day.setting.layouts day.setting.listing.segment (of_beat (day.live + 1) (last_of day))

-- the program once a heartbeat was sent
abbrev pub after_beat : Kit → Kit
after_beat kit = record kit { day = record kit.day { live = kit.day.live + 1; beats = kit.day.beats + 1 }; lives = kit.lives ++ beat_of kit.day ∷ [] }

-- the next snapshot datagram was sent, of these items, and its line is a text under RAW
pub record KeepsSnap (old new : Kit) (text : List ℕ) : Type 0 where
  pub items : List Item
  pub next : under_way old.day.left (cycle_now (terms_of old) old.day.state.core.accepted) ≡ items ∷ new.day.left
  pub others : new ≡ record old {
    day = record old.day { left = new.day.left; snaps = old.day.snaps + 1 };
    snaps = old.snaps ++ snap_datagram_bytes (terms_of old) (old.day.snaps + 1) items ∷ [];
  }
  pub lines : text
      ≡ text_of (under old.raw (datagram_lines (codes "SNAP") (length old.snaps) (snap_datagram_bytes (terms_of old) (old.day.snaps + 1) items ∷ [])))

-- bytes were delivered to the member on a feed, and where they are refused that is a text
pub record Gives (feed : Feed) (bytes : List ℕ) (old new : Image) (text : List ℕ) : Type 0 where
  pub keeps : (terms : Terms) (acts : List Act) (dl : List Delivery) → AreActs terms.listing acts → Keeps terms acts old (arrivals terms dl)
      → Keeps terms acts new (arrivals terms (record { feed = feed; bytes = bytes } ∷ dl))
  pub lines : text ≡ text_of (bad_lines (fault_of (reading_of old.terms feed) bytes))

-- In each world in which the program stands, the step was done: the program stands in the world that it leads to, and, where the client follows the exchange in that
-- world, this is the text of what it prints.
pub record Does (step : Terms → World → LineStep World Moment) (old new : Kit) (text : List ℕ) : Type 0 where
  pub went : (terms : Terms) (world : World) → Stands terms world old → GoesTo (step terms world) (λ after. Stands terms after new)
  pub wrote : (terms : Terms) (world : World) → Stands terms world old → Follows terms world → WentOn IsReported (step terms world) text

-- the same of a step whose text needs nothing of the client
pub record Enters (step : Terms → World → LineStep World Moment) (old new : Kit) (text : List ℕ) : Type 0 where
  pub went : (terms : Terms) (world : World) → Stands terms world old → GoesTo (step terms world) (λ after. Stands terms after new)
  pub wrote : (terms : Terms) (world : World) → Stands terms world old → WentOn IsReported (step terms world) text

-- the stops that a line can bring before it prints
abbrev pub OfLine : Stop → Type 0
OfLine (Script row why) = Unit {0}
OfLine Memory = Unit {0}
OfLine _ = ⊥

-- In each of these worlds the step stopped the script, or memory was wanting for it.
pub record Refuses (step : Terms → World → LineStep World Moment) (old : Kit) (stop : Stop) : Type 0 where
  pub stopped : (terms : Terms) (world : World) → Stands terms world old → Stopped (step terms world) stop
  pub of_line : OfLine stop
