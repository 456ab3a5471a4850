-- What waits at the exchange is handed out, one by one.
use Rattle.std.specs.Prelude.{◌≡◌, ℕ, ◌+◌, Bool, true, false, List, [], ◌∷◌, ◌++◌, codes, length, map, Option}
use Rattle.t7_entry.specs.Days.{Day, due}
use Rattle.t7_layout.specs.Layouts.{Layout}
use Rattle.t7_dialog.specs.Saying.{IsSaid}
use Rattle.t7_entry.specs.State.{Reply, closes, sends}
use Rattle.t7_packets.specs.Packing.{datagram_bytes}
use Rattle.t7_outcome.specs.Outcome.{text_of}
use Rattle.t7_replay.specs.Calling.{Calling, told_all}
use Rattle.t7_replay.specs.Lines.{datagram_lines, reply_lines, under}

-- the bytes of the live datagrams that are still to be sent
abbrev pub due_bytes : Day → List (List ℕ)
due_bytes day = map (datagram_bytes day.setting.layouts day.setting.listing.segment) (due day)

-- all that waits is handed out
abbrev pub handed_out : Day → Day
handed_out day = record day { waiting = []; untold = []; live = day.live + length (due day) }

-- the bytes of each response among replies say it
abbrev pub IsSaidReply : List Layout → Reply → Type 0
IsSaidReply layouts (sends conn r) = IsSaid layouts r
IsSaidReply layouts (closes conn) = Unit {0}

-- so is each of these
abbrev pub AreSaidReplies : List Layout → List Reply → Type 0
AreSaidReplies layouts [] = Unit {0}
AreSaidReplies layouts (reply ∷ replies) = IsSaidReply layouts reply × AreSaidReplies layouts replies

-- the first reply that waits is taken off, the client is told it, and its lines are put behind a text
pub record PrintsReply (raw : Bool) (old new : Day) (was now : Option Calling) (text later : List ℕ) : Type 0 where
  pub reply : Reply
  pub first : old.waiting ≡ reply ∷ new.waiting
  pub said : IsSaidReply old.setting.layouts reply
  pub others : new ≡ record old { waiting = new.waiting }
  pub tells : now ≡ told_all old.setting.layouts (reply ∷ []) was
  pub lines : later ≡ text ++ text_of (reply_lines old.setting.layouts raw reply)

-- so it is where there is one, and else nothing changes
abbrev pub PrintsNext : Bool → Day → Day → Option Calling → Option Calling → List ℕ → List ℕ → Bool → Type 0
PrintsNext raw old new was now text later true = PrintsReply raw old new was now text later
PrintsNext raw old new was now text later false = (old.waiting ≡ []) × (new ≡ old) × (now ≡ was) × (later ≡ text)

-- the first live datagram that is due is taken off and kept, and its line is put behind a text under RAW
pub record KeepsDatagram (raw : Bool) (old new : Day) (lives kept : List (List ℕ)) (text later : List ℕ) : Type 0 where
  pub bytes : List ℕ
  pub first : due_bytes old ≡ bytes ∷ due_bytes new
  pub others : new ≡ record old { untold = new.untold; live = old.live + 1 }
  pub keeps : kept ≡ lives ++ bytes ∷ []
  pub lines : later ≡ text ++ text_of (under raw (datagram_lines (codes "LIVE") (length lives) (bytes ∷ [])))

-- so it is where there is one, and else nothing changes
abbrev pub KeepsNext : Bool → Day → Day → List (List ℕ) → List (List ℕ) → List ℕ → List ℕ → Bool → Type 0
KeepsNext raw old new lives kept text later true = KeepsDatagram raw old new lives kept text later
KeepsNext raw old new lives kept text later false = (old.untold ≡ []) × (new ≡ old) × (kept ≡ lives) × (later ≡ text)
