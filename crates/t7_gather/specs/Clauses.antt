-- How far `gather` may fall short of what it comes to, and what it asks of its link.
use Rattle.std.specs.Prelude.{◌≡◌, ℕ, ◌≤◌, List, [], ◌∷◌, map, flat_map, length, reverse, Option, None, Result, Err, MatchOption}
use Rattle.t7_base.specs.Outside.{Begins, Grew}
use Rattle.t7_client.specs.Recovering.{Recovery}
use Rattle.t7_net.specs.Links.{Dialed, Gave, LinkAsk, LinkSent, Listened}
use Rattle.t7_net.specs.declared.link.LinkItem.{LinkItem}
use Rattle.t7_outcome.specs.declared.ending.Stop.{Stop}
use Rattle.t7_outcome.specs.declared.ending.Stop.TheVariants.{Memory, NetFault, Peer, TooLong, Unfinished, WriteFault}
use Rattle.t7_outcome.specs.Ending.{Ended}
use Rattle.t7_outcome.specs.Outcome.{Ends, text_of}
use Rattle.t7_gather.specs.Gathering.{gathered}
use Rattle.t7_gather.specs.Turns.{turns}

-- the connection that was opened by what a link was asked, where that is one dial that succeeded
abbrev pub conn_of : List LinkAsk → Option ℕ
conn_of [] = None
conn_of (Listened address made ∷ more) = None
conn_of (Dialed address conn ∷ []) = conn
conn_of (Dialed address conn ∷ ask ∷ more) = None

-- P of the connection that was dialed and of the events that were taken then, the newest of which stands first; where the link tells them, and the
-- dial succeeded
abbrev pub OnDial : (asked asked_now : Option (List LinkAsk)) (events events_now : Option (List LinkItem)) → (ℕ → List LinkItem → Type 0) → Type 0
OnDial asked asked_now events events_now P =
    Grew asked asked_now (λ asks. MatchOption (conn_of asks) (Unit {0}) (λ conn. Grew events events_now (λ taken. P conn (reverse taken))))

-- How it ended: as it comes out, but for a fault of the outside and want of memory.
abbrev pub EndsBy : ℕ → ℕ → Recovery → List LinkItem → Ended → Type 0
EndsBy count conn client events ended = Ends {Moment = ⊥} (gathered count conn client events) ended

-- these bytes were sent on the connection, in pieces, and nothing else was sent or closed
abbrev pub SentOn : ℕ → List ℕ → List LinkSent → Type 0
SentOn conn bytes sent = (pieces : List (List ℕ)) × (sent ≡ map (Gave conn) pieces) × (bytes ≡ flat_map (λ piece. piece) pieces)

-- a front of these bytes was sent on it, and nothing else
abbrev pub SentFront : ℕ → List ℕ → List LinkSent → Type 0
SentFront conn bytes sent = (front : List ℕ) × Begins front bytes × SentOn conn front sent

-- What was sent at an end: all bytes that were due, of which a net fault or want of memory cuts off the end.
abbrev pub SentBy : {T : Type 0} → ℕ → List ℕ → Result T Stop → List LinkSent → Type 0
SentBy conn due (Err NetFault) sent = SentFront conn due sent
SentBy conn due (Err Memory) sent = SentFront conn due sent
SentBy conn due ended sent = SentOn conn due sent

-- What was written at an end: all lines that were due, of which a write fault cuts off the end; at a net fault or want of memory nothing was written.
abbrev pub WroteBy : {T : Type 0} → List (List ℕ) → Result T Stop → List ℕ → Type 0
WroteBy due (Err WriteFault) written = Begins written (text_of due)
WroteBy due (Err NetFault) written = written ≡ []
WroteBy due (Err Memory) written = written ≡ []
WroteBy due ended written = written ≡ text_of due

-- no event was taken behind one that ended the run
abbrev pub NoneBehind : ℕ → Recovery → List LinkItem → Type 0
NoneBehind conn client [] = Unit {0}
NoneBehind conn client (event ∷ before) = (turns conn client before).ended ≡ None

-- the events that were taken are at most COUNT, and none stands behind one that ended the run
abbrev pub TakesUpTo : ℕ → ℕ → Recovery → List LinkItem → Type 0
TakesUpTo count conn client events = (length events ≤ count) × NoneBehind conn client events

-- the stops of `gather`
abbrev pub OfGather : Stop → Type 0
OfGather NetFault = Unit {0}
OfGather WriteFault = Unit {0}
OfGather Memory = Unit {0}
OfGather TooLong = Unit {0}
OfGather (Peer why) = Unit {0}
OfGather (Unfinished gathered) = Unit {0}
OfGather _ = ⊥
