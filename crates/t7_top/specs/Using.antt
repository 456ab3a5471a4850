-- What a command asks of the network, takes and sends, by how it ended.
use Rattle.std.specs.Prelude.{◌≡◌, ℕ, ◌⊎◌, List, [], ◌∷◌, Option, None, Some, Bool, Err, true, false, length, reverse}
use Rattle.t7_base.specs.Outside.{Grew}
use Rattle.t7_base.specs.ProductFile.{product_of}
use Rattle.t7_base.specs.declared.ids.Feed.TheVariants.{LiveA, LiveB, SnapA, SnapB}
use Rattle.t7_feed.specs.Arrivals.{Terms}
use Rattle.t7_follow.specs.Clauses.{AsksFor, TakesUpTo}
use Rattle.t7_gather.specs.Clauses as gather
use Rattle.t7_gather.specs.Gathering.{client_of}
use Rattle.t7_gather.specs.Turns.{turns}
use Rattle.t7_layout.specs.Layouts.{Layout}
use Rattle.t7_layout.specs.Tables.{table_of}
use Rattle.t7_net.specs.Lines.{Bind}
use Rattle.t7_net.specs.Links.{Dialed}
use Rattle.t7_net.specs.declared.link.LinkItem.{LinkItem}
use Rattle.t7_outcome.specs.declared.ending.Status.{Status}
use Rattle.t7_outcome.specs.declared.ending.Stop.TheVariants.{Layout as LayoutStop, Product, ReadFault, TooLong, Memory}
use Rattle.t7_outcome.specs.Ending.{Ended}
use Rattle.t7_outcome.specs.Outcome.{ClosesAs, FileSet, Where}
use Rattle.t7_records.specs.Records.{records_of}
use Rattle.t7_serve.specs.Clauses as serve
use Rattle.t7_serve.specs.Served.{done_by, takings}
use Rattle.t7_top.specs.Jobs.{terms_of}
use Rattle.t7_top.specs.Network.{Network, Intake, Took}
use Rattle.t7_top.specs.Whole.{IsWholeProduct, IsWholeTable}
use Rattle.t7_top.specs.Words.{Invocation, Over, Feeds, Job, Replay, Exchange, Member, Gather}

-- the four feeds are bound, for listening or for sending, each to its address
abbrev pub binds_of : Bool → Feeds → List Bind
binds_of listen feeds =
    record { feed = LiveA; address = feeds.live_a; listen = listen }
    ∷ record { feed = LiveB; address = feeds.live_b; listen = listen }
    ∷ record { feed = SnapA; address = feeds.snap_a; listen = listen }
    ∷ record { feed = SnapB; address = feeds.snap_b; listen = listen }
    ∷ []

-- A job used the network, by how it ended. `replay` doesn't. `exchange` listens at its address and binds the feeds for sending, and takes COUNT events,
-- each at one moment. `member` binds them for listening, takes COUNT receipts, and sends nothing; it wants memory only where it has taken none. `gather` dials its address.
abbrev pub Uses : Job → Ended → Network → Network → Type 0
Uses (Replay script) ended old new = new ≡ old
Uses (Exchange listen feeds count) ended old new =
    (new ≡ record new { receipts = old.receipts })
    × Grew old.asked new.asked (serve.ListensAt listen ended)
    × Grew old.bound new.bound (serve.AsksFor (binds_of false feeds) ended)
    × Grew old.events new.events (serve.TakesUpTo count ended)
    × Grew old.events new.events (λ events. Grew old.moments new.moments (λ moments. length moments ≡ length events))
Uses (Member feeds count) ended old new =
    (new ≡ record old { bound = new.bound; receipts = new.receipts })
    × Grew old.bound new.bound (AsksFor (binds_of true feeds) ended)
    × Grew old.receipts new.receipts (TakesUpTo count ended)
    × (ended ≡ Err Memory → new.receipts ≡ old.receipts)
Uses (Gather address session count) ended old new =
    (new ≡ record old { asked = new.asked; events = new.events; sent = new.sent })
    × Grew old.asked new.asked (λ asks. (conn : Option ℕ) × (asks ≡ Dialed address conn ∷ []))

-- a job is stopped before it is started: by its table or its product, or by want of memory
abbrev pub OfFiles : Ended → Type 0
OfFiles (Err (LayoutStop fault)) = Unit {0}
OfFiles (Err (Product row why)) = Unit {0}
OfFiles (Err ReadFault) = Unit {0}
OfFiles (Err TooLong) = Unit {0}
OfFiles (Err Memory) = Unit {0}
OfFiles _ = ⊥

-- A job used the network, or it was stopped before it did.
abbrev pub UsedOrNot : Job → Ended → Network → Network → Type 0
UsedOrNot job ended old new = Uses job ended old new ⊎ OfFiles ended × (new ≡ old)

-- The same of a command: only the jobs use it.
abbrev pub UsedBy : Option Invocation → Ended → Network → Network → Type 0
UsedBy (Some (Over table product job)) ended old new = UsedOrNot job ended old new
UsedBy command ended old new = new ≡ old

-- what a gatherer sent on the connection that it dialed, and that it took no event behind one that ended it
abbrev pub GathererSent : Terms → ℕ → ℕ → Option ℕ → List LinkItem → Ended → Network → Network → Type 0
GathererSent terms session count None events ended old new = new.sent ≡ old.sent
GathererSent terms session count (Some conn) events ended old new =
    let client = client_of terms.layouts session in
    gather.TakesUpTo count conn client events × Grew old.sent new.sent (gather.SentBy conn (turns conn client events).sent ended)

-- What a job sent over this table and this product, by what it took: `exchange` the replies and closes of its events on its connections, and each
-- datagram that they bring on line A and then on line B; `gather` what its client queued; of which a fault or want of memory cuts off the end.
abbrev pub Sent : Terms → Job → Intake → Ended → Network → Network → Type 0
Sent terms (Exchange listen feeds count) taken ended old new =
    let turn = done_by terms (takings taken.events taken.moments) in
    Grew old.sent new.sent (serve.SentAt turn.sent ended) × Grew old.cast new.cast (serve.CastAt turn.cast ended)
Sent terms (Gather address session count) taken ended old new =
    GathererSent terms session count (gather.conn_of taken.dials) (reverse taken.events) ended old new
Sent terms job taken ended old new = Unit {0}

-- it did so, or it was stopped before it was started
abbrev pub SentOrNot : Terms → Job → Intake → Ended → Network → Network → Type 0
SentOrNot terms job taken ended old new = Sent terms job taken ended old new ⊎ OfFiles ended × (new ≡ old)

-- What a job sent over this table and a product file that is whole.
abbrev pub SentBehind : List Layout → List ℕ → FileSet → Job → Intake → Ended → Network → Network → Type 0
SentBehind layouts product held job taken ended old new =
    (products : IsWholeProduct product held) → SentOrNot (terms_of layouts (product_of (records_of products.items))) job taken ended old new

-- What a command sent, where its files are whole.
abbrev pub SentBy : Option Invocation → FileSet → Intake → Ended → Network → Network → Type 0
SentBy (Some (Over table product job)) held taken ended old new =
    (tables : IsWholeTable table held) → SentBehind (table_of (records_of tables.rows)) product held job taken ended old new
SentBy command held taken ended old new = Unit {0}

-- A run with that answer used the network as its command does, and sent what its command sends.
abbrev pub RanOn : Option Invocation → Status → Option FileSet → Network → Network → Type 0
RanOn command answer held old new =
    (ended : Ended) × ClosesAs ended answer × UsedBy command ended old new
    × Took command old new (λ taken. Where held (λ given. SentBy command given.files taken ended old new))
