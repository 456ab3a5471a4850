-- The jobs over a layout table and a product file: `replay`, `exchange`, `member` and `gather`.
use Rattle.std.specs.Prelude.{ℕ, List, [], Option, None, Some, reverse}
use Rattle.t7_base.specs.Listing.{Listing}
use Rattle.t7_base.specs.ProductFile.{fault_of as product_fault_of, product_of}
use Rattle.t7_feed.specs.Arrivals.{Terms}
use Rattle.t7_follow.specs.Clauses.{OfFollow}
use Rattle.t7_follow.specs.Following.{followed}
use Rattle.t7_gather.specs.Clauses.{OfGather, conn_of}
use Rattle.t7_gather.specs.Gathering.{client_of, gathered}
use Rattle.t7_layout.specs.Faults.{fault_of}
use Rattle.t7_layout.specs.Layouts.{Layout}
use Rattle.t7_layout.specs.Tables.{table_of}
use Rattle.t7_net.specs.declared.link.LinkItem.{LinkItem}
use Rattle.t7_outcome.specs.declared.ending.Stop.{Stop}
use Rattle.t7_outcome.specs.declared.ending.Stop.TheVariants.{Layout as LayoutStop, Product, ReadFault, TooLong, Memory}
use Rattle.t7_outcome.specs.Outcome.{Outcome, Given, taking}
use Rattle.t7_records.specs.Records.{records_of}
use Rattle.t7_replay.specs.Script.{lines_of}
use Rattle.t7_replay.specs.Steps.{OfPlay, played}
use Rattle.t7_replay.specs.World.{new_world}
use Rattle.t7_serve.specs.Clauses.{OfServe}
use Rattle.t7_serve.specs.Served.{served, takings}
use Rattle.t7_top.specs.Moments.{Moment, OfMember, OfScript, outcome_as}
use Rattle.t7_top.specs.Network.{Intake}
use Rattle.t7_top.specs.Refusals.{checked, checked_product}
use Rattle.t7_top.specs.Words.{Job, Replay, Exchange, Member, Gather}

-- both sides of the feed have this table and this product
abbrev pub terms_of : List Layout → Listing → Terms
terms_of layouts listing = record { layouts = layouts; listing = listing }

-- the lines of a script are played, before which nothing was done
abbrev pub script_played : Terms → List ℕ → Outcome Moment
script_played terms bytes = outcome_as OfScript (played terms new_world (lines_of bytes))

-- a gatherer comes to what its events say, the newest of which stands first, once its dial has a connection
abbrev pub dialed_on : Terms → ℕ → ℕ → Option ℕ → List LinkItem → Outcome Moment
dialed_on terms session count None events = record { names = []; parts = []; end = None }
dialed_on terms session count (Some conn) events = gathered count conn (client_of terms.layouts session) events

-- What a job comes to over a valid table and a valid product, by what it takes from outside: `replay` takes its script and plays it from the first line; the
-- others come to what the events, receipts and moments say.
abbrev pub started : Terms → Job → Intake → Given → Outcome Moment
started terms (Replay script) taken given = taking script given.files (script_played terms)
started terms (Exchange listen feeds count) taken given = served terms count (takings taken.events taken.moments)
started terms (Member feeds count) taken given = outcome_as OfMember (followed terms count (reverse taken.receipts))
started terms (Gather address session count) taken given = dialed_on terms session count (conn_of taken.dials) (reverse taken.events)

-- the product file is taken behind a valid table, and the job is started behind a valid product
abbrev pub over_product : List Layout → List ℕ → Job → Intake → Given → Outcome Moment
over_product layouts product job taken given =
    taking product given.files (λ items. checked_product (product_fault_of (records_of items))
    (started (terms_of layouts (product_of (records_of items))) job taken given))

-- a job with the table, the product and what else its words name
abbrev pub over_table : List ℕ → List ℕ → Job → Intake → Given → Outcome Moment
over_table table product job taken given =
    taking table given.files (λ rows. checked (fault_of (records_of rows))
    (over_product (table_of (records_of rows)) product job taken given))

-- the stops of a job that was started
abbrev pub OfWork : Job → Stop → Type 0
OfWork (Replay script) ReadFault = Unit {0}
OfWork (Replay script) TooLong = Unit {0}
OfWork (Replay script) Memory = Unit {0}
OfWork (Replay script) stop = OfPlay stop
OfWork (Exchange listen feeds count) stop = OfServe stop
OfWork (Member feeds count) stop = OfFollow stop
OfWork (Gather address session count) stop = OfGather stop

-- the stops of a job: those of its table and of its product too
abbrev pub OfJob : Job → Stop → Type 0
OfJob job (LayoutStop fault) = Unit {0}
OfJob job (Product row why) = Unit {0}
OfJob job ReadFault = Unit {0}
OfJob job TooLong = Unit {0}
OfJob job Memory = Unit {0}
OfJob job stop = OfWork job stop
