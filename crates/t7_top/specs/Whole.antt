-- When the input of a command is whole, so that nothing but the outside and want of memory keeps it from its end.
use Rattle.std.specs.Prelude.{◌≡◌, ◌⊎◌, ℕ, List, [], ◌∷◌, Option, None, Some, Ok}
use Rattle.t7_base.specs.ProductFile.{fault_of as product_fault_of, product_of}
use Rattle.t7_feed.specs.Arrivals.{Terms}
use Rattle.t7_layout.specs.Faults.{fault_of}
use Rattle.t7_layout.specs.Tables.{table_of}
use Rattle.t7_outcome.specs.declared.ending.Status.{Status}
use Rattle.t7_outcome.specs.declared.ending.Status.TheVariants as status
use Rattle.t7_outcome.specs.Outcome.{Given, FileSet, fetched}
use Rattle.t7_outcome.specs.Steps.{GoesTo}
use Rattle.t7_records.specs.Records.{records_of}
use Rattle.t7_replay.specs.Script.{lines_of}
use Rattle.t7_replay.specs.Steps.{step_at}
use Rattle.t7_replay.specs.World.{World, new_world}
use Rattle.t7_top.specs.Jobs.{terms_of}
use Rattle.t7_top.specs.Words.{Invocation, Over, Check, Drill, Help, Version, Job, Replay, Exchange, Gather}

-- Each line, in the world that those before it leave, passes its tests.
abbrev pub EachGoes : Terms → World → List (List ℕ) → Type 0
EachGoes terms world [] = Unit {0}
EachGoes terms world (line ∷ lines) = GoesTo (step_at terms world line) (λ after. EachGoes terms after lines)

-- The table is held, within the limit, and valid.
pub record IsWholeTable (table : List ℕ) (held : FileSet) : Type 0 where
  pub rows : List ℕ
  pub read : fetched table held ≡ Ok rows
  pub valid : fault_of (records_of rows) ≡ None

-- The same of the product file.
pub record IsWholeProduct (product : List ℕ) (held : FileSet) : Type 0 where
  pub items : List ℕ
  pub read : fetched product held ≡ Ok items
  pub valid : product_fault_of (records_of items) ≡ None

-- The script is held, within the limit, and each of its lines passes its tests.
pub record IsWholeScript (terms : Terms) (script : List ℕ) (held : FileSet) : Type 0 where
  pub bytes : List ℕ
  pub read : fetched script held ≡ Ok bytes
  pub passes : EachGoes terms new_world (lines_of bytes)

-- A job's own file is whole, where it has one.
abbrev pub IsWholeJob : Terms → Job → FileSet → Type 0
IsWholeJob terms (Replay script) held = IsWholeScript terms script held
IsWholeJob terms job held = Unit {0}

-- The files of a job are whole.
pub record AreWhole (table product : List ℕ) (job : Job) (held : FileSet) : Type 0 where
  pub tables : IsWholeTable table held
  pub products : IsWholeProduct product held
  pub rest : IsWholeJob (terms_of (table_of (records_of tables.rows)) (product_of (records_of products.items))) job held

-- The words are the form of a command, whose files are whole.
abbrev pub IsComplete : Option Invocation → Given → Type 0
IsComplete None given = ⊥
IsComplete (Some (Over table product job)) given = AreWhole table product job given.files
IsComplete (Some (Check table)) given = IsWholeTable table given.files
IsComplete (Some (Drill seed orders)) given = Unit {0}
IsComplete (Some Help) given = Unit {0}
IsComplete (Some Version) given = Unit {0}

-- How a job may end whose files are whole: it is done or wants memory; by what comes on a connection `exchange` may end as too long, and `gather` so, by its
-- peer or unfinished.
abbrev pub EndsJob : Job → Status → Type 0
EndsJob job status.Done = Unit {0}
EndsJob job status.Memory = Unit {0}
EndsJob (Exchange listen feeds count) status.TooLong = Unit {0}
EndsJob (Gather address session count) status.TooLong = Unit {0}
EndsJob (Gather address session count) status.Peer = Unit {0}
EndsJob (Gather address session count) status.Unfinished = Unit {0}
EndsJob job answer = ⊥

-- the same of a command
abbrev pub EndsWhole : Option Invocation → Status → Type 0
EndsWhole (Some (Over table product job)) answer = EndsJob job answer
EndsWhole command answer = (answer ≡ status.Done) ⊎ (answer ≡ status.Memory)
