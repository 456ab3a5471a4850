-- A job over its files: it is stopped at its table or at its product, or goes on behind them.
use Rattle.std.proofs.Common.{◌≡◌, ℕ, List, Option, None, Some, IfSome, Err, refl, inr}
use Rattle.t7_base.specs.Listing.{Listing}
use Rattle.t7_base.specs.ProductFile.{ProductFault, fault_of as product_fault_of, product_of}
use Rattle.t7_layout.specs.Faults.{fault_of}
use Rattle.t7_layout.specs.Layouts.{Layout}
use Rattle.t7_layout.specs.Tables.{table_of}
use Rattle.t7_layout.specs.declared.words.TableFault.{TableFault}
use Rattle.t7_outcome.specs.declared.ending.Stop.{Stop}
use Rattle.t7_outcome.specs.declared.ending.Stop.TheVariants.{Layout as LayoutStop, Product, ReadFault, TooLong, Memory}
use Rattle.t7_outcome.specs.Ending.{Ended}
use Rattle.t7_outcome.specs.Outcome.{FileSet, OfFetch, Where, fetched}
use Rattle.t7_outcome.specs.Performing.{WroteSink}
use Rattle.t7_outcome.proofs.Taking.{sink_missed}
use Rattle.t7_records.specs.Records.{records_of}
use Rattle.t7_top.specs.Jobs.{started, terms_of, over_product, over_table}
use Rattle.t7_top.specs.Moments.{IsReported}
use Rattle.t7_top.specs.Network.{JobTook, Network}
use Rattle.t7_top.specs.Refusals.{RefusesProduct, RefusesTable, checked, checked_product}
use Rattle.t7_top.specs.Using.{OfFiles, SentBehind, SentBy, SentOrNot, UsedOrNot}
use Rattle.t7_top.specs.Words.{Job, Over}
use Rattle.t7_top.proofs.Reading.{Read, product_refused, sink_behind_product, sink_behind_table, table_refused}
use Rattle.t7_top.proofs.Sending.{not_sent, not_sent_behind, sent_behind_product, sent_behind_table}
use Rattle.t7_top.proofs.Intake.{job_as, job_still}

-- the stops before a job is started
pub of_fetch : (stop : Stop) → OfFetch stop → OfFiles (Err stop)
of_fetch ReadFault of = tt
of_fetch TooLong of = tt
of_fetch Memory of = tt
of_fetch stop of = absurd of

pub of_table : (fault : Option TableFault) (stop : Stop) → RefusesTable fault stop → OfFiles (Err stop)
of_table fault (LayoutStop found) is = tt
of_table fault Memory is = tt
of_table fault stop is = absurd is

pub of_product : (fault : Option ProductFault) (stop : Stop) → RefusesProduct fault stop → OfFiles (Err stop)
of_product fault (Product row why) is = tt
of_product fault Memory is = tt
of_product fault stop is = absurd is

pub unused : (job : Job) (ended : Ended) (net : Network) → OfFiles ended → UsedOrNot job ended net net
unused job ended net of = inr (of, refl)

module _ (job : Job) (o : Option FileSet) where
  -- the table is not read,
  pub table_missed : (net : Network) (p : Option (List ℕ)) (table product : List ℕ) (stop : Stop) (n : ℕ) → OfFetch stop
      → (stop ≡ TooLong → IfSome o (λ held. fetched table held ≡ Err TooLong))
      → JobTook job net net (λ taken. WroteSink IsReported (over_table table product job taken) (Err stop) o p p n n)
  table_missed net p table product stop n of long =
      job_still job net (λ taken. WroteSink IsReported (over_table table product job taken) (Err stop) o p p n n)
      (λ taken. sink_missed IsReported o p table
      (λ given rows. checked (fault_of (records_of rows)) (over_product (table_of (records_of rows)) product job taken given)) stop n of long)

  -- or refused,
  pub table_bad : (net : Network) (p : Option (List ℕ)) (table rows product : List ℕ) (stop : Stop) (n : ℕ) → Read o table rows → RefusesTable (fault_of (records_of rows)) stop
      → JobTook job net net (λ taken. WroteSink IsReported (over_table table product job taken) (Err stop) o p p n n)
  table_bad net p table rows product stop n read is =
      job_still job net (λ taken. WroteSink IsReported (over_table table product job taken) (Err stop) o p p n n)
      (λ taken. table_refused o p table rows (λ layouts given. over_product layouts product job taken given) stop n read is)

  -- or it is valid
  pub table_good : (old new : Network) (table rows : List ℕ) (layouts : List Layout) (product : List ℕ) (ended : Ended) (p q : Option (List ℕ)) (n m : ℕ)
      → layouts ≡ table_of (records_of rows) → Read o table rows → fault_of (records_of rows) ≡ None
      → JobTook job old new (λ taken. WroteSink IsReported (over_product layouts product job taken) ended o p q n m)
      → JobTook job old new (λ taken. WroteSink IsReported (over_table table product job taken) ended o p q n m)
  table_good old new table rows layouts product ended p q n m same read valid took =
      job_as job old new (λ taken. WroteSink IsReported (over_product layouts product job taken) ended o p q n m)
      (λ taken. WroteSink IsReported (over_table table product job taken) ended o p q n m) took
      (λ taken sink. sink_behind_table o table rows layouts (λ l given. over_product l product job taken given) ended p q n m same read valid sink)

  -- the same of the product file
  pub product_missed : (net : Network) (p : Option (List ℕ)) (layouts : List Layout) (product : List ℕ) (stop : Stop) (n : ℕ) → OfFetch stop
      → (stop ≡ TooLong → IfSome o (λ held. fetched product held ≡ Err TooLong))
      → JobTook job net net (λ taken. WroteSink IsReported (over_product layouts product job taken) (Err stop) o p p n n)
  product_missed net p layouts product stop n of long =
      job_still job net (λ taken. WroteSink IsReported (over_product layouts product job taken) (Err stop) o p p n n)
      (λ taken. sink_missed IsReported o p product
      (λ given items. checked_product (product_fault_of (records_of items)) (started (terms_of layouts (product_of (records_of items))) job taken given)) stop n of long)

  pub product_bad : (net : Network) (p : Option (List ℕ)) (layouts : List Layout) (product items : List ℕ) (stop : Stop) (n : ℕ) → Read o product items
      → RefusesProduct (product_fault_of (records_of items)) stop
      → JobTook job net net (λ taken. WroteSink IsReported (over_product layouts product job taken) (Err stop) o p p n n)
  product_bad net p layouts product items stop n read is =
      job_still job net (λ taken. WroteSink IsReported (over_product layouts product job taken) (Err stop) o p p n n)
      (λ taken. product_refused o p product items (λ listing given. started (terms_of layouts listing) job taken given) stop n read is)

  pub product_good : (old new : Network) (layouts : List Layout) (product items : List ℕ) (listing : Listing) (ended : Ended) (p q : Option (List ℕ)) (n m : ℕ)
      → listing ≡ product_of (records_of items) → Read o product items → product_fault_of (records_of items) ≡ None
      → JobTook job old new (λ taken. WroteSink IsReported (started (terms_of layouts listing) job taken) ended o p q n m)
      → JobTook job old new (λ taken. WroteSink IsReported (over_product layouts product job taken) ended o p q n m)
  product_good old new layouts product items listing ended p q n m same read valid took =
      job_as job old new (λ taken. WroteSink IsReported (started (terms_of layouts listing) job taken) ended o p q n m)
      (λ taken. WroteSink IsReported (over_product layouts product job taken) ended o p q n m) took
      (λ taken sink. sink_behind_product o product items listing (λ l given. started (terms_of layouts l) job taken given) ended p q n m same read valid sink)

  -- what it sent
  pub none_sent : (net : Network) (table product : List ℕ) (ended : Ended) → OfFiles ended
      → JobTook job net net (λ taken. Where o (λ given. SentBy (Some (Over table product job)) given.files taken ended net net))
  none_sent net table product ended of =
      job_still job net (λ taken. Where o (λ given. SentBy (Some (Over table product job)) given.files taken ended net net))
      (λ taken. not_sent o table product job taken ended net of)

  pub table_sent : (old new : Network) (table rows : List ℕ) (layouts : List Layout) (product : List ℕ) (ended : Ended) → layouts ≡ table_of (records_of rows) → Read o table rows
      → JobTook job old new (λ taken. Where o (λ given. SentBehind layouts product given.files job taken ended old new))
      → JobTook job old new (λ taken. Where o (λ given. SentBy (Some (Over table product job)) given.files taken ended old new))
  table_sent old new table rows layouts product ended same read took =
      job_as job old new (λ taken. Where o (λ given. SentBehind layouts product given.files job taken ended old new))
      (λ taken. Where o (λ given. SentBy (Some (Over table product job)) given.files taken ended old new)) took
      (λ taken sent. sent_behind_table o table rows layouts product job taken ended old new same read sent)

  pub none_sent_behind : (net : Network) (layouts : List Layout) (product : List ℕ) (ended : Ended) → OfFiles ended
      → JobTook job net net (λ taken. Where o (λ given. SentBehind layouts product given.files job taken ended net net))
  none_sent_behind net layouts product ended of =
      job_still job net (λ taken. Where o (λ given. SentBehind layouts product given.files job taken ended net net))
      (λ taken. not_sent_behind o layouts product job taken ended net of)

  pub product_sent : (old new : Network) (layouts : List Layout) (product items : List ℕ) (listing : Listing) (ended : Ended) → listing ≡ product_of (records_of items)
      → Read o product items → JobTook job old new (λ taken. SentOrNot (terms_of layouts listing) job taken ended old new)
      → JobTook job old new (λ taken. Where o (λ given. SentBehind layouts product given.files job taken ended old new))
  product_sent old new layouts product items listing ended same read took =
      job_as job old new (λ taken. SentOrNot (terms_of layouts listing) job taken ended old new)
      (λ taken. Where o (λ given. SentBehind layouts product given.files job taken ended old new)) took
      (λ taken sent. sent_behind_product o layouts product items listing job taken ended old new same read sent)
