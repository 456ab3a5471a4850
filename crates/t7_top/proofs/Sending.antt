-- What a job sent, behind its files.
use Rattle.std.proofs.Common.{◌≡◌, ℕ, List, Option, None, Some, Result, Ok, refl, ◌∙◌, ap, subst, inr}
use Rattle.t7_base.specs.Listing.{Listing}
use Rattle.t7_base.specs.ProductFile.{product_of}
use Rattle.t7_layout.specs.Layouts.{Layout}
use Rattle.t7_layout.specs.Tables.{table_of}
use Rattle.t7_outcome.specs.declared.ending.Stop.{Stop}
use Rattle.t7_outcome.specs.Ending.{Ended}
use Rattle.t7_outcome.specs.Outcome.{FileSet, Where, fetched}
use Rattle.t7_records.specs.Records.{records_of}
use Rattle.t7_top.specs.Jobs.{terms_of}
use Rattle.t7_top.specs.Network.{Network, Intake}
use Rattle.t7_top.specs.Using.{OfFiles, SentBehind, SentBy, SentOrNot}
use Rattle.t7_top.specs.Words.{Job, Over}
use Rattle.t7_top.proofs.Reading.{Read}

same_bytes : (one other : List ℕ) (found : Result (List ℕ) Stop) → found ≡ Ok one → found ≡ Ok other → one ≡ other
same_bytes one other found is was = cc

-- behind a product file that was read
pub sent_behind_product : (o : Option FileSet) (layouts : List Layout) (product items : List ℕ) (listing : Listing) (job : Job) (taken : Intake) (ended : Ended) (old new : Network)
    → listing ≡ product_of (records_of items) → Read o product items → SentOrNot (terms_of layouts listing) job taken ended old new
    → Where o (λ given. SentBehind layouts product given.files job taken ended old new)
sent_behind_product None layouts product items listing job taken ended old new same read sent = tt
sent_behind_product (Some h) layouts product items listing job taken ended old new same read sent =
    λ products. subst (λ (l : Listing). SentOrNot (terms_of layouts l) job taken ended old new)
    (same ∙ ap (λ (b : List ℕ). product_of (records_of b)) (same_bytes items products.items (fetched product h) read products.read)) sent

-- behind a table that was read
pub sent_behind_table : (o : Option FileSet) (table rows : List ℕ) (layouts : List Layout) (product : List ℕ) (job : Job) (taken : Intake) (ended : Ended) (old new : Network)
    → layouts ≡ table_of (records_of rows) → Read o table rows → Where o (λ given. SentBehind layouts product given.files job taken ended old new)
    → Where o (λ given. SentBy (Some (Over table product job)) given.files taken ended old new)
sent_behind_table None table rows layouts product job taken ended old new same read sent = tt
sent_behind_table (Some h) table rows layouts product job taken ended old new same read sent =
    λ tables. subst (λ (l : List Layout). SentBehind l product h job taken ended old new)
    (same ∙ ap (λ (b : List ℕ). table_of (records_of b)) (same_bytes rows tables.rows (fetched table h) read tables.read)) sent

-- a job that its files stopped
pub not_sent : (o : Option FileSet) (table product : List ℕ) (job : Job) (taken : Intake) (ended : Ended) (net : Network) → OfFiles ended
    → Where o (λ given. SentBy (Some (Over table product job)) given.files taken ended net net)
not_sent None table product job taken ended net of = tt
not_sent (Some h) table product job taken ended net of = λ tables products. inr (of, refl)

pub not_sent_behind : (o : Option FileSet) (layouts : List Layout) (product : List ℕ) (job : Job) (taken : Intake) (ended : Ended) (net : Network)
    → OfFiles ended
    → Where o (λ given. SentBehind layouts product given.files job taken ended net net)
not_sent_behind None layouts product job taken ended net of = tt
not_sent_behind (Some h) layouts product job taken ended net of = λ products. inr (of, refl)
