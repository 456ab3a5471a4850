-- What `member` comes to by the receipts that it takes.
use Rattle.std.specs.Prelude.{ℕ, List, [], ◌∷◌, ◌++◌, Some, None, Ok, length, ◌==◌, if◌then◌else◌}
use Rattle.t7_base.specs.Listing.{Listing}
use Rattle.t7_layout.specs.Layouts.{Layout}
use Rattle.t7_feed.specs.Arrivals.{Terms}
use Rattle.t7_net.specs.declared.line.LineItem.{LineItem}
use Rattle.t7_outcome.specs.declared.ending.Finish.TheVariants.{End}
use Rattle.t7_outcome.specs.Outcome.{Outcome, Part, Shows}
use Rattle.t7_follow.specs.Reports.{Final, Moment, Watched, delivered}

-- what both sides of the feed have
abbrev pub terms_of : List Layout → Listing → Terms
terms_of layouts listing = record { layouts = layouts; listing = listing }

-- after each of these receipts, the newest of which stands first, the status line is due
abbrev pub watching : Terms → List LineItem → List (Part Moment)
watching terms [] = []
watching terms (receipt ∷ before) = watching terms before ++ Shows (Watched terms (receipt ∷ before)) ∷ []

-- it came to its end by these receipts: the report is due, and the last line has the number of datagrams
abbrev pub finished : Terms → List LineItem → Outcome Moment
finished terms receipts = record { names = []; parts = watching terms receipts ++ Shows (Final terms receipts) ∷ []; end = Some (Ok (End (length (delivered receipts)))) }

-- `member` with this COUNT over these receipts, the newest of which stands first: it ends where they are as many
abbrev pub followed : Terms → ℕ → List LineItem → Outcome Moment
followed terms count receipts = if length receipts == count then finished terms receipts else record { names = []; parts = watching terms receipts; end = None }
