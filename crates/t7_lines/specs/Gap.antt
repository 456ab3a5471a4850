-- What a gap buffer keeps.
use Rattle.std.specs.Prelude.{ℕ, ◌+◌, ◌-◌, ◌^◌, min, Bool, if◌then◌else◌, List, [], ◌∷◌, Option, Some, None, eqb}
use Rattle.t7_base.specs.declared.ids.Feed.{Feed}
use Rattle.t7_base.specs.declared.ids.Feed.TheVariants.{LiveA, LiveB, SnapA, SnapB}
use Rattle.t7_base.specs.declared.public.Public.{Public}
use Rattle.t7_lines.specs.declared.tally.Tally.{Tally}
use Rattle.t7_lines.specs.declared.tally.Tallies.{Tallies}

-- a gap buffer: its window W, the highest number put so far (0 before the first), the messages that it keeps with their numbers, and the counts of the feeds
pub record Gap : Type 0 where
  pub window : ℕ
  pub highest : ℕ
  pub kept : List (ℕ × Public)
  pub tallies : Tallies

-- what is kept under a number
abbrev pub kept_at : {A : Type 0} → List (ℕ × A) → ℕ → Option A
kept_at [] k = None
kept_at (entry ∷ entries) k = if eqb entry.0 k then Some entry.1 else kept_at entries k

-- one more, up to the greatest number of 64 bits
abbrev pub raised : ℕ → ℕ
raised n = min (n + 1) (2 ^ 64 - 1)

-- the counts of a feed after a delivery that was taken, which gave something new or not
abbrev pub noted_tally : Bool → Tally → Tally
noted_tally fresh tally = record { taken = raised tally.taken; fresh = if fresh then raised tally.fresh else tally.fresh }

-- the counts of a feed
abbrev pub tally_of : Tallies → Feed → Tally
tally_of tallies LiveA = tallies.live_a
tally_of tallies LiveB = tallies.live_b
tally_of tallies SnapA = tallies.snap_a
tally_of tallies SnapB = tallies.snap_b

-- the counts after a delivery that was taken on a feed: those of the other feeds stay
abbrev pub noted_on : Tallies → Feed → Bool → Tallies
noted_on tallies LiveA fresh = record tallies { live_a = noted_tally fresh tallies.live_a }
noted_on tallies LiveB fresh = record tallies { live_b = noted_tally fresh tallies.live_b }
noted_on tallies SnapA fresh = record tallies { snap_a = noted_tally fresh tallies.snap_a }
noted_on tallies SnapB fresh = record tallies { snap_b = noted_tally fresh tallies.snap_b }

-- the counts of a feed on which nothing was taken
abbrev pub no_tally : Tally
no_tally = record { taken = 0; fresh = 0 }

-- the counts where nothing was taken
abbrev pub no_tallies : Tallies
no_tallies = record { live_a = no_tally; live_b = no_tally; snap_a = no_tally; snap_b = no_tally }
