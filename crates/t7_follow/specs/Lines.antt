-- The lines of a member that follows the feed, each without its line feed.
use Rattle.std.specs.Prelude.{ℕ, List, [], ◌∷◌, ◌++◌, codes, decimal, map, if◌then◌else◌}
use Rattle.std.specs.Str.{bytes_eq}
use Rattle.t7_base.specs.declared.ids.Feed.{Feed}
use Rattle.t7_base.specs.declared.ids.Feed.TheVariants.{LiveA, LiveB, SnapA, SnapB}
use Rattle.t7_base.specs.declared.public.Resting.{Resting}
use Rattle.t7_feed.specs.declared.State.{State}
use Rattle.t7_feed.specs.declared.State.TheVariants.{Miss, Refused, Sync, Wait}
use Rattle.t7_lines.specs.declared.tally.Tally.{Tally}
use Rattle.t7_lines.specs.declared.tally.Tallies.{Tallies}
use Rattle.t7_lines.specs.Gap.{tally_of}
use Rattle.t7_script.specs.Lines.{misfit_words, order_line}

-- the status line: what a member shows
abbrev pub state_line : State → List ℕ
state_line Wait = codes "WAIT"
state_line (Sync n) = codes "SYNC " ++ decimal n
state_line (Miss k) = codes "MISS " ++ decimal k
state_line (Refused q why) = codes "REFUSED " ++ decimal q ++ codes " " ++ misfit_words why

-- a member's report: its status line, and a line for each order that it shows, in the order of the book
abbrev pub report_lines : State → List Resting → List (List ℕ)
report_lines state orders = state_line state ∷ map order_line orders

-- the word of a feed
abbrev pub feed_word : Feed → List ℕ
feed_word LiveA = codes "LA"
feed_word LiveB = codes "LB"
feed_word SnapA = codes "SA"
feed_word SnapB = codes "SB"

-- the line of a feed: how many of its deliveries were accepted, and how many of those gave something new
abbrev pub tally_line : Feed → Tally → List ℕ
tally_line feed tally = codes "LINE " ++ feed_word feed ++ codes " " ++ decimal tally.taken ++ codes " " ++ decimal tally.fresh

-- the lines of the four feeds
abbrev pub tally_lines : Tallies → List (List ℕ)
tally_lines tallies =
    tally_line LiveA (tally_of tallies LiveA) ∷ tally_line LiveB (tally_of tallies LiveB) ∷ tally_line SnapA (tally_of tallies SnapA)
    ∷ tally_line SnapB (tally_of tallies SnapB) ∷ []

-- a line is printed where it differs from the one that was printed last
abbrev pub changed_lines : List ℕ → List ℕ → List (List ℕ)
changed_lines last line = if bytes_eq last line then [] else line ∷ []
