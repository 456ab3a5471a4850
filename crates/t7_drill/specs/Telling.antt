-- The lines of the drill, each without its line feed.
use Rattle.std.specs.Prelude.{ℕ, ◌+◌, min, List, [], ◌∷◌, ◌++◌, codes, decimal}
use Rattle.t7_base.specs.declared.ids.Feed.{Feed}
use Rattle.t7_base.specs.declared.ids.Feed.TheVariants.{LiveA, LiveB, SnapA, SnapB}
use Rattle.t7_base.specs.declared.public.Resting.{Resting}
use Rattle.t7_feed.specs.declared.State.{State}
use Rattle.t7_feed.specs.declared.State.TheVariants.{Miss, Refused, Sync, Wait}
use Rattle.t7_lines.specs.declared.tally.Tallies.{Tallies}
use Rattle.t7_lines.specs.declared.tally.Tally.{Tally}
use Rattle.t7_lines.specs.Gap.{tally_of}
use Rattle.t7_script.specs.Lines.{misfit_words}
use Rattle.t7_drill.specs.declared.telling.Totals.{Totals}

-- a word and a number
abbrev pub number_line : List ℕ → ℕ → List ℕ
number_line word n = word ++ decimal n

-- a word and two numbers
abbrev pub two_line : List ℕ → ℕ → ℕ → List ℕ
two_line word m n = word ++ (decimal m ++ codes " " ++ decimal n)

-- what stands before the tally of a feed
abbrev pub feed_word : Feed → List ℕ
feed_word LiveA = codes "LINE LA "
feed_word LiveB = codes "LINE LB "
feed_word SnapA = codes "LINE SA "
feed_word SnapB = codes "LINE SB "

-- how many deliveries a feed brought, and how many of them were fresh
abbrev pub tally_line : Feed → Tally → List ℕ
tally_line feed tally = two_line (feed_word feed) tally.taken tally.fresh

-- the lines of the four feeds
abbrev pub tally_lines : Tallies → List (List ℕ)
tally_lines tallies =
    tally_line LiveA (tally_of tallies LiveA) ∷ tally_line LiveB (tally_of tallies LiveB)
    ∷ tally_line SnapA (tally_of tallies SnapA) ∷ tally_line SnapB (tally_of tallies SnapB) ∷ []

-- no more than the greatest number of 64 bits
abbrev pub capped : ℕ → ℕ
capped n = min n 18_446_744_073_709_551_615

-- one order more
abbrev pub with_order : Totals → ℕ → Totals
with_order t qty = record { orders = capped (t.orders + 1); quantity = capped (t.quantity + qty) }

-- orders more
abbrev pub with_orders : Totals → List Resting → Totals
with_orders t [] = t
with_orders t (order ∷ orders) = with_orders (with_order t order.qty) orders

-- how many orders there are, and the sum of their quantities; each stops at the greatest number of 64 bits
abbrev pub totals_of : List Resting → Totals
totals_of orders = with_orders (record { orders = 0; quantity = 0 }) orders

-- a word and the totals of orders
abbrev pub totals_line : List ℕ → Totals → List ℕ
totals_line word totals = two_line word totals.orders totals.quantity

-- what a member shows
abbrev pub state_line : State → List ℕ
state_line Wait = codes "WAIT"
state_line (Sync n) = codes "SYNC " ++ decimal n
state_line (Miss k) = codes "MISS " ++ decimal k
state_line (Refused q why) = codes "REFUSED " ++ decimal q ++ codes " " ++ misfit_words why

-- The lines of the drill: the accepted commands, the rejects, the messages, the tallies of the member, the totals of the exchange's book and of the
-- member's, and what the member shows.
pub record Told : Type 0 where
  pub commands : ℕ
  pub rejects : ℕ
  pub messages : ℕ
  pub tallies : Tallies
  pub book : List Resting
  pub member : List Resting
  pub state : State

-- the first lines: the counts
abbrev pub count_lines : Told → List (List ℕ)
count_lines t = number_line (codes "COMMANDS ") t.commands ∷ number_line (codes "REJECTS ") t.rejects ∷ number_line (codes "MESSAGES ") t.messages ∷ []

-- the last lines: the two books, and what the member shows
abbrev pub book_lines : Told → List (List ℕ)
book_lines t = totals_line (codes "BOOK ") (totals_of t.book) ∷ totals_line (codes "MEMBER ") (totals_of t.member) ∷ state_line t.state ∷ []

-- all lines
abbrev pub lines_of : Told → List (List ℕ)
lines_of t = count_lines t ++ tally_lines t.tallies ++ book_lines t
