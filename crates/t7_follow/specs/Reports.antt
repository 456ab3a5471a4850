-- What the reports of a member that follows the feed owe: the words of the headline.
use Rattle.std.specs.Prelude.{◌≡◌, ℕ, List, [], ◌∷◌, ◌++◌}
use Rattle.t7_feed.specs.Arrivals.{Delivery, Terms}
use Rattle.t7_member.specs.Keeping.{Image}
use Rattle.t7_net.specs.declared.line.LineItem.{LineItem}
use Rattle.t7_net.specs.declared.line.LineItem.TheVariants.{Datagram, Quiet}
use Rattle.t7_follow.specs.Lines.{changed_lines, report_lines, state_line, tally_lines}
use Rattle.t7_follow.specs.Members.{IsShown, orders_of, state_of}

-- what was delivered by these receipts; in both lists the newest stands first
abbrev pub delivered : List LineItem → List Delivery
delivered [] = []
delivered (Datagram feed bytes ∷ before) = record { feed = feed; bytes = bytes } ∷ delivered before
delivered (Quiet ∷ before) = delivered before

-- what a report is about: the table and the product, and the receipts so far, the newest of which stands first
pub data Moment : Type 0 where
  -- after a receipt: the status line, where it changed
  Watched : (terms : Terms) (receipts : List LineItem) → Moment
  -- behind the last receipt: the report, and the lines of the feeds
  Final : (terms : Terms) (receipts : List LineItem) → Moment

-- the status line that stands after these receipts: none before the first, else that of what a member shows then
abbrev pub StandsAt : Terms → List LineItem → List ℕ → Type 0
StandsAt terms [] line = line ≡ []
StandsAt terms (receipt ∷ before) line = (member : Image) × IsShown terms (delivered (receipt ∷ before)) member × (line ≡ state_line (state_of member))

-- The lines of a moment. After a receipt it is the status line, exactly where it differs from the one before it. Behind the last one it is
-- the report of what a member shows, and the lines of the feeds with its counts.
abbrev pub IsReported : Moment → List (List ℕ) → Type 0
IsReported (Watched terms []) lines = lines ≡ []
IsReported (Watched terms (receipt ∷ before)) lines =
    (last line : List ℕ) × StandsAt terms before last × StandsAt terms (receipt ∷ before) line × (lines ≡ changed_lines last line)
IsReported (Final terms receipts) lines =
    (member : Image) × IsShown terms (delivered receipts) member × (lines ≡ report_lines (state_of member) (orders_of member) ++ tally_lines member.tallies)
