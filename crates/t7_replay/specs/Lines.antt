-- The lines that a replay prints, each without its line feed.
use Rattle.std.specs.Prelude.{ℕ, ◌+◌, Bool, true, false, List, [], ◌∷◌, ◌++◌, Option, Some, None, codes, decimal, drop, length, map}
use Rattle.hex.specs.Hex.{encode_lower}
use Rattle.t7_base.specs.declared.public.Resting.{Resting}
use Rattle.t7_layout.specs.Layouts.{Layout}
use Rattle.t7_eti.specs.declared.reason.Reason.{Reason}
use Rattle.t7_eti.specs.Reasons.{reason_number}
use Rattle.t7_eti.specs.Saying.{response_bytes}
use Rattle.t7_eobi.specs.declared.faults.PacketFault.{PacketFault}
use Rattle.t7_eobi.specs.Faults.{why_text}
use Rattle.t7_entry.specs.State.{Reply, closes, sends}
use Rattle.t7_exchange.specs.Handed.{refused_for}
use Rattle.t7_feed.specs.declared.State.{State}
use Rattle.t7_feed.specs.declared.State.TheVariants.{Miss, Refused, Sync, Wait}
use Rattle.t7_script.specs.Lines.{misfit_words, order_line}

-- lines that are printed under RAW alone
abbrev pub under : Bool → List (List ℕ) → List (List ℕ)
under true lines = lines
under false lines = []

-- what stands before the bytes of a frame on a connection
abbrev pub out_front : ℕ → List ℕ
out_front conn = codes "OUT " ++ decimal conn ++ codes " "

-- a frame on a connection, in lower-case hex
abbrev pub out_line : ℕ → List ℕ → List ℕ
out_line conn frame = out_front conn ++ encode_lower frame

-- a connection is closed by the exchange
abbrev pub close_line : ℕ → List ℕ
close_line conn = codes "CLOSE " ++ decimal conn

-- a request on a connection is rejected, where there is a reason
abbrev pub reject_lines : ℕ → Option Reason → List (List ℕ)
reject_lines conn None = []
reject_lines conn (Some reason) = (codes "REJECT " ++ decimal conn ++ codes " " ++ decimal (reason_number reason)) ∷ []

-- the lines of a reply: under RAW its frame; where that is a Reject, its reason; and a close
abbrev pub reply_lines : List Layout → Bool → Reply → List (List ℕ)
reply_lines layouts raw (sends conn r) = under raw (out_line conn (response_bytes layouts r) ∷ []) ++ reject_lines conn (refused_for r)
reply_lines layouts raw (closes conn) = close_line conn ∷ []

-- the lines of replies, one after another
abbrev pub replies_lines : List Layout → Bool → List Reply → List (List ℕ)
replies_lines layouts raw [] = []
replies_lines layouts raw (reply ∷ replies) = reply_lines layouts raw reply ++ replies_lines layouts raw replies

-- what stands before the bytes of a datagram of this number
abbrev pub datagram_front : List ℕ → ℕ → List ℕ
datagram_front word number = word ++ codes " " ++ decimal number ++ codes " "

-- the lines of datagrams, numbered from the one after so many, in lower-case hex
abbrev pub datagram_lines : List ℕ → ℕ → List (List ℕ) → List (List ℕ)
datagram_lines word count [] = []
datagram_lines word count (bytes ∷ datagrams) = (datagram_front word (count + 1) ++ encode_lower bytes) ∷ datagram_lines word (count + 1) datagrams

-- the lines of the datagrams that stand behind those that were sent before
abbrev pub sent_lines : List ℕ → List (List ℕ) → List (List ℕ) → List (List ℕ)
sent_lines word before now = datagram_lines word (length before) (drop (length before) now)

-- the day has as many commands as it may
abbrev pub day_full_line : List ℕ
day_full_line = codes "DAYFULL"

-- a delivery is refused, where it has a fault, with its reason and place
abbrev pub bad_lines : Option PacketFault → List (List ℕ)
bad_lines None = []
bad_lines (Some fault) = (codes "BAD " ++ why_text fault.why ++ codes " " ++ decimal fault.place) ∷ []

-- what a member shows
abbrev pub state_line : State → List ℕ
state_line Wait = codes "WAIT"
state_line (Sync n) = codes "SYNC " ++ decimal n
state_line (Miss k) = codes "MISS " ++ decimal k
state_line (Refused q why) = codes "REFUSED " ++ decimal q ++ codes " " ++ misfit_words why

-- a member's report: its state, and where it shows a number a line for each order of its book, in the order of the book
abbrev pub report_lines : State → List Resting → List (List ℕ)
report_lines Wait orders = state_line Wait ∷ []
report_lines (Sync n) orders = state_line (Sync n) ∷ map order_line orders
report_lines (Miss k) orders = state_line (Miss k) ∷ map order_line orders
report_lines (Refused q why) orders = state_line (Refused q why) ∷ []
