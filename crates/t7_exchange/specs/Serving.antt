-- What was asked is answered.
use Rattle.std.specs.Prelude.{◌≡◌, ℕ, ◌≤◌, List, Option, Some, None, is_some, not, length}
use Rattle.std.specs.List.{All}
use Rattle.t7_base.specs.Listing.{Listing}
use Rattle.t7_layout.specs.Layouts.{Layout}
use Rattle.t7_eti.specs.declared.request.Request.{Request}
use Rattle.t7_eti.specs.declared.response.Response.{Response}
use Rattle.t7_eti.specs.declared.response.Response.TheVariants as response
use Rattle.t7_orders.specs.declared.response.Numbered.{Numbered}
use Rattle.t7_book.specs.declared.command.Command.{Command}
use Rattle.t7_book.specs.Steps.{messages, steps}
use Rattle.t7_book.specs.Orders.{empty_book, roster_of, shown}
use Rattle.t7_book.specs.Trace.{AreAccepted, book_left, trace}
use Rattle.t7_session.specs.declared.session.Step.TheVariants.{Ask}
use Rattle.t7_session.specs.Held.{Held}
use Rattle.t7_session.specs.Steps.{done_of, is_logon, step_of}
use Rattle.t7_entry.specs.ByNumber.{get, insert}
use Rattle.t7_entry.specs.State.{Setting, line_of, with_line}
use Rattle.t7_entry.specs.Tellable.{IsTellable}
use Rattle.t7_feed.specs.Sending.{AreRanged}
use Rattle.t7_entry.specs.Treatment.{answer, counted, send}
use Rattle.t7_entry.specs.Events.{settled_at}
use Rattle.t7_entry.specs.Stalls.{front_treated}
use Rattle.t7_exchange.specs.Maps.{HoldOnly, input_part, inputs_of, line_part}
use Rattle.t7_exchange.specs.Outbox.{Outbox, told}
use Rattle.t7_exchange.specs.Sayable.{IsSayable}
use Rattle.t7_exchange.specs.Trading.{Trading, book_at, entered}
use Rattle.t7_exchange.specs.Views.{day_of}
use Rattle.t7_exchange.specs.Wires.{Acts, Wires, core_of}

-- this was asked by the last step of a connection, if it is open
abbrev pub WasAsked : Request → Option Held → Type 0
WasAsked asked None = Unit {0}
WasAsked asked (Some h) = h.asked ≡ Some asked

-- this was asked by the last step of an open connection, which has a session where this doesn't log on
abbrev pub MayAsk : Request → Option Held → Type 0
MayAsk asked None = ⊥
MayAsk asked (Some h) = (h.asked ≡ Some asked) × (is_some h.session ≡ not (is_logon asked))

-- the connections and the replies went where the answer leads, and what had come on the connection is without the frame
pub record Serves (setting : Setting) (accepted : List Command) (moment conn : ℕ) (h : Held) (asked : Request) (old new : Wires) : Type 0 where
  pub acts : Acts accepted old new (λ core. answer setting moment conn (line_part h) core asked)
  pub inputs : inputs_of new.held ≡ settled_at (inputs_of old.held) conn (input_part (done_of h)) (line_of (answer setting moment conn (line_part h) (core_of accepted old.held) asked).core conn)

-- an error has left the connections and the replies as they were
pub record IsSame (old new : Wires) : Type 0 where
  pub held : new.held ≡ old.held
  pub waiting : new.waiting ≡ old.waiting

-- the session of a connection, if it is open
abbrev pub HasSession : ℕ → Option Held → Type 0
HasSession session None = Unit {0}
HasSession session (Some h) = h.session ≡ Some session

-- the frame was taken off, its number was used, and a response went out
pub record Sends (accepted : List Command) (moment conn : ℕ) (h : Held) (asked : Request) (said : Response) (old new : Wires) : Type 0 where
  pub acts : Acts accepted old new (λ core. send moment conn said (with_line core conn (counted (line_part h) asked)))
  pub inputs : inputs_of new.held ≡ insert (inputs_of old.held) conn (input_part (done_of h))

-- the outbox has told the messages of the accepted commands: they are counted, and the sender of snapshot cycles has the orders that are shown of the book
pub record HasTold (listing : Listing) (accepted : List Command) (out : Outbox) : Type 0 where
  pub last : out.last ≡ length (trace listing accepted)
  pub noted : out.cycle.noted ≡ length (trace listing accepted)
  pub securities : out.cycle.terms.listing.securities ≡ listing.securities
  pub image : out.cycle.image ≡ shown (book_left (empty_book (roster_of listing)) accepted).orders

-- a command was entered: it is accepted, its messages are told, its responses are stored, and there is room for the replies
pub record Enters (c : Command) (old new : Trading) (old_wires new_wires : Wires) (old_out new_out : Outbox) : Type 0 where
  pub desk : new ≡ entered old c
  pub wires : IsSame old_wires new_wires
  pub room : length new.fresh ≤ new_wires.spare
  pub sayable : All (λ (n : Numbered). IsSayable (response.Kept 0 n.what)) new.fresh
  pub outbox : new_out ≡ told old_out (messages (steps (book_at old) c)) new_out.spare new_out.cycle.spare

-- it wasn't, and nothing has changed but what is known of the last command
pub record Keeps (old new : Trading) (old_wires new_wires : Wires) (old_out new_out : Outbox) : Type 0 where
  pub roster : new.roster ≡ old.roster
  pub accepted : new.accepted ≡ old.accepted
  pub wires : IsSame old_wires new_wires
  pub outbox : new_out ≡ record old_out { spare = new_out.spare; cycle = record old_out.cycle { spare = new_out.cycle.spare } }

-- a request was answered: the day went where the treatment of the frame leads
pub record Orders (layouts : List Layout) (listing : Listing) (moment conn : ℕ) (asked : Request) (old new : Trading) (old_wires new_wires : Wires) (old_out new_out : Outbox) : Type 0 where
  pub roster : new.roster ≡ old.roster
  pub accepted : AreAccepted listing new.accepted
  pub tellable : All IsTellable new.accepted
  pub ranged : AreRanged new.accepted
  pub terms : new_out.cycle.terms ≡ old_out.cycle.terms
  pub told : HasTold listing new.accepted new_out
  pub only : HoldOnly listing.sessions old_wires.held → HoldOnly listing.sessions new_wires.held
  pub treated : (h : Held) → get old_wires.held conn ≡ Some h → step_of layouts h ≡ Ask asked
      → front_treated moment conn (day_of (record { layouts = layouts; listing = listing }) old.accepted old_wires old_out)
      ≡ day_of (record { layouts = layouts; listing = listing }) new.accepted new_wires new_out
