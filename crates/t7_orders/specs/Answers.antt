-- The recoverable responses that a command gives, and those of a session over a day.
use Rattle.std.specs.Prelude.{ℕ, ◌+◌, ◌==◌, ℤ, List, [], ◌∷◌, ◌++◌, length, map}
use Rattle.std.specs.List.{filter}
use Rattle.t7_base.specs.Listing.{Listing}
use Rattle.t7_base.specs.declared.ids.Side.{Side}
use Rattle.t7_base.specs.declared.ids.Side.TheVariants.{Buy, Sell}
use Rattle.t7_eti.specs.declared.response.Kept.{Kept}
use Rattle.t7_eti.specs.declared.response.Kept.TheVariants as kept
use Rattle.t7_orders.specs.declared.response.Numbered.{Numbered}
use Rattle.t7_book.specs.declared.command.Command.{Command}
use Rattle.t7_book.specs.declared.command.Command.TheVariants as command
use Rattle.t7_book.specs.declared.command.Note.{Note}
use Rattle.t7_book.specs.declared.command.Note.TheVariants.{Fill, Cleared}
use Rattle.t7_book.specs.declared.command.Done.{Done}
use Rattle.t7_book.specs.Orders.{BookState, empty_book, roster_of}
use Rattle.t7_book.specs.Steps.{book_after, done_of, notes_of}

-- a response beside the session that stores it
abbrev pub Stored : Type 0
Stored = ℕ × Kept

-- the other side
abbrev pub opposite : Side → Side
opposite Buy = Sell
opposite Sell = Buy

-- of each trade, the execution of the session's order, and then that of the resting order for its owner
abbrev pub executions : ℕ → ℕ → List Note → List Stored
executions session order [] = []
executions session order (Fill maker owner side maker_leaves maker_cum taker_leaves taker_cum qty price ∷ notes) =
    (session, kept.Exec order (opposite side) taker_leaves taker_cum qty price)
    ∷ (owner, kept.Exec maker side maker_leaves maker_cum qty price)
    ∷ executions session order notes
executions session order (Cleared other count ∷ notes) = executions session order notes

-- for each session whose orders were cleared, how many
abbrev pub clearings : ℤ → List Note → List Stored
clearings security [] = []
clearings security (Cleared session count ∷ notes) = (session, kept.Cleared security count) ∷ clearings security notes
clearings security (Fill maker owner side maker_leaves maker_cum taker_leaves taker_cum qty price ∷ notes) = clearings security notes

-- the responses of a command with this answer and these notes: first that to the asking session
abbrev pub answers : Command → Done → List Note → List Stored
answers (command.New moment session security side price qty client) done notes = (session, kept.New done.order client done.stamp) ∷ executions session done.order notes
answers (command.Modify moment session order price qty client) done notes = (session, kept.Changed done.order client done.stamp) ∷ executions session done.order notes
answers (command.Delete moment session order client) done notes = (session, kept.Deleted done.order client) ∷ executions session done.order notes
answers (command.DeleteAll moment session security) done notes = (session, kept.DeletedAll security done.count) ∷ executions session done.order notes
answers (command.Clear moment security) done notes = clearings security notes

-- those of a command that a book carries out
abbrev pub answers_of : BookState → Command → List Stored
answers_of book c = answers c (done_of book c) (notes_of book c)

-- those of commands, one after another
abbrev pub stored_from : BookState → List Command → List Stored
stored_from book [] = []
stored_from book (c ∷ cs) = answers_of book c ++ stored_from (book_after book c) cs

-- what one session stores of them
abbrev pub of_session : ℕ → List Stored → List Kept
of_session session stored = map (λ (s : Stored). s.1) (filter (λ (s : Stored). s.0 == session) stored)

-- responses that are stored behind others, each with its number: a session's are counted from 1
abbrev pub numbered : List Stored → List Stored → List Numbered
numbered before [] = []
numbered before (s ∷ more) =
    record { session = s.0; number = length (of_session s.0 before) + 1; what = s.1 } ∷ numbered (before ++ s ∷ []) more

-- what is stored in a day
abbrev pub stored : Listing → List Command → List Stored
stored listing commands = stored_from (empty_book (roster_of listing)) commands

-- the stored responses of a session, numbered from 1 by their places
abbrev pub responses : Listing → List Command → ℕ → List Kept
responses listing commands session = of_session session (stored listing commands)
