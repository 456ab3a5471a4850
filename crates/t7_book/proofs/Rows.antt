-- The definitions on small books: for each command the messages, the notes, the answer and the book that it leaves.
use Rattle.std.proofs.Common.{◌≡◌, ℕ, pos, List, [], ◌∷◌, refl, Some, None}
use Rattle.t7_base.specs.Listing.{Listing}
use Rattle.t7_base.specs.declared.ids.Side.{Side}
use Rattle.t7_base.specs.declared.ids.Side.TheVariants.{Buy, Sell}
use Rattle.t7_base.specs.declared.public.Resting.{Resting}
use Rattle.t7_base.specs.declared.public.Public.{Public}
use Rattle.t7_base.specs.declared.public.Public.TheVariants.{Add, Modify, SamePriority, Delete, MassDelete, Summary, Full, Partial}
use Rattle.t7_book.specs.declared.command.Command.{Command}
use Rattle.t7_book.specs.declared.command.Command.TheVariants as command
use Rattle.t7_book.specs.declared.command.Note.{Note}
use Rattle.t7_book.specs.declared.command.Note.TheVariants.{Cleared, Fill}
use Rattle.t7_book.specs.declared.command.Done.{Done}
use Rattle.t7_book.specs.declared.command.BookRefusal.TheVariants.{UnknownOrder, BelowExecuted}
use Rattle.t7_book.specs.Orders.{BookState, empty_book, roster_of, shown}
use Rattle.t7_book.specs.Commands.{refusal}
use Rattle.t7_book.specs.Steps.{messages, steps, notes_of, done_of, book_after}
use Rattle.t7_book.specs.Trace.{market, book_left}

abbrev day : Listing
day = record {
  segment = 7;
  window = 4;
  packets = 8;
  datagram = 1_472;
  securities = pos 1001 ∷ pos 1002 ∷ [];
  ticks = pos 1 ∷ pos 1 ∷ [];
  sessions = 21 ∷ 22 ∷ [];
}

abbrev buy : ℕ → ℕ → ℕ → Resting
buy price qty stamp = record { security = pos 1001; side = Buy; price = pos price; stamp = stamp; qty = qty }

abbrev sell : ℕ → ℕ → ℕ → Resting
sell price qty stamp = record { security = pos 1001; side = Sell; price = pos price; stamp = stamp; qty = qty }

abbrev new : Side → ℕ → ℕ → Command
new side price qty = command.New 0 21 (pos 1001) side (pos price) qty 9

abbrev modify : ℕ → ℕ → ℕ → Command
modify order price qty = command.Modify 0 21 order (pos price) qty 9

-- what one command gives
record Given : Type 0 where
  out : List Public
  notes : List Note
  done : Done
  book : List Resting

abbrev done : ℕ → ℕ → ℕ → Done
done order stamp count = record { order = order; stamp = stamp; count = count }

abbrev given : BookState → List Command → List Given
given book [] = []
given book (c ∷ cs) = (record { out = messages (steps book c); notes = notes_of book c; done = done_of book c; book = shown (book_after book c).orders }) ∷ given (book_after book c) cs

-- four buys at falling prices, and a sell that trades with three and a half of them
abbrev sweep : List Command
sweep = new Buy 103 10 ∷ new Buy 102 10 ∷ new Buy 101 10 ∷ new Buy 100 10 ∷ new Sell 100 35 ∷ []

sweep_gives : given (empty_book (roster_of day)) sweep
    ≡ (record { out = Add (buy 103 10 1) ∷ []; notes = []; done = done 1 1 0; book = buy 103 10 1 ∷ [] })
    ∷ (record { out = Add (buy 102 10 2) ∷ []; notes = []; done = done 2 2 0; book = buy 103 10 1 ∷ buy 102 10 2 ∷ [] })
    ∷ (record { out = Add (buy 101 10 3) ∷ []; notes = []; done = done 3 3 0; book = buy 103 10 1 ∷ buy 102 10 2 ∷ buy 101 10 3 ∷ [] })
    ∷ (record { out = Add (buy 100 10 4) ∷ []; notes = []; done = done 4 4 0; book = buy 103 10 1 ∷ buy 102 10 2 ∷ buy 101 10 3 ∷ buy 100 10 4 ∷ [] })
    ∷ (record {
      out = Summary (pos 1001) Sell 5 35 (pos 100) ∷ Full (pos 1001) Buy 1 (pos 103) 10 (pos 103) ∷ Full (pos 1001) Buy 2 (pos 102) 10 (pos 102)
          ∷ Full (pos 1001) Buy 3 (pos 101) 10 (pos 101) ∷ Partial (pos 1001) Buy 4 (pos 100) 5 (pos 100) ∷ [];
      notes = Fill 1 21 Buy (pos 0) (pos 10) (pos 25) (pos 10) 10 (pos 103) ∷ Fill 2 21 Buy (pos 0) (pos 10) (pos 15) (pos 20) 10 (pos 102)
          ∷ Fill 3 21 Buy (pos 0) (pos 10) (pos 5) (pos 30) 10 (pos 101) ∷ Fill 4 21 Buy (pos 5) (pos 5) (pos 0) (pos 35) 5 (pos 100) ∷ [];
      done = done 5 5 0;
      book = buy 100 5 4 ∷ [];
    })
    ∷ []
sweep_gives = refl

-- the book beside the eighth message, and beside the ninth
sweep_at_eight : shown (market day sweep 8) ≡ buy 100 10 4 ∷ []
sweep_at_eight = refl

sweep_at_nine : shown (market day sweep 9) ≡ buy 100 5 4 ∷ []
sweep_at_nine = refl

-- a smaller total keeps the place, the same total too, and a greater one goes behind
abbrev resizes : List Command
resizes = new Buy 100 50 ∷ new Buy 100 20 ∷ modify 1 100 30 ∷ modify 1 100 30 ∷ modify 1 100 40 ∷ []

resizes_give : given (empty_book (roster_of day)) resizes
    ≡ (record { out = Add (buy 100 50 1) ∷ []; notes = []; done = done 1 1 0; book = buy 100 50 1 ∷ [] })
    ∷ (record { out = Add (buy 100 20 2) ∷ []; notes = []; done = done 2 2 0; book = buy 100 50 1 ∷ buy 100 20 2 ∷ [] })
    ∷ (record { out = SamePriority (pos 1001) Buy 1 (pos 100) 50 30 ∷ []; notes = []; done = done 1 1 0; book = buy 100 30 1 ∷ buy 100 20 2 ∷ [] })
    ∷ (record { out = SamePriority (pos 1001) Buy 1 (pos 100) 30 30 ∷ []; notes = []; done = done 1 1 0; book = buy 100 30 1 ∷ buy 100 20 2 ∷ [] })
    ∷ (record { out = Modify (pos 1001) Buy 1 (pos 100) 30 3 (pos 100) 40 ∷ []; notes = []; done = done 1 3 0; book = buy 100 20 2 ∷ buy 100 40 3 ∷ [] })
    ∷ []
resizes_give = refl

-- a modification that trades
abbrev crosses_later : List Command
crosses_later = new Buy 100 50 ∷ new Sell 105 20 ∷ modify 1 105 60 ∷ []

crosses_later_gives : given (empty_book (roster_of day)) crosses_later
    ≡ (record { out = Add (buy 100 50 1) ∷ []; notes = []; done = done 1 1 0; book = buy 100 50 1 ∷ [] })
    ∷ (record { out = Add (sell 105 20 2) ∷ []; notes = []; done = done 2 2 0; book = buy 100 50 1 ∷ sell 105 20 2 ∷ [] })
    ∷ (record {
      out = Delete (buy 100 50 1) ∷ Summary (pos 1001) Buy 3 20 (pos 105) ∷ Full (pos 1001) Sell 2 (pos 105) 20 (pos 105) ∷ Add (buy 105 40 3) ∷ [];
      notes = Fill 2 21 Sell (pos 0) (pos 20) (pos 40) (pos 20) 20 (pos 105) ∷ [];
      done = done 1 3 0;
      book = buy 105 40 3 ∷ [];
    })
    ∷ []
crosses_later_gives = refl

-- a security is cleared, and one without orders
abbrev clears : List Command
clears = new Buy 100 50 ∷ new Sell 105 20 ∷ command.Clear 0 (pos 1001) ∷ command.Clear 0 (pos 1002) ∷ []

clears_give : given (empty_book (roster_of day)) clears
    ≡ (record { out = Add (buy 100 50 1) ∷ []; notes = []; done = done 1 1 0; book = buy 100 50 1 ∷ [] })
    ∷ (record { out = Add (sell 105 20 2) ∷ []; notes = []; done = done 2 2 0; book = buy 100 50 1 ∷ sell 105 20 2 ∷ [] })
    ∷ (record { out = MassDelete (pos 1001) ∷ []; notes = Cleared 21 2 ∷ []; done = done 0 1 2; book = [] })
    ∷ (record { out = MassDelete (pos 1002) ∷ []; notes = []; done = done 0 1 0; book = [] })
    ∷ []
clears_give = refl

-- all orders of a session go, in the order of the book; then none is known
abbrev leaves : List Command
leaves = new Sell 105 20 ∷ new Buy 99 10 ∷ new Buy 100 50 ∷ command.DeleteAll 0 21 (pos 1001) ∷ []

leaves_gives : given (empty_book (roster_of day)) leaves
    ≡ (record { out = Add (sell 105 20 1) ∷ []; notes = []; done = done 1 1 0; book = sell 105 20 1 ∷ [] })
    ∷ (record { out = Add (buy 99 10 2) ∷ []; notes = []; done = done 2 2 0; book = buy 99 10 2 ∷ sell 105 20 1 ∷ [] })
    ∷ (record { out = Add (buy 100 50 3) ∷ []; notes = []; done = done 3 3 0; book = buy 100 50 3 ∷ buy 99 10 2 ∷ sell 105 20 1 ∷ [] })
    ∷ (record { out = Delete (buy 100 50 3) ∷ Delete (buy 99 10 2) ∷ Delete (sell 105 20 1) ∷ []; notes = []; done = done 0 1 3; book = [] })
    ∷ []
leaves_gives = refl

abbrev leaves_in_turn : List Command
leaves_in_turn = new Buy 100 50 ∷ new Buy 99 10 ∷ new Sell 105 20 ∷ command.DeleteAll 0 21 (pos 1001) ∷ []

leaves_in_turn_gives : given (empty_book (roster_of day)) leaves_in_turn
    ≡ (record { out = Add (buy 100 50 1) ∷ []; notes = []; done = done 1 1 0; book = buy 100 50 1 ∷ [] })
    ∷ (record { out = Add (buy 99 10 2) ∷ []; notes = []; done = done 2 2 0; book = buy 100 50 1 ∷ buy 99 10 2 ∷ [] })
    ∷ (record { out = Add (sell 105 20 3) ∷ []; notes = []; done = done 3 3 0; book = buy 100 50 1 ∷ buy 99 10 2 ∷ sell 105 20 3 ∷ [] })
    ∷ (record { out = Delete (buy 100 50 1) ∷ Delete (buy 99 10 2) ∷ Delete (sell 105 20 3) ∷ []; notes = []; done = done 0 1 3; book = [] })
    ∷ []
leaves_in_turn_gives = refl

none_is_known : refusal (book_left (empty_book (roster_of day)) leaves_in_turn) (command.Delete 0 21 1 12) ≡ Some UnknownOrder
none_is_known = refl

-- an order of which 20 were executed: its total falls, may not fall to 20, and rises with another price; the sell is of another session, at a moment ahead
abbrev in_part : List Command
in_part = new Buy 100 50 ∷ command.New 7 22 (pos 1001) Sell (pos 100) 20 9 ∷ modify 1 100 40 ∷ modify 1 101 60 ∷ []

in_part_gives : given (empty_book (roster_of day)) in_part
    ≡ (record { out = Add (buy 100 50 1) ∷ []; notes = []; done = done 1 1 0; book = buy 100 50 1 ∷ [] })
    ∷ (record {
      out = Summary (pos 1001) Sell 7 20 (pos 100) ∷ Partial (pos 1001) Buy 1 (pos 100) 20 (pos 100) ∷ [];
      notes = Fill 1 21 Buy (pos 30) (pos 20) (pos 0) (pos 20) 20 (pos 100) ∷ [];
      done = done 2 7 0;
      book = buy 100 30 1 ∷ [];
    })
    ∷ (record { out = SamePriority (pos 1001) Buy 1 (pos 100) 30 20 ∷ []; notes = []; done = done 1 1 0; book = buy 100 20 1 ∷ [] })
    ∷ (record { out = Modify (pos 1001) Buy 1 (pos 100) 20 8 (pos 101) 40 ∷ []; notes = []; done = done 1 8 0; book = buy 101 40 8 ∷ [] })
    ∷ []
in_part_gives = refl

not_below_executed : refusal (book_left (empty_book (roster_of day)) in_part) (modify 1 101 20) ≡ Some BelowExecuted
not_below_executed = refl

just_above_executed : refusal (book_left (empty_book (roster_of day)) in_part) (modify 1 101 21) ≡ None
just_above_executed = refl
