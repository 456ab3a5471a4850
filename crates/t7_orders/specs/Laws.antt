-- Laws of the tests and of the responses.
use Rattle.std.specs.Prelude.{◌≡◌, ◌↔◌, ◌==◌, ℕ, List, [], ◌++◌, Contains, map, None, Ok, Err}
use Rattle.std.specs.List.{enumerate_from, filter}
use Rattle.t7_base.specs.Listing.{Listing}
use Rattle.t7_base.specs.Outside.{Begins}
use Rattle.t7_eti.specs.declared.reason.Reason.{Reason}
use Rattle.t7_eti.specs.declared.request.Request.{Request}
use Rattle.t7_eti.specs.declared.response.Kept.{Kept}
use Rattle.t7_eti.specs.Tests.{AllPass, IsFirstFailing}
use Rattle.t7_book.specs.declared.command.Command.{Command}
use Rattle.t7_book.specs.Orders.{BookState, roster_of}
use Rattle.t7_book.specs.Commands.{IsForProduct, refusal}
use Rattle.t7_orders.specs.declared.response.Numbered.{Numbered}
use Rattle.t7_orders.specs.Answers.{Stored, numbered, of_session, responses}
use Rattle.t7_orders.specs.Judged.{IsOrder, as_command, judged, tests}

-- An order request is refused for a reason exactly where that is the reason of the first of its tests that fails, and is a command
-- exactly where all of them pass.
pub record IsTold (listing : Listing) (book : BookState) (session accepted moment : ℕ) (asked : Request) : Type 0 where
  pub refused : (why : Reason) → (judged listing book session accepted moment asked ≡ Err why) ↔ IsFirstFailing (tests listing book session accepted asked) why
  pub passed : (c : Command) → (judged listing book session accepted moment asked ≡ Ok c) ↔ (AllPass (tests listing book session accepted asked) × (as_command session moment asked ≡ Ok c))

-- the first law
abbrev pub FirstFailingIsTold : Type 0
FirstFailingIsTold =
    (listing : Listing) (book : BookState) (session accepted moment : ℕ) (asked : Request) → IsOrder asked → IsTold listing book session accepted moment asked

-- The second law: the book takes the command of an order request that one of the product's sessions makes.
abbrev pub CommandsAreTaken : Type 0
CommandsAreTaken =
    (listing : Listing) (book : BookState) (session accepted moment : ℕ) (asked : Request) (c : Command)
    → book.roster ≡ roster_of listing → Contains listing.sessions session → judged listing book session accepted moment asked ≡ Ok c
    → IsForProduct book.roster c × (refusal book c ≡ None)

-- The third law: when commands follow, the responses of a session only grow at their end.
abbrev pub ResponsesGrow : Type 0
ResponsesGrow = (listing : Listing) (cs more : List Command) (session : ℕ) → Begins (responses listing cs session) (responses listing (cs ++ more) session)

-- what a session gets of numbered responses, each beside its number
abbrev pub told : ℕ → List Numbered → List (ℕ × Kept)
told session rs = map (λ (r : Numbered). (r.number, r.what)) (filter (λ (r : Numbered). r.session == session) rs)

-- The fourth law: each session's responses are numbered from 1, one after another.
abbrev pub NumberedFromOne : Type 0
NumberedFromOne = (entries : List Stored) (session : ℕ) → told session (numbered [] entries) ≡ enumerate_from 1 (of_session session entries)
