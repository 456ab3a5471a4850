-- What the answers to requests for responses say is stored.
use Rattle.std.specs.Prelude.{◌≡◌, ℕ, List, [], ◌∷◌, Some, length}
use Rattle.t7_base.specs.Listing.{Listing}
use Rattle.t7_eti.specs.declared.response.Response.TheVariants as response
use Rattle.t7_orders.specs.Answers.{responses}
use Rattle.t7_entry.specs.State.{Core, Doing, Setting, replies, sends}
use Rattle.t7_entry.specs.Treatment.{session_of, treat}

-- an answer goes out on a connection that holds a session, and says how many responses are stored for it
abbrev pub NamesStored : Listing → Core → Doing → Type 0
NamesStored listing core (replies (sends conn (response.Resent seq count last known))) =
    (session : ℕ) × (session_of core conn ≡ Some session) × (known ≡ length (responses listing core.accepted session))
NamesStored listing core other = Unit {0}

-- each of them does
abbrev pub AllNameStored : Listing → Core → List Doing → Type 0
AllNameStored listing core [] = Unit {0}
AllNameStored listing core (doing ∷ doings) = NamesStored listing core doing × AllNameStored listing core doings

-- so do the answers to each frame: of the commands that were accepted when it came
abbrev pub AnswersNameWhatIsStored : Type 0
AnswersNameWhatIsStored = (setting : Setting) (moment conn : ℕ) (frame : List ℕ) (core : Core) → AllNameStored setting.listing core (treat setting moment conn frame core).doings
