-- The numbers of the reasons for which requests are rejected.
use Rattle.std.specs.Prelude.{ℕ, ◌==◌, List, [], ◌∷◌, Option, find}
use Rattle.t7_eti.specs.declared.reason.Reason.{Reason}
use Rattle.t7_eti.specs.declared.reason.Reason.TheVariants.{UnknownTemplate, BadLength, NullField, SeqNum, NotLoggedOn, AlreadyLoggedOn, UnknownSession, SessionInUse, UnknownSecurity, BadSide, BadPrice, BadQty, UnknownOrder, BelowExecuted, BookFull, DayFull, BadRange}

-- the number of a reason, in SessionRejectReason
unfoldable pub reason_number : Reason → ℕ
reason_number UnknownTemplate = 1
reason_number BadLength = 2
reason_number NullField = 3
reason_number SeqNum = 4
reason_number NotLoggedOn = 5
reason_number AlreadyLoggedOn = 6
reason_number UnknownSession = 7
reason_number SessionInUse = 8
reason_number UnknownSecurity = 9
reason_number BadSide = 10
reason_number BadPrice = 11
reason_number BadQty = 12
reason_number UnknownOrder = 13
reason_number BelowExecuted = 14
reason_number BookFull = 15
reason_number DayFull = 16
reason_number BadRange = 17

-- every reason
unfoldable pub all_reasons : List Reason
all_reasons = UnknownTemplate ∷ BadLength ∷ NullField ∷ SeqNum ∷ NotLoggedOn ∷ AlreadyLoggedOn ∷ UnknownSession ∷ SessionInUse ∷ UnknownSecurity ∷ BadSide ∷ BadPrice ∷ BadQty ∷ UnknownOrder ∷ BelowExecuted ∷ BookFull ∷ DayFull ∷ BadRange ∷ []

-- the reason of a number
unfoldable pub reason_of : ℕ → Option Reason
reason_of number = find (λ reason. reason_number reason == number) all_reasons
