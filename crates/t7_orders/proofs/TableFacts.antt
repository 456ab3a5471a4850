-- The tests of an order request, one after another.
use Rattle.std.proofs.Common.{◌≡◌, ℕ, Bool, true, false, cond, List, [], ◌∷◌, ◌++◌, Result, Ok, Err, refl, sym, ap, ◌∙◌}
use Rattle.t7_eti.specs.declared.reason.Reason.{Reason}
use Rattle.t7_eti.specs.declared.request.Request.{Request}
use Rattle.t7_eti.specs.declared.request.Request.TheVariants as request
use Rattle.t7_eti.specs.Tests.{AllPass, IsFirstFailing, Test}
use Rattle.t7_book.specs.declared.command.Command.{Command}
use Rattle.t7_orders.specs.Judged.{IsOrder, as_command, tests, unless_failing}
use Rattle.t7_orders.specs.Laws.{FirstFailingIsTold}

-- a test that fails behind others that pass gives the reason
pub first_refuses : (before after : List Test) (why : Reason) (answer : Result Command Reason) → AllPass before
    → unless_failing (before ++ (true, why) ∷ after) answer ≡ Err why
first_refuses [] after why answer passed = refl
first_refuses (t ∷ before) after why answer passed =
    ap (λ b. cond b (Err t.1) (unless_failing (before ++ (true, why) ∷ after) answer)) passed.0 ∙ first_refuses before after why answer passed.1

-- where all pass, the answer is given
pub all_pass : (ts : List Test) (answer : Result Command Reason) → AllPass ts → unless_failing ts answer ≡ answer
all_pass [] answer passed = refl
all_pass (t ∷ ts) answer passed = ap (λ b. cond b (Err t.1) (unless_failing ts answer)) passed.0 ∙ all_pass ts answer passed.1

-- where a command is given, all pass
pub passed_all : (ts : List Test) (answer : Result Command Reason) (c : Command) → unless_failing ts answer ≡ Ok c → AllPass ts × (answer ≡ Ok c)
passed_all [] answer c is = (tt, is)
passed_all (t ∷ ts) answer c is = by_test t.0 refl (passed_all ts answer c) is
  where
    by_test : (b : Bool) → t.0 ≡ b → (unless_failing ts answer ≡ Ok c → AllPass ts × (answer ≡ Ok c)) → cond b (Err t.1) (unless_failing ts answer) ≡ Ok c
        → ((t.0 ≡ false) × AllPass ts) × (answer ≡ Ok c)
    by_test true fails rest is = absurd (cc)
    by_test false passes rest is = let more = rest is in ((passes, more.0), more.1)

-- where a reason is given in the place of a command, it is that of the first that fails
pub first_failing : (ts : List Test) (c : Command) (why : Reason) → unless_failing ts (Ok c) ≡ Err why → IsFirstFailing ts why
first_failing [] c why is = absurd (cc)
first_failing (t ∷ ts) c why is = by_test t.0 refl (first_failing ts c why) is
  where
    by_test : (b : Bool) → t.0 ≡ b → (unless_failing ts (Ok c) ≡ Err why → IsFirstFailing ts why) → cond b (Err t.1) (unless_failing ts (Ok c)) ≡ Err why → IsFirstFailing (t ∷ ts) why
    by_test true fails rest is =
        let same : t.1 ≡ why = cc in
        record { before = []; after = ts; split = λ i. (fails i, same i) ∷ ts; passed = tt }
    by_test false passes rest is =
        let more = rest is in
        record { before = t ∷ more.before; after = more.after; split = ap (λ (l : List Test). t ∷ l) more.split; passed = (passes, more.passed) }

-- an order request is a command
pub ordered : (session moment : ℕ) (asked : Request) → IsOrder asked → (c : Command) × (as_command session moment asked ≡ Ok c)
ordered session moment (request.New seq security side price qty client) is = (_, refl)
ordered session moment (request.Modify seq order client price qty) is = (_, refl)
ordered session moment (request.Delete seq order client) is = (_, refl)
ordered session moment (request.DeleteAll seq security) is = (_, refl)
ordered session moment request.Heartbeat is = absurd is
ordered session moment (request.Logon seq heart other) is = absurd is
ordered session moment (request.Logout seq) is = absurd is
ordered session moment (request.Resend seq after upto) is = absurd is

pub first_failing_is_told : FirstFailingIsTold
first_failing_is_told listing book session accepted moment asked is =
    let ts = tests listing book session accepted asked in
    let answer = as_command session moment asked in
    let own = ordered session moment asked is in
    record {
      refused = λ why. (
        λ (refuses : unless_failing ts answer ≡ Err why). first_failing ts own.0 why (ap (unless_failing ts) (sym own.1) ∙ refuses),
        λ (first : IsFirstFailing ts why). ap (λ (l : List Test). unless_failing l answer) first.split ∙ first_refuses first.before first.after why answer first.passed,
      );
      passed = λ c. (
        λ (accepts : unless_failing ts answer ≡ Ok c). passed_all ts answer c accepts,
        λ (passed : AllPass ts × (answer ≡ Ok c)). all_pass ts answer passed.0 ∙ passed.1,
      );
    }
