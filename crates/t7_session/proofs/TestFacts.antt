-- The first of the tests that fails, and the step of a frame.
use Rattle.std.proofs.Common.{◌≡◌, ℕ, Bool, true, false, cond, not, ◌&&◌, List, [], ◌∷◌, ◌++◌, Option, Some, None, Result, Ok, Err, refl, sym, ap, ◌∙◌, is_some, is_none, is_ok, nat_lt, length}
use Rattle.t7_layout.specs.declared.roles.Role.{Role}
use Rattle.t7_layout.specs.declared.words.Family.TheVariants.{Eti}
use Rattle.t7_layout.specs.Layouts.{Layout}
use Rattle.t7_layout.specs.Lookups.{find_template, role_of_layout}
use Rattle.t7_fields.specs.Messages.{Message}
use Rattle.t7_fields.specs.Spelling.{template_id}
use Rattle.t7_frames.specs.Frames.{Front, whole, not_yet, bad_length, front_of}
use Rattle.t7_eti.specs.declared.nulls.FieldFault.{FieldFault}
use Rattle.t7_eti.specs.declared.reason.Reason.{Reason}
use Rattle.t7_eti.specs.declared.reason.Reason.TheVariants as reason
use Rattle.t7_eti.specs.declared.request.Request.{Request}
use Rattle.t7_eti.specs.Requests.{is_request, request_number, request_of}
use Rattle.t7_eti.specs.Tests.{AllPass, IsFirstFailing, Test}
use Rattle.t7_session.specs.declared.checks.Refusal.{Refusal}
use Rattle.t7_session.specs.declared.session.Step.{Step}
use Rattle.t7_session.specs.declared.session.Step.TheVariants.{NotYet, Ask, Refuse}
use Rattle.t7_session.specs.Asked.{asked_as, asked_of, asked_under, asked_with, or_null, unnumbered}
use Rattle.t7_session.specs.Held.{Held}
use Rattle.t7_session.specs.Steps.{frame_step, has_number, is_logon, step_at, step_by, step_of}
use Rattle.t7_session.specs.Tests.{FirstFailingIsTold, Form, fails_again, fails_fields, fails_first_number, fails_logged_on, fails_next_number, fails_size, form_under, form_with, frame_at, form_message, read, tests, tests_of}

-- the reason of the first of these tests that fails
abbrev first_reason : List Test → Option Reason
first_reason [] = None
first_reason (t ∷ ts) = cond t.0 (Some t.1) (first_reason ts)

first_some : (ts : List Test) (why : Reason) → first_reason ts ≡ Some why → IsFirstFailing ts why
first_some [] why is = absurd (let e : None ≡ Some why = is in cc)
first_some (t ∷ ts) why is = by_test t.0 refl (first_some ts why) is
  where
    by_test : (b : Bool) → t.0 ≡ b → (first_reason ts ≡ Some why → IsFirstFailing ts why) → cond b (Some t.1) (first_reason ts) ≡ Some why → IsFirstFailing (t ∷ ts) why
    by_test true fails rest is =
        let same : t.1 ≡ why = cc in
        record { before = []; after = ts; split = λ i. (fails i, same i) ∷ ts; passed = tt }
    by_test false passes rest is =
        let more = rest is in
        record { before = t ∷ more.before; after = more.after; split = ap (λ (l : List Test). t ∷ l) more.split; passed = (passes, more.passed) }

behind : (before after : List Test) (why : Reason) → AllPass before → first_reason (before ++ (true, why) ∷ after) ≡ Some why
behind [] after why passed = refl
behind (t ∷ before) after why passed = ap (λ b. cond b (Some t.1) (first_reason (before ++ (true, why) ∷ after))) passed.0 ∙ behind before after why passed.1

some_first : (ts : List Test) (why : Reason) → IsFirstFailing ts why → first_reason ts ≡ Some why
some_first ts why first = ap first_reason first.split ∙ behind first.before first.after why first.passed

none_fails : (ts : List Test) → first_reason ts ≡ None → AllPass ts
none_fails [] is = tt
none_fails (t ∷ ts) is = by_test t.0 refl (none_fails ts) is
  where
    by_test : (b : Bool) → t.0 ≡ b → (first_reason ts ≡ None → AllPass ts) → cond b (Some t.1) (first_reason ts) ≡ None → (t.0 ≡ false) × AllPass ts
    by_test true fails rest is = absurd (cc)
    by_test false passes rest is = (passes, rest is)

all_pass : (ts : List Test) → AllPass ts → first_reason ts ≡ None
all_pass [] passed = refl
all_pass (t ∷ ts) passed = ap (λ b. cond b (Some t.1) (first_reason ts)) passed.0 ∙ all_pass ts passed.1

-- a step refuses for this first reason, or asks this where there is none
abbrev Matches : Step → Option Reason → Option Request → Type 0
Matches (Ask request) None (Some asked) = request ≡ asked
Matches (Ask request) None None = ⊥
Matches (Ask request) (Some why) asked = ⊥
Matches (Refuse seq reason) (Some why) asked = reason ≡ why
Matches (Refuse seq reason) None asked = ⊥
Matches NotYet why asked = ⊥

refuses : (step : Step) (first : Option Reason) (asked : Option Request) → Matches step first asked → (seq : Option ℕ) (why : Reason) → step ≡ Refuse seq why → first ≡ Some why
refuses (Ask request) first asked is seq why refused = absurd (cc)
refuses (Refuse other reason) None asked is seq why refused = absurd is
refuses (Refuse other reason) (Some w) asked is seq why refused = let same : reason ≡ why = cc in ap Some (sym is ∙ same)
refuses NotYet first asked is seq why refused = absurd is

refused_by : (step : Step) (first : Option Reason) (asked : Option Request) → Matches step first asked → (why : Reason) → first ≡ Some why → (seq : Option ℕ) × (step ≡ Refuse seq why)
refused_by (Ask request) None None is why some = absurd is
refused_by (Ask request) None (Some a) is why some = absurd (let e : None ≡ Some why = some in cc)
refused_by (Ask request) (Some w) asked is why some = absurd is
refused_by (Refuse seq reason) None asked is why some = absurd is
refused_by (Refuse seq reason) (Some w) asked is why some = let same : w ≡ why = cc in (seq, ap (Refuse seq) (is ∙ same))
refused_by NotYet first asked is why some = absurd is

asks : (step : Step) (first : Option Reason) (asked : Option Request) → Matches step first asked → (request : Request) → step ≡ Ask request → (first ≡ None) × (asked ≡ Some request)
asks (Ask r) None None is request asked_is = absurd is
asks (Ask r) None (Some a) is request asked_is = let same : r ≡ request = cc in (refl, ap Some (sym is ∙ same))
asks (Ask r) (Some w) asked is request asked_is = absurd is
asks (Refuse seq reason) first asked is request asked_is = absurd (cc)
asks NotYet first asked is request asked_is = absurd is

asked_by : (step : Step) (first : Option Reason) (asked : Option Request) → Matches step first asked → (request : Request) → first ≡ None → asked ≡ Some request → step ≡ Ask request
asked_by (Ask r) None None is request none some = absurd is
asked_by (Ask r) None (Some a) is request none some = let same : a ≡ request = cc in ap Ask (is ∙ same)
asked_by (Ask r) (Some w) asked is request none some = absurd is
asked_by (Refuse seq reason) None asked is request none some = absurd is
asked_by (Refuse seq reason) (Some w) asked is request none some = absurd (let e : Some w ≡ None = none in cc)
asked_by NotYet first asked is request none some = absurd is

module _ (layouts : List Layout) (session : Option ℕ) (next : ℕ) (frame : List ℕ) where
  -- what is asked matches the tests, of which the second, the third and the fourth come to these
  abbrev Says : Bool → Bool → Bool → Result Request Refusal → Type 0
  Says formless short missing asked = Matches (step_by session next asked)
      (first_reason ((false, reason.BadLength) ∷ (formless, reason.UnknownTemplate) ∷ (short, reason.BadLength) ∷ (missing, reason.NullField)
      ∷ (fails_again session (read asked), reason.AlreadyLoggedOn) ∷ (fails_logged_on session (read asked), reason.NotLoggedOn)
      ∷ (fails_first_number (read asked), reason.SeqNum) ∷ (fails_next_number next (read asked), reason.SeqNum) ∷ []))
      (read asked)

  by_number : (request : Request) (good : Bool) → Matches (cond (not good) (Refuse (request_number request) reason.SeqNum) (Ask request)) (cond (not good) (Some reason.SeqNum) None) (Some request)
  by_number request true = refl
  by_number request false = refl

  by_logon : (request : Request) (logon held : Bool)
      → Matches (cond (logon && held) (Refuse (request_number request) reason.AlreadyLoggedOn) (cond (not logon && not held) (Refuse (request_number request) reason.NotLoggedOn)
      (cond (not (has_number (cond logon 1 next) (request_number request))) (Refuse (request_number request) reason.SeqNum) (Ask request))))
      (first_reason ((logon && held, reason.AlreadyLoggedOn) ∷ (not logon && not held, reason.NotLoggedOn)
      ∷ (logon && not (has_number 1 (request_number request)), reason.SeqNum) ∷ (not logon && not (has_number next (request_number request)), reason.SeqNum) ∷ []))
      (Some request)
  by_logon request true true = refl
  by_logon request true false = by_first (has_number 1 (request_number request))
    where
      by_first : (good : Bool) → Matches (cond (not good) (Refuse (request_number request) reason.SeqNum) (Ask request)) (cond (not good) (Some reason.SeqNum) None) (Some request)
      by_first true = refl
      by_first false = refl
  by_logon request false true = by_number request (has_number next (request_number request))
  by_logon request false false = refl

  by_fields : (message : Message) (read_as : Result Request FieldFault) → Says false false (not (is_ok read_as)) (or_null message read_as)
  by_fields message (Err fault) = refl
  by_fields message (Ok request) = by_logon request (is_logon request) (is_some session)

  by_size : (form : Form) (short : Bool)
      → Says false short (not (is_ok (request_of (form_message layouts frame form)))) (cond short (Err (unnumbered reason.BadLength)) (or_null (form_message layouts frame form) (request_of (form_message layouts frame form))))
  by_size form true = refl
  by_size form false = by_fields (form_message layouts frame form) (request_of (form_message layouts frame form))

  by_request : (template : Layout) (role : Role) (b : Bool)
      → let form : Option Form = cond b (Some (record { template = template; role = role })) None in
      Says (is_none form) (fails_size frame form) (fails_fields layouts frame form) (cond b (asked_as layouts frame template role) (Err (unnumbered reason.UnknownTemplate)))
  by_request template role true = by_size (record { template = template; role = role }) (nat_lt (length frame) template.size)
  by_request template role false = refl

  by_role : (template : Layout) (role : Option Role)
      → Says (is_none (form_with template role)) (fails_size frame (form_with template role)) (fails_fields layouts frame (form_with template role)) (asked_with layouts frame template role)
  by_role template None = refl
  by_role template (Some role) = by_request template role (is_request role)

  by_found : (found : Option Layout) → Says (is_none (form_under found)) (fails_size frame (form_under found)) (fails_fields layouts frame (form_under found)) (asked_under layouts frame found)
  by_found None = refl
  by_found (Some template) = by_role template (role_of_layout template)

  frame_matches : Matches (frame_step layouts session next frame) (first_reason (tests layouts session next (whole frame))) (read (asked_of layouts frame))
  frame_matches = by_found (find_template layouts Eti (template_id Eti frame))

front_matches : (layouts : List Layout) (held : Held) (front : Front) → (front ≡ not_yet → ⊥)
    → Matches (step_at layouts held front) (first_reason (tests layouts held.session held.next front)) (read (asked_of layouts (frame_at front)))
front_matches layouts held (whole frame) some = frame_matches layouts held.session held.next frame
front_matches layouts held not_yet some = absurd (some refl)
front_matches layouts held (bad_length len) some = refl

was_read : {X E : Type 0} (r : Result X E) (x : X) → read r ≡ Some x → r ≡ Ok x
was_read (Ok y) x is = let same : y ≡ x = cc in ap Ok same
was_read (Err e) x is = absurd (let none : None ≡ Some x = is in cc)

pub first_failing_is_told : FirstFailingIsTold
first_failing_is_told layouts held some =
    let front = front_of held.untreated in
    let ts = tests_of layouts held in
    let step = step_of layouts held in
    let asked = asked_of layouts (frame_at front) in
    let matches : Matches step (first_reason ts) (read asked) = front_matches layouts held front some in
    record {
      refused = λ why. (
        λ (is : (seq : Option ℕ) × (step ≡ Refuse seq why)). first_some ts why (refuses step (first_reason ts) (read asked) matches is.0 why is.1),
        λ (first : IsFirstFailing ts why). refused_by step (first_reason ts) (read asked) matches why (some_first ts why first),
      );
      asked = λ request. (
        λ (is : step ≡ Ask request). let both = asks step (first_reason ts) (read asked) matches request is in (none_fails ts both.0, was_read asked request both.1),
        λ (is : AllPass ts × (asked ≡ Ok request)). asked_by step (first_reason ts) (read asked) matches request (all_pass ts is.0) (ap read is.1),
      );
    }
