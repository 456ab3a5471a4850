-- The table of the tests on the frame at the front of a connection's bytes, and the law that the first that fails is the answer. Above
-- the table stands each of the tests by its name.
use Rattle.std.specs.Prelude.{◌≡◌, ◌≢◌, ◌↔◌, ◌&&◌, not, is_some, is_none, nat_lt, ℕ, Bool, true, false, List, [], ◌∷◌, Option, Some, None, Result, Ok, Err, is_ok, length, if◌then◌else◌}
use Rattle.std.specs.Option.{option_map_or}
use Rattle.t7_layout.specs.declared.roles.Role.{Role}
use Rattle.t7_layout.specs.declared.words.Family.TheVariants.{Eti}
use Rattle.t7_layout.specs.Layouts.{Layout}
use Rattle.t7_layout.specs.Lookups.{find_template, role_of_layout}
use Rattle.t7_fields.specs.Messages.{Message}
use Rattle.t7_fields.specs.Spelling.{template_id}
use Rattle.t7_frames.specs.Frames.{Front, whole, not_yet, bad_length, front_of}
use Rattle.t7_eti.specs.declared.reason.Reason.{Reason}
use Rattle.t7_eti.specs.declared.reason.Reason.TheVariants as reason
use Rattle.t7_eti.specs.declared.request.Request.{Request}
use Rattle.t7_eti.specs.Requests.{is_request, request_number, request_of}
use Rattle.t7_eti.specs.Tests.{AllPass, IsFirstFailing, Test}
use Rattle.t7_session.specs.declared.session.Step.TheVariants.{Ask, Refuse}
use Rattle.t7_session.specs.Asked.{asked_of}
use Rattle.t7_session.specs.Held.{Held}
use Rattle.t7_session.specs.Steps.{has_number, is_logon, step_of}

-- a template beside its role, where it is that of a request
pub record Form : Type 0 where
  pub template : Layout
  pub role : Role

-- the form of a template with this role
abbrev pub form_with : Layout → Option Role → Option Form
form_with template None = None
form_with template (Some role) = if is_request role then Some (record { template = template; role = role }) else None

-- the form of a template, if there is one
abbrev pub form_under : Option Layout → Option Form
form_under None = None
form_under (Some template) = form_with template (role_of_layout template)

-- the form of a frame: the template that its TemplateID names, where the table has it and it is that of a request
abbrev pub form_of : List Layout → List ℕ → Option Form
form_of layouts frame = form_under (find_template layouts Eti (template_id Eti frame))

-- a frame as a message of its form
abbrev pub form_message : List Layout → List ℕ → Form → Message
form_message layouts frame form = record { layouts = layouts; role = form.role; bytes = frame }

-- the frame at the front, where its length is in its range
abbrev pub frame_at : Front → List ℕ
frame_at (whole frame) = frame
frame_at not_yet = []
frame_at (bad_length len) = []

-- what was read, if it was
abbrev pub read : {X E : Type 0} → Result X E → Option X
read (Ok x) = Some x
read (Err e) = None

-- BodyLen is below 8 or over 4,096
abbrev pub fails_length : Front → Bool
fails_length (whole frame) = false
fails_length not_yet = false
fails_length (bad_length len) = true

-- the table has no ETI template of that id, or it is no request's
abbrev pub fails_template : Option Form → Bool
fails_template form = is_none form

-- the frame is shorter than its template
abbrev pub fails_size : List ℕ → Option Form → Bool
fails_size frame form = option_map_or (λ f. nat_lt (length frame) f.template.size) form false

-- a field that the request requires has no value, or one that counts as none
abbrev pub fails_fields : List Layout → List ℕ → Option Form → Bool
fails_fields layouts frame form = option_map_or (λ f. not (is_ok (request_of (form_message layouts frame f)))) form false

-- a logon, while a session is logged on
abbrev pub fails_again : Option ℕ → Option Request → Bool
fails_again session asked = option_map_or (λ r. is_logon r && is_some session) asked false

-- any other request, while none is logged on
abbrev pub fails_logged_on : Option ℕ → Option Request → Bool
fails_logged_on session asked = option_map_or (λ r. not (is_logon r) && not (is_some session)) asked false

-- a logon whose number isn't 1
abbrev pub fails_first_number : Option Request → Bool
fails_first_number asked = option_map_or (λ r. is_logon r && not (has_number 1 (request_number r))) asked false

-- any other request but a Heartbeat whose number isn't the next one
abbrev pub fails_next_number : ℕ → Option Request → Bool
fails_next_number next asked = option_map_or (λ r. not (is_logon r) && not (has_number next (request_number r))) asked false

-- the tests of what stands at the front, in their order
abbrev pub tests : List Layout → Option ℕ → ℕ → Front → List Test
tests layouts session next front =
    let frame = frame_at front in
    let form = form_of layouts frame in
    let asked = read (asked_of layouts frame) in
    (fails_length front, reason.BadLength)
    ∷ (fails_template form, reason.UnknownTemplate)
    ∷ (fails_size frame form, reason.BadLength)
    ∷ (fails_fields layouts frame form, reason.NullField)
    ∷ (fails_again session asked, reason.AlreadyLoggedOn)
    ∷ (fails_logged_on session asked, reason.NotLoggedOn)
    ∷ (fails_first_number asked, reason.SeqNum)
    ∷ (fails_next_number next asked, reason.SeqNum)
    ∷ []

-- the tests of a connection's front
abbrev pub tests_of : List Layout → Held → List Test
tests_of layouts held = tests layouts held.session held.next (front_of held.untreated)

-- Where something stands at the front, it is refused for a reason exactly where that is the reason of the first of its tests that
-- fails, and asks a request exactly where all of them pass and the frame reads as that request.
pub record IsTold (layouts : List Layout) (held : Held) : Type 0 where
  pub refused : (why : Reason) → ((seq : Option ℕ) × (step_of layouts held ≡ Refuse seq why)) ↔ IsFirstFailing (tests_of layouts held) why
  pub asked : (request : Request) → (step_of layouts held ≡ Ask request) ↔ (AllPass (tests_of layouts held) × (asked_of layouts (frame_at (front_of held.untreated)) ≡ Ok request))

-- the law, of each connection
abbrev pub FirstFailingIsTold : Type 0
FirstFailingIsTold = (layouts : List Layout) (held : Held) → front_of held.untreated ≢ not_yet → IsTold layouts held
