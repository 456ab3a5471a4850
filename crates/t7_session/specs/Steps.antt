-- What one connection makes of the frame at its front: the first failing test, or what the frame asks.
use Rattle.std.specs.Prelude.{ℕ, ◌+◌, ◌==◌, ◌&&◌, if◌then◌else◌, Bool, true, false, not, is_some, List, Option, Some, None, Result, Ok, Err, drop}
use Rattle.std.specs.Option.{option_and_then}
use Rattle.t7_layout.specs.Layouts.{Layout}
use Rattle.t7_frames.specs.Frames.{Front, whole, not_yet, bad_length, front_of, body_len}
use Rattle.t7_eti.specs.declared.reason.Reason.TheVariants.{BadLength, SeqNum, NotLoggedOn, AlreadyLoggedOn}
use Rattle.t7_eti.specs.declared.request.Request.{Request}
use Rattle.t7_eti.specs.declared.request.Request.TheVariants.{Logon}
use Rattle.t7_eti.specs.Requests.{request_number}
use Rattle.t7_session.specs.declared.checks.Refusal.{Refusal}
use Rattle.t7_session.specs.declared.session.Step.{Step}
use Rattle.t7_session.specs.declared.session.Step.TheVariants.{NotYet, Ask, Refuse}
use Rattle.t7_session.specs.Asked.{asked_of}
use Rattle.t7_session.specs.Held.{Held}

-- a request logs on
abbrev pub is_logon : Request → Bool
is_logon (Logon seq heart session) = true
is_logon other = false

-- a number, where there is one, is the one that is wanted
abbrev pub has_number : ℕ → Option ℕ → Bool
has_number wanted_number None = true
has_number wanted_number (Some seq) = seq == wanted_number

-- the number that a request has to have: 1 where it logs on, else the next of its session
abbrev pub wanted_number : ℕ → Request → ℕ
wanted_number next request = if is_logon request then 1 else next

-- the tests of a request on its session and its number
abbrev pub session_step : Option ℕ → ℕ → Request → Step
session_step session next request =
    if is_logon request && is_some session then Refuse (request_number request) AlreadyLoggedOn else
    if not (is_logon request) && not (is_some session) then Refuse (request_number request) NotLoggedOn else
    if not (has_number (wanted_number next request) (request_number request)) then Refuse (request_number request) SeqNum else
    Ask request

-- these tests come after those of the frame's form
abbrev pub step_by : Option ℕ → ℕ → Result Request Refusal → Step
step_by session next (Ok request) = session_step session next request
step_by session next (Err refusal) = Refuse refusal.seq refusal.reason

-- the step of a frame
abbrev pub frame_step : List Layout → Option ℕ → ℕ → List ℕ → Step
frame_step layouts session next frame = step_by session next (asked_of layouts frame)

-- the step by what stands at the front
abbrev pub step_at : List Layout → Held → Front → Step
step_at layouts held not_yet = NotYet
step_at layouts held (bad_length len) = Refuse None BadLength
step_at layouts held (whole frame) = frame_step layouts held.session held.next frame

-- the step of a session
abbrev pub step_of : List Layout → Held → Step
step_of layouts held = step_at layouts held (front_of held.untreated)

-- what a step asks
abbrev pub asked_in : Step → Option Request
asked_in NotYet = None
asked_in (Ask request) = Some request
asked_in (Refuse seq reason) = None

-- the number of what was asked, if it has one
abbrev pub number_asked : Option Request → Option ℕ
number_asked asked = option_and_then request_number asked

-- the number that comes next behind what was asked: one more where a session is logged on and this wasn't a Heartbeat
abbrev pub next_by : Option ℕ → ℕ → Option Request → ℕ
next_by session next asked = if is_some session && is_some (number_asked asked) then next + 1 else next

-- the next number of a connection whose front frame is treated
abbrev pub next_after : Held → ℕ
next_after held = next_by held.session held.next held.asked

-- a session whose front frame is treated
abbrev pub done_of : Held → Held
done_of held = record held { untreated = drop (body_len held.untreated) held.untreated; next = next_after held; asked = None }
