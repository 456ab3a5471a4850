-- What contracts see of a client that recovers its session's responses, and what its calls and the responses that it reads make of it.
use Rattle.std.specs.Prelude.{ℕ, ◌+◌, ◌-◌, ◌^◌, ◌==◌, ◌&&◌, not, Bool, true, false, List, [], ◌++◌, length, nat_lt, nat_le, Option, None, Some, if◌then◌else◌}
use Rattle.t7_layout.specs.Layouts.{Layout}
use Rattle.t7_eti.specs.declared.reason.Reason.{Reason}
use Rattle.t7_eti.specs.declared.request.Request.{Request}
use Rattle.t7_eti.specs.declared.request.Request.TheVariants as request
use Rattle.t7_eti.specs.declared.response.Kept.{Kept}
use Rattle.t7_eti.specs.declared.response.Response.{Response}
use Rattle.t7_eti.specs.declared.response.Response.TheVariants as response
use Rattle.t7_eti.specs.Saying.{request_bytes}
use Rattle.t7_recover.specs.Gathering.{gathered_with}
use Rattle.t7_client.specs.declared.machine.Answer.{Answer}

-- a client: its table, its session and the session's responses that it gathered; all else is of the connection that was dialed last
pub record Recovery : Type 0 where
  pub layouts : List Layout
  pub session : ℕ
  pub gathered : List Kept
  -- it has dialed, and was not cut since
  pub dialed : Bool
  -- how many bytes were treated since the dial, and those that came behind them
  pub treated : ℕ
  pub rest : List ℕ
  -- the bytes that wait to be sent, and the number of the next request
  pub queue : List ℕ
  pub next : ℕ
  -- how many orders and logouts were made since the dial
  pub made : ℕ
  pub logged_on : Bool
  -- the last answer to a request for responses, and the reason of the last Reject
  pub answer : Option Answer
  pub rejected : Option Reason

-- a client before its first dial
abbrev pub new_recovery : List Layout → ℕ → Recovery
new_recovery layouts session = record {
  layouts = layouts;
  session = session;
  gathered = [];
  dialed = false;
  treated = 0;
  rest = [];
  queue = [];
  next = 1;
  made = 0;
  logged_on = false;
  answer = None;
  rejected = None;
}

-- a dial: nothing of the last connection is left, and a LogonRequest waits to be sent, with number 1 and a HeartBtInt of 30,000
abbrev pub dialed : Recovery → Recovery
dialed client = record (new_recovery client.layouts client.session) {
  gathered = client.gathered;
  dialed = true;
  queue = request_bytes client.layouts (request.Logon 1 30_000 client.session);
  next = 2;
}

-- a cut: nothing of the connection is left but the reason of its last Reject
abbrev pub cut : Recovery → Recovery
cut client = record (new_recovery client.layouts client.session) { gathered = client.gathered; rejected = client.rejected }

-- a request that has the next number waits behind the others
abbrev pub sending : Recovery → Request → Recovery
sending client asked = record client { queue = client.queue ++ request_bytes client.layouts asked; next = client.next + 1 }

-- the same of an order or a logout, which are counted
abbrev pub making : Recovery → Request → Recovery
making client asked = record (sending client asked) { made = client.made + 1 }

-- all responses above the list's length are asked for
abbrev pub asking : Recovery → Recovery
asking client = sending client (request.Resend client.next (length client.gathered) (2 ^ 128 - 1))

-- an answer says that more responses are kept than it sends, those that it sends are gathered, and the client has not asked again since
abbrev pub is_due : ℕ → Answer → Bool
is_due count answer = not answer.asked && (nat_lt answer.last answer.known && nat_le answer.last count)

-- the client asks again, once, where an answer makes that due
abbrev pub asking_again : Recovery → Option Answer → Recovery
asking_again client None = client
asking_again client (Some answer) =
    if is_due (length client.gathered) answer then asking (record client { answer = Some (record answer { asked = true }) }) else client

-- a recoverable response: the next one is gathered, and any other changes nothing
abbrev pub gathering : Recovery → ℕ → Kept → Recovery
gathering client number what =
    if number == length client.gathered + 1 then asking_again (record client { gathered = gathered_with client.gathered number what }) client.answer else client

-- an answer to a request for responses: the last of them is `last`, and `known` are kept
abbrev pub answering : Recovery → Answer → Recovery
answering client answer = asking_again (record client { answer = Some answer }) (Some answer)

-- what a response makes of a client
abbrev pub after : Recovery → Response → Recovery
after client (response.Logon seq heart) = asking (record client { logged_on = true })
after client (response.Logout seq) = record client { logged_on = false }
after client response.Beat = client
after client (response.Reject seq reason) = record client { rejected = Some reason }
after client (response.Resent seq count last known) = answering client (record { last = last; known = known; asked = false })
after client (response.Kept number what) = gathering client number what

-- as many responses are gathered as the answer says are kept
abbrev pub holds_known : ℕ → Option Answer → Bool
holds_known count None = false
holds_known count (Some answer) = nat_le answer.known count

-- an answer came since the dial, and the list is as long as the last one says
abbrev pub is_recovered : Recovery → Bool
is_recovered client = holds_known (length client.gathered) client.answer
