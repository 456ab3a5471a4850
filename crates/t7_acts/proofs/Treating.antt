-- What a frame accepts.
use Rattle.std.proofs.Common.{ℕ, ◌+◌, not, List, [], ◌∷◌, ◌++◌, length, Option, Some, None, is_some, Result, Ok, Err}
use Rattle.std.specs.List.{list_any}
use Rattle.std.specs.Prelude.{◌==◌}
use Rattle.t7_eti.specs.declared.reason.Reason.{Reason}
use Rattle.t7_eti.specs.declared.reason.Reason.TheVariants.{UnknownSession, SessionInUse, BadRange}
use Rattle.t7_eti.specs.declared.request.Request.{Request}
use Rattle.t7_eti.specs.declared.request.Request.TheVariants as request
use Rattle.t7_eti.specs.declared.response.Kept.{Kept}
use Rattle.t7_eti.specs.declared.response.Response.{Response}
use Rattle.t7_eti.specs.declared.response.Response.TheVariants as response
use Rattle.t7_eti.specs.Requests.{request_number}
use Rattle.t7_book.specs.declared.command.Command.{Command}
use Rattle.t7_book.specs.Steps.{messages, steps}
use Rattle.t7_session.specs.declared.session.Step.{Step}
use Rattle.t7_session.specs.declared.session.Step.TheVariants as step
use Rattle.t7_session.specs.Heartbeats.{interval_of}
use Rattle.t7_session.specs.Steps.{frame_step}
use Rattle.t7_orders.specs.declared.response.Numbered.{Numbered}
use Rattle.t7_orders.specs.Answers.{answers_of, numbered, responses, stored}
use Rattle.t7_orders.specs.Judged.{judged}
use Rattle.t7_recover.specs.Ranges.{is_bad_range, range_of}
use Rattle.t7_entry.specs.State.{Core, Line, Setting, book_of, closes, line_of, sends, tells, with_line}
use Rattle.t7_entry.specs.Treatment.{accept, answer, close, counted, deliver, deliver_at, holder, log_on, ordered, refuse, send, send_again, send_at, send_range, serve, treat, treat_at, treat_step}
use Rattle.t7_acts.proofs.Adding.{Extends, by_test, none, one_command, one_reply, then}

module _ (setting : Setting) where
  send_at-adds : (moment conn : ℕ) (r : Response) (core : Core) (line : Option Line) → Extends setting core (send_at moment conn r core line)
  send_at-adds moment conn r core (Some line) = one_reply setting core.accepted (sends conn r)
  send_at-adds moment conn r core None = none setting core.accepted

  pub send-adds : (moment conn : ℕ) (r : Response) (core : Core) → Extends setting core (send moment conn r core)
  unfolding send
  send-adds moment conn r core = send_at-adds moment conn r core (line_of core conn)

  pub close-adds : (conn : ℕ) (core : Core) → Extends setting core (close conn core)
  unfolding close
  close-adds conn core = one_reply setting core.accepted (closes conn)

  pub refuse-adds : (moment conn : ℕ) (seq : Option ℕ) (reason : Reason) (core : Core) → Extends setting core (refuse moment conn seq reason core)
  unfolding refuse
  refuse-adds moment conn seq reason core =
      then setting core (send moment conn (response.Reject seq reason) core) (close conn) (send-adds moment conn (response.Reject seq reason) core) (close-adds conn)

  deliver_at-adds : (moment : ℕ) (r : Response) (core : Core) (conn : Option ℕ) → Extends setting core (deliver_at moment r core conn)
  deliver_at-adds moment r core (Some conn) = send-adds moment conn r core
  deliver_at-adds moment r core None = none setting core.accepted

  deliver-adds : (moment : ℕ) (ns : List Numbered) (core : Core) → Extends setting core (deliver moment ns core)
  unfolding deliver
  deliver-adds moment [] core = none setting core.accepted
  deliver-adds moment (n ∷ more) core =
      then setting core (deliver_at moment (response.Kept n.number n.what) core (holder n.session core)) (deliver moment more)
      (deliver_at-adds moment (response.Kept n.number n.what) core (holder n.session core)) (deliver-adds moment more)

  pub accept-adds : (moment : ℕ) (command : Command) (core : Core) → Extends setting core (accept setting moment command core)
  unfolding accept
  accept-adds moment command core =
      let book = book_of setting core.accepted in
      let ns = numbered (stored setting.listing core.accepted) (answers_of book command) in
      then setting core
      (record { core = record { accepted = core.accepted ++ command ∷ []; lines = core.lines }; doings = tells (messages (steps book command)) ∷ [] }) (deliver moment ns)
      (one_command setting core.accepted command) (deliver-adds moment ns)

  ordered-adds : (moment conn : ℕ) (seq : Option ℕ) (core : Core) (result : Result Command Reason) → Extends setting core (ordered setting moment conn seq core result)
  ordered-adds moment conn seq core (Ok command) = accept-adds moment command core
  ordered-adds moment conn seq core (Err reason) = send-adds moment conn (response.Reject seq reason) core

  again-adds : (moment conn number : ℕ) (items : List Kept) (core : Core) → Extends setting core (send_again moment conn number items core)
  unfolding send_again
  again-adds moment conn number [] core = none setting core.accepted
  again-adds moment conn number (what ∷ rest) core =
      then setting core (send moment conn (response.Kept number what) core) (send_again moment conn (number + 1) rest)
      (send-adds moment conn (response.Kept number what) core) (again-adds moment conn (number + 1) rest)

  range-adds : (moment conn seq after upto : ℕ) (list : List Kept) (core : Core) → Extends setting core (send_range moment conn seq after upto list core)
  range-adds moment conn seq after upto list core =
      let range = range_of list after upto in
      let first = response.Resent seq (length range) (after + length range) (length list) in
      by_test setting core (is_bad_range list after upto) _ _ (send-adds moment conn (response.Reject (Some seq) BadRange) core)
      (then setting core (send moment conn first core) (send_again moment conn (after + 1) range) (send-adds moment conn first core) (again-adds moment conn (after + 1) range))

  log_on-adds : (moment conn : ℕ) (line : Line) (core : Core) (seq heart session : ℕ) → Extends setting core (log_on setting moment conn line core seq heart session)
  log_on-adds moment conn line core seq heart session =
      let there : Line = record line { session = Some session; heart = interval_of heart } in
      by_test setting core (not (list_any (λ s. s == session) setting.listing.sessions)) _ _ (refuse-adds moment conn (Some seq) UnknownSession core)
      (by_test setting core (is_some (holder session core)) _ _ (refuse-adds moment conn (Some seq) SessionInUse core)
      (send-adds moment conn (response.Logon seq (interval_of heart)) (with_line core conn (counted there (request.Logon seq heart session)))))

  orders : (moment conn session : ℕ) (core : Core) (asked : Request)
      → Extends setting core (ordered setting moment conn (request_number asked) core (judged setting.listing (book_of setting core.accepted) session (length core.accepted) moment asked))
  orders moment conn session core asked = ordered-adds moment conn (request_number asked) core (judged setting.listing (book_of setting core.accepted) session (length core.accepted) moment asked)

  serve-adds : (moment conn : ℕ) (core : Core) (asked : Request) (session : Option ℕ) → Extends setting core (serve setting moment conn core asked session)
  serve-adds moment conn core asked None = none setting core.accepted
  serve-adds moment conn core (request.Resend seq after upto) (Some session) = range-adds moment conn seq after upto (responses setting.listing core.accepted session) core
  serve-adds moment conn core (request.Logon seq heart other) (Some session) = orders moment conn session core (request.Logon seq heart other)
  serve-adds moment conn core (request.Logout seq) (Some session) = orders moment conn session core (request.Logout seq)
  serve-adds moment conn core request.Heartbeat (Some session) = orders moment conn session core request.Heartbeat
  serve-adds moment conn core (request.New seq security side price qty client) (Some session) = orders moment conn session core (request.New seq security side price qty client)
  serve-adds moment conn core (request.Modify seq order client price qty) (Some session) = orders moment conn session core (request.Modify seq order client price qty)
  serve-adds moment conn core (request.Delete seq order client) (Some session) = orders moment conn session core (request.Delete seq order client)
  serve-adds moment conn core (request.DeleteAll seq security) (Some session) = orders moment conn session core (request.DeleteAll seq security)

  served : (moment conn : ℕ) (line : Line) (core : Core) (asked : Request) → Extends setting core (serve setting moment conn (with_line core conn (counted line asked)) asked line.session)
  served moment conn line core asked = serve-adds moment conn (with_line core conn (counted line asked)) asked line.session

  answer-adds : (moment conn : ℕ) (line : Line) (core : Core) (asked : Request) → Extends setting core (answer setting moment conn line core asked)
  answer-adds moment conn line core (request.Logon seq heart session) = log_on-adds moment conn line core seq heart session
  answer-adds moment conn line core (request.Logout seq) =
      then setting core (send moment conn (response.Logout seq) core) (close conn) (send-adds moment conn (response.Logout seq) core) (close-adds conn)
  answer-adds moment conn line core request.Heartbeat = none setting core.accepted
  answer-adds moment conn line core (request.New seq security side price qty client) = served moment conn line core (request.New seq security side price qty client)
  answer-adds moment conn line core (request.Modify seq order client price qty) = served moment conn line core (request.Modify seq order client price qty)
  answer-adds moment conn line core (request.Delete seq order client) = served moment conn line core (request.Delete seq order client)
  answer-adds moment conn line core (request.DeleteAll seq security) = served moment conn line core (request.DeleteAll seq security)
  answer-adds moment conn line core (request.Resend seq after upto) = served moment conn line core (request.Resend seq after upto)

  step-adds : (moment conn : ℕ) (line : Line) (core : Core) (s : Step) → Extends setting core (treat_step setting moment conn line core s)
  step-adds moment conn line core step.NotYet = none setting core.accepted
  step-adds moment conn line core (step.Refuse seq reason) = refuse-adds moment conn seq reason core
  step-adds moment conn line core (step.Ask asked) = answer-adds moment conn line core asked

  treat_at-adds : (moment conn : ℕ) (frame : List ℕ) (core : Core) (line : Option Line) → Extends setting core (treat_at setting moment conn frame core line)
  treat_at-adds moment conn frame core None = none setting core.accepted
  treat_at-adds moment conn frame core (Some line) = step-adds moment conn line core (frame_step setting.layouts line.session line.next frame)

  pub treat-adds : (moment conn : ℕ) (frame : List ℕ) (core : Core) → Extends setting core (treat setting moment conn frame core)
  unfolding treat
  treat-adds moment conn frame core = treat_at-adds moment conn frame core (line_of core conn)
