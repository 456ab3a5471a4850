-- What a frame leaves of a connection.
use Rattle.std.proofs.Common.{◌≡◌, ℕ, ◌+◌, Bool, true, false, cond, not, List, [], ◌∷◌, ◌++◌, length, Option, Some, None, is_some, Result, Ok, Err, refl}
use Rattle.std.specs.List.{list_any}
use Rattle.std.specs.Prelude.{◌==◌, ◌&&◌}
use Rattle.t7_eti.specs.declared.reason.Reason.{Reason}
use Rattle.t7_eti.specs.declared.reason.Reason.TheVariants.{AlreadyLoggedOn, NotLoggedOn, SeqNum, UnknownSession, SessionInUse, BadRange}
use Rattle.t7_eti.specs.declared.request.Request.{Request}
use Rattle.t7_eti.specs.declared.request.Request.TheVariants as request
use Rattle.t7_eti.specs.declared.response.Kept.{Kept}
use Rattle.t7_eti.specs.declared.response.Response.{Response}
use Rattle.t7_eti.specs.declared.response.Response.TheVariants as response
use Rattle.t7_eti.specs.Requests.{request_number}
use Rattle.t7_book.specs.declared.command.Command.{Command}
use Rattle.t7_book.specs.Steps.{messages, steps}
use Rattle.t7_session.specs.declared.session.Step.{Step}
use Rattle.t7_session.specs.declared.session.Step.TheVariants as step
use Rattle.t7_session.specs.Heartbeats.{interval_of}
use Rattle.t7_session.specs.Asked.{asked_of}
use Rattle.t7_session.specs.Steps.{frame_step, has_number, is_logon, wanted_number}
use Rattle.t7_layout.specs.Layouts.{Layout}
use Rattle.t7_orders.specs.declared.response.Numbered.{Numbered}
use Rattle.t7_orders.specs.Answers.{answers_of, numbered, responses, stored}
use Rattle.t7_orders.specs.Judged.{judged}
use Rattle.t7_recover.specs.Ranges.{is_bad_range, range_of}
use Rattle.t7_entry.specs.State.{Core, Line, Setting, book_of, line_of, tells, with_line}
use Rattle.t7_entry.specs.Treatment.{accept, answer, close, counted, deliver, deliver_at, holder, log_on, ordered, refuse, send, send_again, send_range, serve, treat, treat_at, treat_step}
use Rattle.t7_dialog.specs.Asking.{IsOf}
use Rattle.t7_dialog.proofs.Moving.{Keeps, close_keeps, keeps_from, keeps_none, keeps_test, keeps_then, moves_line, send_keeps}

-- a request that is asked is of the client's session, where it comes on the client's connection
abbrev pub IsOfStep : ℕ → Step → Type 0
IsOfStep session step.NotYet = Unit {0}
IsOfStep session (step.Ask asked) = IsOf session asked
IsOfStep session (step.Refuse seq reason) = Unit {0}

module _ (setting : Setting) (conn session : ℕ) where
  pub refuse_keeps : (moment other : ℕ) (seq : Option ℕ) (reason : Reason) (core : Core) → Keeps conn session core (refuse moment other seq reason core)
  unfolding refuse
  refuse_keeps moment other seq reason core =
      keeps_then conn session core (send moment other (response.Reject seq reason) core) (close other) (send_keeps conn session moment other (response.Reject seq reason) core) (close_keeps conn session other)

  deliver_at_keeps : (moment : ℕ) (r : Response) (core : Core) (held : Option ℕ) → Keeps conn session core (deliver_at moment r core held)
  deliver_at_keeps moment r core (Some other) = send_keeps conn session moment other r core
  deliver_at_keeps moment r core None = keeps_none conn session core

  deliver_keeps : (moment : ℕ) (ns : List Numbered) (core : Core) → Keeps conn session core (deliver moment ns core)
  unfolding deliver
  deliver_keeps moment [] core = keeps_none conn session core
  deliver_keeps moment (n ∷ more) core =
      keeps_then conn session core (deliver_at moment (response.Kept n.number n.what) core (holder n.session core)) (deliver moment more)
      (deliver_at_keeps moment (response.Kept n.number n.what) core (holder n.session core)) (deliver_keeps moment more)

  pub accept_keeps : (moment : ℕ) (command : Command) (core : Core) → Keeps conn session core (accept setting moment command core)
  unfolding accept
  accept_keeps moment command core =
      let book = book_of setting core.accepted in
      let ns = numbered (stored setting.listing core.accepted) (answers_of book command) in
      keeps_then conn session core
      (record { core = record { accepted = core.accepted ++ command ∷ []; lines = core.lines }; doings = tells (messages (steps book command)) ∷ [] }) (deliver moment ns)
      (λ open_still. (λ own. own, λ none. none)) (deliver_keeps moment ns)

  ordered_keeps : (moment other : ℕ) (seq : Option ℕ) (core : Core) (result : Result Command Reason) → Keeps conn session core (ordered setting moment other seq core result)
  ordered_keeps moment other seq core (Ok command) = accept_keeps moment command core
  ordered_keeps moment other seq core (Err reason) = send_keeps conn session moment other (response.Reject seq reason) core

  again_keeps : (moment other number : ℕ) (items : List Kept) (core : Core) → Keeps conn session core (send_again moment other number items core)
  unfolding send_again
  again_keeps moment other number [] core = keeps_none conn session core
  again_keeps moment other number (what ∷ rest) core =
      keeps_then conn session core (send moment other (response.Kept number what) core) (send_again moment other (number + 1) rest)
      (send_keeps conn session moment other (response.Kept number what) core) (again_keeps moment other (number + 1) rest)

  range_keeps : (moment other seq after upto : ℕ) (list : List Kept) (core : Core) → Keeps conn session core (send_range moment other seq after upto list core)
  range_keeps moment other seq after upto list core =
      let range = range_of list after upto in
      let first = response.Resent seq (length range) (after + length range) (length list) in
      keeps_test conn session core (is_bad_range list after upto) _ _ (send_keeps conn session moment other (response.Reject (Some seq) BadRange) core)
      (keeps_then conn session core (send moment other first core) (send_again moment other (after + 1) range) (send_keeps conn session moment other first core) (again_keeps moment other (after + 1) range))

  log_on_keeps : (moment other : ℕ) (line : Line) (core : Core) (seq heart name : ℕ) → line_of core other ≡ Some line → (conn ≡ other → name ≡ session)
      → Keeps conn session core (log_on setting moment other line core seq heart name)
  log_on_keeps moment other line core seq heart name is own =
      let there : Line = record line { session = Some name; heart = interval_of heart } in
      let now : Line = counted there (request.Logon seq heart name) in
      keeps_test conn session core (not (list_any (λ s. s == name) setting.listing.sessions)) _ _ (refuse_keeps moment other (Some seq) UnknownSession core)
      (keeps_test conn session core (is_some (holder name core)) _ _ (refuse_keeps moment other (Some seq) SessionInUse core)
      (keeps_from conn session core (with_line core other now) (send moment other (response.Logon seq (interval_of heart)) (with_line core other now))
      (moves_line conn session core other line now is (λ here before. own here)) (send_keeps conn session moment other (response.Logon seq (interval_of heart)) (with_line core other now))))

  orders : (moment other name : ℕ) (core : Core) (asked : Request)
      → Keeps conn session core (ordered setting moment other (request_number asked) core (judged setting.listing (book_of setting core.accepted) name (length core.accepted) moment asked))
  orders moment other name core asked = ordered_keeps moment other (request_number asked) core (judged setting.listing (book_of setting core.accepted) name (length core.accepted) moment asked)

  serve_keeps : (moment other : ℕ) (core : Core) (asked : Request) (name : Option ℕ) → Keeps conn session core (serve setting moment other core asked name)
  serve_keeps moment other core asked None = keeps_none conn session core
  serve_keeps moment other core (request.Resend seq after upto) (Some name) = range_keeps moment other seq after upto (responses setting.listing core.accepted name) core
  serve_keeps moment other core (request.Logon seq heart which) (Some name) = orders moment other name core (request.Logon seq heart which)
  serve_keeps moment other core (request.Logout seq) (Some name) = orders moment other name core (request.Logout seq)
  serve_keeps moment other core request.Heartbeat (Some name) = orders moment other name core request.Heartbeat
  serve_keeps moment other core (request.New seq security side price qty client) (Some name) = orders moment other name core (request.New seq security side price qty client)
  serve_keeps moment other core (request.Modify seq order client price qty) (Some name) = orders moment other name core (request.Modify seq order client price qty)
  serve_keeps moment other core (request.Delete seq order client) (Some name) = orders moment other name core (request.Delete seq order client)
  serve_keeps moment other core (request.DeleteAll seq security) (Some name) = orders moment other name core (request.DeleteAll seq security)

  served : (moment other : ℕ) (line : Line) (core : Core) (asked : Request) → line_of core other ≡ Some line
      → Keeps conn session core (serve setting moment other (with_line core other (counted line asked)) asked line.session)
  served moment other line core asked is =
      keeps_from conn session core (with_line core other (counted line asked)) (serve setting moment other (with_line core other (counted line asked)) asked line.session) (moves_line conn session core other line (counted line asked) is (λ here own. own))
      (serve_keeps moment other (with_line core other (counted line asked)) asked line.session)

  answer_keeps : (moment other : ℕ) (line : Line) (core : Core) (asked : Request) → line_of core other ≡ Some line → (conn ≡ other → IsOf session asked)
      → Keeps conn session core (answer setting moment other line core asked)
  answer_keeps moment other line core (request.Logon seq heart name) is own = log_on_keeps moment other line core seq heart name is own
  answer_keeps moment other line core (request.Logout seq) is own =
      keeps_then conn session core (send moment other (response.Logout seq) core) (close other) (send_keeps conn session moment other (response.Logout seq) core) (close_keeps conn session other)
  answer_keeps moment other line core request.Heartbeat is own = keeps_none conn session core
  answer_keeps moment other line core (request.New seq security side price qty client) is own = served moment other line core (request.New seq security side price qty client) is
  answer_keeps moment other line core (request.Modify seq order client price qty) is own = served moment other line core (request.Modify seq order client price qty) is
  answer_keeps moment other line core (request.Delete seq order client) is own = served moment other line core (request.Delete seq order client) is
  answer_keeps moment other line core (request.DeleteAll seq security) is own = served moment other line core (request.DeleteAll seq security) is
  answer_keeps moment other line core (request.Resend seq after upto) is own = served moment other line core (request.Resend seq after upto) is

  step_keeps : (moment other : ℕ) (line : Line) (core : Core) (s : Step) → line_of core other ≡ Some line → (conn ≡ other → IsOfStep session s)
      → Keeps conn session core (treat_step setting moment other line core s)
  step_keeps moment other line core step.NotYet is own = keeps_none conn session core
  step_keeps moment other line core (step.Refuse seq reason) is own = refuse_keeps moment other seq reason core
  step_keeps moment other line core (step.Ask asked) is own = answer_keeps moment other line core asked is own

  treat_at_keeps : (moment other : ℕ) (frame : List ℕ) (core : Core) (line : Option Line) → line_of core other ≡ line
      → (conn ≡ other → (l : Line) → IsOfStep session (frame_step setting.layouts l.session l.next frame)) → Keeps conn session core (treat_at setting moment other frame core line)
  treat_at_keeps moment other frame core None is own = keeps_none conn session core
  treat_at_keeps moment other frame core (Some line) is own = step_keeps moment other line core (frame_step setting.layouts line.session line.next frame) is (λ here. own here line)

  pub treat_keeps : (moment other : ℕ) (frame : List ℕ) (core : Core)
      → (conn ≡ other → (l : Line) → IsOfStep session (frame_step setting.layouts l.session l.next frame)) → Keeps conn session core (treat setting moment other frame core)
  unfolding treat
  treat_keeps moment other frame core own = treat_at_keeps moment other frame core (line_of core other) refl own

-- a frame that is a request of the client
pub of_step : (layouts : List Layout) (session : ℕ) (held : Option ℕ) (next : ℕ) (frame : List ℕ) (asked : Request) → asked_of layouts frame ≡ Ok asked → IsOf session asked
    → IsOfStep session (frame_step layouts held next frame)
of_step layouts session held next frame asked is own =
    rw is
    (by (is_logon asked && is_some held) AlreadyLoggedOn _
    (by (not (is_logon asked) && not (is_some held)) NotLoggedOn _
    (by (not (has_number (wanted_number next asked) (request_number asked))) SeqNum (step.Ask asked) own)))
  where
    by : (b : Bool) (reason : Reason) (other : Step) → IsOfStep session other → IsOfStep session (cond b (step.Refuse (request_number asked) reason) other)
    by true reason other of = tt
    by false reason other of = of
