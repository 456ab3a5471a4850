-- The answers to a frame say how many responses are stored.
use Rattle.std.proofs.Common.{◌≡◌, ℕ, ◌+◌, Bool, true, false, cond, not, List, [], ◌∷◌, ◌++◌, length, Option, Some, None, is_some, Result, Ok, Err, refl, ap}
use Rattle.std.specs.List.{list_any}
use Rattle.std.specs.Prelude.{◌==◌}
use Rattle.t7_eti.specs.declared.reason.Reason.{Reason}
use Rattle.t7_eti.specs.declared.reason.Reason.TheVariants.{UnknownSession, SessionInUse, BadRange}
use Rattle.t7_eti.specs.declared.request.Request.{Request}
use Rattle.t7_eti.specs.declared.request.Request.TheVariants as request
use Rattle.t7_eti.specs.declared.response.Kept.{Kept}
use Rattle.t7_eti.specs.declared.response.Response.{Response}
use Rattle.t7_eti.specs.declared.response.Response.TheVariants as response
use Rattle.t7_eti.specs.Requests.{request_number}
use Rattle.t7_book.specs.declared.command.Command.{Command}
use Rattle.t7_session.specs.declared.session.Step.{Step}
use Rattle.t7_session.specs.declared.session.Step.TheVariants as step
use Rattle.t7_session.specs.Heartbeats.{interval_of}
use Rattle.t7_session.specs.Steps.{frame_step}
use Rattle.t7_orders.specs.declared.response.Numbered.{Numbered}
use Rattle.t7_orders.specs.Answers.{answers_of, numbered, responses, stored}
use Rattle.t7_orders.specs.Judged.{judged}
use Rattle.t7_recover.specs.Ranges.{is_bad_range, range_of}
use Rattle.t7_entry.specs.State.{Core, Doing, Line, Outcome, Setting, and_then, book_of, closes, line_of, replies, sends, with_line}
use Rattle.t7_entry.specs.Treatment.{accept, answer, close, counted, deliver, deliver_at, holder, log_on, ordered, refuse, send, send_again, send_at, send_range, serve, session_at, session_of, treat, treat_at, treat_step}
use Rattle.t7_dialog.specs.Knowing.{AllNameStored, AnswersNameWhatIsStored, NamesStored}

module _ (setting : Setting) (core0 : Core) where
  abbrev Names : List Doing → Type 0
  Names doings = AllNameStored setting.listing core0 doings

  both : (xs ys : List Doing) → Names xs → Names ys → Names (xs ++ ys)
  both [] ys one more = more
  both (x ∷ xs) ys one more = (one.0, both xs ys one.1 more)

  test : (b : Bool) (first other : Outcome) → Names first.doings → Names other.doings → Names (cond b first other).doings
  test true first other p q = p
  test false first other p q = q

  send_at_names : (moment other : ℕ) (r : Response) (core : Core) (line : Option Line) → NamesStored setting.listing core0 (replies (sends other r)) → Names (send_at moment other r core line).doings
  send_at_names moment other r core None names = tt
  send_at_names moment other r core (Some line) names = (names, tt)

  send_names : (moment other : ℕ) (r : Response) (core : Core) → NamesStored setting.listing core0 (replies (sends other r)) → Names (send moment other r core).doings
  unfolding send
  send_names moment other r core names = send_at_names moment other r core (line_of core other) names

  refuse_names : (moment other : ℕ) (seq : Option ℕ) (reason : Reason) (core : Core) → Names (refuse moment other seq reason core).doings
  unfolding refuse close
  refuse_names moment other seq reason core =
      both (send moment other (response.Reject seq reason) core).doings (replies (closes other) ∷ []) (send_names moment other (response.Reject seq reason) core tt) (tt, tt)

  deliver_at_names : (moment number : ℕ) (what : Kept) (core : Core) (held : Option ℕ) → Names (deliver_at moment (response.Kept number what) core held).doings
  deliver_at_names moment number what core (Some other) = send_names moment other (response.Kept number what) core tt
  deliver_at_names moment number what core None = tt

  deliver_names : (moment : ℕ) (ns : List Numbered) (core : Core) → Names (deliver moment ns core).doings
  unfolding deliver
  deliver_names moment [] core = tt
  deliver_names moment (n ∷ more) core =
      let first = deliver_at moment (response.Kept n.number n.what) core (holder n.session core) in
      both first.doings (deliver moment more first.core).doings (deliver_at_names moment n.number n.what core (holder n.session core)) (deliver_names moment more first.core)

  accept_names : (moment : ℕ) (command : Command) (core : Core) → Names (accept setting moment command core).doings
  unfolding accept
  accept_names moment command core = (
    tt,
    deliver_names moment (numbered (stored setting.listing core.accepted) (answers_of (book_of setting core.accepted) command))
        (record { accepted = core.accepted ++ command ∷ []; lines = core.lines }),
  )

  ordered_names : (moment other : ℕ) (seq : Option ℕ) (core : Core) (result : Result Command Reason) → Names (ordered setting moment other seq core result).doings
  ordered_names moment other seq core (Ok command) = accept_names moment command core
  ordered_names moment other seq core (Err reason) = send_names moment other (response.Reject seq reason) core tt

  again_names : (moment other number : ℕ) (items : List Kept) (core : Core) → Names (send_again moment other number items core).doings
  unfolding send_again
  again_names moment other number [] core = tt
  again_names moment other number (what ∷ rest) core =
      let first = send moment other (response.Kept number what) core in
      both first.doings (send_again moment other (number + 1) rest first.core).doings (send_names moment other (response.Kept number what) core tt) (again_names moment other (number + 1) rest first.core)

  range_names : (moment other name seq after upto : ℕ) (core : Core) → session_of core0 other ≡ Some name → core.accepted ≡ core0.accepted
      → Names (send_range moment other seq after upto (responses setting.listing core.accepted name) core).doings
  range_names moment other name seq after upto core holds same =
      let list = responses setting.listing core.accepted name in
      let range = range_of list after upto in
      let said = response.Resent seq (length range) (after + length range) (length list) in
      let first = send moment other said core in
      test (is_bad_range list after upto) (send moment other (response.Reject (Some seq) BadRange) core) (and_then first (send_again moment other (after + 1) range))
      (send_names moment other (response.Reject (Some seq) BadRange) core tt)
      (both first.doings (send_again moment other (after + 1) range first.core).doings
      (send_names moment other said core (name, holds, ap (λ (cs : List Command). length (responses setting.listing cs name)) same))
      (again_names moment other (after + 1) range first.core))

  orders_names : (moment other name : ℕ) (core : Core) (asked : Request)
      → Names (ordered setting moment other (request_number asked) core (judged setting.listing (book_of setting core.accepted) name (length core.accepted) moment asked)).doings
  orders_names moment other name core asked = ordered_names moment other (request_number asked) core (judged setting.listing (book_of setting core.accepted) name (length core.accepted) moment asked)

  serve_names : (moment other : ℕ) (core : Core) (asked : Request) (name : Option ℕ) → session_of core0 other ≡ name → core.accepted ≡ core0.accepted → Names (serve setting moment other core asked name).doings
  serve_names moment other core asked None holds same = tt
  serve_names moment other core (request.Resend seq after upto) (Some name) holds same = range_names moment other name seq after upto core holds same
  serve_names moment other core (request.Logon seq heart which) (Some name) holds same = orders_names moment other name core (request.Logon seq heart which)
  serve_names moment other core (request.Logout seq) (Some name) holds same = orders_names moment other name core (request.Logout seq)
  serve_names moment other core request.Heartbeat (Some name) holds same = orders_names moment other name core request.Heartbeat
  serve_names moment other core (request.New seq security side price qty client) (Some name) holds same = orders_names moment other name core (request.New seq security side price qty client)
  serve_names moment other core (request.Modify seq order client price qty) (Some name) holds same = orders_names moment other name core (request.Modify seq order client price qty)
  serve_names moment other core (request.Delete seq order client) (Some name) holds same = orders_names moment other name core (request.Delete seq order client)
  serve_names moment other core (request.DeleteAll seq security) (Some name) holds same = orders_names moment other name core (request.DeleteAll seq security)

  served_names : (moment other : ℕ) (line : Line) (asked : Request) → line_of core0 other ≡ Some line
      → Names (serve setting moment other (with_line core0 other (counted line asked)) asked line.session).doings
  served_names moment other line asked is = serve_names moment other (with_line core0 other (counted line asked)) asked line.session (ap session_at is) refl

  log_on_names : (moment other : ℕ) (line : Line) (seq heart name : ℕ) → Names (log_on setting moment other line core0 seq heart name).doings
  log_on_names moment other line seq heart name =
      let there : Line = record line { session = Some name; heart = interval_of heart } in
      let now = with_line core0 other (counted there (request.Logon seq heart name)) in
      test (not (list_any (λ s. s == name) setting.listing.sessions)) (refuse moment other (Some seq) UnknownSession core0) _ (refuse_names moment other (Some seq) UnknownSession core0)
      (test (is_some (holder name core0)) (refuse moment other (Some seq) SessionInUse core0) (send moment other (response.Logon seq (interval_of heart)) now)
      (refuse_names moment other (Some seq) SessionInUse core0) (send_names moment other (response.Logon seq (interval_of heart)) now tt))

  answer_names : (moment other : ℕ) (line : Line) (asked : Request) → line_of core0 other ≡ Some line → Names (answer setting moment other line core0 asked).doings
  unfolding close
  answer_names moment other line (request.Logon seq heart name) is = log_on_names moment other line seq heart name
  answer_names moment other line (request.Logout seq) is =
      both (send moment other (response.Logout seq) core0).doings (replies (closes other) ∷ []) (send_names moment other (response.Logout seq) core0 tt) (tt, tt)
  answer_names moment other line request.Heartbeat is = tt
  answer_names moment other line (request.New seq security side price qty client) is = served_names moment other line (request.New seq security side price qty client) is
  answer_names moment other line (request.Modify seq order client price qty) is = served_names moment other line (request.Modify seq order client price qty) is
  answer_names moment other line (request.Delete seq order client) is = served_names moment other line (request.Delete seq order client) is
  answer_names moment other line (request.DeleteAll seq security) is = served_names moment other line (request.DeleteAll seq security) is
  answer_names moment other line (request.Resend seq after upto) is = served_names moment other line (request.Resend seq after upto) is

  step_names : (moment other : ℕ) (line : Line) (s : Step) → line_of core0 other ≡ Some line → Names (treat_step setting moment other line core0 s).doings
  step_names moment other line step.NotYet is = tt
  step_names moment other line (step.Refuse seq reason) is = refuse_names moment other seq reason core0
  step_names moment other line (step.Ask asked) is = answer_names moment other line asked is

  treat_at_names : (moment other : ℕ) (frame : List ℕ) (line : Option Line) → line_of core0 other ≡ line → Names (treat_at setting moment other frame core0 line).doings
  treat_at_names moment other frame None is = tt
  treat_at_names moment other frame (Some line) is = step_names moment other line (frame_step setting.layouts line.session line.next frame) is

pub answers_name : AnswersNameWhatIsStored
unfolding treat
answers_name setting moment conn frame core = treat_at_names setting core moment conn frame (line_of core conn) refl
