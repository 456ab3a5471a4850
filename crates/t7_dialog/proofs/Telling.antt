-- What is done says responses on a connection in step with what is stored for its session.
use Rattle.std.proofs.Common.{◌≡◌, ℕ, ◌+◌, ◌≤◌, max, Bool, true, false, cond, not, nat_le, List, [], ◌∷◌, ◌++◌, length, map, Option, Some, None, is_some}
use Rattle.std.proofs.Common.{Result, Ok, Err, refl, sym, ap, ◌∙◌, subst, arith, append_assoc, length-append, eqb-true, eq-eqb}
use Rattle.std.proofs.lemmas.Bool.Decides.{nat_tests}
use Rattle.std.proofs.lemmas.List.{append-nil}
use Rattle.std.specs.List.{list_any}
use Rattle.std.specs.Ordering.{nat_cmp, eq_by_cmp}
use Rattle.std.specs.Prelude.{◌==◌}
use Rattle.t7_book.specs.declared.command.Command.{Command}
use Rattle.t7_book.specs.Orders.{empty_book, roster_of}
use Rattle.t7_book.specs.Steps.{messages, steps}
use Rattle.t7_eti.specs.declared.reason.Reason.{Reason}
use Rattle.t7_eti.specs.declared.reason.Reason.TheVariants.{BadRange, SessionInUse, UnknownSession}
use Rattle.t7_eti.specs.declared.request.Request.{Request}
use Rattle.t7_eti.specs.declared.request.Request.TheVariants as request
use Rattle.t7_eti.specs.declared.response.Kept.{Kept}
use Rattle.t7_eti.specs.declared.response.Response.{Response}
use Rattle.t7_eti.specs.declared.response.Response.TheVariants as response
use Rattle.t7_eti.specs.Requests.{request_number}
use Rattle.t7_orders.specs.Answers.{Stored, answers_of, numbered, of_session, responses, stored as stored_by}
use Rattle.t7_orders.specs.Judged.{judged}
use Rattle.t7_recover.specs.Ranges.{is_bad_range, range_of}
use Rattle.t7_recover.proofs.RangeFacts.{ranges_are_slices}
use Rattle.t7_session.specs.declared.session.Step.{Step}
use Rattle.t7_session.specs.declared.session.Step.TheVariants as step
use Rattle.t7_session.specs.Heartbeats.{interval_of}
use Rattle.t7_session.specs.Steps.{frame_step}
use Rattle.t7_entry.specs.ByNumber.{remove}
use Rattle.t7_entry.specs.State.{Core, Doing, Line, Outcome, Setting, and_then, book_of, closes, line_of, pure, replies, sends, tells, with_line}
use Rattle.t7_entry.specs.Treatment.{accept, answer, close, counted, deliver, deliver_at, holder, log_on, ordered, refuse, send, send_again, send_at, send_range, serve, session_at, session_of, treat, treat_at, treat_step}
use Rattle.t7_entry.proofs.EntryFacts.{accept-accepted, holder-holds, of_session-append, same_session_line, send-accepted, stored_from-append}
use Rattle.t7_entry.proofs.Numbers.{apart, get-insert, get-remove, tied}
use Rattle.t7_dialog.specs.Asking.{IsOf}
use Rattle.t7_dialog.specs.Reaching.{AreInStep, IsInStep, IsNumbered, Reached, answered, numbered_to, passed, reached_by, reached_with, unanswered}
use Rattle.t7_dialog.specs.Saying.{is_shut, said_on}
use Rattle.t7_dialog.specs.Serving.{IsFor, IsTold, Tells, stored_for}
use Rattle.t7_dialog.proofs.Holding.{holder_is, told_free, told_same, told_within, unheld}
use Rattle.t7_dialog.proofs.Moving.{eqb_not}
use Rattle.t7_dialog.proofs.Reaching.{reached_on, step_both}
use Rattle.t7_dialog.proofs.Saying.{shut_first, shut_later}
use Rattle.t7_dialog.proofs.Treating.{IsOfStep}

-- what is said by both, where the first don't close the connection, and where they do
pub said_both : (conn : ℕ) (xs ys : List Doing) → is_shut conn xs ≡ false → said_on conn (xs ++ ys) ≡ said_on conn xs ++ said_on conn ys
said_both conn [] ys open_still = refl
said_both conn (tells messages ∷ xs) ys open_still = said_both conn xs ys open_still
said_both conn (replies (sends other said) ∷ xs) ys open_still = by (conn == other) (said_both conn xs ys open_still)
  where
    by : (b : Bool) → said_on conn (xs ++ ys) ≡ said_on conn xs ++ said_on conn ys
        → cond b (said ∷ said_on conn (xs ++ ys)) (said_on conn (xs ++ ys)) ≡ cond b (said ∷ said_on conn xs) (said_on conn xs) ++ said_on conn ys
    by true is = ap (λ (l : List Response). said ∷ l) is
    by false is = is
said_both conn (replies (closes other) ∷ xs) ys open_still = by (conn == other) open_still (said_both conn xs ys)
  where
    by : (b : Bool) → cond b true (is_shut conn xs) ≡ false → (is_shut conn xs ≡ false → said_on conn (xs ++ ys) ≡ said_on conn xs ++ said_on conn ys)
        → cond b [] (said_on conn (xs ++ ys)) ≡ cond b [] (said_on conn xs) ++ said_on conn ys
    by true is go = absurd (cc)
    by false is go = go is

pub said_shut : (conn : ℕ) (xs ys : List Doing) → is_shut conn xs ≡ true → said_on conn (xs ++ ys) ≡ said_on conn xs
said_shut conn [] ys shut = absurd (cc)
said_shut conn (tells messages ∷ xs) ys shut = said_shut conn xs ys shut
said_shut conn (replies (sends other said) ∷ xs) ys shut =
    ap (λ (l : List Response). cond (conn == other) (said ∷ l) l) (said_shut conn xs ys shut)
said_shut conn (replies (closes other) ∷ xs) ys shut = by (conn == other) shut (said_shut conn xs ys)
  where
    by : (b : Bool) → cond b true (is_shut conn xs) ≡ true → (is_shut conn xs ≡ true → said_on conn (xs ++ ys) ≡ said_on conn xs)
        → cond b [] (said_on conn (xs ++ ys)) ≡ cond b [] (said_on conn xs)
    by true is go = refl
    by false is go = go is

-- a response that is neither recoverable nor an answer
abbrev IsQuiet : Response → Type 0
IsQuiet said = (reached : Reached) → IsInStep reached said × (reached_with reached said ≡ reached)

module _ (setting : Setting) (conn session : ℕ) where
  -- how many responses are stored
  abbrev kept : Core → ℕ
  kept core = stored_for setting session core

  abbrev TellsTo : ℕ → Reached → Outcome → Type 0
  TellsTo stored reached o = Tells conn session stored reached o.doings o.core

  abbrev Told : ℕ → Reached → Core → Type 0
  Told stored reached core = IsTold conn session stored reached core

  -- whatever has been told of, an outcome goes on with that
  abbrev Runs : ℕ → ℕ → Core → Outcome → Type 0
  Runs before after core o = (reached : Reached) → Told before reached core → TellsTo after reached o

  abbrev pub Goes : Core → Outcome → Type 0
  Goes core o = Runs (kept core) (kept o.core) core o

  tells_none : (stored : ℕ) (reached : Reached) (core : Core) → Told stored reached core → TellsTo stored reached (pure core)
  tells_none stored reached core told = record { step = tt; told = λ _. told }

  pub none_goes : (core : Core) → Goes core (pure core)
  none_goes core reached told = tells_none (kept core) reached core told

  -- one outcome behind another
  pub tells_then : (between after : ℕ) (first : Outcome) (next : Core → Outcome) (reached : Reached) → TellsTo between reached first
      → (is_shut conn first.doings ≡ false → Told between (reached_by reached (said_on conn first.doings)) first.core → TellsTo after (reached_by reached (said_on conn first.doings)) (next first.core))
      → TellsTo after reached (and_then first next)
  tells_then between after first next reached one more = by (is_shut conn first.doings) refl
    where
      later : Outcome
      later = next first.core

      by : (b : Bool) → is_shut conn first.doings ≡ b → TellsTo after reached (and_then first next)
      by true shut = record {
        step = subst (AreInStep reached) (sym (said_shut conn first.doings later.doings shut)) one.step;
        told = λ open_still. absurd (let no : true ≡ false = sym shut ∙ shut_first conn first.doings later.doings open_still in cc no);
      }
      by false open_first =
          let both = said_both conn first.doings later.doings open_first in
          let two = more open_first (one.told open_first) in
          record {
            step = subst (AreInStep reached) (sym both) (step_both reached (said_on conn first.doings) (said_on conn later.doings) one.step two.step);
            told = λ open_still. subst (λ (r : Reached). Told after r later.core)
                (sym (reached_on reached (said_on conn first.doings) (said_on conn later.doings)) ∙ ap (reached_by reached) (sym both))
                (two.told (shut_later conn first.doings later.doings open_still));
          }

  pub goes_on : (core : Core) (first : Outcome) (next : Core → Outcome) → Goes core first → (is_shut conn first.doings ≡ false → Goes first.core (next first.core)) → Goes core (and_then first next)
  goes_on core first next one more reached told =
      tells_then (kept first.core) (kept (next first.core).core) first next reached (one reached told)
      (λ open_still now. more open_still (reached_by reached (said_on conn first.doings)) now)

  goes_test : (core : Core) (b : Bool) (first other : Outcome) → (b ≡ true → Goes core first) → (b ≡ false → Goes core other) → Goes core (cond b first other)
  goes_test core true first other p q = p refl
  goes_test core false first other p q = q refl

  -- a response that goes out
  sends_on : (after moment other : ℕ) (said : Response) (core : Core) (line : Line) (reached : Reached) → line_of core other ≡ Some line
      → (conn ≡ other → IsInStep reached said × Told after (reached_with reached said) core) → ((conn ≡ other → ⊥) → Told after reached core)
      → TellsTo after reached (send_at moment other said core (Some line))
  sends_on after moment other said core line reached is here apart_is = record { step = step_by (conn == other) refl; told = λ _. told_by (conn == other) refl }
    where
      now : Line
      now = record line { sent = max line.sent moment }

      same : (d : ℕ) → session_of (with_line core other now) d ≡ session_of core d
      same d = same_session_line core other d line now is refl

      step_by : (b : Bool) → (conn == other) ≡ b → AreInStep reached (cond b (said ∷ []) [])
      step_by true e = ((here (eqb-true conn other e)).0, tt)
      step_by false e = tt

      told_by : (b : Bool) → (conn == other) ≡ b → Told after (reached_by reached (cond b (said ∷ []) [])) (with_line core other now)
      told_by true e = told_same conn session after (reached_with reached said) core (with_line core other now) same (here (eqb-true conn other e)).1
      told_by false e = told_same conn session after reached core (with_line core other now) same (apart_is (eqb_not conn other e))

  quiet_at : (stored moment other : ℕ) (said : Response) (core : Core) (line : Option Line) → line_of core other ≡ line → IsQuiet said → Runs stored stored core (send_at moment other said core line)
  quiet_at stored moment other said core None is quiet reached told = tells_none stored reached core told
  quiet_at stored moment other said core (Some line) is quiet reached told =
      sends_on stored moment other said core line reached is
      (λ _. ((quiet reached).0, subst (λ (r : Reached). Told stored r core) (sym (quiet reached).1) told)) (λ _. told)

  pub quiet_goes : (moment other : ℕ) (said : Response) (core : Core) → IsQuiet said → Goes core (send moment other said core)
  unfolding send
  quiet_goes moment other said core quiet = by (line_of core other) refl
    where
      by : (line : Option Line) → line_of core other ≡ line → Goes core (send_at moment other said core line)
      by None is = none_goes core
      by (Some line) is = quiet_at (kept core) moment other said core (Some line) is quiet

  -- a connection that is closed
  pub close_goes : (other : ℕ) (core : Core) → Goes core (close other core)
  unfolding close
  close_goes other core reached told = record { step = step_by (conn == other); told = told_by (conn == other) refl }
    where
      left : Core
      left = record { accepted = core.accepted; lines = remove core.lines other }

      within : (d : ℕ) → session_of left d ≡ Some session → session_of core d ≡ Some session
      within d there = by (eq_by_cmp nat_cmp d other) (sym (ap session_at (get-remove core.lines other d)) ∙ there)
        where
          by : (b : Bool) → session_at (cond b None (line_of core d)) ≡ Some session → session_of core d ≡ Some session
          by true e = absurd (let no : None ≡ Some session = e in cc)
          by false e = e

      step_by : (b : Bool) → AreInStep reached (cond b [] [])
      step_by true = tt
      step_by false = tt

      told_by : (b : Bool) → (conn == other) ≡ b → cond b true false ≡ false → Told (kept core) (reached_by reached (cond b [] [])) left
      told_by true e open_still = absurd (cc)
      told_by false e open_still =
          let same : line_of left conn ≡ line_of core conn =
          get-remove core.lines other conn ∙ ap (λ (x : Bool). cond x None (line_of core conn)) (apart conn other (eqb_not conn other e)) in
          told_within conn session (kept core) reached core left (ap session_at same) within told

  pub refuse_goes : (moment other : ℕ) (seq : Option ℕ) (reason : Reason) (core : Core) → Goes core (refuse moment other seq reason core)
  unfolding refuse
  refuse_goes moment other seq reason core =
      let first = send moment other (response.Reject seq reason) core in
      goes_on core first (close other) (quiet_goes moment other (response.Reject seq reason) core (λ r. (tt, refl))) (λ _. close_goes other first.core)

  -- a recoverable response that goes out when it is stored: the next one of its session
  next_told : (stored : ℕ) (reached : Reached) (core : Core) → Told stored reached core → IsNumbered reached (stored + 1) × Told (stored + 1) (numbered_to reached (stored + 1)) core
  next_told stored unanswered core told = (tt, record { sole = told.sole; all = λ count is. absurd (let no : None ≡ Some count = is in cc) })
  next_told stored (answered known) core told =
      let before = told.all known refl in
      let same : known ≡ stored = before.1 in
      let test : nat_le (stored + 1) known ≡ false = grind (arith, nat_tests) in (
        omega (arith, same),
        subst (λ (b : Bool). Told (stored + 1) (cond b (answered known) (passed (stored + 1))) core) (sym test)
            (record { sole = told.sole; all = λ count is. let one : stored + 1 ≡ count = cc is in (before.0, sym one) }),
      )
  next_told stored (passed last) core told =
      let before = told.all last refl in
      let same : last ≡ stored = before.1 in
      (omega (arith, same), record { sole = told.sole; all = λ count is. let one : stored + 1 ≡ count = cc is in (before.0, sym one) })

  -- one of another session, on a connection that doesn't hold this one
  other_told : (stored number : ℕ) (reached : Reached) (core : Core) → (session_of core conn ≡ Some session → ⊥) → Told stored reached core
      → IsNumbered reached number × Told stored (numbered_to reached number) core
  other_told stored number unanswered core free told = (tt, told)
  other_told stored number (answered known) core free told = absurd (free (told.all known refl).0)
  other_told stored number (passed last) core free told = absurd (free (told.all last refl).0)

  not_same : (core : Core) (other : ℕ) → session_of core conn ≡ Some other → (other ≡ session → ⊥) → session_of core conn ≡ Some session → ⊥
  not_same core other there apart_is here = let both : Some other ≡ Some session = sym there ∙ here in let same : other ≡ session = cc both in apart_is same

  own_at : (stored moment : ℕ) (what : Kept) (core : Core) (other : ℕ) (line : Option Line) → line_of core other ≡ line → holder session core ≡ Some other
      → Runs stored (stored + 1) core (send_at moment other (response.Kept (stored + 1) what) core line)
  own_at stored moment what core other None is held reached told =
      absurd (let no : None ≡ Some session = sym (ap session_at is) ∙ holder-holds session core other held in cc no)
  own_at stored moment what core other (Some line) is held reached told =
      sends_on (stored + 1) moment other (response.Kept (stored + 1) what) core line reached is (λ _. next_told stored reached core told)
      (λ apart_is. told_free conn session (stored + 1) stored reached core
      (λ here. let found : Some other ≡ Some conn = holder_is conn session stored reached core (Some other) held here told in let same : other ≡ conn = cc found in apart_is (sym same)) told)

  own_delivers : (stored moment : ℕ) (what : Kept) (core : Core) (held : Option ℕ) → holder session core ≡ held
      → Runs stored (stored + 1) core (deliver_at moment (response.Kept (stored + 1) what) core held)
  unfolding send
  own_delivers stored moment what core None is =
      λ reached told. tells_none (stored + 1) reached core (told_free conn session (stored + 1) stored reached core (unheld session core is conn) told)
  own_delivers stored moment what core (Some other) is = own_at stored moment what core other (line_of core other) refl is

  other_at : (stored moment name number : ℕ) (what : Kept) (core : Core) (other : ℕ) (line : Option Line) → (name ≡ session → ⊥) → line_of core other ≡ line → holder name core ≡ Some other
      → Runs stored stored core (send_at moment other (response.Kept number what) core line)
  other_at stored moment name number what core other None apart_is is held reached told = tells_none stored reached core told
  other_at stored moment name number what core other (Some line) apart_is is held reached told =
      sends_on stored moment other (response.Kept number what) core line reached is
      (λ here. other_told stored number reached core (not_same core name (ap (session_of core) here ∙ holder-holds name core other held) apart_is) told) (λ _. told)

  other_delivers : (stored moment name number : ℕ) (what : Kept) (core : Core) (held : Option ℕ) → (name ≡ session → ⊥) → holder name core ≡ held
      → Runs stored stored core (deliver_at moment (response.Kept number what) core held)
  unfolding send
  other_delivers stored moment name number what core None apart_is is = λ reached told. tells_none stored reached core told
  other_delivers stored moment name number what core (Some other) apart_is is = other_at stored moment name number what core other (line_of core other) apart_is refl is

  -- how many of these are the session's
  abbrev many : List Stored → ℕ
  many entries = length (of_session session entries)

  many_more : (before : List Stored) (e : Stored) (b : Bool) → (e.0 == session) ≡ b → many (before ++ e ∷ []) ≡ many before + cond b 1 0
  many_more before e b is =
      ap length (of_session-append session before (e ∷ [])) ∙ length-append (of_session session before) (of_session session (e ∷ []))
      ∙ ap (λ (l : List Stored). many before + length (map (λ (x : Stored). x.1) l)) (ap (λ (t : Bool). cond t (e ∷ []) []) is) ∙ by_test b
    where
      by_test : (t : Bool) → many before + length (map (λ (x : Stored). x.1) (cond t (e ∷ []) [])) ≡ many before + cond t 1 0
      by_test true = refl
      by_test false = refl

  one_delivers : (moment : ℕ) (before : List Stored) (e : Stored) (core : Core) → let number = length (of_session e.0 before) + 1 in
      Runs (many before) (many (before ++ e ∷ [])) core (deliver_at moment (response.Kept number e.1) core (holder e.0 core))
  one_delivers moment before e core = by (e.0 == session) refl
    where
      out : ℕ → Outcome
      out name = deliver_at moment (response.Kept (length (of_session name before) + 1) e.1) core (holder name core)

      none_more : many before + 0 ≡ many before
      none_more = omega arith

      by : (b : Bool) → (e.0 == session) ≡ b → Runs (many before) (many (before ++ e ∷ [])) core (out e.0)
      by true is =
          subst (λ (name : ℕ). Runs (many before) (many (before ++ e ∷ [])) core (out name)) (sym (eqb-true e.0 session is))
          (subst (λ (n : ℕ). Runs (many before) n core (out session)) (sym (many_more before e true is)) (own_delivers (many before) moment e.1 core (holder session core) refl))
      by false is =
          subst (λ (n : ℕ). Runs (many before) n core (out e.0)) (sym (many_more before e false is ∙ none_more))
          (other_delivers (many before) moment e.0 (length (of_session e.0 before) + 1) e.1 core (holder e.0 core) (eqb_not e.0 session is) refl)

  deliver_runs : (moment : ℕ) (before entries : List Stored) (core : Core) → Runs (many before) (many (before ++ entries)) core (deliver moment (numbered before entries) core)
  unfolding deliver
  deliver_runs moment before [] core =
      subst (λ (l : List Stored). Runs (many before) (many l) core (pure core)) (sym (append-nil before)) (λ reached told. tells_none (many before) reached core told)
  deliver_runs moment before (e ∷ entries) core = λ reached told.
      let first = deliver_at moment (response.Kept (length (of_session e.0 before) + 1) e.1) core (holder e.0 core) in
      let next = deliver moment (numbered (before ++ e ∷ []) entries) in
      subst (λ (l : List Stored). TellsTo (many l) reached (and_then first next)) (append_assoc before (e ∷ []) entries)
      (tells_then (many (before ++ e ∷ [])) (many ((before ++ e ∷ []) ++ entries)) first next reached (one_delivers moment before e core reached told)
      (λ open_still now. deliver_runs moment (before ++ e ∷ []) entries first.core (reached_by reached (said_on conn first.doings)) now))

  -- a command that is accepted
  stored_more : (core : Core) (command : Command) → stored_by setting.listing core.accepted ++ answers_of (book_of setting core.accepted) command ≡ stored_by setting.listing (core.accepted ++ command ∷ [])
  stored_more core command =
      let answers = answers_of (book_of setting core.accepted) command in
      ap (λ (l : List Stored). stored_by setting.listing core.accepted ++ l) (sym (append-nil answers))
      ∙ sym (stored_from-append (empty_book (roster_of setting.listing)) core.accepted (command ∷ []))

  accept_runs : (moment : ℕ) (command : Command) (core : Core) → Runs (kept core) (length (responses setting.listing (core.accepted ++ command ∷ []) session)) core (accept setting moment command core)
  unfolding accept
  accept_runs moment command core reached told =
      let book = book_of setting core.accepted in
      let before = stored_by setting.listing core.accepted in
      let grown : Core = record { accepted = core.accepted ++ command ∷ []; lines = core.lines } in
      let first : Outcome = record { core = grown; doings = tells (messages (steps book command)) ∷ [] } in
      let next = deliver moment (numbered before (answers_of book command)) in
      subst (λ (l : List Stored). TellsTo (many l) reached (and_then first next)) (stored_more core command)
      (tells_then (kept core) (many (before ++ answers_of book command)) first next reached
      (record { step = tt; told = λ _. told_same conn session (kept core) reached core grown (λ d. refl) told })
      (λ open_still now. deliver_runs moment before (answers_of book command) grown reached now))

  pub accept_goes : (moment : ℕ) (command : Command) (core : Core) → Goes core (accept setting moment command core)
  accept_goes moment command core =
      subst (λ (cs : List Command). Runs (kept core) (length (responses setting.listing cs session)) core (accept setting moment command core)) (sym (accept-accepted setting moment command core))
      (accept_runs moment command core)

  ordered_goes : (moment other : ℕ) (seq : Option ℕ) (core : Core) (result : Result Command Reason) → Goes core (ordered setting moment other seq core result)
  ordered_goes moment other seq core (Ok command) = accept_goes moment command core
  ordered_goes moment other seq core (Err reason) = quiet_goes moment other (response.Reject seq reason) core (λ r. (tt, refl))

  -- what is sent again, behind an answer
  again_told : (stored number : ℕ) (reached : Reached) (core : Core) → number ≤ stored → reached ≡ answered stored → Told stored reached core
      → IsNumbered reached number × Told stored (numbered_to reached number) core
  again_told stored number reached core low is told =
      let test : nat_le number stored ≡ true = grind (arith, nat_tests) in
      subst (λ (r : Reached). Told stored r core → IsNumbered r number × Told stored (numbered_to r number) core) (sym is)
      (λ now. (omega (arith, low), subst (λ (b : Bool). Told stored (cond b (answered stored) (passed number)) core) (sym test) now)) told

  again_reached : (stored number moment other : ℕ) (what : Kept) (core : Core) (reached : Reached) (line : Option Line) → number ≤ stored → conn ≡ other → reached ≡ answered stored
      → reached_by reached (said_on conn (send_at moment other (response.Kept number what) core line).doings) ≡ answered stored
  again_reached stored number moment other what core reached None low here is = is
  again_reached stored number moment other what core reached (Some line) low here is =
      let test : nat_le number stored ≡ true = grind (arith, nat_tests) in
      ap (λ (b : Bool). reached_by reached (cond b (response.Kept number what ∷ []) [])) (eq-eqb conn other here)
      ∙ ap (λ (r : Reached). numbered_to r number) is
      ∙ ap (λ (b : Bool). let r : Reached = cond b (answered stored) (passed number) in r) test

  again_at : (stored number moment other : ℕ) (what : Kept) (core : Core) (reached : Reached) (line : Option Line) → line_of core other ≡ line
      → (conn ≡ other → number ≤ stored) → (conn ≡ other → reached ≡ answered stored) → Told stored reached core → TellsTo stored reached (send_at moment other (response.Kept number what) core line)
  again_at stored number moment other what core reached None is low here told = tells_none stored reached core told
  again_at stored number moment other what core reached (Some line) is low here told =
      sends_on stored moment other (response.Kept number what) core line reached is (λ same. again_told stored number reached core (low same) (here same) told) (λ _. told)

  again_tells : (stored moment other number : ℕ) (items : List Kept) (core : Core) (reached : Reached) → (conn ≡ other → number + length items ≤ stored + 1)
      → (conn ≡ other → reached ≡ answered stored) → Told stored reached core → TellsTo stored reached (send_again moment other number items core)
  unfolding send_again send
  again_tells stored moment other number [] core reached room here told = tells_none stored reached core told
  again_tells stored moment other number (what ∷ items) core reached room here told =
      let first = send_at moment other (response.Kept number what) core (line_of core other) in
      let low : conn ≡ other → number ≤ stored = λ same. let fits = room same in omega (arith, fits) in
      tells_then stored stored first (send_again moment other (number + 1) items) reached
      (again_at stored number moment other what core reached (line_of core other) refl low here told)
      (λ open_still now. again_tells stored moment other (number + 1) items first.core (reached_by reached (said_on conn first.doings))
      (λ same. let fits = room same in omega (arith, fits))
      (λ same. again_reached stored number moment other what core reached (line_of core other) (low same) same (here same)) now)

  again_accepted : (moment other number : ℕ) (items : List Kept) (core : Core) → (send_again moment other number items core).core.accepted ≡ core.accepted
  unfolding send_again
  again_accepted moment other number [] core = refl
  again_accepted moment other number (what ∷ items) core =
      again_accepted moment other (number + 1) items (send moment other (response.Kept number what) core).core ∙ send-accepted moment other (response.Kept number what) core

  -- an answer says how many are stored
  answer_at : (moment other seq count last known : ℕ) (core : Core) (line : Option Line) (reached : Reached) → line_of core other ≡ line
      → (conn ≡ other → (session_of core conn ≡ Some session) × (known ≡ kept core)) → Told (kept core) reached core
      → TellsTo (kept core) reached (send_at moment other (response.Resent seq count last known) core line)
  answer_at moment other seq count last known core None reached is names told = tells_none (kept core) reached core told
  answer_at moment other seq count last known core (Some line) reached is names told =
      sends_on (kept core) moment other (response.Resent seq count last known) core line reached is
      (λ here. let stored_is = names here in
      (tt, record { sole = told.sole; all = λ n all_is. let one : known ≡ n = cc all_is in (stored_is.0, sym one ∙ stored_is.1) }))
      (λ _. told)

  answer_reached : (moment other seq count last known name : ℕ) (core : Core) (line : Option Line) (reached : Reached) → session_at line ≡ Some name → conn ≡ other
      → reached_by reached (said_on conn (send_at moment other (response.Resent seq count last known) core line).doings) ≡ answered known
  answer_reached moment other seq count last known name core None reached holds here = absurd (let no : None ≡ Some name = holds in cc)
  answer_reached moment other seq count last known name core (Some line) reached holds here =
      ap (λ (b : Bool). reached_by reached (cond b (response.Resent seq count last known ∷ []) [])) (eq-eqb conn other here)

  -- a range is within its list
  range_fits : (list : List Kept) (after upto : ℕ) → is_bad_range list after upto ≡ false → after + length (range_of list after upto) ≤ length list
  range_fits list after upto fine =
      let count = (ranges_are_slices list after upto).count in
      let within : after ≤ length list = grind (arith, nat_tests) in
      omega (arith, count, within)

  range_runs : (moment other seq after upto name : ℕ) (core : Core) → session_of core other ≡ Some name → (conn ≡ other → name ≡ session) → is_bad_range (responses setting.listing core.accepted name) after upto ≡ false
      → let list = responses setting.listing core.accepted name in let range = range_of list after upto in
      Runs (kept core) (kept core) core (and_then (send moment other (response.Resent seq (length range) (after + length range) (length list)) core) (send_again moment other (after + 1) range))
  unfolding send
  range_runs moment other seq after upto name core holds own fine reached told =
      let list = responses setting.listing core.accepted name in
      let range = range_of list after upto in
      let count = length range in
      let known = length list in
      let first = send_at moment other (response.Resent seq count (after + count) known) core (line_of core other) in
      let fits = range_fits list after upto fine in
      let all : conn ≡ other → known ≡ kept core = λ here. ap (λ (n : ℕ). length (responses setting.listing core.accepted n)) (own here) in
      let names : conn ≡ other → (session_of core conn ≡ Some session) × (known ≡ kept core) = λ here. (ap (session_of core) here ∙ holds ∙ ap Some (own here), all here) in
      tells_then (kept core) (kept core) first (send_again moment other (after + 1) range) reached
      (answer_at moment other seq count (after + count) known core (line_of core other) reached refl names told)
      (λ open_still now. again_tells (kept core) moment other (after + 1) range first.core (reached_by reached (said_on conn first.doings))
      (λ here. let same = all here in omega (arith, fits, same))
      (λ here. answer_reached moment other seq count (after + count) known name core (line_of core other) reached holds here ∙ ap answered (all here)) now)

  range_goes : (moment other seq after upto name : ℕ) (core : Core) → session_of core other ≡ Some name → (conn ≡ other → name ≡ session)
      → Goes core (send_range moment other seq after upto (responses setting.listing core.accepted name) core)
  range_goes moment other seq after upto name core holds own =
      let list = responses setting.listing core.accepted name in
      let range = range_of list after upto in
      let said = response.Resent seq (length range) (after + length range) (length list) in
      let first = send moment other said core in
      let both = and_then first (send_again moment other (after + 1) range) in
      goes_test core (is_bad_range list after upto) (send moment other (response.Reject (Some seq) BadRange) core) both
      (λ _. quiet_goes moment other (response.Reject (Some seq) BadRange) core (λ r. (tt, refl)))
      (λ fine. subst (λ (cs : List Command). Runs (kept core) (length (responses setting.listing cs session)) core both)
      (sym (again_accepted moment other (after + 1) range first.core ∙ send-accepted moment other said core))
      (range_runs moment other seq after upto name core holds own fine))

  -- a request of a session
  orders_goes : (moment other name : ℕ) (core : Core) (asked : Request)
      → Goes core (ordered setting moment other (request_number asked) core (judged setting.listing (book_of setting core.accepted) name (length core.accepted) moment asked))
  orders_goes moment other name core asked = ordered_goes moment other (request_number asked) core (judged setting.listing (book_of setting core.accepted) name (length core.accepted) moment asked)

  serve_goes : (moment other : ℕ) (core : Core) (asked : Request) (name : Option ℕ) → session_of core other ≡ name → (conn ≡ other → IsFor session name) → Goes core (serve setting moment other core asked name)
  serve_goes moment other core asked None holds own = none_goes core
  serve_goes moment other core (request.Resend seq after upto) (Some name) holds own = range_goes moment other seq after upto name core holds own
  serve_goes moment other core (request.Logon seq heart which) (Some name) holds own = orders_goes moment other name core (request.Logon seq heart which)
  serve_goes moment other core (request.Logout seq) (Some name) holds own = orders_goes moment other name core (request.Logout seq)
  serve_goes moment other core request.Heartbeat (Some name) holds own = orders_goes moment other name core request.Heartbeat
  serve_goes moment other core (request.New seq security side price qty client) (Some name) holds own = orders_goes moment other name core (request.New seq security side price qty client)
  serve_goes moment other core (request.Modify seq order client price qty) (Some name) holds own = orders_goes moment other name core (request.Modify seq order client price qty)
  serve_goes moment other core (request.Delete seq order client) (Some name) holds own = orders_goes moment other name core (request.Delete seq order client)
  serve_goes moment other core (request.DeleteAll seq security) (Some name) holds own = orders_goes moment other name core (request.DeleteAll seq security)

  -- from a core in which as much has been told of
  goes_from : (a b : Core) (o : Outcome) → b.accepted ≡ a.accepted → ((reached : Reached) → Told (kept a) reached a → Told (kept a) reached b) → Goes b o → Goes a o
  goes_from a b o same moves goes reached told =
      goes reached (subst (λ (cs : List Command). Told (length (responses setting.listing cs session)) reached b) (sym same) (moves reached told))

  served_goes : (moment other : ℕ) (line : Line) (core : Core) (asked : Request) → line_of core other ≡ Some line → (conn ≡ other → IsFor session line.session)
      → Goes core (serve setting moment other (with_line core other (counted line asked)) asked line.session)
  served_goes moment other line core asked is own =
      let now = with_line core other (counted line asked) in
      let same : (d : ℕ) → session_of now d ≡ session_of core d = λ d. same_session_line core other d line (counted line asked) is refl in
      goes_from core now (serve setting moment other now asked line.session) refl (λ reached told. told_same conn session (kept core) reached core now same told)
      (serve_goes moment other now asked line.session (same other ∙ ap session_at is) own)

  -- a session that is logged on, where no connection holds it
  log_on_told : (other name : ℕ) (now : Line) (core : Core) (reached : Reached) → now.session ≡ Some name → holder name core ≡ None → (conn ≡ other → name ≡ session)
      → Told (kept core) reached core → Told (kept core) reached (with_line core other now)
  log_on_told other name now core reached named free own told = record {
    sole = λ here d there. sole_by (eq_by_cmp nat_cmp conn other) refl here d there;
    all = λ count is. all_by (eq_by_cmp nat_cmp conn other) refl count (told.all count is);
  }
    where
      new : Core
      new = with_line core other now

      at : (d : ℕ) (b : Bool) → eq_by_cmp nat_cmp d other ≡ b → session_of new d ≡ session_at (cond b (Some now) (line_of core d))
      at d b e = ap session_at (get-insert core.lines other now d) ∙ ap (λ (x : Bool). session_at (cond x (Some now) (line_of core d))) e

      none_holds : name ≡ session → (d : ℕ) → session_of core d ≡ Some session → ⊥
      none_holds same d there = unheld name core free d (there ∙ ap Some (sym same))

      sole_by : (b : Bool) → eq_by_cmp nat_cmp conn other ≡ b → session_of new conn ≡ Some session → (d : ℕ) → session_of new d ≡ Some session → d ≡ conn
      sole_by true e here d there = by (eq_by_cmp nat_cmp d other) refl
        where
          by : (b : Bool) → eq_by_cmp nat_cmp d other ≡ b → d ≡ conn
          by true same = tied d other same ∙ sym (tied conn other e)
          by false apart_is = absurd (none_holds (own (tied conn other e)) d (sym (at d false apart_is) ∙ there))
      sole_by false e here d there = by (eq_by_cmp nat_cmp d other) refl
        where
          before : session_of core conn ≡ Some session
          before = sym (at conn false e) ∙ here

          by : (b : Bool) → eq_by_cmp nat_cmp d other ≡ b → d ≡ conn
          by true same =
              let both : Some name ≡ Some session = sym named ∙ sym (at d true same) ∙ there in
              let one : name ≡ session = cc both in
              absurd (none_holds one conn before)
          by false apart_is = told.sole before d (sym (at d false apart_is) ∙ there)

      all_by : (b : Bool) → eq_by_cmp nat_cmp conn other ≡ b → (count : ℕ) → (session_of core conn ≡ Some session) × (count ≡ kept core) → (session_of new conn ≡ Some session) × (count ≡ kept core)
      all_by true e count before = absurd (none_holds (own (tied conn other e)) conn before.0)
      all_by false e count before = (at conn false e ∙ before.0, before.1)

  no_holder : (held : Option ℕ) → is_some held ≡ false → held ≡ None
  no_holder None is = refl
  no_holder (Some c) is = absurd (cc)

  log_on_goes : (moment other : ℕ) (line : Line) (core : Core) (seq heart name : ℕ) → (conn ≡ other → name ≡ session) → Goes core (log_on setting moment other line core seq heart name)
  log_on_goes moment other line core seq heart name own =
      let there : Line = record line { session = Some name; heart = interval_of heart } in
      let now : Line = counted there (request.Logon seq heart name) in
      let new = with_line core other now in
      let last = send moment other (response.Logon seq (interval_of heart)) new in
      goes_test core (not (list_any (λ s. s == name) setting.listing.sessions)) (refuse moment other (Some seq) UnknownSession core) _ (λ _. refuse_goes moment other (Some seq) UnknownSession core)
      (λ _. goes_test core (is_some (holder name core)) (refuse moment other (Some seq) SessionInUse core) last (λ _. refuse_goes moment other (Some seq) SessionInUse core)
      (λ free. goes_from core new last refl (λ reached told. log_on_told other name now core reached refl (no_holder (holder name core) free) own told)
      (quiet_goes moment other (response.Logon seq (interval_of heart)) new (λ r. (tt, refl)))))

  answer_goes : (moment other : ℕ) (line : Line) (core : Core) (asked : Request) → line_of core other ≡ Some line → (conn ≡ other → IsOf session asked) → (conn ≡ other → IsFor session line.session)
      → Goes core (answer setting moment other line core asked)
  answer_goes moment other line core (request.Logon seq heart name) is asks own = log_on_goes moment other line core seq heart name asks
  answer_goes moment other line core (request.Logout seq) is asks own =
      let first = send moment other (response.Logout seq) core in
      goes_on core first (close other) (quiet_goes moment other (response.Logout seq) core (λ r. (tt, refl))) (λ _. close_goes other first.core)
  answer_goes moment other line core request.Heartbeat is asks own = none_goes core
  answer_goes moment other line core (request.New seq security side price qty client) is asks own = served_goes moment other line core (request.New seq security side price qty client) is own
  answer_goes moment other line core (request.Modify seq order client price qty) is asks own = served_goes moment other line core (request.Modify seq order client price qty) is own
  answer_goes moment other line core (request.Delete seq order client) is asks own = served_goes moment other line core (request.Delete seq order client) is own
  answer_goes moment other line core (request.DeleteAll seq security) is asks own = served_goes moment other line core (request.DeleteAll seq security) is own
  answer_goes moment other line core (request.Resend seq after upto) is asks own = served_goes moment other line core (request.Resend seq after upto) is own

  step_goes : (moment other : ℕ) (line : Line) (core : Core) (s : Step) → line_of core other ≡ Some line → (conn ≡ other → IsOfStep session s) → (conn ≡ other → IsFor session line.session)
      → Goes core (treat_step setting moment other line core s)
  step_goes moment other line core step.NotYet is asks own = none_goes core
  step_goes moment other line core (step.Refuse seq reason) is asks own = refuse_goes moment other seq reason core
  step_goes moment other line core (step.Ask asked) is asks own = answer_goes moment other line core asked is asks own

  treat_at_goes : (moment other : ℕ) (frame : List ℕ) (core : Core) (line : Option Line) → line_of core other ≡ line
      → (conn ≡ other → (l : Line) → IsOfStep session (frame_step setting.layouts l.session l.next frame)) → (conn ≡ other → IsFor session (session_at line))
      → Goes core (treat_at setting moment other frame core line)
  treat_at_goes moment other frame core None is asks own = none_goes core
  treat_at_goes moment other frame core (Some line) is asks own =
      step_goes moment other line core (frame_step setting.layouts line.session line.next frame) is (λ here. asks here line) own

  -- a frame: where it comes on the connection, one of the client's requests
  pub treat_goes : (moment other : ℕ) (frame : List ℕ) (core : Core) → (conn ≡ other → (l : Line) → IsOfStep session (frame_step setting.layouts l.session l.next frame))
      → IsFor session (session_of core conn) → Goes core (treat setting moment other frame core)
  unfolding treat
  treat_goes moment other frame core asks own =
      treat_at_goes moment other frame core (line_of core other) refl asks (λ here. subst (λ (c : ℕ). IsFor session (session_of core c)) here own)
