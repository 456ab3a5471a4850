-- Answers, as the calls on the connections carry them out.
use Rattle.std.proofs.Common.{◌≡◌, ℕ, ◌+◌, ◌-◌, ◌≤◌, min, drop, length, length-take, arith, Result, Ok, Err, Bool, true, false, cond, ◌&&◌, List, ◌++◌, Option, Some, None, is_some, refl, sym, ap, ◌∙◌}
use Rattle.std.specs.List.{list_any}
use Rattle.std.proofs.lemmas.List.{append-nil}
use Rattle.std.specs.Option.{option_map}
use Rattle.std.specs.Prelude.{◌==◌, OnOk}
use Rattle.t7_eti.specs.declared.reason.Reason.TheVariants.{UnknownSession, SessionInUse, BadRange}
use Rattle.t7_eti.specs.declared.request.Request.{Request}
use Rattle.t7_eti.specs.declared.request.Request.TheVariants as request
use Rattle.t7_eti.specs.declared.response.Kept.{Kept}
use Rattle.t7_eti.specs.declared.response.Response.TheVariants as response
use Rattle.t7_book.specs.declared.command.Command.{Command}
use Rattle.t7_eti.specs.Requests.{request_number}
use Rattle.t7_orders.specs.Answers.{responses}
use Rattle.t7_orders.specs.Judged.{IsOrder, judged}
use Rattle.t7_recover.specs.Ranges.{is_bad_range, range_of}
use Rattle.t7_session.specs.Heartbeats.{interval_of}
use Rattle.t7_session.specs.Held.{Held}
use Rattle.t7_session.specs.Steps.{done_of}
use Rattle.t7_entry.specs.ByNumber.{ByNumber, Rises, get, insert, remove}
use Rattle.t7_entry.specs.State.{Core, Input, Line, Outcome, Setting, and_then, book_of, line_of, pure, with_line}
use Rattle.t7_entry.specs.Treatment.{answer, counted, holder, ordered, refuse, send, send_again, send_range, serve}
use Rattle.t7_entry.specs.Events.{settled_at}
use Rattle.t7_entry.specs.Days.{replies_in, told_in}
use Rattle.t7_entry.proofs.Numbers.{get-insert-same, get-remove-same, insert-get, insert-insert}
use Rattle.t7_exchange.specs.Maps.{changed, changed_at, input_part, inputs_of, line_part, lines_of}
use Rattle.t7_exchange.specs.Serving.{Serves}
use Rattle.t7_exchange.specs.Wires.{Acts, Wires, core_of}
use Rattle.t7_exchange.proofs.MapFacts.{get-parts, parts-insert, rises-parts}
use Rattle.t7_exchange.proofs.WireFacts.{acts_at}

-- what is open by what has come
open_by : (m : ByNumber Held) (conn : ℕ) (i : Input) → get (inputs_of m) conn ≡ Some i → (h : Held) × (get m conn ≡ Some h)
open_by m conn i is = at (get m conn) refl
  where
    at : (o : Option Held) → get m conn ≡ o → (h : Held) × (get m conn ≡ Some h)
    at (Some h) e = (h, e)
    at None e = absurd (let f : None ≡ Some i = sym (get-parts input_part m conn ∙ ap (option_map input_part) e) ∙ is in cc)

shut_by : (m : ByNumber Held) (conn : ℕ) → get (inputs_of m) conn ≡ None → get m conn ≡ None
shut_by m conn is = at (get m conn) refl
  where
    at : (o : Option Held) → get m conn ≡ o → get m conn ≡ None
    at None e = e
    at (Some h) e = absurd (let f : Some (input_part h) ≡ None = sym (get-parts input_part m conn ∙ ap (option_map input_part) e) ∙ is in cc)

module _ (setting : Setting) (accepted : List Command) (moment conn : ℕ) (h : Held) (asked : Request) (old new : Wires) where
  -- the connection is still open
  pub serves_open : (act : Core → Outcome) → act (core_of accepted old.held) ≡ answer setting moment conn (line_part h) (core_of accepted old.held) asked
      → Acts accepted old new act → inputs_of new.held ≡ insert (inputs_of old.held) conn (input_part (done_of h)) → Serves setting accepted moment conn h asked old new
  serves_open act is acts inputs =
      let there = open_by new.held conn (input_part (done_of h)) (ap (λ m. get m conn) inputs ∙ get-insert-same (inputs_of old.held) conn (input_part (done_of h))) in
      let line : line_of (core_of accepted new.held) conn ≡ Some (line_part there.0) = get-parts line_part new.held conn ∙ ap (option_map line_part) there.1 in
      let all = acts_at accepted old new act (λ core. answer setting moment conn (line_part h) core asked) is acts in
      record {
        acts = all;
        inputs = inputs ∙ sym (ap (settled_at (inputs_of old.held) conn (input_part (done_of h))) (sym (ap (λ k. line_of k conn) all.core) ∙ line));
      }

  -- it was closed
  pub serves_shut : (act : Core → Outcome) → act (core_of accepted old.held) ≡ answer setting moment conn (line_part h) (core_of accepted old.held) asked
      → Acts accepted old new act → inputs_of new.held ≡ remove (inputs_of old.held) conn → Serves setting accepted moment conn h asked old new
  serves_shut act is acts inputs =
      let gone = shut_by new.held conn (ap (λ m. get m conn) inputs ∙ get-remove-same (inputs_of old.held) conn) in
      let line : line_of (core_of accepted new.held) conn ≡ None = get-parts line_part new.held conn ∙ ap (option_map line_part) gone in
      let all = acts_at accepted old new act (λ core. answer setting moment conn (line_part h) core asked) is acts in
      record {
        acts = all;
        inputs = inputs ∙ sym (ap (settled_at (inputs_of old.held) conn (input_part (done_of h))) (sym (ap (λ k. line_of k conn) all.core) ∙ line));
      }

-- it goes on where the connections are changed
pub acts_via : (accepted : List Command) (old mid new : Wires) (next act : Core → Outcome) → act (core_of accepted old.held) ≡ next (core_of accepted mid.held) → mid.waiting ≡ old.waiting
    → Acts accepted mid new next → Acts accepted old new act
acts_via accepted old mid new next act is waiting acts = record {
  core = acts.core ∙ ap (λ (o : Outcome). o.core) (sym is);
  replied = acts.replied ∙ (λ i. waiting i ++ replies_in (sym is i).doings);
  silent = ap (λ (o : Outcome). told_in o.doings) is ∙ acts.silent;
}

-- a value that is there is changed
pub changed_there : {X : Type 0} (m : ByNumber X) (k : ℕ) (f : X → X) (x : X) → get m k ≡ Some x → changed m k f ≡ insert m k (f x)
changed_there m k f x is = ap (changed_at m k f) is

module _ (accepted : List Command) (conn : ℕ) (m : ByNumber Held) (h : Held) (there : get m conn ≡ Some h) where
  -- the front frame is taken off, and its number is used
  pub done_core : (asked : Request) → h.asked ≡ Some asked → core_of accepted (changed m conn done_of) ≡ with_line (core_of accepted m) conn (counted (line_part h) asked)
  done_core asked is =
      ap (core_of accepted) (changed_there m conn done_of h there)
      ∙ (λ i. record { accepted = accepted; lines = parts-insert line_part m conn (done_of h) i })
      ∙ ap (λ o. with_line (core_of accepted m) conn (line_part (done_of (record h { asked = o })))) is

  pub done_inputs : inputs_of (changed m conn done_of) ≡ insert (inputs_of m) conn (input_part (done_of h))
  done_inputs = ap inputs_of (changed_there m conn done_of h there) ∙ parts-insert input_part m conn (done_of h)

  -- after a logon
  pub logged_core : (asked : Request) (f : Held → Held) → ((g : Held) → (f g).asked ≡ g.asked) → h.asked ≡ Some asked
      → core_of accepted (changed (changed m conn f) conn done_of) ≡ with_line (core_of accepted m) conn (counted (line_part (f h)) asked)
  logged_core asked f keeps is =
      let first = changed_there m conn f h there in
      let now : get (changed m conn f) conn ≡ Some (f h) = ap (λ n. get n conn) first ∙ get-insert-same m conn (f h) in
      done_of_core asked now (keeps h ∙ is)
      ∙ ap (λ k. with_line k conn (counted (line_part (f h)) asked)) (ap (core_of accepted) first ∙ (λ i. record { accepted = accepted; lines = parts-insert line_part m conn (f h) i }))
      ∙ (λ i. record { accepted = accepted; lines = insert-insert (lines_of m) conn (line_part (f h)) (counted (line_part (f h)) asked) i })
    where
      done_of_core : (asked : Request) → get (changed m conn f) conn ≡ Some (f h) → (f h).asked ≡ Some asked
          → core_of accepted (changed (changed m conn f) conn done_of) ≡ with_line (core_of accepted (changed m conn f)) conn (counted (line_part (f h)) asked)
      done_of_core asked got is =
          ap (core_of accepted) (changed_there (changed m conn f) conn done_of (f h) got)
          ∙ (λ i. record { accepted = accepted; lines = parts-insert line_part (changed m conn f) conn (done_of (f h)) i })
          ∙ ap (λ o. with_line (core_of accepted (changed m conn f)) conn (line_part (done_of (record (f h) { asked = o })))) is

  pub logged_inputs : (f : Held → Held) → ((g : Held) → input_part (done_of (f g)) ≡ input_part (done_of g)) → inputs_of (changed (changed m conn f) conn done_of) ≡ insert (inputs_of m) conn (input_part (done_of h))
  logged_inputs f keeps =
      let first = changed_there m conn f h there in
      let now : get (changed m conn f) conn ≡ Some (f h) = ap (λ n. get n conn) first ∙ get-insert-same m conn (f h) in
      ap inputs_of (changed_there (changed m conn f) conn done_of (f h) now ∙ ap (λ n. insert n conn (done_of (f h))) first ∙ insert-insert m conn (f h) (done_of (f h)))
      ∙ parts-insert input_part m conn (done_of (f h)) ∙ ap (insert (inputs_of m) conn) (keeps h)

-- a logon for a session that the product lacks, or that is in use, and one that is neither
pub unknown_session : (setting : Setting) (moment conn : ℕ) (line : Line) (core : Core) (seq heart session : ℕ) → list_any (λ s. s == session) setting.listing.sessions ≡ false
    → refuse moment conn (Some seq) UnknownSession core ≡ answer setting moment conn line core (request.Logon seq heart session)
unknown_session setting moment conn line core seq heart session none = rw none refl

pub session_in_use : (setting : Setting) (moment conn : ℕ) (line : Line) (core : Core) (seq heart session : ℕ) → list_any (λ s. s == session) setting.listing.sessions ≡ true
    → is_some (holder session core) ≡ true → refuse moment conn (Some seq) SessionInUse core ≡ answer setting moment conn line core (request.Logon seq heart session)
session_in_use setting moment conn line core seq heart session known held = rw (known, held) refl

pub logs_on : (setting : Setting) (moment conn : ℕ) (line : Line) (core : Core) (seq heart session : ℕ) → list_any (λ s. s == session) setting.listing.sessions ≡ true
    → is_some (holder session core) ≡ false
    → send moment conn (response.Logon seq (interval_of heart)) (with_line core conn (counted (record line { session = Some session; heart = interval_of heart }) (request.Logon seq heart session)))
    ≡ answer setting moment conn line core (request.Logon seq heart session)
logs_on setting moment conn line core seq heart session known free = rw (known, free) refl

-- what holds where a call succeeded
pub on_ok : {T E : Type 0} {A B : Type 0} (r : Result T E) → (A → B) → OnOk r A → OnOk r B
on_ok (Ok x) f a = f a
on_ok (Err e) f a = tt

-- a range that is none, and one that is
module _ (setting : Setting) (moment conn : ℕ) (line : Line) (core : Core) (seq after upto session : ℕ) (list : List Kept) (is : line.session ≡ Some session) (are : list ≡ responses setting.listing core.accepted session) where
  served : send_range moment conn seq after upto list (with_line core conn (counted line (request.Resend seq after upto))) ≡ answer setting moment conn line core (request.Resend seq after upto)
  served =
      let after_count = with_line core conn (counted line (request.Resend seq after upto)) in
      ap (λ (l : List Kept). send_range moment conn seq after upto l after_count) are
      ∙ ap (λ s. serve setting moment conn after_count (request.Resend seq after upto) s) (sym is)

  pub bad_range : is_bad_range list after upto ≡ true
      → send moment conn (response.Reject (Some seq) BadRange) (with_line core conn (counted line (request.Resend seq after upto))) ≡ answer setting moment conn line core (request.Resend seq after upto)
  bad_range bad =
      let after_count = with_line core conn (counted line (request.Resend seq after upto)) in
      let range = range_of list after upto in
      let sent : Outcome = send moment conn (response.Reject (Some seq) BadRange) after_count in
      let all : Outcome = and_then (send moment conn (response.Resent seq (length range) (after + length range) (length list)) after_count) (send_again moment conn (after + 1) range) in
      sym (ap (λ b. cond b sent all) bad) ∙ served

  pub good_range : (range : List Kept) (known : ℕ) → range ≡ range_of list after upto → known ≡ length list → is_bad_range list after upto ≡ false
      → and_then (send moment conn (response.Resent seq (length range) (after + length range) known) (with_line core conn (counted line (request.Resend seq after upto)))) (send_again moment conn (after + 1) range)
      ≡ answer setting moment conn line core (request.Resend seq after upto)
  good_range range known range_is known_is good =
      let after_count = with_line core conn (counted line (request.Resend seq after upto)) in
      let sent : Outcome = send moment conn (response.Reject (Some seq) BadRange) after_count in
      let all : List Kept → ℕ → Outcome = λ r k. and_then (send moment conn (response.Resent seq (length r) (after + length r) k) after_count) (send_again moment conn (after + 1) r) in
      (λ i. all (range_is i) (known_is i)) ∙ sym (ap (λ b. cond b sent (all (range_of list after upto) (length list))) good) ∙ served

pub range_few : (list : List Kept) (after upto : ℕ) → length (range_of list after upto) ≤ 500
range_few list after upto = omega (arith, length-take (min upto (after + 500) - after) (drop after list))

-- an order request of a session
pub answer_order : (setting : Setting) (moment conn : ℕ) (line : Line) (core : Core) (asked : Request) (seq session : ℕ) → IsOrder asked → line.session ≡ Some session → request_number asked ≡ Some seq
    → answer setting moment conn line core asked
    ≡ ordered setting moment conn (Some seq) (with_line core conn (counted line asked)) (judged setting.listing (book_of setting core.accepted) session (length core.accepted) moment asked)
answer_order setting moment conn line core (request.New n security side price qty client) seq session order is number =
    let asked = request.New n security side price qty client in
    let now = with_line core conn (counted line asked) in
    ap (λ s. serve setting moment conn now asked s) is ∙ ap (λ n. ordered setting moment conn n now (judged setting.listing (book_of setting core.accepted) session (length core.accepted) moment asked)) number
answer_order setting moment conn line core (request.Modify n order_id client price qty) seq session order is number =
    let asked = request.Modify n order_id client price qty in
    let now = with_line core conn (counted line asked) in
    ap (λ s. serve setting moment conn now asked s) is ∙ ap (λ n. ordered setting moment conn n now (judged setting.listing (book_of setting core.accepted) session (length core.accepted) moment asked)) number
answer_order setting moment conn line core (request.Delete n order_id client) seq session order is number =
    let asked = request.Delete n order_id client in
    let now = with_line core conn (counted line asked) in
    ap (λ s. serve setting moment conn now asked s) is ∙ ap (λ n. ordered setting moment conn n now (judged setting.listing (book_of setting core.accepted) session (length core.accepted) moment asked)) number
answer_order setting moment conn line core (request.DeleteAll n security) seq session order is number =
    let asked = request.DeleteAll n security in
    let now = with_line core conn (counted line asked) in
    ap (λ s. serve setting moment conn now asked s) is ∙ ap (λ n. ordered setting moment conn n now (judged setting.listing (book_of setting core.accepted) session (length core.accepted) moment asked)) number
answer_order setting moment conn line core (request.Logon n heart other) seq session order is number = absurd order
answer_order setting moment conn line core (request.Logout n) seq session order is number = absurd order
answer_order setting moment conn line core request.Heartbeat seq session order is number = absurd order
answer_order setting moment conn line core (request.Resend n after upto) seq session order is number = absurd order

-- what has come on a connection that is still open
pub open_settled : (accepted : List Command) (conn : ℕ) (old new : Wires) (input : Input) (core : Core) → core_of accepted new.held ≡ core → inputs_of new.held ≡ insert (inputs_of old.held) conn input
    → inputs_of new.held ≡ settled_at (inputs_of old.held) conn input (line_of core conn)
open_settled accepted conn old new input core is inputs =
    let there = open_by new.held conn input (ap (λ m. get m conn) inputs ∙ get-insert-same (inputs_of old.held) conn input) in
    let line : line_of (core_of accepted new.held) conn ≡ Some (line_part there.0) = get-parts line_part new.held conn ∙ ap (option_map line_part) there.1 in
    inputs ∙ sym (ap (settled_at (inputs_of old.held) conn input) (sym (ap (λ k. line_of k conn) is) ∙ line))

-- a Heartbeat is taken off, and nothing else is done
counted_quiet : (line : Line) → counted line request.Heartbeat ≡ line
unfolding request_number
counted_quiet line = λ i. record line { next = same (is_some line.session) i }
  where
    same : (b : Bool) → cond (b && false) (line.next + 1) line.next ≡ line.next
    same true = refl
    same false = refl

pub quiet_acts : (accepted : List Command) (conn : ℕ) (old new : Wires) (h : Held) → Rises old.held → get old.held conn ≡ Some h → h.asked ≡ Some request.Heartbeat → new ≡ record old { held = changed old.held conn done_of }
    → Acts accepted old new pure
quiet_acts accepted conn old new h rises there asked is = record {
  core =
      ap (λ (w : Wires). core_of accepted w.held) is ∙ done_core accepted conn old.held h there request.Heartbeat asked
      ∙ ap (with_line (core_of accepted old.held) conn) (counted_quiet (line_part h))
      ∙ (λ i. record { accepted = accepted; lines = insert-get (lines_of old.held) conn (line_part h) (rises-parts line_part old.held rises) (get-parts line_part old.held conn ∙ ap (option_map line_part) there) i });
  replied = ap (λ (w : Wires). w.waiting) is ∙ sym (append-nil old.waiting);
  silent = refl;
}
