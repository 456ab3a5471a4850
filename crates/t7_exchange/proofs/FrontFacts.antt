-- What stands at the front of a connection's bytes, treated by calls on the connections.
use Rattle.std.proofs.Common.{◌≡◌, ℕ, List, ◌++◌, length, drop, Option, Some, None, refl, sym, ap, ◌∙◌}
use Rattle.std.proofs.lemmas.List.{append-nil}
use Rattle.std.specs.Option.{option_map}
use Rattle.t7_frames.specs.Frames.{Front, whole, not_yet, bad_length, front_of}
use Rattle.t7_frames.specs.Frames.{body_len}
use Rattle.t7_frames.proofs.Fronts.{whole-front}
use Rattle.t7_eti.specs.declared.reason.Reason.{Reason}
use Rattle.t7_eti.specs.declared.reason.Reason.TheVariants.{BadLength}
use Rattle.t7_eti.specs.declared.request.Request.{Request}
use Rattle.t7_book.specs.declared.command.Command.{Command}
use Rattle.t7_session.specs.declared.session.Step.{Step}
use Rattle.t7_session.specs.declared.session.Step.TheVariants as step
use Rattle.t7_session.specs.Held.{Held}
use Rattle.t7_session.specs.Steps.{done_of, step_at, step_of}
use Rattle.t7_entry.specs.ByNumber.{get, remove}
use Rattle.t7_entry.specs.State.{Core, Input, Outcome, Setting, line_of, with_line}
use Rattle.t7_entry.specs.Treatment.{answer, counted, refuse, treat, treat_at, treat_step}
use Rattle.t7_entry.specs.Events.{refuse_open, settled_at}
use Rattle.t7_entry.specs.Days.{went_on}
use Rattle.t7_entry.specs.Stalls.{front_treated, front_treated_at, input_of, untreated_at, with_input}
use Rattle.t7_entry.proofs.Cutting.{refuse-closes}
use Rattle.t7_exchange.specs.Maps.{changed, changed_at, input_part, inputs_of, line_part}
use Rattle.t7_exchange.specs.Wires.{Acts, Wires, core_of}
use Rattle.t7_exchange.specs.Outbox.{Outbox}
use Rattle.t7_exchange.specs.Serving.{Serves}
use Rattle.t7_exchange.specs.Views.{day_of, state_of}
use Rattle.t7_exchange.proofs.MapFacts.{get-parts, parts-insert}

-- the length of a whole frame
whole_length : (bytes frame : List ℕ) → front_of bytes ≡ whole frame → length frame ≡ body_len bytes
whole_length bytes frame is = (whole-front bytes frame is).count

-- the day goes on as the connections and the replies do, where no command is accepted
pub went : (setting : Setting) (accepted : List Command) (out : Outbox) (conn : ℕ) (w new : Wires) (input : Input) (act : Core → Outcome) → Acts accepted w new act
    → inputs_of new.held ≡ settled_at (inputs_of w.held) conn input (line_of (act (core_of accepted w.held)).core conn)
    → went_on (day_of setting accepted w out) (with_input conn (state_of accepted w) input (act (core_of accepted w.held))) ≡ day_of setting accepted new out
went setting accepted out conn w new input act acts inputs = λ i. record {
  setting = setting;
  state = record { core = sym acts.core i; inputs = sym inputs i };
  waiting = sym acts.replied i;
  untold = (ap (λ ts. out.untold ++ ts) acts.silent ∙ append-nil out.untold) i;
  live = out.live;
  beats = out.beats;
  left = out.cycle.left;
  snaps = out.snaps;
}

module _ (setting : Setting) (accepted : List Command) (out : Outbox) (moment conn : ℕ) (w : Wires) (h : Held) (got : get w.held conn ≡ Some h) where
  line_here : line_of (core_of accepted w.held) conn ≡ Some (line_part h)
  line_here = get-parts line_part w.held conn ∙ ap (option_map line_part) got

  input_here : input_of (day_of setting accepted w out) conn ≡ Some (input_part h)
  input_here = get-parts input_part w.held conn ∙ ap (option_map input_part) got

  -- the front of an open connection
  front_here : front_treated moment conn (day_of setting accepted w out)
      ≡ went_on (day_of setting accepted w out) (front_treated_at setting moment conn (state_of accepted w) (Some (input_part h)) (front_of h.untreated))
  front_here = ap (λ o. went_on (day_of setting accepted w out) (front_treated_at setting moment conn (state_of accepted w) o (front_of (untreated_at o)))) input_here

  -- a whole frame is treated as the session's step says
  pub treated_here : (frame : List ℕ) (s : Step) → front_of h.untreated ≡ whole frame → step_of setting.layouts h ≡ s
      → treat setting moment conn frame (core_of accepted w.held) ≡ treat_step setting moment conn (line_part h) (core_of accepted w.held) s
  unfolding treat
  treated_here frame s front is =
      ap (treat_at setting moment conn frame (core_of accepted w.held)) line_here
      ∙ ap (treat_step setting moment conn (line_part h) (core_of accepted w.held)) (sym (ap (step_at setting.layouts h) front) ∙ is)

  -- a whole frame that asks something, which the answer takes off
  pub front_asked : (asked : Request) → step_of setting.layouts h ≡ step.Ask asked
      → front_treated moment conn (day_of setting accepted w out)
      ≡ went_on (day_of setting accepted w out) (with_input conn (state_of accepted w) (input_part (done_of h)) (answer setting moment conn (line_part h) (core_of accepted w.held) asked))
  front_asked asked is = front_here ∙ by_front (front_of h.untreated) refl
    where
      by_front : (f : Front) → front_of h.untreated ≡ f
          → went_on (day_of setting accepted w out) (front_treated_at setting moment conn (state_of accepted w) (Some (input_part h)) f)
          ≡ went_on (day_of setting accepted w out) (with_input conn (state_of accepted w) (input_part (done_of h)) (answer setting moment conn (line_part h) (core_of accepted w.held) asked))
      by_front (whole frame) front =
          ap (λ o. went_on (day_of setting accepted w out) (with_input conn (state_of accepted w) (record { untreated = drop (length frame) h.untreated; received = h.received }) o)) (treated_here frame (step.Ask asked) front is)
          ∙ ap (λ n. went_on (day_of setting accepted w out) (with_input conn (state_of accepted w) (record { untreated = drop n h.untreated; received = h.received }) (answer setting moment conn (line_part h) (core_of accepted w.held) asked)))
          (whole_length h.untreated frame front)
      by_front (bad_length n) front = let e : step.Refuse None BadLength ≡ step.Ask asked = sym (ap (step_at setting.layouts h) front) ∙ is in cc
      by_front not_yet front = let e : step.NotYet ≡ step.Ask asked = sym (ap (step_at setting.layouts h) front) ∙ is in cc

  -- it is answered
  pub front_served : (new : Wires) (asked : Request) → step_of setting.layouts h ≡ step.Ask asked → Serves setting accepted moment conn h asked w new
      → front_treated moment conn (day_of setting accepted w out) ≡ day_of setting accepted new out
  front_served new asked is serves =
      front_asked asked is ∙ went setting accepted out conn w new (input_part (done_of h)) (λ core. answer setting moment conn (line_part h) core asked) serves.acts serves.inputs

  -- a front that is refused
  pub front_refused : (new : Wires) (seq : Option ℕ) (reason : Reason) → step_of setting.layouts h ≡ step.Refuse seq reason
      → Acts accepted w new (refuse moment conn seq reason) → inputs_of new.held ≡ remove (inputs_of w.held) conn
      → front_treated moment conn (day_of setting accepted w out) ≡ day_of setting accepted new out
  front_refused new seq reason is acts inputs = front_here ∙ by_front (front_of h.untreated) refl
    where
      done : (input : Input) → went_on (day_of setting accepted w out) (with_input conn (state_of accepted w) input (refuse moment conn seq reason (core_of accepted w.held))) ≡ day_of setting accepted new out
      done input =
          went setting accepted out conn w new input (refuse moment conn seq reason) acts
          (inputs ∙ sym (ap (settled_at (inputs_of w.held) conn input) (refuse-closes moment conn seq reason (core_of accepted w.held))))

      by_front : (f : Front) → front_of h.untreated ≡ f
          → went_on (day_of setting accepted w out) (front_treated_at setting moment conn (state_of accepted w) (Some (input_part h)) f) ≡ day_of setting accepted new out
      by_front (whole frame) front =
          ap (λ o. went_on (day_of setting accepted w out) (with_input conn (state_of accepted w) (record { untreated = drop (length frame) h.untreated; received = h.received }) o)) (treated_here frame (step.Refuse seq reason) front is)
          ∙ done (record { untreated = drop (length frame) h.untreated; received = h.received })
      by_front (bad_length n) front =
          let e : step.Refuse None BadLength ≡ step.Refuse seq reason = sym (ap (step_at setting.layouts h) front) ∙ is in
          ap (λ o. went_on (day_of setting accepted w out) (with_input conn (state_of accepted w) (input_part h) o))
          (ap (refuse_open moment conn (core_of accepted w.held)) line_here ∙ ap (treat_step setting moment conn (line_part h) (core_of accepted w.held)) e)
          ∙ done (input_part h)
      by_front not_yet front = let e : step.NotYet ≡ step.Refuse seq reason = sym (ap (step_at setting.layouts h) front) ∙ is in cc

  -- the front frame is taken off, and its number is used
  pub done_here : (asked : Request) → h.asked ≡ Some asked
      → core_of accepted (changed w.held conn done_of) ≡ with_line (core_of accepted w.held) conn (counted (line_part h) asked)
  done_here asked is =
      ap (λ o. core_of accepted (changed_at w.held conn done_of o)) got
      ∙ (λ i. record { accepted = accepted; lines = parts-insert line_part w.held conn (done_of h) i })
      ∙ ap (λ o. with_line (core_of accepted w.held) conn (line_part (done_of (record h { asked = o })))) is
