-- Fewer bytes are untreated once the front is treated.
use Rattle.std.proofs.Common.{◌≡◌, ◌≢◌, ℕ, ◌<◌, List, [], ◌∷◌, length, drop, Option, Some, None, refl, sym, ap, ◌∙◌, subst, arith, length-drop}
use Rattle.t7_frames.specs.Frames.{Front, whole, not_yet, bad_length, front_of}
use Rattle.t7_frames.proofs.Fronts.{whole-front}
use Rattle.t7_session.specs.declared.session.Step.{Step}
use Rattle.t7_session.specs.declared.session.Step.TheVariants as step
use Rattle.t7_session.specs.Held.{Held}
use Rattle.t7_session.specs.Steps.{step_at, step_of}
use Rattle.t7_layout.specs.Layouts.{Layout}
use Rattle.t7_entry.specs.ByNumber.{ByNumber, get}
use Rattle.t7_entry.specs.State.{Input, Line, line_of}
use Rattle.t7_entry.specs.Treatment.{treat}
use Rattle.t7_entry.specs.Events.{settled_at}
use Rattle.t7_entry.specs.Days.{Day, went_on}
use Rattle.t7_entry.specs.Stalls.{front_treated, front_treated_at, input_of, untreated_at, untreated_of}
use Rattle.std.proofs.lemmas.List.{append-nil}
use Rattle.t7_entry.proofs.Cutting.{refuse_open-shuts}
use Rattle.t7_entry.proofs.Numbers.{get-insert-same, get-remove-same}

-- where nothing stands at the front of no bytes
nothing_stands : (bytes : List ℕ) → front_of bytes ≢ not_yet → 0 < length bytes
nothing_stands [] stands = absurd (stands refl)
nothing_stands (x ∷ bytes) stands = omega arith

settled_less : (inputs : ByNumber Input) (conn : ℕ) (input : Input) (line : Option Line) (n : ℕ) → (line ≡ None → 0 < n) → length input.untreated < n → length (untreated_at (get (settled_at inputs conn input line) conn)) < n
settled_less inputs conn input (Some line) n shut less = subst (λ (o : Option Input). length (untreated_at o) < n) (sym (get-insert-same inputs conn input)) less
settled_less inputs conn input None n shut less = subst (λ (o : Option Input). length (untreated_at o) < n) (sym (get-remove-same inputs conn)) (shut refl)

-- the front of an open connection's bytes is treated
pub front_shrinks : (day : Day) (moment conn : ℕ) (input : Input) → input_of day conn ≡ Some input → front_of input.untreated ≢ not_yet
    → length (untreated_of (front_treated moment conn day) conn) < length (untreated_of day conn)
front_shrinks day moment conn input got stands =
    subst (λ (o : Option Input). length (untreated_at (get (front_treated_at day.setting moment conn day.state o (front_of (untreated_at o))).state.inputs conn)) < length (untreated_at o)) (sym got)
    (by_front (front_of input.untreated) refl)
  where
    by_front : (f : Front) → front_of input.untreated ≡ f → length (untreated_at (get (front_treated_at day.setting moment conn day.state (Some input) f).state.inputs conn)) < length input.untreated
    by_front (whole frame) front =
        let whole = whole-front input.untreated frame front in
        let least = whole.is_frame.least in
        let some = nothing_stands input.untreated stands in
        settled_less day.state.inputs conn (record { untreated = drop (length frame) input.untreated; received = input.received })
        (line_of (treat day.setting moment conn frame day.state.core).core conn) (length input.untreated) (λ e. some) (omega (arith, length-drop (length frame) input.untreated, least, some))
    by_front (bad_length n) front =
        let gone = refuse_open-shuts moment conn day.state.core (line_of day.state.core conn) refl in
        subst (λ (l : Option Line). length (untreated_at (get (settled_at day.state.inputs conn input l) conn)) < length input.untreated) (sym gone)
        (subst (λ (o : Option Input). length (untreated_at o) < length input.untreated) (sym (get-remove-same day.state.inputs conn)) (nothing_stands input.untreated stands))
    by_front not_yet front = absurd (stands front)

-- nothing stands there
pub front_nothing : (day : Day) (moment conn : ℕ) (input : Input) → input_of day conn ≡ Some input → front_of input.untreated ≡ not_yet → front_treated moment conn day ≡ day
front_nothing day moment conn input got front =
    ap (λ (o : Option Input). went_on day (front_treated_at day.setting moment conn day.state o (front_of (untreated_at o)))) got
    ∙ ap (λ f. went_on day (front_treated_at day.setting moment conn day.state (Some input) f)) front
    ∙ (λ i. record day { waiting = append-nil day.waiting i; untold = append-nil day.untold i })

-- a step that isn't to wait has something at the front
pub step_stands : (layouts : List Layout) (h : Held) (s : Step) → step_of layouts h ≡ s → (s ≡ step.NotYet → ⊥) → front_of h.untreated ≢ not_yet
step_stands layouts h s is other = λ none. other (sym is ∙ ap (step_at layouts h) none)
