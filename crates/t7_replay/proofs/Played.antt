-- A script that is played: where it stands after so many lines.
use Rattle.std.proofs.Common.{◌≡◌, ℕ, List, [], ◌∷◌, Option, Some, Ok, Err, length, refl, sym, ◌∙◌, ap, arith}
use Rattle.t7_base.specs.Outside.{Grew}
use Rattle.t7_base.proofs.Grown.{grew_nothing}
use Rattle.t7_book.specs.Trace.{trace}
use Rattle.t7_entry.specs.Days.{Day, last_of}
use Rattle.t7_feed.specs.Arrivals.{Terms}
use Rattle.t7_outcome.specs.declared.ending.Finish.TheVariants.{End}
use Rattle.t7_outcome.specs.declared.ending.Stop.{Stop}
use Rattle.t7_outcome.specs.Ending.{Ended}
use Rattle.t7_outcome.specs.Outcome.{Ends, Outcome, Wrote}
use Rattle.t7_outcome.specs.Steps.{GoesTo, LineStep, Stopped, StoppedAt, WentOn}
use Rattle.t7_outcome.proofs.Lines.{SoFar, nothing_yet}
use Rattle.t7_outcome.proofs.Stepping.{grew_all, grew_on, grew_stopped, stopped_end, went_end, went_to}
use Rattle.t7_dialog.specs.Saying.{AreSaid}
use Rattle.t7_replay.specs.Calling.{IsSoundCaller, made_by}
use Rattle.t7_replay.specs.Following.{Follows}
use Rattle.t7_replay.proofs.Following.{Laws, follow_step, goes_on}
use Rattle.t7_replay.specs.Kits.{IsReady, Kit, Stands}
use Rattle.t7_replay.specs.Reports.{IsReported, Moment}
use Rattle.t7_replay.specs.Steps.{played, step_at}
use Rattle.t7_replay.specs.World.{World, new_world}

-- The script is played as a whole; these lines are left, and the program stands in this world.
pub record Playing (terms : Terms) (kit : Kit) (lines : List (List ℕ)) (whole : Outcome Moment) (before now : Option (List ℕ)) : Type 0 where
  pub world : World
  pub stands : Stands terms world kit
  pub follows : Follows terms world
  pub end : (played terms world lines).end ≡ whole.end
  pub written : Grew before now (SoFar IsReported (played terms world lines) whole)

-- a line more may be played
pub stands_ready : (terms : Terms) (world : World) (kit : Kit) → Stands terms world kit → IsReady kit
stands_ready terms world kit stands = record {
  listing = stands.listing ∙ ap (λ (d : Day). d.setting.listing) (sym stands.day);
  told = ap (λ (d : Day). d.untold) stands.day;
  beats = omega (arith, ap (λ (d : Day). d.beats) stands.day, stands.few_beats, stands.row);
  snaps = omega (arith, ap (λ (d : Day). d.snaps) stands.day, stands.few_snaps, stands.row);
  made = omega (arith, ap made_by stands.caller, stands.few_made, stands.row);
  few = omega (arith, stands.few_lines, stands.row);
}

pub playing_ready : (terms : Terms) (kit : Kit) (lines : List (List ℕ)) (whole : Outcome Moment) (before now : Option (List ℕ)) → Playing terms kit lines whole before now → IsReady kit
playing_ready terms kit lines whole before now playing = stands_ready terms playing.world kit playing.stands

-- before the first line
pub playing_first : (terms : Terms) (kit : Kit) (lines : List (List ℕ)) (before : Option (List ℕ)) → Stands terms new_world kit
    → Playing terms kit lines (played terms new_world lines) before before
playing_first terms kit lines before stands = record {
  world = new_world;
  stands = stands;
  follows = tt;
  end = refl;
  written = grew_nothing before (SoFar IsReported (played terms new_world lines) (played terms new_world lines)) (nothing_yet IsReported (played terms new_world lines));
}

-- the next line was done
pub playing_next : Laws → (terms : Terms) (kit new : Kit) (all : List (List ℕ)) (line : List ℕ) (lines : List (List ℕ)) (whole : Outcome Moment) (before now later : Option (List ℕ))
    → all ≡ line ∷ lines → Playing terms kit all whole before now
    → ((terms : Terms) (world : World) → Stands terms world kit → GoesTo (step_at terms world line) (λ after. Stands terms after new))
    → ((terms : Terms) (world : World) → Stands terms world kit → Follows terms world → Grew now later (WentOn IsReported (step_at terms world line)))
    → Playing terms new lines whole before later
playing_next laws terms kit new all line lines whole before now later is playing went wrote =
    let world = playing.world in
    let step : LineStep World Moment = step_at terms world line in
    let next : World → Outcome Moment = λ (after : World). played terms after lines in
    let led = went_to IsReported step (λ after. Stands terms after new) (went terms world playing.stands) in
    let whole_is = ap (played terms world) is in record {
      world = led.0;
      stands = led.2;
      follows = goes_on (step_at terms world line) (λ (after : World). AreSaid terms.layouts after.said → IsSoundCaller after.caller → Follows terms after) led.0 led.1
          (follow_step laws terms world line playing.stands.table playing.stands.paired playing.follows) led.2.said led.2.sound;
      end = sym (went_end IsReported step next led.0 led.1) ∙ sym (ap (λ (o : Outcome Moment). o.end) whole_is) ∙ playing.end;
      written = grew_on IsReported before now later (played terms world all) step next led.0 whole whole_is led.1 playing.written (wrote terms world playing.stands playing.follows);
    }

-- the next line stopped the run
pub playing_stopped_end : (terms : Terms) (kit : Kit) (all : List (List ℕ)) (line : List ℕ) (lines : List (List ℕ)) (whole : Outcome Moment) (before now : Option (List ℕ)) (stop : Stop)
    → all ≡ line ∷ lines → Playing terms kit all whole before now
    → ((terms : Terms) (world : World) → Stands terms world kit → Stopped (step_at terms world line) stop)
    → Ends whole (Err stop)
playing_stopped_end terms kit all line lines whole before now stop is playing stopped =
    let world = playing.world in
    stopped_end IsReported (step_at terms world line) (λ (after : World). played terms after lines) whole stop
    (sym (ap (λ (o : Outcome Moment). o.end) (ap (played terms world) is)) ∙ playing.end) (stopped terms world playing.stands)

pub playing_stopped : (terms : Terms) (kit : Kit) (all : List (List ℕ)) (line : List ℕ) (lines : List (List ℕ)) (whole : Outcome Moment) (before now later : Option (List ℕ)) (stop : Stop)
    → all ≡ line ∷ lines → Playing terms kit all whole before now
    → ((terms : Terms) (world : World) → Stands terms world kit → Stopped (step_at terms world line) stop)
    → ((terms : Terms) (world : World) → Stands terms world kit → Follows terms world → Grew now later (StoppedAt IsReported (step_at terms world line) stop))
    → Grew before later (Wrote IsReported whole (Err stop))
playing_stopped terms kit all line lines whole before now later stop is playing stopped at =
    let world = playing.world in
    grew_stopped IsReported before now later (played terms world all) (step_at terms world line) (λ (after : World). played terms after lines) whole stop
    (ap (played terms world) is) (stopped terms world playing.stands) playing.written (at terms world playing.stands playing.follows)

-- no line is left
last_is : (terms : Terms) (world : World) (kit : Kit) → Stands terms world kit → last_of kit.day ≡ length (trace terms.listing world.state.core.accepted)
last_is terms world kit stands = ap last_of stands.day

pub playing_done_end : (terms : Terms) (kit : Kit) (all : List (List ℕ)) (whole : Outcome Moment) (before now : Option (List ℕ)) (n : ℕ) → all ≡ [] → n ≡ last_of kit.day
    → Playing terms kit all whole before now → Ends whole (Ok (End n))
playing_done_end terms kit all whole before now n none count playing =
    sym playing.end ∙ ap (λ (l : List (List ℕ)). (played terms playing.world l).end) none
    ∙ ap (λ (m : ℕ). let e : Ended = Ok (End m) in Some e) (sym (count ∙ last_is terms playing.world kit playing.stands))

pub playing_done : (terms : Terms) (kit : Kit) (all : List (List ℕ)) (whole : Outcome Moment) (before now : Option (List ℕ)) (n : ℕ) → all ≡ [] → Playing terms kit all whole before now
    → Grew before now (Wrote IsReported whole (Ok (End n)))
playing_done terms kit all whole before now n none playing =
    grew_all IsReported before now (played terms playing.world all) whole (Ok (End n)) (ap (λ (l : List (List ℕ)). (played terms playing.world l).parts) none)
    (λ written all. all) playing.written
