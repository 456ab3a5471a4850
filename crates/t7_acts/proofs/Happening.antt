-- What an event accepts.
use Rattle.std.proofs.Common.{ℕ, Bool, true, false, cond, ℤ, List, [], ◌∷◌, ◌++◌, length, Option, Some, None}
use Rattle.std.specs.Prelude.{nat_le, nat_lt, ◌&&◌, ◌||◌}
use Rattle.t7_eti.specs.declared.reason.Reason.TheVariants.{BadLength}
use Rattle.t7_eti.specs.declared.response.Response.TheVariants as response
use Rattle.t7_book.specs.declared.command.Command.TheVariants as command
use Rattle.t7_frames.specs.Frames.{front_of}
use Rattle.t7_frames.specs.Split.{split_of}
use Rattle.t7_session.specs.declared.session.Beat.{Beat}
use Rattle.t7_session.specs.declared.session.Beat.TheVariants as beat
use Rattle.t7_session.specs.Heartbeats.{beat_of}
use Rattle.t7_orders.specs.Judged.{is_listed}
use Rattle.t7_entry.specs.ByNumber.{ByNumber, contains_key, get, keys, len}
use Rattle.t7_entry.specs.State.{Core, Input, Line, Setting, State, held_of, line_of, pure}
use Rattle.t7_entry.specs.Treatment.{treat}
use Rattle.t7_entry.specs.Events.{Bytes, Clear, Closed, Event, Opened, Result, Tick, bytes, bytes_at, clear, do_beat, end_frames, happens, is_bad, opened, refuse_open, tick_at, tick_each, treat_all, treat_bytes}
use Rattle.t7_acts.proofs.Adding.{Extends, Grows, by_test, none, then}
use Rattle.t7_acts.proofs.Treating.{accept-adds, close-adds, refuse-adds, send-adds, treat-adds}

module _ (setting : Setting) where
  all-adds : (moment conn : ℕ) (frames : List (List ℕ)) (core : Core) → Extends setting core (treat_all setting moment conn frames core)
  unfolding treat_all
  all-adds moment conn [] core = none setting core.accepted
  all-adds moment conn (frame ∷ frames) core =
      then setting core (treat setting moment conn frame core) (treat_all setting moment conn frames) (treat-adds setting moment conn frame core) (all-adds moment conn frames)

  open-adds : (moment conn : ℕ) (core : Core) (line : Option Line) → Extends setting core (refuse_open moment conn core line)
  open-adds moment conn core (Some line) = refuse-adds setting moment conn None BadLength core
  open-adds moment conn core None = none setting core.accepted

  end-adds : (moment conn : ℕ) (rest : List ℕ) (core : Core) → Extends setting core (end_frames moment conn rest core)
  unfolding end_frames
  end-adds moment conn rest core =
      by_test setting core (is_bad (front_of rest)) (refuse_open moment conn core (line_of core conn)) (pure core) (open-adds moment conn core (line_of core conn)) (none setting core.accepted)

  treat_bytes-adds : (moment conn : ℕ) (all : List ℕ) (core : Core) → Extends setting core (treat_bytes setting moment conn all core)
  unfolding treat_bytes
  treat_bytes-adds moment conn all core =
      then setting core (treat_all setting moment conn (split_of all).frames core) (end_frames moment conn (split_of all).rest)
      (all-adds moment conn (split_of all).frames core) (end-adds moment conn (split_of all).rest)

  -- a result accepts some
  abbrev pub Follows : State → Result → Type 0
  Follows state result = Grows setting state.core.accepted result.state.core.accepted result.doings

  bytes_at-adds : (moment conn : ℕ) (piece : List ℕ) (state : State) (input : Option Input) → Follows state (bytes_at setting moment conn piece state input)
  bytes_at-adds moment conn piece state (Some input) = treat_bytes-adds moment conn (input.untreated ++ piece) state.core
  bytes_at-adds moment conn piece state None = none setting state.core.accepted

  bytes-adds : (moment conn : ℕ) (piece : List ℕ) (state : State) → Follows state (bytes setting moment conn piece state)
  unfolding bytes
  bytes-adds moment conn piece state = bytes_at-adds moment conn piece state (get state.inputs conn)

  beat-adds : (moment conn : ℕ) (core : Core) (b : Beat) → Extends setting core (do_beat moment conn core b)
  beat-adds moment conn core beat.Nothing = none setting core.accepted
  beat-adds moment conn core beat.Send = send-adds setting moment conn response.Beat core
  beat-adds moment conn core beat.Close = close-adds setting conn core

  tick_at-adds : (moment conn : ℕ) (core : Core) (line : Option Line) (input : Option Input) → Extends setting core (tick_at moment conn core line input)
  tick_at-adds moment conn core (Some line) (Some input) = beat-adds moment conn core (beat_of (held_of line input) moment)
  tick_at-adds moment conn core (Some line) None = none setting core.accepted
  tick_at-adds moment conn core None input = none setting core.accepted

  tick_each-adds : (moment : ℕ) (inputs : ByNumber Input) (conns : List ℕ) (core : Core) → Extends setting core (tick_each moment inputs conns core)
  unfolding tick_each
  tick_each-adds moment inputs [] core = none setting core.accepted
  tick_each-adds moment inputs (conn ∷ conns) core =
      then setting core (tick_at moment conn core (line_of core conn) (get inputs conn)) (tick_each moment inputs conns)
      (tick_at-adds moment conn core (line_of core conn) (get inputs conn)) (tick_each-adds moment inputs conns)

  by_either : (state : State) (b : Bool) (first other : Result) → Follows state first → Follows state other → Follows state (cond b first other)
  by_either state true first other p q = p
  by_either state false first other p q = q

  opened-adds : (conn : ℕ) (state : State) → Follows state (opened conn state)
  opened-adds conn state =
      by_either state (contains_key state.inputs conn || nat_le 1024 (len state.inputs)) _ _ (none setting state.core.accepted) (none setting state.core.accepted)

  clear-adds : (security : ℤ) (moment : ℕ) (state : State) → Follows state (clear setting security moment state)
  clear-adds security moment state =
      by_either state (is_listed setting.listing security && nat_lt (length state.core.accepted) 200_000) _ _
      (accept-adds setting moment (command.Clear moment security) state.core) (none setting state.core.accepted)

  pub happens-adds : (state : State) (event : Event) → Follows state (happens setting state event)
  happens-adds state (Opened conn) = opened-adds conn state
  happens-adds state (Bytes conn piece moment) = bytes-adds moment conn piece state
  happens-adds state (Closed conn) = none setting state.core.accepted
  happens-adds state (Tick moment) = tick_each-adds moment state.inputs (keys state.inputs) state.core
  happens-adds state (Clear security moment) = clear-adds security moment state
