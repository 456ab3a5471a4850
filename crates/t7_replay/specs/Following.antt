-- How the client of a world follows the exchange of that world.
use Rattle.std.specs.Prelude.{◌≡◌, ◌++◌, false, true, List, Option, None, Some, length}
use Rattle.t7_base.specs.Outside.{Begins}
use Rattle.t7_eti.specs.declared.response.Response.{Response}
use Rattle.t7_acts.specs.InStep.{setting_of}
use Rattle.t7_entry.specs.State.{State}
use Rattle.t7_feed.specs.Arrivals.{Terms}
use Rattle.t7_orders.specs.Answers.{responses}
use Rattle.t7_recover.specs.Entries.{AreEntries}
use Rattle.t7_client.specs.Fronts.{known_by, last_known}
use Rattle.t7_dialog.specs.Reaching.{AreInStep, KeepsUp, reached_by, unanswered}
use Rattle.t7_dialog.specs.Saying.{bytes_of}
use Rattle.t7_dialog.specs.Serving.{IsServed, IsTold, stored_for}
use Rattle.t7_replay.specs.Calling.{Calling, is_on_line}
use Rattle.t7_replay.specs.World.{World}

-- Of the responses that the exchange has said to the client since its last dial it has read the first. The bytes that it has not treated, and those that are on their
-- way behind them, are the others, each of which is the entry of its number, where it is recoverable. All that was said is in step, and the client keeps up with
-- what it has read of that.
pub record IsComing (terms : Terms) (said : List Response) (state : State) (calling : Calling) : Type 0 where
  pub read : List Response
  pub left : List Response
  pub parts : said ≡ read ++ left
  pub known : known_by calling.client ≡ last_known read None
  pub bytes : calling.client.rest ++ calling.coming ≡ bytes_of terms.layouts left
  pub entries : AreEntries (responses terms.listing state.core.accepted calling.session) left
  pub step : AreInStep unanswered said
  pub keeps_up : KeepsUp (reached_by unanswered read) (known_by calling.client) (length calling.client.gathered)

-- The client's list is a front of what is stored for its session. While it dialed and was not cut, what comes to it is what the exchange said; while it is on its
-- connection, order entry serves that as the client's, and has told it of all that are stored since it answered it.
pub record IsFollowing (terms : Terms) (said : List Response) (state : State) (calling : Calling) : Type 0 where
  pub session : calling.client.session ≡ calling.session
  pub layouts : calling.client.layouts ≡ terms.layouts
  pub front : Begins calling.client.gathered (responses terms.listing state.core.accepted calling.session)
  pub off : calling.client.dialed ≡ false → known_by calling.client ≡ None
  pub comes : calling.client.dialed ≡ true → IsComing terms said state calling
  pub served : is_on_line calling ≡ true → IsServed (setting_of terms) calling.conn calling.session calling.client.queue state
  pub told : is_on_line calling ≡ true → IsTold calling.conn calling.session (stored_for (setting_of terms) calling.session state.core) (reached_by unanswered said) state.core

-- so does a client that there may be
abbrev pub FollowsAs : Terms → List Response → State → Option Calling → Type 0
FollowsAs terms said state None = Unit {0}
FollowsAs terms said state (Some calling) = IsFollowing terms said state calling

-- the client of a world does
abbrev pub Follows : Terms → World → Type 0
Follows terms world = FollowsAs terms world.said world.state world.caller
