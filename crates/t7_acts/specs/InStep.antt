-- A day, and what was put on the live channel of it, in step with acts.
use Rattle.std.specs.Prelude.{◌≡◌, ℕ, ◌≤◌, List, ◌++◌, length}
use Rattle.t7_base.specs.declared.ids.Channel.TheVariants as channel
use Rattle.t7_book.specs.Acts.{Act, commands_of}
use Rattle.t7_greedy.specs.Cuts.{joined}
use Rattle.t7_entry.specs.Days.{Day, due, last_of}
use Rattle.t7_entry.specs.State.{Setting}
use Rattle.t7_feed.specs.Arrivals.{Terms}
use Rattle.t7_feed.specs.Sending.{sent_on}
use Rattle.t7_acts.specs.Next.{live_bytes}

-- the table and the product of the feed, as order entry has them
abbrev pub setting_of : Terms → Setting
setting_of terms = record { layouts = terms.layouts; listing = terms.listing }

-- A day is in step with acts: it has the same table and product, the commands of the acts were accepted, it counts the datagrams that were put on the
-- live channel, no more messages wait than there are, and the datagrams that were put and those that are due are together what the acts send there.
pub record IsInStep (terms : Terms) (acts : List Act) (day : Day) (put : List (List ℕ)) : Type 0 where
  pub setting : day.setting ≡ setting_of terms
  pub accepted : day.state.core.accepted ≡ commands_of acts
  pub live : day.live ≡ length put
  pub few : length (joined day.untold) ≤ last_of day
  pub whole : put ++ live_bytes terms (due day) ≡ sent_on terms acts channel.Live
