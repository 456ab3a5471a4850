-- A command's words, as the program keeps them.
use Rattle.std.specs.Prelude.{◌≤◌, Option}
use Rattle.std.specs.Option.{option_map}
use Rattle.t7_top.specs.declared.words.Invocation.{Invocation}
use Rattle.t7_top.specs.declared.words.Invocation.TheVariants.{Over, Check, Drill, Help, Version}
use Rattle.t7_top.specs.declared.words.Feeds.{Feeds}
use Rattle.t7_top.specs.declared.words.Job.{Job}
use Rattle.t7_top.specs.declared.words.Job.TheVariants.{Replay, Exchange, Member, Gather}
use Rattle.t7_top.specs.Words as words

-- the addresses that the program keeps
abbrev pub feeds_meant : Feeds → words.Feeds
feeds_meant feeds = record {
  live_a = feeds.live_a.now;
  live_b = feeds.live_b.now;
  snap_a = feeds.snap_a.now;
  snap_b = feeds.snap_b.now;
}

-- the job that the program keeps
abbrev pub job_meant : Job → words.Job
job_meant (Replay script) = words.Replay script.now
job_meant (Exchange listen feeds count) = words.Exchange listen.now (feeds_meant feeds) count
job_meant (Member feeds count) = words.Member (feeds_meant feeds) count
job_meant (Gather address session count) = words.Gather address.now session count

-- the command that the program keeps
abbrev pub command_meant : Invocation → words.Invocation
command_meant (Over table product job) = words.Over table.now product.now (job_meant job)
command_meant (Check table) = words.Check table.now
command_meant (Drill seed orders) = words.Drill seed orders
command_meant Help = words.Help
command_meant Version = words.Version

-- the same, where the words are one
abbrev pub meant : Option Invocation → Option words.Invocation
meant command = option_map command_meant command

-- its COUNT, where it has one, is at most 1,000,000,000, and its SESSION is one of a product
abbrev pub IsWithinJob : Job → Type 0
IsWithinJob (Replay script) = Unit {0}
IsWithinJob (Exchange listen feeds count) = count ≤ 1_000_000_000
IsWithinJob (Member feeds count) = count ≤ 1_000_000_000
IsWithinJob (Gather address session count) = (1 ≤ session) × (session ≤ 4_000_000_000) × (count ≤ 1_000_000_000)

-- its numbers are so, and its ORDERS are at most 20,000
abbrev pub IsWithin : Invocation → Type 0
IsWithin (Over table product job) = IsWithinJob job
IsWithin (Drill seed orders) = orders ≤ 20_000
IsWithin _ = Unit {0}
