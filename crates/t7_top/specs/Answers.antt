-- The answers that a command may give.
use Rattle.std.specs.Prelude.{Option, None, Some}
use Rattle.t7_outcome.specs.declared.ending.Status.{Status}
use Rattle.t7_outcome.specs.declared.ending.Status.TheVariants as status
use Rattle.t7_top.specs.Words.{Invocation, Over, Check, Drill, Help, Version, Job, Replay, Exchange, Member, Gather}

-- The answers to words that are no form of a command; here and below the last line may meet a write fault.
abbrev pub RefusesWords : Status → Type 0
RefusesWords status.Usage = Unit {0}
RefusesWords status.WriteFault = Unit {0}
RefusesWords _ = ⊥

-- the answers of a command that prints a text
abbrev pub TellsText : Status → Type 0
TellsText status.Done = Unit {0}
TellsText status.WriteFault = Unit {0}
TellsText _ = ⊥

-- the answers of `check`
abbrev pub ChecksTable : Status → Type 0
ChecksTable status.Done = Unit {0}
ChecksTable status.Layout = Unit {0}
ChecksTable status.ReadFault = Unit {0}
ChecksTable status.WriteFault = Unit {0}
ChecksTable status.TooLong = Unit {0}
ChecksTable status.Memory = Unit {0}
ChecksTable _ = ⊥

-- the answers of `drill`
abbrev pub Exercises : Status → Type 0
Exercises status.Done = Unit {0}
Exercises status.WriteFault = Unit {0}
Exercises status.Memory = Unit {0}
Exercises _ = ⊥

-- the answers of a job: those that its files bring; beside them a line of a script brings one, and a socket; and `gather` may end by its peer or unfinished
abbrev pub DoesJob : Job → Status → Type 0
DoesJob job status.Done = Unit {0}
DoesJob job status.Layout = Unit {0}
DoesJob job status.Product = Unit {0}
DoesJob job status.ReadFault = Unit {0}
DoesJob job status.WriteFault = Unit {0}
DoesJob job status.TooLong = Unit {0}
DoesJob job status.Memory = Unit {0}
DoesJob (Replay script) status.Script = Unit {0}
DoesJob (Exchange listen feeds count) status.NetFault = Unit {0}
DoesJob (Member feeds count) status.NetFault = Unit {0}
DoesJob (Gather address session count) status.NetFault = Unit {0}
DoesJob (Gather address session count) status.Peer = Unit {0}
DoesJob (Gather address session count) status.Unfinished = Unit {0}
DoesJob job _ = ⊥

-- The answers that a command may give at all, whatever the files hold and the network gives.
abbrev pub MayAnswer : Option Invocation → Status → Type 0
MayAnswer None answer = RefusesWords answer
MayAnswer (Some (Over table product job)) answer = DoesJob job answer
MayAnswer (Some (Check table)) answer = ChecksTable answer
MayAnswer (Some (Drill seed orders)) answer = Exercises answer
MayAnswer (Some Help) answer = TellsText answer
MayAnswer (Some Version) answer = TellsText answer
