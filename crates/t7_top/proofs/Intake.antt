-- What holds of what a command took.
use Rattle.std.proofs.Common.{[], Option, None, Some}
use Rattle.t7_base.specs.Outside.{Grew}
use Rattle.t7_base.proofs.Grown.{grew_as, grew_nothing}
use Rattle.t7_top.specs.Network.{JobTook, Network, Intake, Took, no_intake}
use Rattle.t7_top.specs.Words.{Invocation, Over, Check, Drill, Help, Version, Job, Replay, Exchange, Member, Gather}

-- what holds of anything that is taken, where nothing was
pub job_still : (job : Job) (net : Network) (P : Intake → Type 0) → ((taken : Intake) → P taken) → JobTook job net net P
job_still (Replay script) net P each = each no_intake
job_still (Exchange listen feeds count) net P each =
    grew_nothing net.events (λ events. Grew net.moments net.moments (λ moments. P (record no_intake { events = events; moments = moments })))
    (grew_nothing net.moments (λ moments. P (record no_intake { events = []; moments = moments })) (each no_intake))
job_still (Member feeds count) net P each = grew_nothing net.receipts (λ receipts. P (record no_intake { receipts = receipts })) (each no_intake)
job_still (Gather address session count) net P each =
    grew_nothing net.asked (λ dials. Grew net.events net.events (λ events. P (record no_intake { dials = dials; events = events })))
    (grew_nothing net.events (λ events. P (record no_intake { dials = []; events = events })) (each no_intake))

-- what follows from what holds of what was taken
pub job_as : (job : Job) (old new : Network) (P Q : Intake → Type 0) → JobTook job old new P → ((taken : Intake) → P taken → Q taken) → JobTook job old new Q
job_as (Replay script) old new P Q took each = each no_intake took
job_as (Exchange listen feeds count) old new P Q took each =
    grew_as old.events new.events (λ events. Grew old.moments new.moments (λ moments. P (record no_intake { events = events; moments = moments })))
    (λ events. Grew old.moments new.moments (λ moments. Q (record no_intake { events = events; moments = moments }))) took
    (λ events more. grew_as old.moments new.moments (λ moments. P (record no_intake { events = events; moments = moments }))
    (λ moments. Q (record no_intake { events = events; moments = moments })) more (λ moments holds. each (record no_intake { events = events; moments = moments }) holds))
job_as (Member feeds count) old new P Q took each =
    grew_as old.receipts new.receipts (λ receipts. P (record no_intake { receipts = receipts }))
    (λ receipts. Q (record no_intake { receipts = receipts })) took (λ receipts holds. each (record no_intake { receipts = receipts }) holds)
job_as (Gather address session count) old new P Q took each =
    grew_as old.asked new.asked (λ dials. Grew old.events new.events (λ events. P (record no_intake { dials = dials; events = events })))
    (λ dials. Grew old.events new.events (λ events. Q (record no_intake { dials = dials; events = events }))) took
    (λ dials more. grew_as old.events new.events (λ events. P (record no_intake { dials = dials; events = events }))
    (λ events. Q (record no_intake { dials = dials; events = events })) more (λ events holds. each (record no_intake { dials = dials; events = events }) holds))

-- the same of a command
pub still : (command : Option Invocation) (net : Network) (P : Intake → Type 0) → ((taken : Intake) → P taken) → Took command net net P
still None net P each = each no_intake
still (Some (Over table product job)) net P each = job_still job net P each
still (Some (Check table)) net P each = each no_intake
still (Some (Drill seed orders)) net P each = each no_intake
still (Some Help) net P each = each no_intake
still (Some Version) net P each = each no_intake

pub took_as : (command : Option Invocation) (old new : Network) (P Q : Intake → Type 0) → Took command old new P → ((taken : Intake) → P taken → Q taken) → Took command old new Q
took_as None old new P Q took each = each no_intake took
took_as (Some (Over table product job)) old new P Q took each = job_as job old new P Q took each
took_as (Some (Check table)) old new P Q took each = each no_intake took
took_as (Some (Drill seed orders)) old new P Q took each = each no_intake took
took_as (Some Help) old new P Q took each = each no_intake took
took_as (Some Version) old new P Q took each = each no_intake took
