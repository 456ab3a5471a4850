-- What the network and the clock tell, and what a command took from them.
use Rattle.std.specs.Prelude.{ℕ, List, [], Option, Some}
use Rattle.t7_base.specs.Outside.{Grew}
use Rattle.t7_net.specs.Lines.{Bind, Casting}
use Rattle.t7_net.specs.Links.{LinkAsk, LinkSent}
use Rattle.t7_net.specs.declared.line.LineItem.{LineItem}
use Rattle.t7_net.specs.declared.link.LinkItem.{LinkItem}
use Rattle.t7_top.specs.Words.{Invocation, Over, Job, Replay, Exchange, Member, Gather}

-- what the network and the clock tell: of the link what it was asked, took and sent, of the lines the same, and the moments that were given
pub record Network : Type 0 where
  pub asked : Option (List LinkAsk)
  pub events : Option (List LinkItem)
  pub sent : Option (List LinkSent)
  pub bound : Option (List Bind)
  pub receipts : Option (List LineItem)
  pub cast : Option (List Casting)
  pub moments : Option (List ℕ)

-- the same from its parts, in that order
abbrev pub seen : Option (List LinkAsk) → Option (List LinkItem) → Option (List LinkSent) → Option (List Bind) → Option (List LineItem)
    → Option (List Casting) → Option (List ℕ) → Network
seen asked events sent bound receipts cast moments =
    record { asked = asked; events = events; sent = sent; bound = bound; receipts = receipts; cast = cast; moments = moments }

-- What a command took from outside, beside its files: the dials that it asked for, with their connections; the events of connections, the receipts of
-- lines, and moments. In each list the oldest stands first.
pub record Intake : Type 0 where
  pub dials : List LinkAsk
  pub events : List LinkItem
  pub receipts : List LineItem
  pub moments : List ℕ

-- nothing
abbrev pub no_intake : Intake
no_intake = record { dials = []; events = []; receipts = []; moments = [] }

-- Where the objects that a job takes from tell it, P holds of what it took.
abbrev pub JobTook : Job → Network → Network → (Intake → Type 0) → Type 0
JobTook (Replay script) old new P = P no_intake
JobTook (Exchange listen feeds count) old new P =
    Grew old.events new.events (λ events. Grew old.moments new.moments (λ moments. P (record no_intake { events = events; moments = moments })))
JobTook (Member feeds count) old new P = Grew old.receipts new.receipts (λ receipts. P (record no_intake { receipts = receipts }))
JobTook (Gather address session count) old new P =
    Grew old.asked new.asked (λ dials. Grew old.events new.events (λ events. P (record no_intake { dials = dials; events = events })))

-- The same of a command: only the jobs of the network take anything.
abbrev pub Took : Option Invocation → Network → Network → (Intake → Type 0) → Type 0
Took (Some (Over table product job)) old new P = JobTook job old new P
Took command old new P = P no_intake
