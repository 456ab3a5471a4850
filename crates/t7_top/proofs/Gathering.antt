-- The gatherer on the network.
use Rattle.std.proofs.Common.{◌≡◌, ◌≤◌, ℕ, List, [], Option, None, Some, Err, MatchOption, reverse, refl, sym, subst}
use Rattle.std.proofs.lemmas.List.{append-nil}
use Rattle.t7_base.specs.Outside.{Grew, Rose}
use Rattle.t7_base.proofs.Grown.{grew_as, grew_nothing}
use Rattle.t7_client.specs.Recovering.{Recovery}
use Rattle.t7_feed.specs.Arrivals.{Terms}
use Rattle.t7_gather.specs.Clauses.{EndsBy, OnDial, SentBy, TakesUpTo, WroteBy, conn_of}
use Rattle.t7_gather.specs.Gathering.{client_of, gathered, report_at}
use Rattle.t7_gather.specs.Turns.{turns}
use Rattle.t7_net.specs.Links.{LinkAsk, LinkSent}
use Rattle.t7_net.specs.declared.link.LinkItem.{LinkItem}
use Rattle.t7_outcome.specs.declared.ending.Stop.TheVariants.{ReadFault, WriteFault, NetFault, Memory}
use Rattle.t7_outcome.specs.Ending.{Ended}
use Rattle.t7_outcome.specs.Outcome.{Ends, FileSet, Outcome, Wrote, says}
use Rattle.t7_outcome.specs.Performing.{WroteSink}
use Rattle.t7_outcome.proofs.Lines.{fronts_all, fronts_none, spelled_says}
use Rattle.t7_top.specs.Jobs.{dialed_on, started}
use Rattle.t7_top.specs.Moments.{IsReported, Moment}
use Rattle.t7_top.specs.Network.{JobTook, Network}
use Rattle.t7_top.specs.Using.{GathererSent, Sent}
use Rattle.t7_top.specs.Words.{Gather}
use Rattle.t7_top.proofs.Growing.{grew_both}
use Rattle.t7_top.proofs.Reading.{sink_plain}
use Rattle.t7_top.proofs.Serving.{ends_other}

-- what a dial that failed leaves
abbrev pub Undialed : Ended → Option (List LinkItem) → Option (List LinkItem) → Option (List LinkSent) → Option (List LinkSent) → Option (List ℕ) → Option (List ℕ) → Type 0
Undialed ended events events_now sent sent_now p q = (ended ≡ Err NetFault) × (events_now ≡ events) × (sent_now ≡ sent) × (q ≡ p)

wrote_of : (count conn : ℕ) (client : Recovery) (events : List LinkItem) (ended : Ended) (w : List ℕ) → WroteBy (report_at conn client events) ended w
    → Wrote IsReported (gathered count conn client events) ended w
wrote_of count conn client events (Err WriteFault) w wrote =
    let due = report_at conn client events in (due, fronts_all IsReported (says due) due (spelled_says IsReported due), wrote)
wrote_of count conn client events (Err NetFault) w wrote = ([], [], fronts_none IsReported (says (report_at conn client events)), ([], refl), wrote)
wrote_of count conn client events (Err Memory) w wrote = ([], [], fronts_none IsReported (says (report_at conn client events)), ([], refl), wrote)
wrote_of count conn client events (Err ReadFault) w wrote =
    let due = report_at conn client events in (due, due, fronts_all IsReported (says due) due (spelled_says IsReported due), ([], append-nil due), wrote)
wrote_of count conn client events ended w wrote = let due = report_at conn client events in (due, spelled_says IsReported due, wrote)

-- where nothing was dialed
undialed_wrote : Wrote IsReported (record { names = []; parts = []; end = None }) (Err NetFault) []
undialed_wrote = ([], [], fronts_none IsReported [], ([], refl), refl)

module _ (o : Option FileSet) (old new : Network) (terms : Terms) (address : List ℕ) (session count : ℕ) (ended : Ended) (p q : Option (List ℕ)) (n m : ℕ)
    (below : n ≤ m) (fault : ended ≡ Err WriteFault → Rose n m) where
  abbrev Wants : Option ℕ → Type 0
  Wants conn = Grew old.events new.events (λ events. WroteSink IsReported (λ given. dialed_on terms session count conn (reverse events)) ended o p q n m)

  dialed : (conn : ℕ) → Grew old.events new.events (λ events. EndsBy count conn (client_of terms.layouts session) (reverse events) ended)
      → Grew old.events new.events (λ events. Grew p q (WroteBy (report_at conn (client_of terms.layouts session) (reverse events)) ended)) → Wants (Some conn)
  dialed conn ends wrote =
      let client = client_of terms.layouts session in
      grew_both old.events new.events (λ events. EndsBy count conn client (reverse events) ended)
      (λ events. Grew p q (WroteBy (report_at conn client (reverse events)) ended))
      (λ events. WroteSink IsReported (λ given. dialed_on terms session count (Some conn) (reverse events)) ended o p q n m) ends wrote
      (λ events end text.
      let plain : Outcome Moment = gathered count conn client (reverse events) in
      sink_plain o plain ended p q n m (ends_other (gathered {Moment = ⊥} count conn client (reverse events)) plain ended refl end)
      (grew_as p q (WroteBy (report_at conn client (reverse events)) ended) (Wrote IsReported plain ended) text (λ w. wrote_of count conn client (reverse events) ended w)) below fault)

  undialed : Undialed ended old.events new.events old.sent new.sent p q → Wants None
  undialed none =
      let plain : Outcome Moment = record { names = []; parts = []; end = None } in
      subst (λ (e : Option (List LinkItem)). Grew old.events e (λ events. WroteSink IsReported (λ given. plain) ended o p q n m)) (sym none.1)
      (grew_nothing old.events (λ events. WroteSink IsReported (λ given. plain) ended o p q n m)
      (sink_plain o plain ended p q n m (subst (λ (e : Ended). Ends plain e) (sym none.0) tt)
      (subst (λ (e : Ended). Grew p q (Wrote IsReported plain e)) (sym none.0)
      (subst (λ (r : Option (List ℕ)). Grew p r (Wrote IsReported plain (Err NetFault))) (sym none.3)
      (grew_nothing p (Wrote IsReported plain (Err NetFault)) undialed_wrote))) below fault))

  by_dial : (conn : Option ℕ) → MatchOption conn (Unit {0}) (λ c. Grew old.events new.events (λ events. EndsBy count c (client_of terms.layouts session) (reverse events) ended))
      → MatchOption conn (Unit {0}) (λ c. Grew old.events new.events (λ events. Grew p q (WroteBy (report_at c (client_of terms.layouts session) (reverse events)) ended)))
      → (conn ≡ None → Undialed ended old.events new.events old.sent new.sent p q) → Wants conn
  by_dial None ends wrote none = undialed (none refl)
  by_dial (Some conn) ends wrote none = dialed conn ends wrote

  pub gathered_sink : OnDial old.asked new.asked old.events new.events (λ conn events. EndsBy count conn (client_of terms.layouts session) events ended)
      → OnDial old.asked new.asked old.events new.events (λ conn events. Grew p q (WroteBy (report_at conn (client_of terms.layouts session) events) ended))
      → Grew old.asked new.asked (λ asks. conn_of asks ≡ None → Undialed ended old.events new.events old.sent new.sent p q)
      → JobTook (Gather address session count) old new (λ taken. WroteSink IsReported (started terms (Gather address session count) taken) ended o p q n m)
  gathered_sink ends wrote none =
      let Ending : List LinkAsk → Type 0 = λ (asks : List LinkAsk). MatchOption (conn_of asks) (Unit {0})
      (λ c. Grew old.events new.events (λ events. EndsBy count c (client_of terms.layouts session) (reverse events) ended)) in
      let Writing : List LinkAsk → Type 0 = λ (asks : List LinkAsk). MatchOption (conn_of asks) (Unit {0})
      (λ c. Grew old.events new.events (λ events. Grew p q (WroteBy (report_at c (client_of terms.layouts session) (reverse events)) ended))) in
      grew_both old.asked new.asked (λ asks. Ending asks × Writing asks) (λ asks. conn_of asks ≡ None → Undialed ended old.events new.events old.sent new.sent p q)
      (λ asks. Wants (conn_of asks))
      (grew_both old.asked new.asked Ending Writing (λ asks. Ending asks × Writing asks) ends wrote (λ asks x y. (x, y))) none
      (λ asks both un. by_dial (conn_of asks) both.0 both.1 un)

-- what a gatherer sent
module _ (old new : Network) (terms : Terms) (address : List ℕ) (session count : ℕ) (ended : Ended) (p q : Option (List ℕ)) where
  sent_by_dial : (conn : Option ℕ) → MatchOption conn (Unit {0}) (λ c. Grew old.events new.events (λ events. TakesUpTo count c (client_of terms.layouts session) (reverse events)))
      → MatchOption conn (Unit {0}) (λ c. Grew old.events new.events
      (λ events. Grew old.sent new.sent (SentBy c (turns c (client_of terms.layouts session) (reverse events)).sent ended)))
      → (conn ≡ None → Undialed ended old.events new.events old.sent new.sent p q)
      → Grew old.events new.events (λ events. GathererSent terms session count conn (reverse events) ended old new)
  sent_by_dial None takes sent none =
      let un = none refl in
      subst (λ (e : Option (List LinkItem)). Grew old.events e (λ events. new.sent ≡ old.sent)) (sym un.1) (grew_nothing old.events (λ events. new.sent ≡ old.sent) un.2)
  sent_by_dial (Some conn) takes sent none =
      let client = client_of terms.layouts session in
      grew_both old.events new.events (λ events. TakesUpTo count conn client (reverse events))
      (λ events. Grew old.sent new.sent (SentBy conn (turns conn client (reverse events)).sent ended))
      (λ events. GathererSent terms session count (Some conn) (reverse events) ended old new) takes sent (λ events x y. (x, y))

  pub gathered_sent : OnDial old.asked new.asked old.events new.events (λ conn events. TakesUpTo count conn (client_of terms.layouts session) events)
      → OnDial old.asked new.asked old.events new.events (λ conn events. Grew old.sent new.sent (SentBy conn (turns conn (client_of terms.layouts session) events).sent ended))
      → Grew old.asked new.asked (λ asks. conn_of asks ≡ None → Undialed ended old.events new.events old.sent new.sent p q)
      → JobTook (Gather address session count) old new (λ taken. Sent terms (Gather address session count) taken ended old new)
  gathered_sent takes sent none =
      let Taking : List LinkAsk → Type 0 = λ (asks : List LinkAsk). MatchOption (conn_of asks) (Unit {0})
      (λ c. Grew old.events new.events (λ events. TakesUpTo count c (client_of terms.layouts session) (reverse events))) in
      let Sending : List LinkAsk → Type 0 = λ (asks : List LinkAsk). MatchOption (conn_of asks) (Unit {0})
      (λ c. Grew old.events new.events (λ events. Grew old.sent new.sent (SentBy c (turns c (client_of terms.layouts session) (reverse events)).sent ended))) in
      grew_both old.asked new.asked (λ asks. Taking asks × Sending asks) (λ asks. conn_of asks ≡ None → Undialed ended old.events new.events old.sent new.sent p q)
      (λ asks. Grew old.events new.events (λ events. GathererSent terms session count (conn_of asks) (reverse events) ended old new))
      (grew_both old.asked new.asked Taking Sending (λ asks. Taking asks × Sending asks) takes sent (λ asks x y. (x, y))) none
      (λ asks both un. sent_by_dial (conn_of asks) both.0 both.1 un)
