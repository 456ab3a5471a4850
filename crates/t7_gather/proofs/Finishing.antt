-- What the command comes to at each of its ends.
use Rattle.std.proofs.Common.{◌≡◌, ℕ, List, [], ◌∷◌, Bool, true, Option, None}
use Rattle.std.proofs.Common.{Some, Result, Ok, Err, IfErr, reverse, arith, refl, sym, ◌∙◌, ap, subst}
use Rattle.std.specs.Prelude.{MatchOption}
use Rattle.t7_base.specs.Outside.{Begins, Grew}
use Rattle.t7_base.proofs.Grown.{grew_as, grew_nothing}
use Rattle.t7_client.specs.Recovering.{Recovery}
use Rattle.t7_net.specs.Links.{Dialed, LinkAsk, LinkSent}
use Rattle.t7_net.specs.declared.link.LinkItem.{LinkItem}
use Rattle.t7_outcome.specs.declared.ending.Finish.{Finish}
use Rattle.t7_outcome.specs.declared.ending.Stop.{Stop}
use Rattle.t7_outcome.specs.declared.ending.Stop.TheVariants.{Memory, NetFault, ReadFault, WriteFault}
use Rattle.t7_outcome.specs.Ending.{Ended}
use Rattle.t7_outcome.specs.Outcome.{text_of}
use Rattle.t7_outcome.specs.Steps.{Prints}
use Rattle.t7_report.specs.Gathered.{gathered_lines}
use Rattle.t7_gather.specs.Clauses.{EndsBy, OnDial, SentBy, TakesUpTo, WroteBy, conn_of}
use Rattle.t7_gather.specs.Gathering.{end_by, report_at, report_by}
use Rattle.t7_gather.specs.Steps.{OfTurns, OnLink, Recovers}
use Rattle.t7_gather.specs.Turns.{turns}
use Rattle.t7_gather.proofs.Sending.{front_none}

-- What these events came to, the newest of which stands first.
pub record Gathers (count conn : ℕ) (client : Recovery) (ended : Ended) (s t : Option (List LinkSent)) (p q : Option (List ℕ))
    (events : List LinkItem) : Type 0 where
  pub end : EndsBy count conn client events ended
  pub taken : TakesUpTo count conn client events
  pub sent : Grew s t (SentBy conn (turns conn client events).sent ended)
  pub written : Grew p q (WroteBy (report_at conn client events) ended)

-- Where the dial succeeded, what holds of its connection and of the events behind it.
on_dial : (address : List ℕ) (conn : ℕ) (a b : Option (List LinkAsk)) (e f : Option (List LinkItem)) (P : ℕ → List LinkItem → Type 0)
    → Grew a b (λ asks. asks ≡ Dialed address (Some conn) ∷ [])
    → Grew e f (λ taken. P conn (reverse taken)) → OnDial a b e f P
on_dial address conn a b e f P asked taken =
    grew_as a b (λ asks. asks ≡ Dialed address (Some conn) ∷ [])
    (λ asks. MatchOption (conn_of asks) (Unit {0}) (λ conn. Grew e f (λ taken. P conn (reverse taken)))) asked
    (λ asks is. subst (λ (l : List LinkAsk). MatchOption (conn_of l) (Unit {0}) (λ conn. Grew e f (λ taken. P conn (reverse taken)))) (sym is) taken)

module _ (address : List ℕ) (count conn : ℕ) (client : Recovery) (ended : Ended) (a b : Option (List LinkAsk)) (e f : Option (List LinkItem))
    (s t : Option (List LinkSent)) (p q : Option (List ℕ))
    (asked : Grew a b (λ asks. asks ≡ Dialed address (Some conn) ∷ []))
    (all : Grew e f (λ taken. Gathers count conn client ended s t p q (reverse taken))) where
  pub told_end : OnDial a b e f (λ conn events. EndsBy count conn client events ended)
  told_end =
      on_dial address conn a b e f (λ conn events. EndsBy count conn client events ended) asked
      (grew_as e f (λ taken. Gathers count conn client ended s t p q (reverse taken)) (λ taken. EndsBy count conn client (reverse taken) ended) all
      (λ taken g. g.end))

  pub told_sent : OnDial a b e f (λ conn events. Grew s t (SentBy conn (turns conn client events).sent ended))
  told_sent =
      on_dial address conn a b e f (λ conn events. Grew s t (SentBy conn (turns conn client events).sent ended)) asked
      (grew_as e f (λ taken. Gathers count conn client ended s t p q (reverse taken))
      (λ taken. Grew s t (SentBy conn (turns conn client (reverse taken)).sent ended)) all (λ taken g. g.sent))

  pub told_written : OnDial a b e f (λ conn events. Grew p q (WroteBy (report_at conn client events) ended))
  told_written =
      on_dial address conn a b e f (λ conn events. Grew p q (WroteBy (report_at conn client events) ended)) asked
      (grew_as e f (λ taken. Gathers count conn client ended s t p q (reverse taken))
      (λ taken. Grew p q (WroteBy (report_at conn client (reverse taken)) ended)) all (λ taken g. g.written))

-- memory was wanting before anything was sent
pub gathers_none : (count conn : ℕ) (client : Recovery) (e f : Option (List LinkItem)) (s t : Option (List LinkSent)) (p : Option (List ℕ)) → f ≡ e → t ≡ s
    → Grew e f (λ taken. Gathers count conn client (Err Memory) s t p p (reverse taken))
gathers_none count conn client e f s t p same quiet =
    subst (λ (g : Option (List LinkItem)). Grew e g (λ taken. Gathers count conn client (Err Memory) s t p p (reverse taken))) (sym same)
    (grew_nothing e (λ taken. Gathers count conn client (Err Memory) s t p p (reverse taken)) (record {
      end = tt;
      taken = (omega arith, tt);
      sent = subst (λ (u : Option (List LinkSent)). Grew s u (SentBy conn (turns conn client []).sent (let e : Ended = Err Memory in e))) (sym quiet)
          (grew_nothing s (SentBy conn (turns conn client []).sent (let e : Ended = Err Memory in e)) (front_none conn (turns conn client []).sent));
      written = grew_nothing p (WroteBy (report_at conn client []) (let e : Ended = Err Memory in e)) refl;
    }))

-- the connection and the client are these ones
pub recovers_on : (count conn k : ℕ) (client first now : Recovery) (r : Ended) (e f : Option (List LinkItem)) (s t : Option (List LinkSent)) → k ≡ conn
    → first ≡ client
    → OnLink e f s t (λ taken. Recovers count k first now r (reverse taken)) (λ taken. SentBy k (turns k first (reverse taken)).sent r)
    → OnLink e f s t (λ taken. Recovers count conn client now r (reverse taken)) (λ taken. SentBy conn (turns conn client (reverse taken)).sent r)
recovers_on count conn k client first now r e f s t is same all =
    subst (λ (x : Recovery). OnLink e f s t (λ taken. Recovers count conn x now r (reverse taken))
    (λ taken. SentBy conn (turns conn x (reverse taken)).sent r)) same
    (subst (λ (n : ℕ). OnLink e f s t (λ taken. Recovers count n first now r (reverse taken))
    (λ taken. SentBy n (turns n first (reverse taken)).sent r)) is all)

-- no report is due where it was stopped
report_none : (o : Option Ended) (all : Bool) (client now : Recovery) (stop : Stop) → end_by o all client ≡ Some (Err stop) → report_by o now ≡ []
report_none None all client now stop is = refl
report_none (Some (Ok finish)) all client now stop is = cc
report_none (Some (Err other)) all client now stop is = refl

nothing_by : (count conn : ℕ) (client : Recovery) (events : List LinkItem) (stop : Stop) → OfTurns stop → EndsBy count conn client events (Err stop)
    → WroteBy (report_at conn client events) (let e : Ended = Err stop in e) []
nothing_by count conn client events NetFault of is = refl
nothing_by count conn client events Memory of is = refl
nothing_by count conn client events WriteFault of is = absurd of
nothing_by count conn client events ReadFault of is = absurd of
nothing_by count conn client events stop of is =
    ap text_of (sym (report_none (turns conn client events).ended _ (turns conn client events).client (turns conn client events).client stop is))

-- The client recovered, or it was stopped.
module _ (count conn : ℕ) (client now : Recovery) (r : Ended) (e f g : Option (List LinkItem)) (s t u : Option (List LinkSent)) (first : f ≡ e) (before : t ≡ s)
    (all : OnLink f g t u (λ taken. Recovers count conn client now r (reverse taken)) (λ taken. SentBy conn (turns conn client (reverse taken)).sent r)) where
  from_start : OnLink e g s u (λ taken. Recovers count conn client now r (reverse taken)) (λ taken. SentBy conn (turns conn client (reverse taken)).sent r)
  from_start =
      subst (λ (x : Option (List LinkItem)). OnLink x g s u (λ taken. Recovers count conn client now r (reverse taken))
      (λ taken. SentBy conn (turns conn client (reverse taken)).sent r)) first
      (subst (λ (x : Option (List LinkSent)). OnLink f g x u (λ taken. Recovers count conn client now r (reverse taken))
      (λ taken. SentBy conn (turns conn client (reverse taken)).sent r)) before all)

  stopped_as : (p : Option (List ℕ)) (stop : Stop) (events : List LinkItem) → OfTurns stop → Recovers count conn client now (Err stop) events
      → Grew s u (SentBy conn (turns conn client events).sent (let e : Ended = Err stop in e)) → Gathers count conn client (Err stop) s u p p events
  stopped_as p stop events of recovers sent = record {
    end = recovers.end;
    taken = recovers.taken;
    sent = sent;
    written =
        grew_nothing p (WroteBy (report_at conn client events) (let e : Ended = Err stop in e)) (nothing_by count conn client events stop of recovers.end);
  }

  pub gathers_stopped : (p : Option (List ℕ)) (stop : Stop) (ended : Ended) → r ≡ Err stop → ended ≡ Err stop → IfErr r OfTurns
      → Grew e g (λ taken. Gathers count conn client ended s u p p (reverse taken))
  gathers_stopped p stop ended is ends only =
      let of : OfTurns stop = subst (λ (r : Ended). IfErr r OfTurns) is only in
      subst (λ (ended : Ended). Grew e g (λ taken. Gathers count conn client ended s u p p (reverse taken))) (sym ends)
      (grew_as e g (λ (taken : List LinkItem). Recovers count conn client now r (reverse taken) × Grew s u
      (SentBy conn (turns conn client (reverse taken)).sent r))
      (λ taken. Gathers count conn client (Err stop) s u p p (reverse taken)) from_start
      (λ taken both. stopped_as p stop (reverse taken) of (subst (λ (r : Ended). Recovers count conn client now r (reverse taken)) is both.0)
      (subst (λ (r : Ended). Grew s u (SentBy conn (turns conn client (reverse taken)).sent r)) is both.1)))

  -- the report is that of what the client has gathered
  report_is : (finish : Finish) (events : List LinkItem) → r ≡ Ok finish → Recovers count conn client now r events
      → gathered_lines true now.gathered ≡ report_at conn client events
  report_is finish events is recovers =
      let at = recovers.at_end finish is in
      ap (λ (c : Recovery). gathered_lines true c.gathered) at.0 ∙ ap (λ (o : Option Ended). report_by o (turns conn client events).client) (sym at.1)

  -- it was printed whole
  whole_as : (p q : Option (List ℕ)) (finish : Finish) (events : List LinkItem) → Recovers count conn client now (Ok finish) events → r ≡ Ok finish
      → Grew s u (SentBy conn (turns conn client events).sent (let e : Ended = Ok finish in e))
      → Grew p q (λ w. w ≡ text_of (gathered_lines true now.gathered)) → Gathers count conn client (Ok finish) s u p q events
  whole_as p q finish events recovers is sent printed = record {
    end = recovers.end;
    taken = recovers.taken;
    sent = sent;
    written = subst (λ (l : List (List ℕ)). Grew p q (λ w. w ≡ text_of l))
        (report_is finish events is (subst (λ (r : Ended). Recovers count conn client now r events) (sym is) recovers)) printed;
  }

  pub gathers_whole : {T : Type 0} (p q : Option (List ℕ)) (finish : Finish) (out : Result T Stop) (x : T) → r ≡ Ok finish → out ≡ Ok x
      → Grew p q (Prints (gathered_lines true now.gathered) out) → Grew e g (λ taken. Gathers count conn client (Ok finish) s u p q (reverse taken))
  gathers_whole {T} p q finish out x is ok printed =
      let text = subst (λ (o : Result T Stop). Grew p q (Prints (gathered_lines true now.gathered) o)) ok printed in
      grew_as e g (λ (taken : List LinkItem). Recovers count conn client now r (reverse taken) × Grew s u
      (SentBy conn (turns conn client (reverse taken)).sent r))
      (λ taken. Gathers count conn client (Ok finish) s u p q (reverse taken)) from_start
      (λ taken both. whole_as p q finish (reverse taken) (subst (λ (r : Ended). Recovers count conn client now r (reverse taken)) is both.0) is
      (subst (λ (r : Ended). Grew s u (SentBy conn (turns conn client (reverse taken)).sent r)) is both.1) text)

  -- a write fault cut it off
  cut_as : (p q : Option (List ℕ)) (finish : Finish) (events : List LinkItem) → Recovers count conn client now r events → r ≡ Ok finish
      → Grew s u (SentBy conn (turns conn client events).sent (let e : Ended = Ok finish in e))
      → Grew p q (λ w. Begins w (text_of (gathered_lines true now.gathered))) → Gathers count conn client (Err WriteFault) s u p q events
  cut_as p q finish events recovers is sent printed = record {
    end = tt;
    taken = recovers.taken;
    sent = sent;
    written = subst (λ (l : List (List ℕ)). Grew p q (λ w. Begins w (text_of l))) (report_is finish events is recovers) printed;
  }

  pub gathers_cut : {T : Type 0} (p q : Option (List ℕ)) (finish : Finish) (out : Result T Stop) (ended : Ended) → r ≡ Ok finish → out ≡ Err WriteFault
      → ended ≡ Err WriteFault
      → Grew p q (Prints (gathered_lines true now.gathered) out) → Grew e g (λ taken. Gathers count conn client ended s u p q (reverse taken))
  gathers_cut {T} p q finish out ended is bad ends printed =
      let text = subst (λ (o : Result T Stop). Grew p q (Prints (gathered_lines true now.gathered) o)) bad printed in
      subst (λ (ended : Ended). Grew e g (λ taken. Gathers count conn client ended s u p q (reverse taken))) (sym ends)
      (grew_as e g (λ (taken : List LinkItem). Recovers count conn client now r (reverse taken) × Grew s u
      (SentBy conn (turns conn client (reverse taken)).sent r))
      (λ taken. Gathers count conn client (Err WriteFault) s u p q (reverse taken)) from_start
      (λ taken both. cut_as p q finish (reverse taken) both.0 is
      (subst (λ (r : Ended). Grew s u (SentBy conn (turns conn client (reverse taken)).sent r)) is both.1) text))
