-- Events that are taken one after another.
use Rattle.std.proofs.Common.{◌≡◌, ℕ, ◌+◌, ◌<◌, ◌≤◌, inl, inr, List, [], ◌∷◌, ◌++◌}
use Rattle.std.proofs.Common.{◌==◌, length, reverse, Option, None, Some, Result, Ok, Err, arith, refl, sym, ◌∙◌, ap, subst}
use Rattle.std.proofs.lemmas.List.{append-nil, reverse-append}
use Rattle.t7_client.specs.Recovering.{Recovery}
use Rattle.t7_net.specs.Links.{LinkSent}
use Rattle.t7_net.specs.declared.link.LinkItem.{LinkItem}
use Rattle.t7_outcome.specs.declared.ending.Finish.{Finish}
use Rattle.t7_outcome.specs.declared.ending.Stop.{Stop}
use Rattle.t7_outcome.specs.declared.ending.Stop.TheVariants.{Memory, NetFault, ReadFault, WriteFault}
use Rattle.t7_outcome.specs.Ending.{Ended}
use Rattle.t7_outcome.specs.Outcome.{Ends, Outcome}
use Rattle.t7_gather.specs.Clauses.{NoneBehind, SentBy, SentOn, TakesUpTo}
use Rattle.t7_gather.specs.Gathering.{end_by, gathered}
use Rattle.t7_gather.specs.Steps.{IsFault, IsTurned, Recovers, SentAt, Stepped, answered, due_at}
use Rattle.t7_gather.specs.Turns.{Turn, turn_behind, turn_of, turns}
use Rattle.t7_gather.proofs.Sending.{front_more, sent_more}

-- So many events were taken, which led here, and the run goes on.
pub record Goes (conn number : ℕ) (client now : Recovery) (events : List LinkItem) : Type 0 where
  pub count : length events ≡ number
  pub leaves : now ≡ (turns conn client events).client
  pub going : (turns conn client events).ended ≡ None
  pub behind : NoneBehind conn client events

-- the next turn
turns_next : (conn : ℕ) (client mid : Recovery) (event : LinkItem) (before : List LinkItem) → mid ≡ (turns conn client before).client
    → (turns conn client before).ended ≡ None
    → turns conn client (event ∷ before) ≡ record (turn_of conn event mid) { sent = (turns conn client before).sent ++ (turn_of conn event mid).sent }
turns_next conn client mid event before is going =
    ap (λ (c : Recovery). turn_behind (turns conn client before) (turns conn client before).ended (turn_of conn event c)) (sym is)
    ∙ ap (λ (e : Option Ended). turn_behind (turns conn client before) e (turn_of conn event mid)) going

-- the newest stands first
newest : (xs ys : List LinkItem) (event : LinkItem) → ys ≡ event ∷ [] → event ∷ reverse xs ≡ reverse (xs ++ ys)
newest xs ys event is = sym (reverse-append xs (event ∷ [])) ∙ ap (λ (l : List LinkItem). reverse (xs ++ l)) (sym is)

-- So many events were taken, and the last of them was answered so.
pub record Came (conn number : ℕ) (client now : Recovery) (answer : Result (Option Finish) Stop) (events : List LinkItem) : Type 0 where
  pub count : length events ≡ number
  pub leaves : now ≡ (turns conn client events).client
  pub answers : answer ≡ answered (turns conn client events).ended
  pub behind : NoneBehind conn client events

came_as : (conn number : ℕ) (client mid now : Recovery) (answer : Result (Option Finish) Stop) (event : LinkItem) (before : List LinkItem)
    → Goes conn number client mid before
    → now ≡ (turn_of conn event mid).client → answer ≡ answered (turn_of conn event mid).ended → Came conn (number + 1) client now answer (event ∷ before)
came_as conn number client mid now answer event before goes is ends =
    let next = turns_next conn client mid event before goes.leaves goes.going in record {
      count = more goes.count;
      leaves = is ∙ ap (λ (t : Turn). t.client) (sym next);
      answers = ends ∙ ap (λ (t : Turn). answered t.ended) (sym next);
      behind = goes.going;
    }
  where
    more : length before ≡ number → length (event ∷ before) ≡ number + 1
    more is = omega arith

pub came : (conn number : ℕ) (client mid now : Recovery) (answer : Result (Option Finish) Stop) (xs vs : List LinkItem)
    → Goes conn number client mid (reverse xs)
    → IsTurned conn mid now answer vs → Came conn (number + 1) client now answer (reverse (xs ++ vs))
came conn number client mid now answer xs vs goes turned =
    subst (λ (l : List LinkItem). Came conn (number + 1) client now answer l) (newest xs vs turned.event turned.one)
    (came_as conn number client mid now answer turned.event (reverse xs) goes turned.leaves turned.answers)

-- What is due behind the events before and this call.
due_more : (conn number : ℕ) (client mid : Recovery) (xs vs : List LinkItem) → Goes conn number client mid (reverse xs) → length vs ≤ 1
    → (turns conn client (reverse (xs ++ vs))).sent ≡ (turns conn client (reverse xs)).sent ++ due_at conn mid vs
due_more conn number client mid xs [] goes few =
    ap (λ (l : List LinkItem). (turns conn client (reverse l)).sent) (append-nil xs) ∙ sym (append-nil (turns conn client (reverse xs)).sent)
due_more conn number client mid xs (event ∷ []) goes few =
    ap (λ (l : List LinkItem). (turns conn client l).sent) (sym (newest xs (event ∷ []) event refl))
    ∙ ap (λ (t : Turn). t.sent) (turns_next conn client mid event (reverse xs) goes.leaves goes.going)
due_more conn number client mid xs (event ∷ other ∷ more) goes few = absurd (omega arith)

one_turned : (conn : ℕ) (client now : Recovery) (answer : Result (Option Finish) Stop) (vs : List LinkItem) → Stepped conn client now answer vs → length vs ≤ 1
one_turned conn client now answer vs (inl turned) = subst (λ (l : List LinkItem). length l ≤ 1) (sym turned.one) (omega arith)
one_turned conn client now answer vs (inr cut) = cut.1

-- it was sent too
more_as : {T : Type 0} (conn : ℕ) (a b : List ℕ) (answer : Result T Stop) (ys ws : List LinkSent) → SentOn conn a ys → SentBy conn b answer ws
    → SentBy conn (a ++ b) answer (ys ++ ws)
more_as conn a b (Ok done) ys ws front back = sent_more conn a b ys ws front back
more_as conn a b (Err NetFault) ys ws front back = front_more conn a b ys ws front back
more_as conn a b (Err Memory) ys ws front back = front_more conn a b ys ws front back
more_as conn a b (Err stop) ys ws front back = sent_more conn a b ys ws front back

pub sent_next : (conn number : ℕ) (client mid now : Recovery) (answer : Result (Option Finish) Stop) (xs vs : List LinkItem) (ys ws : List LinkSent)
    → Goes conn number client mid (reverse xs) → Stepped conn mid now answer vs → SentOn conn (turns conn client (reverse xs)).sent ys
    → SentAt conn mid answer vs ws
    → SentBy conn (turns conn client (reverse (xs ++ vs))).sent answer (ys ++ ws)
sent_next conn number client mid now answer xs vs ys ws goes step front back =
    subst (λ (l : List ℕ). SentBy conn l answer (ys ++ ws)) (sym (due_more conn number client mid xs vs goes (one_turned conn mid now answer vs step)))
    (more_as conn (turns conn client (reverse xs)).sent (due_at conn mid vs) answer ys ws front back)

-- the answers and their ends
none_answered : (e : Option Ended) → answered e ≡ Ok None → e ≡ None
none_answered None is = refl
none_answered (Some (Ok finish)) is = cc
none_answered (Some (Err stop)) is = cc

one_answered : (e : Option Ended) (finish : Finish) → answered e ≡ Ok (Some finish) → e ≡ Some (Ok finish)
one_answered None finish is = cc
one_answered (Some (Ok other)) finish is = cc
one_answered (Some (Err stop)) finish is = cc

stop_answered : (e : Option Ended) (stop : Stop) → answered e ≡ Err stop → e ≡ Some (Err stop)
stop_answered None stop is = cc
stop_answered (Some (Ok finish)) stop is = cc
stop_answered (Some (Err other)) stop is = cc

-- a fault is no answer that goes on
fault_not : (x : Option Finish) (answer : Result (Option Finish) Stop) → answer ≡ Ok x → IsFault answer → ⊥
fault_not x answer is (inl net) = cc
fault_not x answer is (inr memory) = cc

-- one event more was taken, and the run goes on
pub goes_next : (conn number : ℕ) (client mid now : Recovery) (answer : Result (Option Finish) Stop) (xs vs : List LinkItem) → answer ≡ Ok None
    → Goes conn number client mid (reverse xs) → Stepped conn mid now answer vs → Goes conn (number + 1) client now (reverse (xs ++ vs))
goes_next conn number client mid now answer xs vs is goes (inl turned) =
    let next = came conn number client mid now answer xs vs goes turned in record {
      count = next.count;
      leaves = next.leaves;
      going = none_answered (turns conn client (reverse (xs ++ vs))).ended (sym next.answers ∙ is);
      behind = next.behind;
    }
goes_next conn number client mid now answer xs vs is goes (inr cut) = absurd (fault_not None answer is cut.0)

-- an end that comes out is its own
ends_at : (plain : Outcome ⊥) (e : Ended) → plain.end ≡ Some e → Ends plain e
ends_at plain (Ok finish) is = is
ends_at plain (Err ReadFault) is = tt
ends_at plain (Err WriteFault) is = tt
ends_at plain (Err NetFault) is = tt
ends_at plain (Err Memory) is = tt
ends_at plain (Err stop) is = is

-- a fault may come whatever comes out
fault_ends : (plain : Outcome ⊥) (e : Ended) → IsFault e → Ends plain e
fault_ends plain e (inl net) = subst (λ (e : Ended). Ends plain e) (sym net) tt
fault_ends plain e (inr memory) = subst (λ (e : Ended). Ends plain e) (sym memory) tt

ended_not : (e : Ended) (finish : Finish) → e ≡ Ok finish → IsFault e → ⊥
ended_not e finish is (inl net) = cc
ended_not e finish is (inr memory) = cc

-- an event ended the run
ended_as : (count conn number : ℕ) (client now : Recovery) (answer : Result (Option Finish) Stop) (e : Ended) (events : List LinkItem) → number ≤ count
    → Came conn number client now answer events → (turns conn client events).ended ≡ Some e → Recovers count conn client now e events
ended_as count conn number client now answer e events few came is = record {
  end = ends_at (gathered count conn client events) e (ap (λ (o : Option Ended). end_by o (length events == count) (turns conn client events).client) is);
  taken = (omega (arith, came.count), came.behind);
  at_end = λ finish same. (came.leaves, is ∙ ap (λ (e : Ended). Some e) same);
}

pub recovers_end : (count conn number : ℕ) (client mid now : Recovery) (answer : Result (Option Finish) Stop) (finish : Finish) (xs vs : List LinkItem)
    → number < count
    → answer ≡ Ok (Some finish) → Goes conn number client mid (reverse xs) → Stepped conn mid now answer vs
    → Recovers count conn client now (Ok finish) (reverse (xs ++ vs))
recovers_end count conn number client mid now answer finish xs vs below is goes (inl turned) =
    let next = came conn number client mid now answer xs vs goes turned in
    ended_as count conn (number + 1) client now answer (Ok finish) (reverse (xs ++ vs)) (omega arith) next
    (one_answered (turns conn client (reverse (xs ++ vs))).ended finish (sym next.answers ∙ is))
recovers_end count conn number client mid now answer finish xs vs below is goes (inr cut) = absurd (fault_not (Some finish) answer is cut.0)

-- a fault stopped it
few_taken : (count conn number : ℕ) (client mid : Recovery) (xs vs : List LinkItem) → number < count → Goes conn number client mid (reverse xs) → length vs ≤ 1
    → TakesUpTo count conn client (reverse (xs ++ vs))
few_taken count conn number client mid xs [] below goes few =
    subst (λ (l : List LinkItem). TakesUpTo count conn client (reverse l)) (sym (append-nil xs)) (omega (arith, goes.count), goes.behind)
few_taken count conn number client mid xs (event ∷ []) below goes few =
    subst (λ (l : List LinkItem). TakesUpTo count conn client l) (newest xs (event ∷ []) event refl) (upto (reverse xs) goes.count, goes.going)
  where
    upto : (before : List LinkItem) → length before ≡ number → length (event ∷ before) ≤ count
    upto before is = omega arith
few_taken count conn number client mid xs (event ∷ other ∷ more) below goes few = absurd (omega arith)

stop_of_fault : (answer : Result (Option Finish) Stop) (e : Ended) (stop : Stop) → answer ≡ Err stop → e ≡ Err stop → IsFault answer → IsFault e
stop_of_fault answer e stop is ends (inl net) = inl cc
stop_of_fault answer e stop is ends (inr memory) = inr cc

pub recovers_stop : (count conn number : ℕ) (client mid now : Recovery) (answer : Result (Option Finish) Stop) (e : Ended) (stop : Stop)
    (xs vs : List LinkItem) → number < count
    → answer ≡ Err stop → e ≡ Err stop → Goes conn number client mid (reverse xs) → Stepped conn mid now answer vs
    → Recovers count conn client now e (reverse (xs ++ vs))
recovers_stop count conn number client mid now answer e stop xs vs below is ends goes (inl turned) =
    let next = came conn number client mid now answer xs vs goes turned in
    subst (λ (e : Ended). Recovers count conn client now e (reverse (xs ++ vs))) (sym ends)
    (ended_as count conn (number + 1) client now answer (Err stop) (reverse (xs ++ vs)) (omega arith) next
    (stop_answered (turns conn client (reverse (xs ++ vs))).ended stop (sym next.answers ∙ is)))
recovers_stop count conn number client mid now answer e stop xs vs below is ends goes (inr cut) =
    let fault = stop_of_fault answer e stop is ends cut.0 in record {
      end = fault_ends (gathered count conn client (reverse (xs ++ vs))) e fault;
      taken = few_taken count conn number client mid xs vs below goes cut.1;
      at_end = λ finish same. absurd (ended_not e finish same fault);
    }

-- the same answer and end send the same
pub sent_same : {T U : Type 0} (conn : ℕ) (due : List ℕ) (r : Result T Stop) (e : Result U Stop) (stop : Stop) (ys : List LinkSent) → r ≡ Err stop
    → e ≡ Err stop → SentBy conn due r ys
    → SentBy conn due e ys
sent_same {T} {U} conn due r e stop ys is ends sent =
    subst (λ (e : Result U Stop). SentBy conn due e ys) (sym ends) (by_stop stop (subst (λ (r : Result T Stop). SentBy conn due r ys) is sent))
  where
    by_stop : (stop : Stop) → SentBy conn due (let r : Result T Stop = Err stop in r) ys → SentBy conn due (let e : Result U Stop = Err stop in e) ys
    by_stop NetFault sent = sent
    by_stop Memory sent = sent
    by_stop stop sent = sent

-- all that was due was sent, and the answer is no fault of the link
pub sent_whole : {T : Type 0} (conn : ℕ) (due : List ℕ) (r : Result T Stop) (x : T) (ys : List LinkSent) → r ≡ Ok x → SentBy conn due r ys → SentOn conn due ys
sent_whole {T} conn due r x ys is sent = subst (λ (r : Result T Stop). SentBy conn due r ys) is sent

-- nothing could be sent
pub recovers_none : (count conn : ℕ) (client now : Recovery) (e : Ended) → IsFault e → Recovers count conn client now e []
recovers_none count conn client now e fault = record {
  end = fault_ends (gathered count conn client []) e fault;
  taken = (omega arith, tt);
  at_end = λ finish same. absurd (ended_not e finish same fault);
}
