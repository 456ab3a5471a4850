-- What an event that was found comes to.
use Rattle.std.proofs.Common.{◌≡◌, ◌≢◌, ℕ, ◌≤◌, ◌⊎◌, inl, inr, List, [], ◌∷◌, Bool, true, false, if◌then◌else◌}
use Rattle.std.proofs.Common.{length, take, Option, None, Some, Result, Ok, Err, arith, refl, sym, ◌∙◌, ap, subst}
use Rattle.t7_client.specs.Hearing.{heard}
use Rattle.t7_client.specs.Recovering.{Recovery}
use Rattle.t7_net.specs.Links.{LinkSent, link_taken}
use Rattle.t7_net.specs.declared.link.LinkEvent.{LinkEvent}
use Rattle.t7_net.specs.declared.link.LinkEvent.TheVariants as event
use Rattle.t7_net.specs.declared.link.LinkItem.{LinkItem}
use Rattle.t7_net.specs.declared.link.LinkItem.TheVariants as item
use Rattle.t7_outcome.specs.declared.ending.Finish.{Finish}
use Rattle.t7_outcome.specs.declared.ending.Stop.{Stop}
use Rattle.t7_outcome.specs.declared.ending.Stop.TheVariants.{Memory, NetFault, TooLong}
use Rattle.t7_gather.specs.Clauses.{SentBy, SentFront, SentOn}
use Rattle.t7_gather.specs.Steps.{IsFault, Meets, SentAt, Stepped, answered, due_at, is_shut, news_in}
use Rattle.t7_gather.specs.Turns.{News, Nothing, Piece, Shut, Turn, cut_at, end_behind, flushed, news_on, turn_by, turn_heard, turn_of}
use Rattle.t7_gather.proofs.Sending.{front_all, front_none, sent_none}

-- it is one event
item_in : (what : LinkEvent) (into : List ℕ) → what ≢ event.Failed → (i : LinkItem) × (link_taken what into ≡ i ∷ [])
item_in (event.Opened conn) into some = (item.Opened conn, refl)
item_in (event.Bytes conn count) into some = (item.Bytes conn (take count into), refl)
item_in (event.Closed conn) into some = (item.Closed conn, refl)
item_in event.Quiet into some = (item.Quiet, refl)
item_in event.Failed into some = absurd (some refl)

same_item : (a b : LinkItem) → a ∷ [] ≡ b ∷ [] → b ≡ a
same_item a b is = cc

-- of which it says the same
same_news : (conn : ℕ) (what : LinkEvent) (into : List ℕ) (i : LinkItem) → link_taken what into ≡ i ∷ [] → news_on conn i ≡ news_in conn what into
same_news conn (event.Opened other) into i is = ap (λ (i : LinkItem). news_on conn i) (same_item (item.Opened other) i is)
same_news conn (event.Bytes other count) into i is = ap (λ (i : LinkItem). news_on conn i) (same_item (item.Bytes other (take count into)) i is)
same_news conn (event.Closed other) into i is = ap (λ (i : LinkItem). news_on conn i) (same_item (item.Closed other) i is)
same_news conn event.Quiet into i is = ap (λ (i : LinkItem). news_on conn i) (same_item item.Quiet i is)
same_news conn event.Failed into i is = cc

same_misfit : (a b : Option ℕ) → (let x : Result (Option ℕ) Stop = Ok a in x) ≡ Ok b → b ≡ a
same_misfit a b is = cc

-- the turn that what was heard makes
met_turn : (news : News) (old mid : Recovery) (misfit : Option ℕ) → Meets news old mid (Ok misfit)
    → turn_by news old ≡ flushed mid (end_behind misfit mid (is_shut news))
met_turn (Piece bytes) old mid misfit hears =
    ap (λ (b : Bool). if b then record { client = old; sent = []; ended = Some (Err TooLong) } else turn_heard (heard old bytes)) hears.0
    ∙ ap (λ (m : Option ℕ). flushed (cut_at m (heard old bytes).client) (end_behind m (cut_at m (heard old bytes).client) false)) (sym hears.1)
    ∙ ap (λ (c : Recovery). flushed c (end_behind misfit c false)) (sym hears.2)
met_turn Shut old mid misfit meets =
    ap (λ (c : Recovery). flushed c (end_behind None c true)) (sym meets.1)
    ∙ ap (λ (m : Option ℕ). flushed mid (end_behind m mid true)) (same_misfit misfit None meets.0)
met_turn Nothing old mid misfit meets =
    ap (λ (c : Recovery). flushed c (end_behind None c false)) (sym meets.1)
    ∙ ap (λ (m : Option ℕ). flushed mid (end_behind m mid false)) (same_misfit misfit None meets.0)

-- too many bytes came
pub record IsPast (news : News) (old mid : Recovery) : Type 0 where
  pub turn : turn_by news old ≡ record { client = old; sent = []; ended = Some (Err TooLong) }
  pub client : mid ≡ old

met_stop : (news : News) (old mid : Recovery) (stop : Stop) → Meets news old mid (Err stop) → ((stop ≡ TooLong) × IsPast news old mid) ⊎ (stop ≡ Memory)
met_stop (Piece bytes) old mid TooLong hears =
    inl (
      refl,
      record {
        turn = ap
            (λ (b : Bool). if b then record { client = old; sent = []; ended = Some (Err TooLong) } else turn_heard (heard old bytes)) hears.0;
        client = hears.1;
      },
    )
met_stop (Piece bytes) old mid Memory hears = inr refl
met_stop (Piece bytes) old mid stop hears = absurd hears
met_stop Shut old mid stop meets = absurd (other stop meets.0)
  where
    other : (stop : Stop) → (let x : Result (Option ℕ) Stop = Err stop in x) ≡ Ok None → ⊥
    other stop is = cc
met_stop Nothing old mid stop meets = absurd (other stop meets.0)
  where
    other : (stop : Stop) → (let x : Result (Option ℕ) Stop = Err stop in x) ≡ Ok None → ⊥
    other stop is = cc

-- the turn of an event that was found
found_turn : (conn : ℕ) (what : LinkEvent) (into : List ℕ) (i : LinkItem) (old mid : Recovery) (misfit : Option ℕ) → link_taken what into ≡ i ∷ []
    → Meets (news_in conn what into) old mid (Ok misfit) → turn_of conn i old ≡ flushed mid (end_behind misfit mid (is_shut (news_in conn what into)))
found_turn conn what into i old mid misfit is meets =
    ap (λ (n : News). turn_by n old) (same_news conn what into i is) ∙ met_turn (news_in conn what into) old mid misfit meets

-- the event is at most one
pub one_found : (what : LinkEvent) (into : List ℕ) → length (link_taken what into) ≤ 1
one_found (event.Opened conn) into = omega arith
one_found (event.Bytes conn count) into = omega arith
one_found (event.Closed conn) into = omega arith
one_found event.Quiet into = omega arith
one_found event.Failed into = omega arith

-- An event was found, and the bytes that it brings were heard: what is left of the connection is `mid`.
module _ (conn : ℕ) (what : LinkEvent) (into : List ℕ) (old mid : Recovery) (misfit : Option ℕ) (some : what ≢ event.Failed) (xs : List LinkItem)
    (is : xs ≡ link_taken what into)
    (meets : Meets (news_in conn what into) old mid (Ok misfit)) where
  -- it happened
  pub stepped : (now : Recovery) (closed : Bool) (answer : Result (Option Finish) Stop) → now ≡ record mid { queue = [] }
      → closed ≡ is_shut (news_in conn what into)
      → answer ≡ answered (end_behind misfit now closed) → Stepped conn old now answer xs
  stepped now closed answer sent shut looked =
      let one = item_in what into some in
      let turn : turn_of conn one.0 old ≡ flushed mid
      (end_behind misfit mid (is_shut (news_in conn what into))) = found_turn conn what into one.0 old mid misfit one.1 meets in
      inl (record {
        event = one.0;
        one = is ∙ one.1;
        leaves = sent ∙ ap (λ (t : Turn). t.client) (sym turn);
        answers = looked ∙ ap (λ (c : Recovery). answered (end_behind misfit c closed)) sent
            ∙ ap (λ (b : Bool). answered (end_behind misfit mid b)) shut ∙ ap (λ (t : Turn). answered t.ended) (sym turn);
      })

  -- a fault came while what was due was sent
  pub cut_off : (now : Recovery) (answer : Result (Option Finish) Stop) → answer ≡ Err NetFault → Stepped conn old now answer xs
  cut_off now answer net = inr (inl net, subst (λ (l : List LinkItem). length l ≤ 1) (sym is) (one_found what into))

  -- so much is due
  due_is : due_at conn old xs ≡ mid.queue
  due_is =
      let one = item_in what into some in
      ap (λ (l : List LinkItem). due_at conn old l) (is ∙ one.1) ∙ ap (λ (t : Turn). t.sent) (found_turn conn what into one.0 old mid misfit one.1 meets)

  pub due_sent : (answer : Result (Option Finish) Stop) (ys : List LinkSent) → SentBy conn mid.queue answer ys → SentAt conn old answer xs ys
  due_sent answer ys sent = subst (λ (l : List ℕ). SentBy conn l answer ys) (sym due_is) sent

-- all was sent, whatever the answer
pub sent_by : {T : Type 0} (conn : ℕ) (due : List ℕ) (answer : Result T Stop) (ys : List LinkSent) → SentOn conn due ys → SentBy conn due answer ys
sent_by conn due (Ok done) ys sent = sent
sent_by conn due (Err NetFault) ys sent = front_all conn due ys sent
sent_by conn due (Err Memory) ys sent = front_all conn due ys sent
sent_by conn due (Err stop) ys sent = sent

-- the front of it was, at a fault
pub front_by : {T : Type 0} (conn : ℕ) (due : List ℕ) (answer : Result T Stop) (ys : List LinkSent) → IsFault answer → SentFront conn due ys
    → SentBy conn due answer ys
front_by {T} conn due answer ys (inl net) sent = subst (λ (r : Result T Stop). SentBy conn due r ys) (sym net) sent
front_by {T} conn due answer ys (inr memory) sent = subst (λ (r : Result T Stop). SentBy conn due r ys) (sym memory) sent

-- An event was found, and it stopped the run before anything was sent.
module _ (conn : ℕ) (what : LinkEvent) (into : List ℕ) (old mid : Recovery) (stop : Stop) (some : what ≢ event.Failed) (xs : List LinkItem)
    (is : xs ≡ link_taken what into)
    (meets : Meets (news_in conn what into) old mid (Err stop)) (answer : Result (Option Finish) Stop) (ends : answer ≡ Err stop) where
  past : (i : LinkItem) → link_taken what into ≡ i ∷ [] → IsPast (news_in conn what into) old mid
      → turn_of conn i old ≡ record { client = old; sent = []; ended = Some (Err TooLong) }
  past i one at = ap (λ (n : News). turn_by n old) (same_news conn what into i one) ∙ at.turn

  step_by : ((stop ≡ TooLong) × IsPast (news_in conn what into) old mid) ⊎ (stop ≡ Memory) → Stepped conn old mid answer xs
  step_by (inl long) =
      let one = item_in what into some in
      inl (record {
        event = one.0;
        one = is ∙ one.1;
        leaves = long.1.client ∙ ap (λ (t : Turn). t.client) (sym (past one.0 one.1 long.1));
        answers =
            ends ∙ ap (λ (s : Stop). let r : Result (Option Finish) Stop = Err s in r) long.0 ∙ ap (λ (t : Turn). answered t.ended)
            (sym (past one.0 one.1 long.1));
      })
  step_by (inr memory) =
      inr (
        inr (ends ∙ ap (λ (s : Stop). let r : Result (Option Finish) Stop = Err s in r) memory),
        subst (λ (l : List LinkItem). length l ≤ 1) (sym is)
            (one_found what into),
      )

  pub stopped : Stepped conn old mid answer xs
  stopped = step_by (met_stop (news_in conn what into) old mid stop meets)

  none_by : ((stop ≡ TooLong) × IsPast (news_in conn what into) old mid) ⊎ (stop ≡ Memory) → SentAt conn old answer xs []
  none_by (inl long) =
      let one = item_in what into some in
      let none : [] ≡ due_at conn old xs = sym
      (ap (λ (l : List LinkItem). due_at conn old l) (is ∙ one.1) ∙ ap (λ (t : Turn). t.sent) (past one.0 one.1 long.1)) in
      sent_by conn (due_at conn old xs) answer [] (subst (λ (l : List ℕ). SentOn conn l []) none (sent_none conn))
  none_by (inr memory) =
      front_by conn (due_at conn old xs) answer [] (inr (ends ∙ ap (λ (s : Stop). let r : Result (Option Finish) Stop = Err s in r) memory))
      (front_none conn (due_at conn old xs))

  pub none_sent : SentAt conn old answer xs []
  none_sent = none_by (met_stop (news_in conn what into) old mid stop meets)
