-- Bytes that are sent piece by piece.
use Rattle.std.proofs.Common.{◌≡◌, ℕ, List, [], ◌∷◌, ◌++◌, map, Result, Ok, Err, refl, sym, ◌∙◌, ap, subst, append_assoc, min, length, take, drop, arith}
use Rattle.std.specs.Prelude.{flat_map}
use Rattle.std.proofs.lemmas.List.{append-nil, map-append}
use Rattle.std.proofs.lemmas.List.Concat.{flat_map-append}
use Rattle.std.proofs.lemmas.Grind.{common_steps}
use Rattle.t7_base.specs.Outside.{Begins}
use Rattle.t7_net.specs.Links.{Gave, LinkSent}
use Rattle.t7_outcome.specs.declared.ending.Stop.{Stop}
use Rattle.t7_outcome.proofs.Lines.{begins_after, begins_more}
use Rattle.t7_gather.specs.Clauses.{SentFront, SentOn}
use Rattle.t7_gather.specs.Steps.{Sends, SendsNext}

pub sent_none : (conn : ℕ) → SentOn conn [] []
sent_none conn = ([], refl, refl)

pub sent_one : (conn : ℕ) (piece : List ℕ) → SentOn conn piece (Gave conn piece ∷ [])
sent_one conn piece = (piece ∷ [], refl, sym (append-nil piece))

-- bytes behind others
pub sent_more : (conn : ℕ) (a b : List ℕ) (xs ys : List LinkSent) → SentOn conn a xs → SentOn conn b ys → SentOn conn (a ++ b) (xs ++ ys)
sent_more conn a b xs ys one two = (
  one.0 ++ two.0,
  ap (λ (l : List LinkSent). l ++ ys) one.1 ∙ ap (λ (l : List LinkSent). map (Gave conn) one.0 ++ l) two.1 ∙ sym (map-append (Gave conn) one.0 two.0),
  ap (λ (l : List ℕ). l ++ b) one.2 ∙ ap (λ (l : List ℕ). flat_map (λ (piece : List ℕ). piece) one.0 ++ l) two.2
      ∙ sym (flat_map-append (λ (piece : List ℕ). piece) one.0 two.0),
)

pub front_none : (conn : ℕ) (bytes : List ℕ) → SentFront conn bytes []
front_none conn bytes = ([], (bytes, refl), sent_none conn)

pub front_all : (conn : ℕ) (bytes : List ℕ) (xs : List LinkSent) → SentOn conn bytes xs → SentFront conn bytes xs
front_all conn bytes xs sent = (bytes, ([], append-nil bytes), sent)

pub front_more : (conn : ℕ) (a b : List ℕ) (xs ys : List LinkSent) → SentOn conn a xs → SentFront conn b ys → SentFront conn (a ++ b) (xs ++ ys)
front_more conn a b xs ys one two = (a ++ two.0, begins_after a two.0 b two.1, sent_more conn a two.0 xs ys one two.2)

-- what was handed out is the front of what was queued
front_queued : (n : ℕ) (queue out new : List ℕ) → n ≡ min (length queue) (length out) → new ≡ take n queue ++ drop n out → queue ≡ take n new ++ drop n queue
front_queued n queue out new count is = grind (arith, common_steps)

pub begins_queued : (n : ℕ) (front queue out new : List ℕ) → n ≡ min (length queue) (length out) → new ≡ take n queue ++ drop n out
    → Begins front (take n new) → Begins front queue
begins_queued n front queue out new count is begins =
    subst (λ (l : List ℕ). Begins front l) (sym (front_queued n queue out new count is)) (begins_more front (take n new) (drop n queue) begins)

-- all of it was sent, or its front
pub sends_all : {T : Type 0} (conn : ℕ) (queue : List ℕ) (r : Result T Stop) (x : T) (ys : List LinkSent) → r ≡ Ok x → Sends conn queue r ys
    → SentOn conn queue ys
sends_all {T} conn queue r x ys is sends = subst (λ (e : Result T Stop). Sends conn queue e ys) is sends

pub sends_front : {T : Type 0} (conn : ℕ) (queue : List ℕ) (r : Result T Stop) (stop : Stop) (ys : List LinkSent) → r ≡ Err stop → Sends conn queue r ys
    → SentFront conn queue ys
sends_front {T} conn queue r stop ys is sends = subst (λ (e : Result T Stop). Sends conn queue e ys) is sends

-- Of the bytes that were queued those before these ones were sent.
pub record SoFar (conn : ℕ) (queue left : List ℕ) (sent : List LinkSent) : Type 0 where
  pub done : List ℕ
  pub sends : SentOn conn done sent
  pub whole : queue ≡ done ++ left

-- one piece more
next_as : {T : Type 0} (conn : ℕ) (queue mid left : List ℕ) (x : T) (xs ys : List LinkSent) → SoFar conn queue mid xs
    → SendsNext conn mid left (let ok : Result T Stop = Ok x in ok) ys → SoFar conn queue left (xs ++ ys)
next_as conn queue mid left x xs ys so_far next = record {
  done = so_far.done ++ next.0;
  sends = sent_more conn so_far.done next.0 xs ys so_far.sends (subst (λ (l : List LinkSent). SentOn conn next.0 l) (sym next.1) (sent_one conn next.0));
  whole = so_far.whole ∙ ap (λ (l : List ℕ). so_far.done ++ l) next.2 ∙ sym (append_assoc so_far.done next.0 left);
}

pub so_far_next : {T : Type 0} (conn : ℕ) (queue mid left : List ℕ) (r : Result T Stop) (x : T) (xs ys : List LinkSent) → r ≡ Ok x → SoFar conn queue mid xs
    → SendsNext conn mid left r ys → SoFar conn queue left (xs ++ ys)
so_far_next {T} conn queue mid left r x xs ys is so_far next =
    next_as conn queue mid left x xs ys so_far (subst (λ (e : Result T Stop). SendsNext conn mid left e ys) is next)

-- a fault cut the next off
cut_as : (T : Type 0) (conn : ℕ) (queue mid left : List ℕ) (stop : Stop) (xs ys : List LinkSent) → SoFar conn queue mid xs
    → SendsNext conn mid left (let bad : Result T Stop = Err stop in bad) ys → SentFront conn queue (xs ++ ys)
cut_as T conn queue mid left stop xs ys so_far next =
    subst (λ (l : List ℕ). SentFront conn l (xs ++ ys)) (sym so_far.whole)
    (front_more conn so_far.done mid xs ys so_far.sends
    (next.0, next.2, subst (λ (l : List LinkSent). SentOn conn next.0 l) (sym next.1) (sent_one conn next.0)))

pub so_far_cut : {T U : Type 0} (conn : ℕ) (queue mid left : List ℕ) (r : Result T Stop) (end : Result U Stop) (stop : Stop) (xs ys : List LinkSent)
    → r ≡ Err stop → end ≡ Err stop → SoFar conn queue mid xs → SendsNext conn mid left r ys → Sends conn queue end (xs ++ ys)
so_far_cut {T} {U} conn queue mid left r end stop xs ys is ended so_far next =
    subst (λ (e : Result U Stop). Sends conn queue e (xs ++ ys)) (sym ended)
    (cut_as T conn queue mid left stop xs ys so_far (subst (λ (e : Result T Stop). SendsNext conn mid left e ys) is next))
