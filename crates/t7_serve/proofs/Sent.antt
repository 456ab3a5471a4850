-- Fronts of what is due.
use Rattle.std.proofs.Common.{◌≡◌, inl, inr, ℕ, List, [], ◌∷◌, ◌++◌, refl, sym, ◌∙◌, ap, append_assoc}
use Rattle.std.proofs.lemmas.List.{append-nil}
use Rattle.t7_base.specs.Outside.{Begins}
use Rattle.t7_net.specs.Links.{Gave, LinkSent}
use Rattle.t7_serve.specs.Fronts.{SentFront}

module _ {A : Type 0} where
  -- the front of what comes behind something whole
  pub begins_after : (done due front : List A) → Begins front due → Begins (done ++ front) (done ++ due)
  begins_after done due front begins = (begins.0, append_assoc done front begins.0 ∙ ap (λ (l : List A). done ++ l) begins.1)

  -- the front of what has more behind it
  pub begins_more : (due more front : List A) → Begins front due → Begins front (due ++ more)
  begins_more due more front begins = (begins.0 ++ more, sym (append_assoc front begins.0 more) ∙ ap (λ (l : List A). l ++ more) begins.1)

  -- all of it
  pub begins_all : (due front : List A) → front ≡ due → Begins front due
  begins_all due front is = ([], append-nil front ∙ is)

  -- nothing of it
  pub begins_none : (due : List A) → Begins [] due
  begins_none due = (due, refl)

pub front_after : (done due sent : List LinkSent) → SentFront due sent → SentFront (done ++ due) (done ++ sent)
front_after done due sent (inl begins) = inl (begins_after done due sent begins)
front_after done due sent (inr cut) = inr (record {
  done = done ++ cut.done;
  conn = cut.conn;
  bytes = cut.bytes;
  others = cut.others;
  front = cut.front;
  begins = cut.begins;
  all = ap (λ (l : List LinkSent). done ++ l) cut.all ∙ sym (append_assoc done cut.done (Gave cut.conn cut.bytes ∷ cut.others));
  some = ap (λ (l : List LinkSent). done ++ l) cut.some ∙ sym (append_assoc done cut.done (Gave cut.conn cut.front ∷ []));
})

pub front_more : (due more sent : List LinkSent) → SentFront due sent → SentFront (due ++ more) sent
front_more due more sent (inl begins) = inl (begins_more due more sent begins)
front_more due more sent (inr cut) = inr (record {
  done = cut.done;
  conn = cut.conn;
  bytes = cut.bytes;
  others = cut.others ++ more;
  front = cut.front;
  begins = cut.begins;
  all = ap (λ (l : List LinkSent). l ++ more) cut.all ∙ append_assoc cut.done (Gave cut.conn cut.bytes ∷ cut.others) more;
  some = cut.some;
})

pub front_all : (due sent : List LinkSent) → sent ≡ due → SentFront due sent
front_all due sent is = inl (begins_all due sent is)

pub front_none : (due : List LinkSent) → SentFront due []
front_none due = inl (begins_none due)

-- the front of the first bytes that are due
pub front_cut : (conn : ℕ) (bytes front : List ℕ) (others sent : List LinkSent) → Begins front bytes → sent ≡ Gave conn front ∷ []
    → SentFront (Gave conn bytes ∷ others) sent
front_cut conn bytes front others sent begins is = inr (record {
  done = [];
  conn = conn;
  bytes = bytes;
  others = others;
  front = front;
  begins = begins;
  all = refl;
  some = is;
})
