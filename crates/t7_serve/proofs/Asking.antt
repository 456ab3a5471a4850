-- Binds that are asked one after another.
use Rattle.std.proofs.Common.{◌≡◌, ℕ, List, [], ◌∷◌, ◌++◌, true, false, Option, Result, Ok, Err, sym, ◌∙◌, ap, subst, append_assoc}
use Rattle.std.proofs.lemmas.List.{append-nil}
use Rattle.t7_base.specs.Outside.{Begins, Grew}
use Rattle.t7_base.specs.declared.ids.Feed.{Feed}
use Rattle.t7_base.proofs.Grown.{grew_as, grew_then}
use Rattle.t7_net.specs.Lines.{Bind}
use Rattle.t7_net.specs.Links.{LinkAsk, Listened}
use Rattle.t7_outcome.specs.declared.ending.Stop.{Stop}
use Rattle.t7_outcome.specs.declared.ending.Stop.TheVariants.{NetFault}
use Rattle.t7_serve.specs.Clauses.{AsksFor, ListensAt}

both_are : (xs ys a b : List Bind) → a ≡ xs → b ≡ ys → a ++ b ≡ xs ++ ys
both_are xs ys a b one two = ap (λ (l : List Bind). l ++ b) one ∙ ap (λ (l : List Bind). xs ++ l) two

asks_more : {T : Type 0} (xs ys a b : List Bind) (r : Result T Stop) → a ≡ xs → AsksFor ys r b → AsksFor (xs ++ ys) r (a ++ b)
asks_more xs ys a b (Ok done) one two = both_are xs ys a b one two
asks_more xs ys a b (Err NetFault) one two =
    (two.0, append_assoc a b two.0 ∙ ap (λ (l : List Bind). a ++ l) two.1 ∙ ap (λ (l : List Bind). l ++ ys) one)
asks_more xs ys a b (Err stop) one two = both_are xs ys a b one two

-- some were asked, and then others
pub asks_both : {T U : Type 0} (p q o : Option (List Bind)) (xs ys : List Bind) (first : Result T Stop) (x : T) (second : Result U Stop) → first ≡ Ok x
    → Grew p q (AsksFor xs first) → Grew q o (AsksFor ys second) → Grew p o (AsksFor (xs ++ ys) second)
asks_both {T} {U} p q o xs ys first x second is front back =
    grew_then p q o (AsksFor xs first) (AsksFor ys second) (AsksFor (xs ++ ys) second) front back
    (λ a b one two. asks_more xs ys a b second (subst (λ (r : Result T Stop). AsksFor xs r a) is one) two)

-- one of the first could not be had
pub asks_first : {T U : Type 0} (p q : Option (List Bind)) (xs ys : List Bind) (first : Result T Stop) (second : Result U Stop) → first ≡ Err NetFault
    → second ≡ Err NetFault
    → Grew p q (AsksFor xs first) → Grew p q (AsksFor (xs ++ ys) second)
asks_first {T} {U} p q xs ys first second is ended front =
    grew_as p q (AsksFor xs first) (AsksFor (xs ++ ys) second) front
    (λ a one. subst (λ (r : Result U Stop). AsksFor (xs ++ ys) r a) (sym ended)
    (let cut : Begins a xs = subst (λ (r : Result T Stop). AsksFor xs r a) is one in
    (cut.0 ++ ys, sym (append_assoc a cut.0 ys) ∙ ap (λ (l : List Bind). l ++ ys) cut.1)))

-- all were asked, and nothing behind them
asks_them : {U : Type 0} (xs a : List Bind) (second : Result U Stop) → a ≡ xs → AsksFor xs second a
asks_them xs a (Ok done) is = is
asks_them xs a (Err NetFault) is = ([], append-nil a ∙ is)
asks_them xs a (Err stop) is = is

pub asks_all : {T U : Type 0} (p q o : Option (List Bind)) (xs : List Bind) (first : Result T Stop) (x : T) (second : Result U Stop) → first ≡ Ok x → o ≡ q
    → Grew p q (AsksFor xs first) → Grew p o (AsksFor xs second)
asks_all {T} {U} p q o xs first x second is same front =
    subst (λ (v : Option (List Bind)). Grew p v (AsksFor xs second)) (sym same)
    (grew_as p q (AsksFor xs first) (AsksFor xs second) front
    (λ a one. asks_them xs a second (subst (λ (r : Result T Stop). AsksFor xs r a) is one)))

-- it was listened, and nothing else was asked of the link
listens_then : {U : Type 0} (address : List ℕ) (asked : List LinkAsk) (second : Result U Stop) → asked ≡ Listened address true ∷ [] → ListensAt address second asked
listens_then address asked (Ok done) is = is
listens_then address asked (Err NetFault) is = (true, is)
listens_then address asked (Err stop) is = is

pub listens_still : {T U : Type 0} (p q o : Option (List LinkAsk)) (address : List ℕ) (first : Result T Stop) (x : T) (second : Result U Stop) → first ≡ Ok x → o ≡ q
    → Grew p q (ListensAt address first) → Grew p o (ListensAt address second)
listens_still {T} {U} p q o address first x second is same front =
    subst (λ (v : Option (List LinkAsk)). Grew p v (ListensAt address second)) (sym same)
    (grew_as p q (ListensAt address first) (ListensAt address second) front
    (λ a one. listens_then address a second (subst (λ (r : Result T Stop). ListensAt address r a) is one)))

-- two feeds that are bound for sending
abbrev pub pair_of : Feed → List ℕ → Feed → List ℕ → List Bind
pair_of first one second other = record { feed = first; address = one; listen = false } ∷ record { feed = second; address = other; listen = false } ∷ []
