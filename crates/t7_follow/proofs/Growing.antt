-- What an object tells goes on from call to call, where what a call adds is known from what was added before.
use Rattle.std.proofs.Common.{List, ◌++◌, Option, None, Some, ◌∙◌, ap, append_assoc}
use Rattle.t7_base.specs.Outside.{Grew}

pub grew_next : {A : Type 0} (a b c : Option (List A)) (P R S : List A → Type 0) (Q : List A → List A → Type 0) → Grew a b P → Grew b c S
    → ((xs : List A) → P xs → Grew b c (Q xs)) → ((xs ys : List A) → P xs → Q xs ys → R (xs ++ ys)) → Grew a c R
grew_next a b None P R S Q front tells back to = tt
grew_next a None (Some c) P R S Q front tells back to = absurd tells
grew_next None (Some b) (Some c) P R S Q front tells back to = absurd front
grew_next {A} (Some a) (Some b) (Some c) P R S Q front tells back to =
    let more = back front.0 front.2 in (
      front.0 ++ more.0,
      more.1 ∙ ap (λ (l : List A). l ++ more.0) front.1 ∙ append_assoc a front.0 more.0,
      to front.0 more.0 front.2 more.2,
    )
