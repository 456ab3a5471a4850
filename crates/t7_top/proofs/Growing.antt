-- What an object tells, in two words at once.
use Rattle.std.proofs.Common.{◌≡◌, List, Option, None, Some, sym, ◌∙◌, subst}
use Rattle.std.proofs.lemmas.List.{append_cancel_left}
use Rattle.t7_base.specs.Outside.{Grew}

pub grew_both : {A : Type 0} (a b : Option (List A)) (P Q R : List A → Type 0) → Grew a b P → Grew a b Q → ((xs : List A) → P xs → Q xs → R xs) → Grew a b R
grew_both a None P Q R p q both = tt
grew_both None (Some b) P Q R p q both = absurd p
grew_both {A} (Some a) (Some b) P Q R p q both =
    let same : p.0 ≡ q.0 = append_cancel_left a p.0 q.0 (sym p.1 ∙ q.1) in
    (p.0, p.1, both p.0 p.2 (subst Q (sym same) q.2))
