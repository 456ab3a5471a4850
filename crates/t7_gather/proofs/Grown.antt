-- How what a link tells goes on from call to call.
use Rattle.std.proofs.Common.{◌≡◌, List, [], ◌++◌, Option, refl, subst, sym}
use Rattle.t7_base.specs.Outside.{Grew}
use Rattle.t7_base.proofs.Grown.{grew_as, grew_nothing, grew_then}
use Rattle.t7_net.specs.Links.{LinkSent}
use Rattle.t7_net.specs.declared.link.LinkItem.{LinkItem}
use Rattle.t7_gather.specs.Steps.{OnLink}

-- nothing was taken, and this was sent
pub link_sent : (e f : Option (List LinkItem)) (s t : Option (List LinkSent)) (P : List LinkItem → Type 0) (Q : List LinkItem → List LinkSent → Type 0)
    (R : List LinkSent → Type 0)
    → f ≡ e → Grew s t R → P [] → ((ys : List LinkSent) → R ys → Q [] ys) → OnLink e f s t P Q
link_sent e f s t P Q R same sent none to =
    subst (λ (g : Option (List LinkItem)). OnLink e g s t P Q) (sym same)
    (grew_nothing e (λ (taken : List LinkItem). P taken × Grew s t (Q taken)) (none, grew_as s t R (Q []) sent to))

-- nothing was sent
pub sent_nothing : (s t : Option (List LinkSent)) → t ≡ s → Grew s t (λ ys. ys ≡ [])
sent_nothing s t quiet = subst (λ (u : Option (List LinkSent)). Grew s u (λ ys. ys ≡ [])) (sym quiet) (grew_nothing s (λ ys. ys ≡ []) refl)

-- this was taken, and this sent
pub link_both : (e f : Option (List LinkItem)) (s t : Option (List LinkSent)) (P : List LinkItem → Type 0) (Q : List LinkItem → List LinkSent → Type 0)
    (R : List LinkItem → Type 0)
    (U : List LinkSent → Type 0) → Grew e f R → Grew s t U → ((xs : List LinkItem) → R xs → P xs)
    → ((xs : List LinkItem) (ys : List LinkSent) → R xs → U ys → Q xs ys)
    → OnLink e f s t P Q
link_both e f s t P Q R U taken sent to too =
    grew_as e f R (λ (xs : List LinkItem). P xs × Grew s t (Q xs)) taken (λ xs r. (to xs r, grew_as s t U (Q xs) sent (λ ys u. too xs ys r u)))

-- the same, where calls between them took and sent nothing
pub link_after : (e f g : Option (List LinkItem)) (s r t : Option (List LinkSent)) (P : List LinkItem → Type 0) (Q : List LinkItem → List LinkSent → Type 0)
    (R : List LinkItem → Type 0)
    (U : List LinkSent → Type 0) → g ≡ f → r ≡ s → Grew e f R → Grew r t U → ((xs : List LinkItem) → R xs → P xs)
    → ((xs : List LinkItem) (ys : List LinkSent) → R xs → U ys → Q xs ys) → OnLink e g s t P Q
link_after e f g s r t P Q R U same quiet taken sent to too =
    link_both e g s t P Q R U (subst (λ (h : Option (List LinkItem)). Grew e h R) (sym same) taken)
    (subst (λ (u : Option (List LinkSent)). Grew u t U) quiet sent) to too

-- one call after another
pub link_then : (e f g : Option (List LinkItem)) (s t u : Option (List LinkSent)) (P A C : List LinkItem → Type 0)
    (Q B D : List LinkItem → List LinkSent → Type 0)
    → OnLink e f s t P Q → OnLink f g t u A B → ((xs vs : List LinkItem) → P xs → A vs → C (xs ++ vs))
    → ((xs vs : List LinkItem) (ys ws : List LinkSent) → P xs → A vs → Q xs ys → B vs ws → D (xs ++ vs) (ys ++ ws)) → OnLink e g s u C D
link_then e f g s t u P A C Q B D first second to too =
    grew_then e f g (λ (xs : List LinkItem). P xs × Grew s t (Q xs)) (λ (vs : List LinkItem). A vs × Grew t u (B vs))
    (λ (zs : List LinkItem). C zs × Grew s u (D zs)) first second
    (λ xs vs p q. (to xs vs p.0 q.0, grew_then s t u (Q xs) (B vs) (D (xs ++ vs)) p.1 q.1 (λ ys ws a b. too xs vs ys ws p.0 q.0 a b)))
