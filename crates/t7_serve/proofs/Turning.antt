-- Turns that are done one after another.
use Rattle.std.proofs.Common.{◌≡◌, List, [], ◌++◌, Option, refl, sym, ◌∙◌, ap, subst}
use Rattle.std.proofs.lemmas.List.{append-nil}
use Rattle.t7_base.specs.Outside.{Begins, Grew}
use Rattle.t7_base.proofs.Grown.{grew_as, grew_nothing, grew_then}
use Rattle.t7_net.specs.Lines.{Casting}
use Rattle.t7_net.specs.Links.{LinkSent}
use Rattle.t7_serve.specs.Fronts.{SentFront}
use Rattle.t7_serve.specs.Servers.{Broke, Done}
use Rattle.t7_serve.specs.Venues.{Turn, Venue, and_then, rests}
use Rattle.t7_serve.proofs.Sent.{begins_after, begins_more, begins_none, front_after, front_all, front_more, front_none}

module _ {A : Type 0} where
  -- two lists are added one after the other
  pub adds_both : (a b c : Option (List A)) (one two : List A) → Grew a b (λ added. added ≡ one) → Grew b c (λ added. added ≡ two)
      → Grew a c (λ added. added ≡ one ++ two)
  adds_both a b c one two first second =
      grew_then a b c (λ (added : List A). added ≡ one) (λ (added : List A). added ≡ two) (λ (added : List A). added ≡ one ++ two) first second
      (λ xs ys is also. ap (λ (l : List A). l ++ ys) is ∙ ap (λ (l : List A). one ++ l) also)

  -- nothing is added
  pub adds_none : (a b : Option (List A)) → b ≡ a → Grew a b (λ added. added ≡ [])
  adds_none a b same = subst (λ (o : Option (List A)). Grew a o (λ added. added ≡ [])) (sym same) (grew_nothing a (λ added. added ≡ []) refl)

  pub begins_both : (a b c : Option (List A)) (one two : List A) → Grew a b (λ added. added ≡ one) → Grew b c (λ added. Begins added two)
      → Grew a c (λ added. Begins added (one ++ two))
  begins_both a b c one two first second =
      grew_then a b c (λ (added : List A). added ≡ one) (λ (added : List A). Begins added two) (λ (added : List A). Begins added (one ++ two)) first second
      (λ xs ys is front. subst (λ (l : List A). Begins (l ++ ys) (one ++ two)) (sym is) (begins_after one two ys front))

  pub begins_first : (a b : Option (List A)) (one two : List A) → Grew a b (λ added. Begins added one) → Grew a b (λ added. Begins added (one ++ two))
  begins_first a b one two front =
      grew_as a b (λ (added : List A). Begins added one) (λ (added : List A). Begins added (one ++ two)) front (λ xs begins. begins_more one two xs begins)

  -- nothing of what is due is added
  pub begins_nothing : (a b : Option (List A)) (due : List A) → b ≡ a → Grew a b (λ added. Begins added due)
  begins_nothing a b due same =
      subst (λ (o : Option (List A)). Grew a o (λ added. Begins added due)) (sym same) (grew_nothing a (λ added. Begins added due) (begins_none due))

pub fronts_both : (a b c : Option (List LinkSent)) (one two : List LinkSent) → Grew a b (λ added. added ≡ one) → Grew b c (SentFront two)
    → Grew a c (SentFront (one ++ two))
fronts_both a b c one two first second =
    grew_then a b c (λ (added : List LinkSent). added ≡ one) (SentFront two) (SentFront (one ++ two)) first second
    (λ xs ys is front. subst (λ (l : List LinkSent). SentFront (one ++ two) (l ++ ys)) (sym is) (front_after one two ys front))

pub fronts_first : (a b : Option (List LinkSent)) (one two : List LinkSent) → Grew a b (SentFront one) → Grew a b (SentFront (one ++ two))
fronts_first a b one two front = grew_as a b (SentFront one) (SentFront (one ++ two)) front (λ xs f. front_more one two xs f)

pub fronts_nothing : (a b : Option (List LinkSent)) (due : List LinkSent) → b ≡ a → Grew a b (SentFront due)
fronts_nothing a b due same = subst (λ (o : Option (List LinkSent)). Grew a o (SentFront due)) (sym same) (grew_nothing a (SentFront due) (front_none due))

-- nothing was done
pub rests_done : (venue : Venue) (s s1 : Option (List LinkSent)) (c c1 : Option (List Casting)) → s1 ≡ s → c1 ≡ c → Done (rests venue) venue s s1 c c1
rests_done venue s s1 c c1 same also = record { venue = refl; sent = adds_none s s1 same; cast = adds_none c c1 also }

-- a turn was broken off before anything went out
pub broke_at_once : (turn : Turn) (s s1 : Option (List LinkSent)) (c c1 : Option (List Casting)) → s1 ≡ s → c1 ≡ c → Broke turn s s1 c c1
broke_at_once turn s s1 c c1 same also = record { sent = fronts_nothing s s1 turn.sent same; cast = begins_nothing c c1 turn.cast also }

module _ (first : Turn) (next : Venue → Turn) (mid : Venue) (s s1 : Option (List LinkSent)) (c c1 : Option (List Casting)) where
  pub done_then : (new : Venue) (s2 : Option (List LinkSent)) (c2 : Option (List Casting)) → Done first mid s s1 c c1 → Done (next mid) new s1 s2 c1 c2
      → Done (and_then first next) new s s2 c c2
  done_then new s2 c2 one two =
      let also = subst (λ (v : Venue). Done (next v) new s1 s2 c1 c2) one.venue two in record {
        venue = also.venue;
        sent = adds_both s s1 s2 first.sent (next first.venue).sent one.sent also.sent;
        cast = adds_both c c1 c2 first.cast (next first.venue).cast one.cast also.cast;
      }

  pub broke_then : (s2 : Option (List LinkSent)) (c2 : Option (List Casting)) → Done first mid s s1 c c1 → Broke (next mid) s1 s2 c1 c2
      → Broke (and_then first next) s s2 c c2
  broke_then s2 c2 one two =
      let also = subst (λ (v : Venue). Broke (next v) s1 s2 c1 c2) one.venue two in record {
        sent = fronts_both s s1 s2 first.sent (next first.venue).sent one.sent also.sent;
        cast = begins_both c c1 c2 first.cast (next first.venue).cast one.cast also.cast;
      }

  pub broke_first : Broke first s s1 c c1 → Broke (and_then first next) s s1 c c1
  broke_first one = record {
    sent = fronts_first s s1 first.sent (next first.venue).sent one.sent;
    cast = begins_first c c1 first.cast (next first.venue).cast one.cast;
  }

-- what was done whole is a front too
pub done_is_front : (turn : Turn) (new : Venue) (s s1 : Option (List LinkSent)) (c c1 : Option (List Casting)) → Done turn new s s1 c c1 → Broke turn s s1 c c1
done_is_front turn new s s1 c c1 done = record {
  sent = grew_as s s1 (λ (added : List LinkSent). added ≡ turn.sent) (SentFront turn.sent) done.sent
      (λ xs is. front_all turn.sent xs is);
  cast = grew_as c c1 (λ (added : List Casting). added ≡ turn.cast) (λ (added : List Casting). Begins added turn.cast) done.cast
      (λ xs is. ([], append-nil xs ∙ is));
}
