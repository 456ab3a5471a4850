-- What was cast is genuine.
use Rattle.std.proofs.Common.{◌≡◌, ℕ, true, Bool, List, [], ◌∷◌, ◌++◌, refl, sym, ◌∙◌, ap, subst, append_assoc, arith, if◌then◌else◌}
use Rattle.std.specs.Prelude.{Contains}
use Rattle.std.proofs.lemmas.List.Elements.{Contains-append_right}
use Rattle.t7_base.specs.Outside.{Begins}
use Rattle.t7_base.specs.declared.ids.Feed.{Feed}
use Rattle.t7_base.specs.declared.ids.Feed.TheVariants.{LiveA, LiveB, SnapA, SnapB}
use Rattle.t7_book.specs.Acts.{Act}
use Rattle.t7_feed.specs.Arrivals.{Terms, channel_of}
use Rattle.t7_feed.specs.Sending.{Genuine, sent_on}
use Rattle.t7_net.specs.Lines.{Casting}
use Rattle.t7_serve.specs.Casts.{cast_on, delivered, same_feed}
use Rattle.t7_serve.proofs.Keeping.{cast_on-append}

same_self : (feed : Feed) → same_feed feed feed ≡ true
same_self LiveA = refl
same_self LiveB = refl
same_self SnapA = refl
same_self SnapB = refl

-- the first of what was cast stands among what was cast on its feed
stands : (one : Casting) (others : List Casting) → cast_on one.feed (one ∷ others) ≡ one.bytes ∷ cast_on one.feed others
stands one others = ap (λ (b : Bool). if b then one.bytes ∷ cast_on one.feed others else cast_on one.feed others) (same_self one.feed)

first_in : (bytes : List ℕ) (others : List (List ℕ)) → Contains (bytes ∷ others) bytes
first_in bytes others = (0, omega arith, refl)

module _ (terms : Terms) (acts : List Act) where
  genuine_behind : (before cast rest : List Casting) → ((feed : Feed) → cast_on feed (before ++ (cast ++ rest)) ≡ sent_on terms acts (channel_of feed))
      → Genuine terms acts (delivered cast)
  genuine_behind before [] rest all = tt
  genuine_behind before (one ∷ cast) rest all = (
    subst (λ (l : List (List ℕ)). Contains l one.bytes) (all one.feed)
        (subst (λ (l : List (List ℕ)). Contains l one.bytes) (sym (cast_on-append one.feed before (one ∷ (cast ++ rest))))
        (Contains-append_right (cast_on one.feed before) (cast_on one.feed (one ∷ (cast ++ rest))) one.bytes
        (subst (λ (l : List (List ℕ)). Contains l one.bytes) (sym (stands one (cast ++ rest))) (first_in one.bytes (cast_on one.feed (cast ++ rest)))))),
    genuine_behind (before ++ one ∷ []) cast rest (λ feed. ap (cast_on feed) (append_assoc before (one ∷ []) (cast ++ rest)) ∙ all feed),
  )

  pub front_is_genuine : (all cast : List Casting) → ((feed : Feed) → cast_on feed all ≡ sent_on terms acts (channel_of feed)) → Begins cast all
      → Genuine terms acts (delivered cast)
  front_is_genuine all cast is front = genuine_behind [] cast front.0 (λ feed. ap (cast_on feed) front.1 ∙ is feed)
