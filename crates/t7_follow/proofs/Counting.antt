-- How many deliveries a member counts on a feed.
use Rattle.std.proofs.Common.{◌≡◌, ℕ, ◌+◌, ◌-◌, ◌^◌, ◌<◌, ◌≤◌, List, [], ◌∷◌, Bool, true, false, ◌&&◌, Option, Some, None, MatchOption, is_none, if◌then◌else◌, length, arith, refl, ◌∙◌, ap}
use Rattle.t7_base.specs.declared.ids.Feed.{Feed}
use Rattle.t7_base.specs.declared.ids.Feed.TheVariants.{LiveA, LiveB, SnapA, SnapB}
use Rattle.t7_eobi.specs.declared.faults.PacketFault.{PacketFault}
use Rattle.t7_eobi.specs.Faults.{fault_of}
use Rattle.t7_feed.specs.Arrivals.{Delivery, Terms, reading_of}
use Rattle.t7_lines.specs.declared.tally.Tallies.{Tallies}
use Rattle.t7_lines.specs.Gap.{no_tallies, noted_on, raised, tally_of}
use Rattle.t7_member.specs.Keeping.{Image}
use Rattle.t7_member.specs.Steps.{Delivers}
use Rattle.t7_follow.specs.Members.{Made, accepted_on, same_feed}

noted_taken : (tallies : Tallies) (at feed : Feed) (fresh : Bool) → (tally_of (noted_on tallies at fresh) feed).taken
    ≡ (if same_feed feed at then raised (tally_of tallies feed).taken else (tally_of tallies feed).taken)
noted_taken tallies LiveA LiveA fresh = refl
noted_taken tallies LiveA LiveB fresh = refl
noted_taken tallies LiveA SnapA fresh = refl
noted_taken tallies LiveA SnapB fresh = refl
noted_taken tallies LiveB LiveA fresh = refl
noted_taken tallies LiveB LiveB fresh = refl
noted_taken tallies LiveB SnapA fresh = refl
noted_taken tallies LiveB SnapB fresh = refl
noted_taken tallies SnapA LiveA fresh = refl
noted_taken tallies SnapA LiveB fresh = refl
noted_taken tallies SnapA SnapA fresh = refl
noted_taken tallies SnapA SnapB fresh = refl
noted_taken tallies SnapB LiveA fresh = refl
noted_taken tallies SnapB LiveB fresh = refl
noted_taken tallies SnapB SnapA fresh = refl
noted_taken tallies SnapB SnapB fresh = refl

-- one more is one more while the count is below the greatest
one_more : (n m : ℕ) → n ≡ m → m < 2 ^ 64 - 1 → raised n ≡ m + 1
one_more n m is below = omega arith

by_feed : (b : Bool) (n m : ℕ) → n ≡ m → m < 2 ^ 64 - 1 → (if b then raised n else n) ≡ (if b && true then m + 1 else m)
by_feed true n m is below = one_more n m is below
by_feed false n m is below = is

none_more : (b : Bool) (n m : ℕ) → n ≡ m → n ≡ (if b && false then m + 1 else m)
none_more true n m is = is
none_more false n m is = is

-- a delivery more
counted : (fault : Option PacketFault) (at feed : Feed) (bytes : List ℕ) (old new : Image) (m : ℕ) → MatchOption fault (Delivers at bytes old new) (λ fault. new ≡ record old { bad = raised old.bad })
    → (tally_of old.tallies feed).taken ≡ m → m < 2 ^ 64 - 1 → (tally_of new.tallies feed).taken ≡ (if same_feed feed at && is_none fault then m + 1 else m)
counted None at feed bytes old new m took is below =
    ap (λ (i : Image). (tally_of i.tallies feed).taken) took.counted ∙ noted_taken old.tallies at feed took.fresh
    ∙ by_feed (same_feed feed at) (tally_of old.tallies feed).taken m is below
counted (Some fault) at feed bytes old new m took is below =
    ap (λ (i : Image). (tally_of i.tallies feed).taken) took ∙ none_more (same_feed feed at) (tally_of old.tallies feed).taken m is

accepted_few : (terms : Terms) (feed : Feed) (came : List Delivery) → accepted_on terms feed came ≤ length came
accepted_few terms feed [] = omega arith
accepted_few terms feed (delivery ∷ before) =
    by_test (same_feed feed delivery.feed && is_none (fault_of (reading_of terms delivery.feed) delivery.bytes)) (accepted_few terms feed before)
  where
    by_test : (b : Bool) → accepted_on terms feed before ≤ length before → (if b then accepted_on terms feed before + 1 else accepted_on terms feed before) ≤ length (delivery ∷ before)
    by_test true below = omega arith
    by_test false below = omega arith

pub counts_accepted : (terms : Terms) (came : List Delivery) (member : Image) → Made terms came member → length came < 2 ^ 64 → (feed : Feed)
    → (tally_of member.tallies feed).taken ≡ accepted_on terms feed came
counts_accepted terms [] member made few feed = ap (λ (t : Tallies). (tally_of t feed).taken) made.tallies ∙ none feed
  where
    none : (feed : Feed) → (tally_of no_tallies feed).taken ≡ 0
    none LiveA = refl
    none LiveB = refl
    none SnapA = refl
    none SnapB = refl
counts_accepted terms (delivery ∷ before) member made few feed =
    counted (fault_of (reading_of terms delivery.feed) delivery.bytes) delivery.feed feed delivery.bytes made.0 member (accepted_on terms feed before) made.2
    (counts_accepted terms before made.0 made.1 (shorter delivery before few) feed) (below delivery before few (accepted_few terms feed before))
  where
    shorter : (d : Delivery) (before : List Delivery) → length (d ∷ before) < 2 ^ 64 → length before < 2 ^ 64
    shorter d before few = omega arith

    below : {m : ℕ} (d : Delivery) (before : List Delivery) → length (d ∷ before) < 2 ^ 64 → m ≤ length before → m < 2 ^ 64 - 1
    below d before few upto = omega arith
