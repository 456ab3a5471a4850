-- The datagrams that were cast, feed by feed.
use Rattle.std.specs.Prelude.{ℕ, Bool, true, false, if◌then◌else◌, List, [], ◌∷◌}
use Rattle.t7_base.specs.declared.ids.Feed.{Feed}
use Rattle.t7_base.specs.declared.ids.Feed.TheVariants.{LiveA, LiveB, SnapA, SnapB}
use Rattle.t7_feed.specs.Arrivals.{Delivery}
use Rattle.t7_net.specs.Lines.{Casting}

-- two feeds are the same
abbrev pub same_feed : Feed → Feed → Bool
same_feed LiveA LiveA = true
same_feed LiveB LiveB = true
same_feed SnapA SnapA = true
same_feed SnapB SnapB = true
same_feed _ _ = false

-- what was cast on a feed, in order
abbrev pub cast_on : Feed → List Casting → List (List ℕ)
cast_on feed [] = []
cast_on feed (casting ∷ others) = if same_feed feed casting.feed then casting.bytes ∷ cast_on feed others else cast_on feed others

-- what was cast, as deliveries on the same feeds
abbrev pub delivered : List Casting → List Delivery
delivered [] = []
delivered (casting ∷ others) = record { feed = casting.feed; bytes = casting.bytes } ∷ delivered others
