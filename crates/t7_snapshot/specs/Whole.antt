-- What a whole snapshot shows.
use Rattle.std.specs.Prelude.{ℕ, suc, zero, ◌+◌, ℤ, List, [], ◌∷◌, ◌++◌, Option, Some, None}
use Rattle.std.specs.List.{cons_option}
use Rattle.t7_base.specs.declared.public.Resting.{Resting}
use Rattle.t7_eobi.specs.declared.walks.Snap.{Snap}
use Rattle.t7_eobi.specs.declared.walks.Snap.TheVariants.{Product, Instrument, Order}
use Rattle.t7_feed.specs.Cycles.{Section, Run}
use Rattle.t7_snapshot.specs.Store.{Store, seen}

-- the security that is under way after an item
unfoldable pub under_after : ℤ → Snap → ℤ
under_after under (Product m) = under
under_after under (Instrument security count) = security
under_after under (Order side price stamp qty) = under

-- the order that an item is, where a security is under way
unfoldable pub order_in : ℤ → Snap → Option Resting
order_in under (Product m) = None
order_in under (Instrument security count) = None
order_in under (Order side price stamp qty) = Some (record { security = under; side = side; price = price; stamp = stamp; qty = qty })

-- the orders among these items, where a security is under way
abbrev pub told : ℤ → List Snap → List Resting
told under [] = []
told under (snap ∷ snaps) = cons_option (order_in (under_after under snap) snap) (told (under_after under snap) snaps)

-- the items of a datagram, none where there is no datagram
abbrev pub or_nothing : Option (List Snap) → List Snap
or_nothing None = []
or_nothing (Some snaps) = snaps

-- the items of this many datagrams from number n on
abbrev pub snaps_from : (ℕ → Option (List Snap)) → ℕ → ℕ → List Snap
snaps_from at n zero = []
snaps_from at n (suc count) = or_nothing (at n) ++ snaps_from at (n + 1) count

-- the datagrams numbered p to q are one whole cycle at m
pub record IsOne (store : Store) (m p q : ℕ) : Type 0 where
  pub parts : List Section
  pub run : Run store.terms.listing.securities (seen store) m p q parts
