-- What an assembler remembers of the datagrams that it keeps.
use Rattle.std.specs.Prelude.{◌≡◌, ℕ, ◌+◌, ◌%◌, ◌<◌, List, [], length, get_or, Some, false}
use Rattle.t7_snapshot.specs.declared.progress.Progress.{Progress}
use Rattle.t7_snapshot.specs.Reading.{fresh, Kept, Reads}
use Rattle.t7_snapshot.specs.Store.{Store, held, seen, IsRing}

-- nothing is remembered
abbrev pub blank : Progress
blank = record { opens = false; next = 0; awaited = fresh []; back = 0 }

-- the datagrams above number `back` and below n are kept, as far as they are in the window, and none of them opens a cycle
abbrev pub IsRow : Store → ℕ → ℕ → Type 0
IsRow store n back = (k : ℕ) → back < k → k < n → store.highest < k + store.terms.listing.packets → Kept (seen store) k false

-- what is remembered of datagram n is right: whether it opens a cycle, what is awaited behind it and those that were read after it, and the row before it
pub record IsProgress (store : Store) (n : ℕ) (progress : Progress) : Type 0 where
  pub opens : Kept (seen store) n progress.opens
  pub reads : Reads (seen store) (fresh store.terms.listing.securities) n progress.next progress.awaited
  pub row : IsRow store n progress.back

-- what is remembered of each kept datagram is right
pub record AreRemembered (store : Store) (places : List Progress) : Type 0 where
  pub many : length places ≡ store.terms.listing.packets
  pub each : (n : ℕ) (bytes : List ℕ) → held store n ≡ Some bytes → IsProgress store n (get_or places (n % store.terms.listing.packets) blank)

-- the ring, and what is remembered beside it
pub record IsKeeping (store : Store) (places : List Progress) : Type 0 where
  pub ring : IsRing store
  pub remembered : AreRemembered store places
