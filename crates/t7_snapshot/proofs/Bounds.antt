-- The numbers of what is kept.
use Rattle.std.proofs.Common.{◌≡◌, ℕ, ◌<◌, ◌≤◌, List, ◌∷◌, None, refl, subst, arith}
use Rattle.std.specs.List.{All}
use Rattle.std.proofs.lemmas.List.Elements.{All-head}
use Rattle.t7_base.specs.declared.ids.Channel.TheVariants as channel
use Rattle.t7_eobi.specs.declared.walks.Snap.{Snap}
use Rattle.t7_eobi.specs.declared.walks.Snap.TheVariants.{Product}
use Rattle.t7_eobi.specs.Bytes.{IsSnapItem}
use Rattle.t7_eobi.specs.Datagrams.{snaps_of}
use Rattle.t7_eobi.specs.Faults.{fault_of, Reading}
use Rattle.t7_feed.specs.Arrivals.{Terms}
use Rattle.t7_snapshot.specs.Store.{IsSnapDatagram, reading}

-- the numbers of the items of a snapshot datagram are in their ranges
abbrev pub AreRanged : Type 0
AreRanged = (x : Reading) (bytes : List ℕ) → fault_of x bytes ≡ None → x.channel ≡ channel.Snap → All IsSnapItem (snaps_of x.layouts bytes)

-- the number of a ProductSummary that a datagram begins with
pub product_below : AreRanged → (terms : Terms) (bytes : List ℕ) (m : ℕ) (more : List Snap) → IsSnapDatagram terms bytes → snaps_of terms.layouts bytes ≡ Product m ∷ more → m < 4294967295
product_below ranged terms bytes m more h is =
    let all : All IsSnapItem (Product m ∷ more) = subst (λ (l : List Snap). All IsSnapItem l) is (ranged (reading terms) bytes h refl) in
    let most : m ≤ 4294967294 = All-head IsSnapItem (Product m) more all in
    omega arith
