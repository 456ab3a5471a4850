-- A cycle of a book fits the packet window where a datagram takes 20 items of a snapshot.
use Rattle.std.proofs.Common.{◌≡◌, ℕ, ◌+◌, ◌*◌, ◌/◌, ◌-◌, ◌<◌, ◌≤◌, inl, inr, ℤ, Bool, true, false, not, cond, List, [], ◌∷◌, ◌++◌, length, map, refl, sym}
use Rattle.std.proofs.Common.{ap, ◌∙◌, arith, length-append}
use Rattle.std.specs.List.{AllByRecursion, IsDistinct, filter}
use Rattle.std.specs.Ordering.{int_eq}
use Rattle.std.proofs.lemmas.Bool.Decides.{Decides-int_eq}
use Rattle.std.proofs.lemmas.List.{length-map}
use Rattle.std.proofs.lemmas.List.Filters.{length-filter_both}
use Rattle.std.proofs.Math.Nat.{mul-le-mul}
use Rattle.t7_base.specs.Listing.{IsListing}
use Rattle.t7_base.specs.declared.public.Resting.{Resting}
use Rattle.t7_eobi.specs.declared.walks.Snap.{Snap}
use Rattle.t7_greedy.specs.Cuts.{cut, cut_from}
use Rattle.t7_greedy.proofs.CutFacts.{at_most}
use Rattle.t7_entry.specs.State.{Setting}
use Rattle.t7_feed.specs.Cycles.{Section, body_of, cycle_of, item_of}
use Rattle.t7_eobi.specs.Sizes.{snap_size}
use Rattle.t7_feed.specs.Sending.{cycle_at, entry_of, parts_of}
use Rattle.t7_feed.proofs.Growth.{compare, le_or}
use Rattle.t7_packets.specs.Packing.{room_in}
use Rattle.t7_drill.specs.Drilled.{IsRoomy}

one_more : (j most : ℕ) → (j + 1) * most ≡ j * most + most
one_more j most = grind arith

-- 20 items were put where 19 leave more room than the next one needs
twenty_put : (j most : ℕ) → 19 * most < j * most → 20 ≤ j
twenty_put j most h = elim (le_or 20 j) [
  | inl is ↦ is
  | inr few ↦ below j most h few
]
  where
    below : (j most : ℕ) → 19 * most < j * most → j ≤ 20 → 20 ≤ j
    below j most h few = elim (le_or j 19) [
      | inl less ↦ (let same : most ≤ most = omega arith in let le = mul-le-mul less same in absurd (omega arith))
      | inr more ↦ elim (compare j 19) [
        | inl under ↦ absurd (omega arith)
        | inr (inl over) ↦ omega arith
        | inr (inr is) ↦ (let both = ap (λ n. n * most) is in absurd (omega arith))
      ]
    ]

-- a datagram that is closed has 20 items at least
cut_from_long : {M : Type 0} (size : M → ℕ) (room most : ℕ) (begun : List M) (j left : ℕ) (xs : List M) → ((x : M) → size x ≤ most) → 20 * most ≤ room
    → room ≤ left + j * most → 20 * length (cut_from size room begun left xs) ≤ j + length xs + 20
cut_from_long size room most begun j left [] small fits had = omega arith
cut_from_long size room most begun j left (x ∷ xs) small fits had =
    let here = small x in
    elim (at_most (size x) left) [
      | inl e ↦ rw e.0 (let more = one_more j most in let le = e.1 in
          let rest = cut_from_long size room most (begun ++ x ∷ []) (j + 1) (left - size x) xs small fits (omega arith) in omega arith)
      | inr o ↦ rw o.0 (let over = o.1 in
          let put = twenty_put j most (omega arith) in
          let rest = cut_from_long size room most (x ∷ []) 1 (room - size x) xs small fits (omega arith) in omega arith)
    ]

pub cut_long : {M : Type 0} (size : M → ℕ) (room most : ℕ) (xs : List M) → ((x : M) → size x ≤ most) → 20 * most ≤ room
    → 20 * length (cut size room xs) ≤ length xs + 20
cut_long size room most [] small fits = omega arith
cut_long size room most (x ∷ xs) small fits =
    let here = small x in
    let rest = cut_from_long size room most (x ∷ []) 1 (room - size x) xs small fits (omega arith) in omega arith

-- the orders of a security, and those of all others
abbrev of_security : ℤ → List Resting → List Resting
of_security security orders = filter (λ (order : Resting). int_eq order.security security) orders

abbrev of_others : ℤ → List Resting → List Resting
of_others security orders = filter (λ (order : Resting). not (int_eq order.security security)) orders

differs : (a b c : ℤ) → int_eq a b ≡ true → int_eq b c ≡ false → int_eq a c ≡ false
differs a b c same other = (let is : a ≡ b = (Decides-int_eq a b).0 same in ap (λ z. int_eq z c) is ∙ other)

kept_by : (security other : ℤ) (order : Resting) (orders : List Resting) (s : Bool) → int_eq security other ≡ false → int_eq order.security security ≡ s
    → of_security other (of_others security orders) ≡ of_security other orders
    → of_security other (cond (not s) (order ∷ of_others security orders) (of_others security orders)) ≡ of_security other (order ∷ orders)
kept_by security other order orders true apart is rest =
    rest ∙ sym (ap (λ (b : Bool). cond b (order ∷ of_security other orders) (of_security other orders)) (differs order.security security other is apart))
kept_by security other order orders false apart is rest = ap (λ (l : List Resting). cond (int_eq order.security other) (order ∷ l) l) rest

-- leaving out the orders of a security leaves those of another
kept_others : (security other : ℤ) (orders : List Resting) → int_eq security other ≡ false
    → of_security other (of_others security orders) ≡ of_security other orders
kept_others security other [] apart = refl
kept_others security other (order ∷ orders) apart =
    kept_by security other order orders (int_eq order.security security) apart refl (kept_others security other orders apart)

parts_kept : (security : ℤ) (others : List ℤ) (orders : List Resting) → AllByRecursion (λ t. int_eq security t ≡ false) others
    → parts_of others (of_others security orders) ≡ parts_of others orders
parts_kept security [] orders apart = refl
parts_kept security (t ∷ others) orders apart =
    ap (λ (l : List Resting). let part : Section = record { security = t; orders = map entry_of l } in part ∷ parts_of others (of_others security orders))
    (kept_others security t orders apart.0)
    ∙ ap (λ (ps : List Section). let part : Section = record { security = t; orders = map entry_of (of_security t orders) } in part ∷ ps)
    (parts_kept security others orders apart.1)

pub body_long : (securities : List ℤ) (orders : List Resting) → IsDistinct int_eq securities
    → length (body_of (parts_of securities orders)) ≤ length securities + length orders
unfolding IsDistinct
body_long [] orders once = omega arith
body_long (security ∷ others) orders once =
    let mine = of_security security orders in
    let rest = body_long others (of_others security orders) once.1 in
    let same = ap (λ (l : List Section). length (body_of l)) (parts_kept security others orders once.0) in
    let both = length-filter_both (λ (order : Resting). int_eq order.security security) (λ (order : Resting). not (int_eq order.security security))
    (λ order. refl) orders in
    let entries : length (map item_of (map entry_of mine)) ≡ length mine = length-map (map entry_of mine) item_of ∙ length-map mine entry_of in
    let all = length-append {A = Snap} (map item_of (map entry_of mine)) (body_of (parts_of others orders)) in
    omega arith

-- a cycle of at most 20,000 orders fits the packet window
pub cycle_fits : (setting : Setting) (m : ℕ) (orders : List Resting) → IsRoomy setting → IsListing setting.listing → length orders ≤ 20_000
    → length (cycle_at (record { layouts = setting.layouts; listing = setting.listing }) m orders) ≤ setting.listing.packets
cycle_fits setting m orders roomy sound few =
    let room = room_in setting.layouts setting.listing.datagram in
    let size = snap_size setting.layouts in
    let securities = roomy.securities in
    let packets = roomy.packets in
    let body = body_long setting.listing.securities orders sound.each_once in
    let long = cut_long size room (room / 20) (cycle_of m (parts_of setting.listing.securities orders)) (λ x. let fits = roomy.items x in omega arith)
    (omega arith) in
    omega arith
