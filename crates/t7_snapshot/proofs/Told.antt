-- The orders that a whole snapshot tells.
use Rattle.std.proofs.Common.{◌≡◌, ℕ, suc, ◌+◌, ◌-◌, ◌<◌, ℤ, List, [], ◌∷◌, ◌++◌, length, map, Option, Some, refl, sym, ap, ◌∙◌, arith}
use Rattle.t7_eobi.specs.declared.walks.Snap.{Snap}
use Rattle.t7_feed.specs.Cycles.{Begins, Section, Entry, body_of, item_of, orders_of, resting_at, Stand, Run}
use Rattle.t7_greedy.specs.Cuts.{joined}
use Rattle.t7_snapshot.specs.Whole.{told, or_nothing, order_in, snaps_from, under_after}

pub told_orders : (security : ℤ) (orders : List Entry) (rest : List Snap) → told security (map item_of orders ++ rest) ≡ map (resting_at security) orders ++ told security rest
unfolding order_in under_after
told_orders security [] rest = refl
told_orders security (order ∷ orders) rest = ap (λ xs. resting_at security order ∷ xs) (told_orders security orders rest)

pub told_body : (under : ℤ) (parts : List Section) → told under (body_of parts) ≡ orders_of parts
unfolding order_in under_after
told_body under [] = refl
told_body under (part ∷ parts) = told_orders part.security part.orders (body_of parts) ∙ ap (λ xs. map (resting_at part.security) part.orders ++ xs) (told_body part.security parts)

pub stand_snaps : (at : ℕ → Option (List Snap)) (n : ℕ) (datagrams : List (List Snap)) → Stand at n datagrams → snaps_from at n (length datagrams) ≡ joined datagrams
stand_snaps at n [] stand = refl
stand_snaps at n (snaps ∷ others) stand = ap (λ r. or_nothing r ++ snaps_from at (n + 1) (length others)) stand.0 ∙ ap (λ xs. snaps ++ xs) (stand_snaps at (n + 1) others stand.1)

pub run_told : {securities : List ℤ} {at : ℕ → Option (List Snap)} {m p q : ℕ} {parts : List Section} (under : ℤ) (count : ℕ) → Run securities at m p q parts → count ≡ q + 1 - p → told under (snaps_from at p count) ≡ orders_of parts
unfolding order_in under_after
run_told {securities} {at} {m} {p} {q} {parts} under count r is =
    let many : count ≡ length r.datagrams = (let l = r.last in omega arith) in
    ap (λ k. told under (snaps_from at p k)) many ∙ ap (told under) (stand_snaps at p r.datagrams r.stand ∙ r.spells.spelled) ∙ told_body under parts

begins_long : (datagrams : List (List Snap)) → Begins datagrams → 0 < length datagrams
begins_long [] h = absurd h
begins_long (snaps ∷ others) h = omega arith

-- the first datagram and those behind it
pub run_told_first : {securities : List ℤ} {at : ℕ → Option (List Snap)} {m p q : ℕ} {parts : List Section} (under : ℤ) (snaps : List Snap) → Run securities at m p q parts → at p ≡ Some snaps
    → told under (snaps ++ snaps_from at (p + 1) (q - p)) ≡ orders_of parts
run_told_first {securities} {at} {m} {p} {q} {parts} under snaps r is =
    let some = begins_long r.datagrams r.spells.begins in
    let many : suc (q - p) ≡ q + 1 - p = (let l = r.last in omega arith) in
    ap (λ o. told under (or_nothing o ++ snaps_from at (p + 1) (q - p))) (sym is) ∙ run_told under (suc (q - p)) r many
