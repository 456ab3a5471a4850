-- Two whole cycles with one datagram in both are the same.
use Rattle.std.proofs.Common.{◌≡◌, ℕ, zero, suc, ◌+◌, ◌<◌, ◌≤◌, inl, inr, ℤ, List, [], ◌∷◌, ◌++◌, length, map, Option, Some, refl, sym, ap, ◌∙◌, arith, append_assoc, add-zero, length-append, ◌-◌}
use Rattle.t7_eobi.specs.declared.walks.Snap.{Snap}
use Rattle.t7_feed.proofs.Growth.{compare, le_or, some_one}
use Rattle.t7_feed.specs.Cycles.{AreOneCycle, Ends, Entry, Run, Section, Spells, Stand, body_of, item_of}
use Rattle.t7_greedy.specs.Cuts.{IsFilled, joined}
use Rattle.t7_eobi.specs.declared.walks.Snap.TheVariants as snap

-- no ProductSummary is among them
abbrev pub IsPlain : List Snap → Type 0
IsPlain [] = Unit {0}
IsPlain (snap.Product m ∷ snaps) = ⊥
IsPlain (snap.Instrument security count ∷ snaps) = IsPlain snaps
IsPlain (snap.Order side price stamp qty ∷ snaps) = IsPlain snaps

pub plain_append : (xs ys : List Snap) → IsPlain xs → IsPlain ys → IsPlain (xs ++ ys)
plain_append [] ys h g = g
plain_append (snap.Product m ∷ xs) ys h g = h
plain_append (snap.Instrument security count ∷ xs) ys h g = plain_append xs ys h g
plain_append (snap.Order side price stamp qty ∷ xs) ys h g = plain_append xs ys h g

pub plain_front : (xs ys : List Snap) → IsPlain (xs ++ ys) → IsPlain xs
plain_front [] ys h = tt
plain_front (snap.Product m ∷ xs) ys h = h
plain_front (snap.Instrument security count ∷ xs) ys h = plain_front xs ys h
plain_front (snap.Order side price stamp qty ∷ xs) ys h = plain_front xs ys h

pub plain_back : (xs ys : List Snap) → IsPlain (xs ++ ys) → IsPlain ys
plain_back [] ys h = h
plain_back (snap.Product m ∷ xs) ys h = absurd h
plain_back (snap.Instrument security count ∷ xs) ys h = plain_back xs ys h
plain_back (snap.Order side price stamp qty ∷ xs) ys h = plain_back xs ys h

pub plain_orders : (orders : List Entry) → IsPlain (map item_of orders)
plain_orders [] = tt
plain_orders (order ∷ orders) = plain_orders orders

pub plain_body : (parts : List Section) → IsPlain (body_of parts)
plain_body [] = tt
plain_body (part ∷ parts) = plain_append (map item_of part.orders) (body_of parts) (plain_orders part.orders) (plain_body parts)

-- in plain datagrams none begins with a ProductSummary
pub plain_inside : (at : ℕ → Option (List Snap)) (p c : ℕ) (datagrams : List (List Snap)) (m : ℕ) (more : List Snap) →
    Stand at p datagrams → IsPlain (joined datagrams) → c < length datagrams → at (p + c) ≡ Some (snap.Product m ∷ more) → ⊥
plain_inside at p c [] m more stand plain below found = absurd (omega arith)
plain_inside at p zero (snaps ∷ others) m more stand plain below found =
    let here : at p ≡ Some (snap.Product m ∷ more) = rw add-zero at found in
    let same : snaps ≡ snap.Product m ∷ more = some_one (sym stand.0 ∙ here) in
    let front = plain_front snaps (joined others) plain in
    rw same at front
plain_inside at p (suc c) (snaps ∷ others) m more stand plain below found =
    let moved : p + suc c ≡ p + 1 + c = omega arith in
    plain_inside at (p + 1) c others m more stand.1 (plain_back snaps (joined others) plain) (omega arith) (rw moved at found)

-- a cycle's first datagram, and what follows it
pub record Opened (at : ℕ → Option (List Snap)) (m p : ℕ) (parts : List Section) (datagrams : List (List Snap)) : Type 0 where
  pub more : List Snap
  pub others : List (List Snap)
  pub split : datagrams ≡ (snap.Product m ∷ more) ∷ others
  pub rest : more ++ joined others ≡ body_of parts

pub opened : {securities : List ℤ} (at : ℕ → Option (List Snap)) (m p : ℕ) (parts : List Section) (datagrams : List (List Snap)) → Spells securities m parts datagrams → Opened at m p parts datagrams
opened at m p parts [] s = absurd s.begins
opened at m p parts ([] ∷ others) s = absurd s.begins
opened at m p parts ((item ∷ more) ∷ others) s =
    let both = s.spelled in
    let head : item ≡ snap.Product m = cc both in
    let tail : more ++ joined others ≡ body_of parts = cc both in
    record { more = more; others = others; split = ap (λ x. (x ∷ more) ∷ others) head; rest = tail }

-- no cycle begins inside another
pub not_inside : {securities : List ℤ} (at : ℕ → Option (List Snap)) {m p q m' p' q' : ℕ} {parts parts' : List Section} →
    Run securities at m p q parts → Run securities at m' p' q' parts' → p < p' → p' ≤ q → ⊥
not_inside at {m} {p} {q} {m'} {p'} {q'} {parts} {parts'} r r' later within =
    let o = opened at m p parts r.datagrams r.spells in
    let o' = opened at m' p' parts' r'.datagrams r'.spells in
    let stand = rw o.split at r.stand in
    let stand' = rw o'.split at r'.stand in
    let plain = rw (← o.rest) at (plain_body parts) in
    let many : length r.datagrams ≡ suc (length o.others) = ap length o.split in
    let last = r.last in
    let c : ℕ = p' - (p + 1) in
    let where_is : p' ≡ p + 1 + c = omega arith in
    plain_inside at (p + 1) c o.others m' o'.more stand.1 (plain_back o.more (joined o.others) plain) (omega arith) (ap at (sym where_is) ∙ stand'.0)

-- an item is of one order
pub entry_one : (order other : Entry) → item_of order ≡ item_of other → order ≡ other
entry_one order other same =
    let side : order.side ≡ other.side = cc same in
    let price : order.price ≡ other.price = cc same in
    let stamp : order.stamp ≡ other.stamp = cc same in
    let qty : order.qty ≡ other.qty = cc same in
    ap (λ x. record { side = x; price = order.price; stamp = order.stamp; qty = order.qty }) side
    ∙ ap (λ x. record { side = other.side; price = x; stamp = order.stamp; qty = order.qty }) price
    ∙ ap (λ x. record { side = other.side; price = other.price; stamp = x; qty = order.qty }) stamp
    ∙ ap (λ x. record { side = other.side; price = other.price; stamp = other.stamp; qty = x }) qty

-- as many orders, and then something: the same orders, and then the same
pub orders_front : (orders others : List Entry) (xs ys : List Snap) → length orders ≡ length others →
    map item_of orders ++ xs ≡ map item_of others ++ ys → (orders ≡ others) × (xs ≡ ys)
orders_front [] [] xs ys count same = (refl, same)
orders_front [] (other ∷ others) xs ys count same = absurd (omega arith)
orders_front (order ∷ orders) [] xs ys count same = absurd (omega arith)
orders_front (order ∷ orders) (other ∷ others) xs ys count same =
    let count_rest : length orders ≡ length others = omega arith in
    let head : order ≡ other = entry_one order other (cc same) in
    let tail : map item_of orders ++ xs ≡ map item_of others ++ ys = cc same in
    let rest = orders_front orders others xs ys count_rest tail in
    (cc (head, rest.0), rest.1)

-- of the same securities no body goes on as another
pub body_front : (parts others : List Section) (rest : List Snap) →
    map (λ part. part.security) parts ≡ map (λ part. part.security) others →
    body_of parts ++ rest ≡ body_of others → parts ≡ others
body_front [] [] rest securities same = refl
body_front [] (other ∷ others) rest securities same = absurd (cc securities)
body_front (part ∷ parts) [] rest securities same = absurd (cc securities)
body_front (part ∷ parts) (other ∷ others) rest securities same =
    let assoc : (map item_of part.orders ++ body_of parts) ++ rest ≡ map item_of part.orders ++ (body_of parts ++ rest) = append_assoc (map item_of part.orders) (body_of parts) rest in
    let flat : snap.Instrument part.security (length part.orders) ∷ (map item_of part.orders ++ (body_of parts ++ rest))
    ≡ snap.Instrument other.security (length other.orders) ∷ (map item_of other.orders ++ body_of others)
    = ap (λ xs. snap.Instrument part.security (length part.orders) ∷ xs) (sym assoc) ∙ same in
    let security : part.security ≡ other.security = cc flat in
    let count : length part.orders ≡ length other.orders = cc flat in
    let tail : map item_of part.orders ++ (body_of parts ++ rest) ≡ map item_of other.orders ++ body_of others = cc flat in
    let both = orders_front part.orders other.orders (body_of parts ++ rest) (body_of others) count tail in
    let tails : map (λ p. p.security) parts ≡ map (λ p. p.security) others = cc securities in
    let more = body_front parts others rest tails both.1 in
    let head : part ≡ other = ap (λ x. record { security = x; orders = part.orders }) security ∙ ap (λ xs. record { security = other.security; orders = xs }) both.0 in
    ap (λ x. x ∷ parts) head ∙ ap (λ xs. other ∷ xs) more

-- from one place on, the shorter list of datagrams begins the longer
pub stand_front : (at : ℕ → Option (List Snap)) (p : ℕ) (datagrams others : List (List Snap)) → Stand at p datagrams → Stand at p others →
    length datagrams ≤ length others → (rest : List Snap) × (joined datagrams ++ rest ≡ joined others)
stand_front at p [] others stand stand' short = (joined others, refl)
stand_front at p (snaps ∷ datagrams) [] stand stand' short = absurd (omega arith)
stand_front at p (snaps ∷ datagrams) (snaps' ∷ others) stand stand' short =
    let same : snaps ≡ snaps' = some_one (sym stand.0 ∙ stand'.0) in
    let more = stand_front at (p + 1) datagrams others stand.1 stand'.1 (omega arith) in
    (more.0, append_assoc snaps (joined datagrams) more.0 ∙ ap (λ xs. snaps ++ xs) more.1 ∙ ap (λ xs. xs ++ joined others) same)

pub record SameCycle (m m' : ℕ) (parts parts' : List Section) : Type 0 where
  pub number : m ≡ m'
  pub sections : parts ≡ parts'

pub same_start : {securities : List ℤ} (at : ℕ → Option (List Snap)) {m p q m' q' : ℕ} {parts parts' : List Section} →
    (r : Run securities at m p q parts) (r' : Run securities at m' p q' parts') → length r.datagrams ≤ length r'.datagrams → SameCycle m m' parts parts'
same_start at {m} {p} {q} {m'} {q'} {parts} {parts'} r r' short =
    let front = stand_front at p r.datagrams r'.datagrams r.stand r'.stand short in
    let e = r.spells.spelled in
    let e' = r'.spells.spelled in
    let whole : snap.Product m ∷ (body_of parts ++ front.0) ≡ snap.Product m' ∷ body_of parts' =
    ap (λ xs. xs ++ front.0) (sym e) ∙ front.1 ∙ e' in
    let number : m ≡ m' = cc whole in
    let body : body_of parts ++ front.0 ≡ body_of parts' = cc whole in
    record { number = number; sections = body_front parts parts' front.0 (r.spells.named ∙ sym r'.spells.named) body }

-- two whole cycles with datagram i in both are the same
pub same_cycle : {securities : List ℤ} (at : ℕ → Option (List Snap)) (i : ℕ) {m p q m' p' q' : ℕ} {parts parts' : List Section} →
    Run securities at m p q parts → Run securities at m' p' q' parts' → p ≤ i → i ≤ q → p' ≤ i → i ≤ q' → SameCycle m m' parts parts'
same_cycle {securities} at i {m} {p} {q} {m'} {p'} {q'} {parts} {parts'} r r' from upto from' upto' =
    elim (compare p p') [
      | inl later ↦ absurd (not_inside at r r' later (omega arith))
      | inr (inl later) ↦ absurd (not_inside at r' r later (omega arith))
      | inr (inr same) ↦
          (let r2 : Run securities at m' p q' parts' = rw same r' in
          elim (le_or (length r.datagrams) (length r2.datagrams)) [
            | inl short ↦ same_start at r r2 short
            | inr long ↦ (let s = same_start at r2 r long in record { number = sym s.number; sections = sym s.sections })
          ])
    ]

-- something before or behind makes a list that isn't empty
pub filled_back : (xs ys : List Snap) → IsFilled ys → IsFilled (xs ++ ys)
filled_back [] ys filled = filled
filled_back (x ∷ xs) ys filled = tt

pub filled_front : (xs ys : List Snap) → IsFilled xs → IsFilled (xs ++ ys)
filled_front [] ys filled = absurd filled
filled_front (x ∷ xs) ys filled = tt

pub filled_some : (xs : List Snap) → IsFilled xs → 0 < length xs
filled_some [] filled = absurd filled
filled_some (x ∷ xs) filled = omega arith

pub ends_filled : (datagrams : List (List Snap)) → Ends datagrams → IsFilled (joined datagrams)
ends_filled [] ends = absurd ends
ends_filled (snaps ∷ []) ends = filled_front snaps [] ends
ends_filled (snaps ∷ other ∷ others) ends = filled_back snaps (joined (other ∷ others)) (ends_filled (other ∷ others) ends)

-- a longer list of datagrams from one place on, whose last has an item, has more items
pub stand_longer : (at : ℕ → Option (List Snap)) (p : ℕ) (datagrams others : List (List Snap)) → Stand at p datagrams → Stand at p others →
    length datagrams < length others → Ends others → (rest : List Snap) × IsFilled rest × (joined datagrams ++ rest ≡ joined others)
stand_longer at p [] others stand stand' short ends = (joined others, ends_filled others ends, refl)
stand_longer at p (snaps ∷ datagrams) [] stand stand' short ends = absurd (omega arith)
stand_longer at p (snaps ∷ datagrams) (snaps' ∷ []) stand stand' short ends = absurd (omega arith)
stand_longer at p (snaps ∷ datagrams) (snaps' ∷ other ∷ others) stand stand' short ends =
    let same : snaps ≡ snaps' = some_one (sym stand.0 ∙ stand'.0) in
    let more = stand_longer at (p + 1) datagrams (other ∷ others) stand.1 stand'.1 (omega arith) ends in
    (more.0, more.1, append_assoc snaps (joined datagrams) more.0 ∙ ap (λ xs. snaps ++ xs) more.2 ∙ ap (λ xs. xs ++ joined (other ∷ others)) same)

pub no_longer : {securities : List ℤ} (at : ℕ → Option (List Snap)) {m p q m' q' : ℕ} {parts parts' : List Section} →
    (r : Run securities at m p q parts) (r' : Run securities at m' p q' parts') → SameCycle m m' parts parts' → length r.datagrams < length r'.datagrams → ⊥
no_longer at {m} {p} {q} {m'} {q'} {parts} {parts'} r r' one short =
    let more = stand_longer at p r.datagrams r'.datagrams r.stand r'.stand short r'.spells.ends in
    let all : joined r.datagrams ≡ joined r'.datagrams =
    r.spells.spelled ∙ ap (λ x. snap.Product x ∷ body_of parts) one.number ∙ ap (λ x. snap.Product m' ∷ body_of x) one.sections ∙ sym r'.spells.spelled in
    let some = filled_some more.0 more.1 in
    let count : length (joined r.datagrams ++ more.0) ≡ length (joined r.datagrams) = ap length (more.2 ∙ sym all) in
    let sum = length-append (joined r.datagrams) more.0 in
    omega arith

-- two whole cycles with datagram i in both are one, from the first datagram to the last
pub one_cycle : {securities : List ℤ} (at : ℕ → Option (List Snap)) (i : ℕ) {m p q m' p' q' : ℕ} {parts parts' : List Section} →
    Run securities at m p q parts → Run securities at m' p' q' parts' → p ≤ i → i ≤ q → p' ≤ i → i ≤ q' → AreOneCycle m m' p p' q q' parts parts'
one_cycle {securities} at i {m} {p} {q} {m'} {p'} {q'} {parts} {parts'} r r' from upto from' upto' =
    let one = same_cycle at i r r' from upto from' upto' in
    elim (compare p p') [
      | inl later ↦ absurd (not_inside at r r' later (omega arith))
      | inr (inl later) ↦ absurd (not_inside at r' r later (omega arith))
      | inr (inr same) ↦
          (let r2 : Run securities at m' p q' parts' = rw same r' in
          let ends = r.last in let ends2 = r2.last in
          elim (compare (length r.datagrams) (length r2.datagrams)) [
            | inl short ↦ absurd (no_longer at r r2 one short)
            | inr (inl long) ↦ absurd (no_longer at r2 r (record { number = sym one.number; sections = sym one.sections }) long)
            | inr (inr count) ↦ record { number = one.number; first = same; last = omega arith; sections = one.sections }
          ])
    ]
