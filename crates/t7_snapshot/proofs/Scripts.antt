-- What is left of a script, item by item.
use Rattle.std.proofs.Common.{◌≡◌, ◌≢◌, ℕ, ◌+◌, ◌<◌, ◌≤◌, inl, inr, ℤ, true, List, [], ◌∷◌, ◌++◌, length, map, drop, get_or, Option, Some, None, refl, sym, ap, subst, ◌∙◌, arith}
use Rattle.std.specs.List.{All}
use Rattle.std.specs.Ordering.{int_eq}
use Rattle.std.proofs.lemmas.Bool.{cases_Bool}
use Rattle.std.proofs.lemmas.Bool.Decides.{Decides-int_eq}
use Rattle.std.proofs.lemmas.List.{drop_all, drop_more}
use Rattle.t7_base.specs.declared.public.Resting.{Resting}
use Rattle.t7_eobi.specs.declared.walks.Snap.TheVariants.{Instrument}
use Rattle.t7_feed.specs.Cycles.{body_of, Entry, item_of}
use Rattle.t7_feed.specs.Sending.{entry_of, parts_of}
use Rattle.t7_snapshot.specs.Sending.{items_in, items_under, left_of}
use Rattle.t7_snapshot.specs.declared.tally.Tally.{Tally}
use Rattle.t7_snapshot.specs.Tallies.{IsTallied, orders_in, securities_of}
use Rattle.t7_snapshot.proofs.TallyFacts.{no_elements, tallied_behind}

items_skip : (security : ℤ) (y : Resting) (ys : List Resting) → y.security ≢ security → items_in security (y ∷ ys) ≡ items_in security ys
items_skip security y ys other = elim (cases_Bool (int_eq y.security security)) [
  | inl same ↦ absurd (other ((Decides-int_eq y.security security).0 same))
  | inr differs ↦ rw differs refl
]

items_take : (security : ℤ) (y : Resting) (ys : List Resting) → y.security ≡ security → items_in security (y ∷ ys) ≡ item_of (entry_of y) ∷ items_in security ys
items_take security y ys same = (let here : int_eq y.security security ≡ true = (Decides-int_eq y.security security).1 same in rw here refl)

pub next_skips : (security : ℤ) (orders : List Resting) (at : ℕ) (read : Resting) → at < length orders → read ≡ get_or orders at read → read.security ≢ security → items_in security (drop at orders) ≡ items_in security (drop (at + 1) orders)
next_skips security orders at read below is other =
    ap (λ l. items_in security l) (drop_more orders at read below ∙ ap (λ y. y ∷ drop (at + 1) orders) (sym is)) ∙ items_skip security read (drop (at + 1) orders) other

pub next_found : (security : ℤ) (orders : List Resting) (at : ℕ) (read : Resting) → at < length orders → read ≡ get_or orders at read → read.security ≡ security
    → items_in security (drop at orders) ≡ item_of (entry_of read) ∷ items_in security (drop (at + 1) orders)
next_found security orders at read below is same =
    ap (λ l. items_in security l) (drop_more orders at read below ∙ ap (λ y. y ∷ drop (at + 1) orders) (sym is)) ∙ items_take security read (drop (at + 1) orders) same

pub next_none : (security : ℤ) (orders : List Resting) (at : ℕ) → length orders ≤ at → items_in security (drop at orders) ≡ []
next_none security orders at past = ap (λ l. items_in security l) (drop_all at orders past)

-- none is left of the security under way
pub none_left : (under : Option ℤ) (rest : List Resting) (left : ℕ) → left ≡ length (items_under under rest) → left ≤ 0 → items_under under rest ≡ []
none_left under rest left is none = no_elements (items_under under rest) (omega (arith, is, none))

counted_list : (ys : List Resting) → length (map entry_of ys) ≡ length ys
counted_list [] = refl
counted_list (y ∷ ys) = (let l = counted_list ys in omega (arith, l))

items_list : (entries : List Entry) → length (map item_of entries) ≡ length entries
items_list [] = refl
items_list (e ∷ es) = (let l = items_list es in omega (arith, l))

items_as : (security : ℤ) (orders : List Resting) → items_in security orders ≡ map item_of (map entry_of (orders_in security orders))
items_as security orders = refl

behind_first : (orders : List Resting) (tally : Tally) → IsTallied orders tally → items_in tally.security (drop tally.first orders) ≡ items_in tally.security orders
behind_first orders tally is = ap (λ l. map item_of (map entry_of l)) (tallied_behind orders tally is)

-- so many orders of the next security are there
pub section_left : (orders : List Resting) (tally : Tally) → IsTallied orders tally → tally.count ≡ length (items_under (Some tally.security) (drop tally.first orders))
section_left orders tally is =
    is.count ∙ sym (counted_list (orders_in tally.security orders)) ∙ sym (items_list (map entry_of (orders_in tally.security orders))) ∙ ap length (sym (behind_first orders tally is))

-- the next security
pub left_section : (orders : List Resting) (tallies : List Tally) (next : ℕ) (tally : Tally) (under : Option ℤ) (rest : List Resting) → drop next tallies ≡ tally ∷ drop (next + 1) tallies → items_under under rest ≡ [] → IsTallied orders tally
    → left_of None under (securities_of (drop next tallies)) rest orders
    ≡ Instrument tally.security tally.count ∷ left_of None (Some tally.security) (securities_of (drop (next + 1) tallies)) (drop tally.first orders) orders
left_section orders tallies next tally under rest is none tallied =
    let others = securities_of (drop (next + 1) tallies) in
    ap (λ l. l ++ body_of (parts_of (securities_of (drop next tallies)) orders)) none
    ∙ ap (λ ts. body_of (parts_of (securities_of ts) orders)) is
    ∙ ap (λ n. Instrument tally.security n ∷ (items_in tally.security orders ++ body_of (parts_of others orders))) (counted_list (orders_in tally.security orders) ∙ sym tallied.count)
    ∙ ap (λ l. Instrument tally.security tally.count ∷ (l ++ body_of (parts_of others orders))) (sym (behind_first orders tally tallied))

pub left_order : (under : Option ℤ) (securities : List ℤ) (rest next orders : List Resting) (order : Resting) → items_under under rest ≡ item_of (entry_of order) ∷ items_under under next
    → left_of None under securities rest orders ≡ item_of (entry_of order) ∷ left_of None under securities next orders
left_order under securities rest next orders order is = ap (λ l. l ++ body_of (parts_of securities orders)) is

pub left_end : (under : Option ℤ) (tallies : List Tally) (next : ℕ) (rest orders : List Resting) → items_under under rest ≡ [] → drop next tallies ≡ [] → left_of None under (securities_of (drop next tallies)) rest orders ≡ []
left_end under tallies next rest orders none is = ap (λ l. l ++ body_of (parts_of (securities_of (drop next tallies)) orders)) none ∙ ap (λ ts. body_of (parts_of (securities_of ts) orders)) is

-- a tally of those that are told
pub tally_of : (P : Tally → Type 0) (tallies : List Tally) (next : ℕ) (tally : Tally) → next < length tallies → tally ≡ get_or tallies next tally → All P tallies → P tally
tally_of P tallies next tally below is all = subst P (sym is) (all next tally below)
