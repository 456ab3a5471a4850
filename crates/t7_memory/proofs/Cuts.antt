-- The events of one call more.
use Rattle.std.proofs.Common.{◌≡◌, ℕ, List, [], ◌∷◌, ◌++◌, Option, Some, None, IfSome, true, false, ◌<◌, ◌≤◌, nat_lt, length, get_or, map, slice_get, refl, sym, ◌∙◌, ap, subst, arith}
use Rattle.std.proofs.lemmas.Bool.Decides.{nat_tests}
use Rattle.std.proofs.lemmas.List.{map-append}
use Rattle.std.proofs.lemmas.Option.{slice_get-get_or, slice_get_past}
use Rattle.t7_memory.specs.declared.cut.Cut.{Cut}
use Rattle.t7_net.specs.declared.link.LinkEvent.{LinkEvent}
use Rattle.t7_net.specs.declared.link.LinkItem.{LinkItem}
use Rattle.t7_net.specs.declared.link.LinkItem.TheVariants as item
use Rattle.t7_net.specs.Links.{link_taken}
use Rattle.t7_memory.specs.LinkStates.{FoundIn, IsLeft, cut_of, given_by, piece_of}

-- a cut more
pub cuts_more : (items : List LinkItem) (cuts : List Cut) (cut : Cut) (taken : List LinkItem) → taken ≡ cut_of items cut ∷ []
    → map (cut_of items) (cuts ++ cut ∷ []) ≡ map (cut_of items) cuts ++ taken
cuts_more items cuts cut taken is = map-append (cut_of items) cuts (cut ∷ []) ∙ ap (λ (l : List LinkItem). map (cut_of items) cuts ++ l) (sym is)

-- what was found is what was cut out
pub found_cut : (items : List LinkItem) (at start : ℕ) (first : LinkItem) (event : LinkEvent) (into : List ℕ) → slice_get items at ≡ Some first → FoundIn first start event into
    → link_taken event into ≡ cut_of items (record { at = at; start = start; count = given_by event }) ∷ []
found_cut items at start first event into is found =
    by_item first found ∙ ap (λ (o : Option LinkItem). piece_of o start (given_by event) ∷ []) (sym is)
  where
    by_item : (first : LinkItem) → FoundIn first start event into → link_taken event into ≡ piece_of (Some first) start (given_by event) ∷ []
    by_item (item.Opened conn) found = rw found refl
    by_item (item.Closed conn) found = rw found refl
    by_item item.Quiet found = rw found refl
    by_item (item.Bytes conn bytes) found = rw found.0 (ap (λ (l : List ℕ). item.Bytes conn l ∷ []) found.1)

-- something is left of the item that was found
pub left_there : (items : List LinkItem) (at start : ℕ) (first : LinkItem) → slice_get items at ≡ Some first → IfSome (slice_get items at) (λ i. IsLeft i start) → IsLeft first start
left_there items at start first is left = subst (λ (o : Option LinkItem). IfSome o (λ i. IsLeft i start)) is left

-- what a look-up found
pub get_at : (xs : List LinkItem) (i : ℕ) (x d : LinkItem) → true ≡ nat_lt i (length xs) → x ≡ get_or xs i d → slice_get xs i ≡ Some x
get_at xs i x d inside read =
    let below : i < length xs = grind (arith, nat_tests) in
    slice_get-get_or xs i d below ∙ ap (λ (l : LinkItem). let o : Option LinkItem = Some l in o) (sym read)

-- what a look-up didn't find
pub none_at : (xs : List LinkItem) (i : ℕ) → false ≡ nat_lt i (length xs) → slice_get xs i ≡ None
none_at xs i past =
    let above : length xs ≤ i = grind (arith, nat_tests) in
    slice_get_past xs i above
