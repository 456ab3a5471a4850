-- A snapshot datagram, item by item.
use Rattle.std.proofs.Common.{◌≡◌, ◌≢◌, ◌∙◌, ◌↔◌, ℕ, ◌+◌, ◌-◌, ◌<◌, ◌≤◌, ◌⊎◌, inl, inr, ℤ, nat_le, true, false, List, [], ◌∷◌, ◌++◌, length, take, drop, sum_by, map, Option, Some, None, Bool, IsTrue, MatchOption, is_some, Contains, refl, sym, ap, subst, arith, append_assoc, length-append}
use Rattle.std.proofs.Math.Seq.{take-append_seam, drop-append_seam}
use Rattle.std.proofs.lemmas.List.{append-nil, drop-drop, map-append}
use Rattle.std.proofs.lemmas.List.Folds.{concat-append}
use Rattle.std.proofs.lemmas.List.Sums.{sum_by_push}
use Rattle.std.specs.Bool.{OnFalse}
use Rattle.std.specs.List.{All, concat}
use Rattle.std.proofs.lemmas.List.Elements.{All-contains_itself, All-weaker}
use Rattle.t7_layout.specs.declared.roles.Role.TheVariants as role
use Rattle.t7_layout.specs.Layouts.{Layout}
use Rattle.t7_eobi.specs.declared.walks.Snap.{Snap}
use Rattle.t7_eobi.specs.Bytes.{header_bytes, snap_bytes}
use Rattle.t7_eobi.specs.Said.{ReadsSnap, SaysHeader, SaysSnap, SaySnaps}
use Rattle.t7_greedy.specs.Cuts.{IsFilled, IsLongestRun, cut, cut_from}
use Rattle.t7_eobi.specs.Sizes.{role_size, snap_size}
use Rattle.t7_packets.specs.Packing.{room_in}
use Rattle.t7_base.specs.Listing.{Listing, IsListing}
use Rattle.t7_eobi.specs.Bytes.{IsSecurity}
use Rattle.std.proofs.lemmas.Bool.Decides.{nat_tests}
use Rattle.std.proofs.lemmas.Int.{ints}
use Rattle.t7_feed.specs.Arrivals.{Terms}
use Rattle.t7_feed.specs.Sending.{snap_datagram_bytes}
use Rattle.t7_snapshot.specs.Sending.{Packs}

-- the items that are written so far
pub record IsFilling (terms : Terms) (number : ℕ) (old new : List Snap) (len : ℕ) (before out : List ℕ) : Type 0 where
  pub run : List Snap
  pub split : old ≡ run ++ new
  pub size : len ≡ role_size terms.layouts role.PacketHeader + sum_by (snap_size terms.layouts) run
  pub count : len ≡ length (snap_datagram_bytes terms number run)
  pub bytes : out ≡ snap_datagram_bytes terms number run ++ drop len before
  pub says : SaySnaps terms.layouts run (map (snap_bytes terms.layouts) run)

say_push : (layouts : List Layout) (items : List Snap) (messages : List (List ℕ)) (item : Snap) (message : List ℕ)
    → SaySnaps layouts items messages → SaysSnap layouts item message → SaySnaps layouts (items ++ item ∷ []) (messages ++ message ∷ [])
say_push layouts [] [] item message say says = (says, tt)
say_push layouts [] (m ∷ messages) item message say says = absurd say
say_push layouts (i ∷ items) [] item message say says = absurd say
say_push layouts (i ∷ items) (m ∷ messages) item message say says = (say.0, say_push layouts items messages item message say.1 says)

datagram_push : (terms : Terms) (number : ℕ) (run : List Snap) (snap : Snap)
    → snap_datagram_bytes terms number (run ++ snap ∷ []) ≡ snap_datagram_bytes terms number run ++ snap_bytes terms.layouts snap
datagram_push terms number run snap =
    let bytes = snap_bytes terms.layouts in
    let parts : concat (map bytes (run ++ snap ∷ [])) ≡ concat (map bytes run) ++ bytes snap =
    ap concat (map-append bytes run (snap ∷ []))
    ∙ concat-append (map bytes run) (bytes snap ∷ [])
    ∙ ap (λ bs. concat (map bytes run) ++ bs) (append-nil (bytes snap)) in
    ap (λ bs. header_bytes terms.layouts terms.listing.segment number ++ bs) parts
    ∙ sym (append_assoc (header_bytes terms.layouts terms.listing.segment number) (concat (map bytes run)) (bytes snap))

pub filling_header : (terms : Terms) (number : ℕ) (old : List Snap) (len : ℕ) (before out : List ℕ) → len ≡ role_size terms.layouts role.PacketHeader
    → len ≡ length (header_bytes terms.layouts terms.listing.segment number) → out ≡ header_bytes terms.layouts terms.listing.segment number ++ drop len before
    → IsFilling terms number old old len before out
filling_header terms number old len before out size count bytes =
    let whole = sym (append-nil (header_bytes terms.layouts terms.listing.segment number)) in
    record {
      run = [];
      split = refl;
      size = omega (arith, size);
      count = count ∙ ap length whole;
      bytes = bytes ∙ ap (λ bs. bs ++ drop len before) whole;
      says = tt;
    }

written_behind : (datagram more before out new : List ℕ) (len size : ℕ) → len ≡ length datagram → out ≡ datagram ++ drop len before
    → new ≡ take len out ++ (more ++ drop (len + size) out) → new ≡ (datagram ++ more) ++ drop (len + size) before
written_behind datagram more before out new len size count bytes is =
    let front : take len out ≡ datagram = ap (λ bs. take len bs) bytes ∙ ap (λ n. take n (datagram ++ drop len before)) count ∙ take-append_seam datagram (drop len before) in
    let behind : drop len out ≡ drop len before = ap (λ bs. drop len bs) bytes ∙ ap (λ n. drop n (datagram ++ drop len before)) count ∙ drop-append_seam datagram (drop len before) in
    let rest : drop (len + size) out ≡ drop (len + size) before = sym (drop-drop size len out) ∙ ap (λ bs. drop size bs) behind ∙ drop-drop size len before in
    is ∙ ap (λ bs. bs ++ (more ++ drop (len + size) out)) front ∙ ap (λ bs. datagram ++ (more ++ bs)) rest ∙ sym (append_assoc datagram more (drop (len + size) before))

pub filling_push : (terms : Terms) (number : ℕ) (old new : List Snap) (len : ℕ) (before out after : List ℕ) (snap snap' : Snap) (rest rest' : List Snap) (size : ℕ)
    → IsFilling terms number old new len before out → new ≡ snap ∷ rest → new ≡ snap' ∷ rest' → size ≡ snap_size terms.layouts snap
    → size ≡ length (snap_bytes terms.layouts snap) → SaysSnap terms.layouts snap (snap_bytes terms.layouts snap)
    → after ≡ take len out ++ (snap_bytes terms.layouts snap ++ drop (len + size) out)
    → IsFilling terms number old rest' (len + size) before after
filling_push terms number old new len before out after snap snap' rest rest' size f is passed sized counted says written =
    let more = datagram_push terms number f.run snap in
    let last = snap_bytes terms.layouts snap in
    let tail : rest ≡ rest' = cc (is, passed) in
    let sums : sum_by (snap_size terms.layouts) (f.run ++ snap ∷ []) ≡ sum_by (snap_size terms.layouts) f.run + snap_size terms.layouts snap = sum_by_push (snap_size terms.layouts) f.run snap in
    let whole : length (snap_datagram_bytes terms number f.run ++ last) ≡ length (snap_datagram_bytes terms number f.run) + length last = length-append (snap_datagram_bytes terms number f.run) last in
    let counts = f.count in
    let sizes = f.size in
    let longer : len + size ≡ length (snap_datagram_bytes terms number f.run ++ last) = omega (arith, counts, whole, counted) in
    let parts = map-append (snap_bytes terms.layouts) f.run (snap ∷ []) in
    record {
      run = f.run ++ snap ∷ [];
      split = f.split ∙ ap (λ xs. f.run ++ xs) (is ∙ ap (λ xs. snap ∷ xs) tail) ∙ sym (append_assoc f.run (snap ∷ []) rest');
      size = omega (arith, sizes, sums, sized);
      count = longer ∙ ap length (sym more);
      bytes = written_behind (snap_datagram_bytes terms number f.run) last before out after len size f.count f.bytes written ∙ ap (λ bs. bs ++ drop (len + size) before) (sym more);
      says = rw parts (say_push terms.layouts f.run (map (snap_bytes terms.layouts) f.run) snap last f.says says);
    }

abbrev pub ReadsAgain : Type 0
ReadsAgain = (layouts : List Layout) (segment count : ℕ) (items : List Snap) (header : List ℕ) (messages : List (List ℕ)) → SaysHeader layouts segment count header → SaySnaps layouts items messages
    → length (header ++ concat messages) ≤ 1472 → ReadsSnap layouts segment count items (header ++ concat messages)

filling_reads : ReadsAgain → (terms : Terms) (number : ℕ) (old new : List Snap) (len : ℕ) (before out : List ℕ) (f : IsFilling terms number old new len before out)
    → SaysHeader terms.layouts terms.listing.segment number (header_bytes terms.layouts terms.listing.segment number) → len ≤ 1472
    → ReadsSnap terms.layouts terms.listing.segment number f.run (take len out)
filling_reads again terms number old new len before out f says_header most =
    let datagram = snap_datagram_bytes terms number f.run in
    let counts = f.count in
    let whole : take len out ≡ datagram = ap (λ bs. take len bs) f.bytes ∙ ap (λ n. take n (datagram ++ drop len before)) f.count ∙ take-append_seam datagram (drop len before) in
    let short : length datagram ≤ 1472 = omega (arith, counts, most) in
    subst (λ bs. ReadsSnap terms.layouts terms.listing.segment number f.run bs) (sym whole)
    (again terms.layouts terms.listing.segment number f.run (header_bytes terms.layouts terms.listing.segment number) (map (snap_bytes terms.layouts) f.run) says_header f.says short)

-- a run that is as long as it can be is a datagram
packs : ReadsAgain → (terms : Terms) (number : ℕ) (old new : List Snap) (len : ℕ) (before out : List ℕ) (f : IsFilling terms number old new len before out)
    → SaysHeader terms.layouts terms.listing.segment number (header_bytes terms.layouts terms.listing.segment number) → terms.listing.datagram ≤ 1472 → len ≤ terms.listing.datagram
    → ((next : Snap) (others : List Snap) → new ≡ next ∷ others → room_in terms.layouts terms.listing.datagram < sum_by (snap_size terms.layouts) f.run + snap_size terms.layouts next)
    → IsFilled f.run → Packs terms number old new len before out
packs again terms number old new len before out f says_header narrow within full filled =
    let sizes = f.size in
    record {
      run = f.run;
      greedy = record { split = f.split; fits = omega (arith, sizes, within); full = full; filled = filled };
      within = within;
      count = f.count;
      bytes = f.bytes;
      reads = filling_reads again terms number old new len before out f says_header (omega (arith, narrow, within));
    }

some_run : (size : Snap → ℕ) (run : List Snap) → 0 < sum_by size run → IsFilled run
some_run size [] some = absurd (omega arith)
some_run size (x ∷ run) some = tt

-- the next item does not fit
pub packs_full : ReadsAgain → (terms : Terms) (number : ℕ) (old new : List Snap) (len : ℕ) (before out : List ℕ) (snap : Snap) (rest : List Snap) (size : ℕ) → IsFilling terms number old new len before out
    → SaysHeader terms.layouts terms.listing.segment number (header_bytes terms.layouts terms.listing.segment number) → 256 ≤ terms.listing.datagram → terms.listing.datagram ≤ 1472 → len ≤ terms.listing.datagram
    → role_size terms.layouts role.PacketHeader ≤ 128 → new ≡ snap ∷ rest → size ≡ snap_size terms.layouts snap → size ≤ 128 → terms.listing.datagram - len < size
    → Packs terms number old new len before out
packs_full again terms number old new len before out snap rest size f says_header wide narrow within header is sized short over =
    let sizes = f.size in
    packs again terms number old new len before out f says_header narrow within
    (λ next others new_is. (let same : snap_size terms.layouts next ≡ size = cc (is, new_is, sized) in omega (arith, sizes, same, over, within)))
    (some_run (snap_size terms.layouts) f.run (omega (arith, sizes, over, short, header, wide, within)))

-- no item is left
pub packs_all : ReadsAgain → (terms : Terms) (number : ℕ) (old new : List Snap) (len : ℕ) (before out : List ℕ) → IsFilling terms number old new len before out
    → SaysHeader terms.layouts terms.listing.segment number (header_bytes terms.layouts terms.listing.segment number) → terms.listing.datagram ≤ 1472 → len ≤ terms.listing.datagram
    → new ≡ [] → 0 < length old → Packs terms number old new len before out
packs_all again terms number old new len before out f says_header narrow within none some =
    packs again terms number old new len before out f says_header narrow within (λ next others new_is. absurd (cc (none, new_is)))
    (filled_run f.run (ap length f.split) (ap length none))
  where
    filled_run : (run : List Snap) → length old ≡ length (run ++ new) → length new ≡ 0 → IsFilled run
    filled_run [] counted none = absurd (omega (arith, counted, none, some))
    filled_run (x ∷ run) counted none = tt

-- the cut of messages begins with the longest run of them and goes on with the cut of what that leaves
abbrev pub CutsNext : Type 0
CutsNext = (size : Snap → ℕ) (room : ℕ) (messages run left : List Snap) → IsLongestRun size room messages run left → cut size room messages ≡ run ∷ cut size room left

-- so the cut of what is left goes on with the datagram
pub packs_cut : CutsNext → (terms : Terms) (number : ℕ) (old new : List Snap) (len : ℕ) (before out : List ℕ) (p : Packs terms number old new len before out)
    → cut (snap_size terms.layouts) (room_in terms.layouts terms.listing.datagram) old ≡ p.run ∷ cut (snap_size terms.layouts) (room_in terms.layouts terms.listing.datagram) new
packs_cut next terms number old new len before out p = next (snap_size terms.layouts) (room_in terms.layouts terms.listing.datagram) old p.run new p.greedy

at_most : (a b : ℕ) → ((nat_le a b ≡ true) × (a ≤ b)) ⊎ ((nat_le a b ≡ false) × (b < a))
at_most a b = grind (arith, nat_tests)

cut_from_some : (size : Snap → ℕ) (room : ℕ) (begun : List Snap) (left : ℕ) (xs : List Snap) → cut_from size room begun left xs ≡ [] → ⊥
cut_from_some size room begun left [] none = cc none
cut_from_some size room begun left (x ∷ xs) none =
    elim (at_most (size x) left) [
      | inl e ↦ cut_from_some size room (begun ++ x ∷ []) (left - size x) xs (rw e.0 at none)
      | inr o ↦ (let h : begun ∷ cut_from size room (x ∷ []) (room - size x) xs ≡ [] = rw o.0 at none in cc h)
    ]

-- no datagram is left only where no item is
pub cut_none : (size : Snap → ℕ) (room : ℕ) (xs : List Snap) → cut size room xs ≡ [] → xs ≡ []
cut_none size room [] none = refl
cut_none size room (x ∷ xs) none = absurd (cut_from_some size room (x ∷ []) (room - size x) xs none)

-- datagrams are left where an item is
pub peeks : (size : Snap → ℕ) (room : ℕ) (xs : List Snap) (next : Option Snap) (b : Bool) → MatchOption next (xs ≡ []) (λ snap. (rest : List Snap) × (xs ≡ snap ∷ rest))
    → b ≡ is_some next → IsTrue b ↔ (cut size room xs ≢ [])
peeks size room xs None b m is = (λ t. absurd (cc (t, is)), λ some. absurd (some (ap (λ l. cut size room l) m)))
peeks size room xs (Some snap) b m is = (λ t none. cut_from_some size room (snap ∷ []) (room - size snap) m.0 (sym (ap (λ l. cut size room l) m.1) ∙ none), λ some. is)

-- and none where no item is
pub peeks_none : (size : Snap → ℕ) (room : ℕ) (xs : List Snap) (next : Option Snap) (b : Bool) → MatchOption next (xs ≡ []) (λ snap. (rest : List Snap) × (xs ≡ snap ∷ rest))
    → b ≡ is_some next → OnFalse b (cut size room xs ≡ [])
peeks_none size room xs None b m is = rw is (ap (λ l. cut size room l) m)
peeks_none size room xs (Some snap) b m is = rw is tt

listed_security : (listing : Listing) → IsListing listing → (security : ℤ) → Contains listing.securities security → IsSecurity security
listed_security listing product security among =
    let range = product.security security among in
    let low = range.0 in
    let high = range.1 in
    (grind (arith, ints), grind (arith, ints))

-- the securities of a product are in their range
pub are_securities : (listing : Listing) → IsListing listing → All IsSecurity listing.securities
are_securities listing is = All-weaker (Contains listing.securities) IsSecurity (λ z among. listed_security listing is z among) listing.securities (All-contains_itself listing.securities)
