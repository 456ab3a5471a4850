-- Facts about the ranges of fields.
use Rattle.std.proofs.Common.{◌≡◌, leb, ◌<◌, ◌+◌, ◌∙◌, add-one, ap, drop-cons, get_or, length, sym, ℕ, zero, suc, Bool, true, false, List, [], ◌∷◌, Option, Some, None, drop, refl, cond, arith, not, is_some, pos, nat_abs, ◌&&◌, ◌≤◌}
use Rattle.std.specs.Prelude.{Contains, find, ℤ, negsuc, ◌≤ℤ◌, ◌^◌}
use Rattle.std.proofs.lemmas.Bool.Decides.{nat_tests}
use Rattle.std.specs.Int.Signed.{le_z, le_z_yes}
use Rattle.t7_layout.specs.declared.words.Kind.TheVariants.{Raw}
use Rattle.t7_layout.specs.declared.roles.Role.{Role}
use Rattle.t7_layout.specs.declared.roles.FieldName.{FieldName}
use Rattle.t7_layout.specs.declared.roles.FieldName.TheVariants as name
use Rattle.t7_layout.specs.Roles.{kind_of, required}
use Rattle.t7_fields.specs.Messages.{Message, first_unset, is_among, said_number, value}
use Rattle.t7_fields.proofs.NameFacts.{among_contains}
use Rattle.t7_base.specs.Ranges.{IsPrice, IsQuantity, IsStamp}
use Rattle.t7_eobi.specs.Ranges.{IsSound, counted, first_out, fits, in_range, is_live, range_of}
use Rattle.t7_eobi.specs.Bytes.{IsSequence}
use Rattle.t7_eobi.specs.declared.ranges.Range.{Range}
use Rattle.t7_eobi.specs.declared.ranges.Range.TheVariants as range

-- raw bytes may be any
pub raw_any : (name : FieldName) (o : Option ℤ) → kind_of name ≡ Raw → fits name o ≡ true
unfolding kind_of range_of fits in_range
raw_any name.BodyLen o h = cc h
raw_any name.TemplateID o h = cc h
raw_any name.MsgSeqNum o h = cc h
raw_any name.HeartBtInt o h = cc h
raw_any name.PartyIDSessionID o h = cc h
raw_any name.Side o h = cc h
raw_any name.SecurityID o h = cc h
raw_any name.ClOrdID o h = cc h
raw_any name.Price o h = cc h
raw_any name.OrderQty o h = cc h
raw_any name.OrderID o h = cc h
raw_any name.ApplBegMsgID None h = refl
raw_any name.ApplBegMsgID (Some z) h = refl
raw_any name.ApplEndMsgID None h = refl
raw_any name.ApplEndMsgID (Some z) h = refl
raw_any name.SessionRejectReason o h = cc h
raw_any name.ApplTotalMessageCount o h = cc h
raw_any name.RefApplLastMsgID None h = refl
raw_any name.RefApplLastMsgID (Some z) h = refl
raw_any name.ApplMsgID None h = refl
raw_any name.ApplMsgID (Some z) h = refl
raw_any name.TrdRegTSTimePriority o h = cc h
raw_any name.NoAffectedOrders o h = cc h
raw_any name.LeavesQty o h = cc h
raw_any name.CumQty o h = cc h
raw_any name.FillQty o h = cc h
raw_any name.FillPx o h = cc h
raw_any name.ApplSeqNum o h = cc h
raw_any name.MarketSegmentID o h = cc h
raw_any name.LastMsgSeqNumProcessed o h = cc h
raw_any name.DisplayQty o h = cc h
raw_any name.TrdRegTSPrevTimePriority o h = cc h
raw_any name.PrevPrice o h = cc h
raw_any name.PrevDisplayQty o h = cc h
raw_any name.LastQty o h = cc h
raw_any name.LastPx o h = cc h
raw_any name.AggressorTime o h = cc h
raw_any name.AggressorSide o h = cc h
raw_any name.TotNoOrders o h = cc h

contains_drop : {X : Type 0} (n : ℕ) (xs : List X) (x : X) → Contains (drop n xs) x → Contains xs x
contains_drop zero xs x h = h
contains_drop (suc n) [] x h = let (k, inside, is) = h in absurd (omega arith)
contains_drop (suc n) (y ∷ ys) x h = let (k, inside, is) = contains_drop n ys x h in (suc k, omega arith, is)

pub counted_required : (role : Role) (name : FieldName) → Contains (counted role) name → Contains (required role) name
unfolding counted
counted_required role name h = contains_drop (cond (is_live role) 2 3) (required role) name h

pub find_none : {X : Type 0} (p : X → Bool) (xs : List X) (x : X) → find p xs ≡ None → Contains xs x → p x ≡ false
find_none p [] x h c = let (k, inside, is) = c in absurd (omega arith)
find_none {X = X} p (y ∷ ys) x h c = by (p y) refl h c (find_none p ys x)
  where
    by : (b : Bool) → p y ≡ b → cond b (Some y) (find p ys) ≡ None → Contains (y ∷ ys) x → (find p ys ≡ None → Contains ys x → p x ≡ false) → p x ≡ false
    by true e h c more = cc h
    by false e h (zero, inside, is) more = rw (← is) e
    by false e h (suc k, inside, is) more = more h (k, omega arith, is)

-- a field that counts in a sound message says a number of its range
pub record Says (m : Message) (name : FieldName) (z : ℤ) : Type 0 where
  pub said : said_number m name ≡ Some z
  pub value : value m name ≡ z
  pub ranged : in_range (range_of name) z ≡ true

pub sound_says : (m : Message) (name : FieldName) → IsSound m → Contains (counted m.role) name → (z : ℤ) × Says m name z
unfolding first_unset first_out fits value
sound_says m name h there = by (said_number m name) refl (find_none _ _ name h.set there) (find_none _ _ name h.ranged there)
  where
    by : (o : Option ℤ) → said_number m name ≡ o → not (is_some o) ≡ false → not (fits name o) ≡ false → (z : ℤ) × Says m name z
    by None e set ranged = cc set
    by (Some z) e set ranged = (z, record { said = e; value = rw e refl; ranged = yes (in_range (range_of name) z) ranged })
      where
        yes : (b : Bool) → not b ≡ false → b ≡ true
        yes true h = refl
        yes false h = cc h

-- such a field says something
pub says_some : (m : Message) (name : FieldName) → IsSound m → Contains (counted m.role) name → is_some (said_number m name) ≡ true
says_some m name h there = let (z, says) = sound_says m name h there in rw says.said refl

pub value_is : (m : Message) (name : FieldName) (z : ℤ) → said_number m name ≡ Some z → value m name ≡ z
unfolding value
value_is m name z e = rw e refl

pub sound_range : (m : Message) (name : FieldName) (r : Range) → IsSound m → Contains (counted m.role) name → range_of name ≡ r → in_range r (value m name) ≡ true
sound_range m name r h there e = let (z, says) = sound_says m name h there in rw (says.value, ← e) says.ranged

pub both : (a b : Bool) → (a && b) ≡ true → (a ≡ true) × (b ≡ true)
both true b h = (refl, h)
both false b h = cc h

le_true : (a b : ℤ) → le_z a b ≡ true → a ≤ℤ b
le_true a b e = le_z_yes (rw e tt)

pub is_price : (z : ℤ) → in_range range.Price z ≡ true → IsPrice z
unfolding in_range
is_price z e = let (low, high) = both _ _ e in (le_true _ _ low, le_true _ _ high)

pub is_quantity : (z : ℤ) → in_range range.Quantity z ≡ true → IsQuantity z
unfolding in_range
is_quantity z e = let (low, high) = both _ _ e in (le_true _ _ low, le_true _ _ high)

pub is_stamp : (n : ℕ) → in_range range.Stamp (pos n) ≡ true → IsStamp n
unfolding in_range
is_stamp n e =
    let (low, high) = both _ _ e in
    let l : leb 1 n ≡ true = low in
    let h : leb n 9_223_372_036_854_775_807 ≡ true = high in
    let a : 1 ≤ n = grind (arith, nat_tests) in
    let b : n ≤ 9_223_372_036_854_775_807 = grind (arith, nat_tests) in
    (a, omega arith)

pub counts : (role : Role) (name : FieldName) → is_among name (counted role) ≡ true → Contains (counted role) name
counts role name e = among_contains name (counted role) e

pub is_sequence : (n : ℕ) → in_range range.Sequence (pos n) ≡ true → n < 2 ^ 32
unfolding in_range
is_sequence n e =
    let high : leb n 4_294_967_294 ≡ true = (both (leb 1 n) (leb n 4_294_967_294) e).1 in
    let b : n ≤ 4_294_967_294 = grind (arith, nat_tests) in
    omega arith

pub is_last : (n : ℕ) → in_range range.Processed (pos n) ≡ true → n < 2 ^ 32
unfolding in_range
is_last n e =
    let high : leb n 4_294_967_294 ≡ true = (both (leb 0 n) (leb n 4_294_967_294) e).1 in
    let b : n ≤ 4_294_967_294 = grind (arith, nat_tests) in
    omega arith

pub seq_abs : (z : ℤ) → in_range range.Sequence z ≡ true → IsSequence (nat_abs z)
unfolding in_range
seq_abs (pos n) e =
    let low : leb 1 n ≡ true = (both (leb 1 n) (leb n 4_294_967_294) e).0 in
    let high : leb n 4_294_967_294 ≡ true = (both (leb 1 n) (leb n 4_294_967_294) e).1 in
    let a : 1 ≤ n = grind (arith, nat_tests) in
    let b : n ≤ 4_294_967_294 = grind (arith, nat_tests) in
    (a, b)
seq_abs (negsuc n) e = cc e

pub last_abs : (z : ℤ) → in_range range.Processed z ≡ true → nat_abs z ≤ 4_294_967_294
unfolding in_range
last_abs (pos n) e =
    let high : leb n 4_294_967_294 ≡ true = (both (leb 0 n) (leb n 4_294_967_294) e).1 in
    grind (arith, nat_tests)
last_abs (negsuc n) e = cc e

find_passes : {X : Type 0} (p : X → Bool) (x : X) (xs : List X) → p x ≡ false → find p (x ∷ xs) ≡ find p xs
find_passes p x xs e = rw e refl

find_goes : {X : Type 0} (p : X → Bool) (xs : List X) (i : ℕ) (d : X) → i < length xs → p (get_or xs i d) ≡ false → find p (drop i xs) ≡ find p (drop (i + 1) xs)
find_goes p xs i d h e = ap (find p) (drop-cons xs i d h) ∙ find_passes p (get_or xs i d) (drop (suc i) xs) e ∙ ap (λ (n : ℕ). find p (drop n xs)) (sym (add-one i))

-- a field that says a number of its range is passed over
pub says_goes : (m : Message) (names : List FieldName) (i : ℕ) (d : FieldName) → i < length names → (is_some (said_number m (get_or names i d)) && fits (get_or names i d) (said_number m (get_or names i d))) ≡ true
    → (first_unset m (drop i names) ≡ first_unset m (drop (i + 1) names)) × (first_out m (drop i names) ≡ first_out m (drop (i + 1) names))
unfolding first_unset first_out
says_goes m names i d h e =
    let (set, fit) = both (is_some (said_number m (get_or names i d))) (fits (get_or names i d) (said_number m (get_or names i d))) e in (
      find_goes (λ name. not (is_some (said_number m name))) names i d h (ap not set),
      find_goes
          (λ name. not (fits name (said_number m name))) names i d h (ap not fit),
    )
