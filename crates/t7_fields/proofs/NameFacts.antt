-- Two names have two places.
use Rattle.std.proofs.Common.{◌≡◌, ◌≢◌, ◌≤◌, ◌+◌, ◌&&◌, ◌==◌, ◌∙◌, ℕ, zero, suc, List, [], ◌∷◌, Bool, true, false, Option, Some, refl, sym, ap, subst, arith, cond, nat_eq}
use Rattle.std.specs.Prelude.{◌||◌, Contains, find, slice_get}
use Rattle.std.specs.List.{list_any}
use Rattle.std.specs.Option.{option_map_or}
use Rattle.t7_fields.specs.Messages.{is_among}
use Rattle.std.specs.Str.{bytes_eq}
use Rattle.std.specs.Cmp.Lexicographic.{bytes_decides}
use Rattle.std.proofs.lemmas.Bool.Decides.{nat_tests}
use Rattle.t7_layout.specs.declared.words.Family.{Family}
use Rattle.t7_layout.specs.declared.words.Family.TheVariants.{Eti, Eobi}
use Rattle.t7_layout.specs.declared.words.Kind.{Kind}
use Rattle.t7_layout.specs.declared.words.Kind.TheVariants.{Unsigned, Signed, Raw}
use Rattle.t7_layout.specs.declared.roles.FieldName.{FieldName}
use Rattle.t7_layout.specs.declared.roles.FieldName.TheVariants as name
use Rattle.t7_layout.specs.Layouts.{LaidOut, Place}
use Rattle.t7_layout.specs.Lookups.{find_field, is_place}
use Rattle.t7_layout.specs.Roles.{field_text, kind_of, name_number, width_in}
use Rattle.t7_layout.specs.Rows.{kind_text, same_kind}

all_names : List FieldName
all_names = name.BodyLen ∷ name.TemplateID ∷ name.MsgSeqNum ∷ name.HeartBtInt ∷ name.PartyIDSessionID ∷ name.Side ∷ name.SecurityID ∷ name.ClOrdID ∷ name.Price ∷ name.OrderQty ∷ name.OrderID ∷ name.ApplBegMsgID ∷ name.ApplEndMsgID ∷ name.SessionRejectReason ∷ name.ApplTotalMessageCount ∷ name.RefApplLastMsgID ∷ name.ApplMsgID ∷ name.TrdRegTSTimePriority ∷ name.NoAffectedOrders ∷ name.LeavesQty ∷ name.CumQty ∷ name.FillQty ∷ name.FillPx ∷ name.ApplSeqNum ∷ name.MarketSegmentID ∷ name.LastMsgSeqNumProcessed ∷ name.DisplayQty ∷ name.TrdRegTSPrevTimePriority ∷ name.PrevPrice ∷ name.PrevDisplayQty ∷ name.LastQty ∷ name.LastPx ∷ name.AggressorTime ∷ name.AggressorSide ∷ name.TotNoOrders ∷ []

name_of : List ℕ → Option FieldName
name_of text = find (λ n. bytes_eq text (field_text n)) all_names

name_again : (n : FieldName) → name_of (field_text n) ≡ Some n
unfolding field_text name_of all_names
name_again name.BodyLen = refl
name_again name.TemplateID = refl
name_again name.MsgSeqNum = refl
name_again name.HeartBtInt = refl
name_again name.PartyIDSessionID = refl
name_again name.Side = refl
name_again name.SecurityID = refl
name_again name.ClOrdID = refl
name_again name.Price = refl
name_again name.OrderQty = refl
name_again name.OrderID = refl
name_again name.ApplBegMsgID = refl
name_again name.ApplEndMsgID = refl
name_again name.SessionRejectReason = refl
name_again name.ApplTotalMessageCount = refl
name_again name.RefApplLastMsgID = refl
name_again name.ApplMsgID = refl
name_again name.TrdRegTSTimePriority = refl
name_again name.NoAffectedOrders = refl
name_again name.LeavesQty = refl
name_again name.CumQty = refl
name_again name.FillQty = refl
name_again name.FillPx = refl
name_again name.ApplSeqNum = refl
name_again name.MarketSegmentID = refl
name_again name.LastMsgSeqNumProcessed = refl
name_again name.DisplayQty = refl
name_again name.TrdRegTSPrevTimePriority = refl
name_again name.PrevPrice = refl
name_again name.PrevDisplayQty = refl
name_again name.LastQty = refl
name_again name.LastPx = refl
name_again name.AggressorTime = refl
name_again name.AggressorSide = refl
name_again name.TotNoOrders = refl

pub one_text : (n m : FieldName) → field_text n ≡ field_text m → n ≡ m
one_text n m e = let f : Some n ≡ Some m = sym (name_again n) ∙ ap name_of e ∙ name_again m in cc f

pub both : (a b : Bool) → (a && b) ≡ true → (a ≡ true) × (b ≡ true)
both true b h = (refl, h)
both false b h = cc h

pub text_is : (family : Family) (n : FieldName) (w : List ℕ) (f : Place) → is_place family n w f ≡ true → w ≡ field_text n
unfolding is_place
text_is family n w f e = (bytes_decides w (field_text n)).0 (both (bytes_eq w (field_text n)) (same_kind f.kind (kind_of n)) (both (bytes_eq w (field_text n) && same_kind f.kind (kind_of n)) (f.width == width_in family n) e).0).0

pub some_width : (family : Family) (n : FieldName) → 1 ≤ width_in family n
unfolding width_in
some_width Eti name.BodyLen = omega arith
some_width Eobi name.BodyLen = omega arith
some_width Eti name.TemplateID = omega arith
some_width Eobi name.TemplateID = omega arith
some_width Eti name.MsgSeqNum = omega arith
some_width Eobi name.MsgSeqNum = omega arith
some_width Eti name.HeartBtInt = omega arith
some_width Eobi name.HeartBtInt = omega arith
some_width Eti name.PartyIDSessionID = omega arith
some_width Eobi name.PartyIDSessionID = omega arith
some_width Eti name.Side = omega arith
some_width Eobi name.Side = omega arith
some_width Eti name.SecurityID = omega arith
some_width Eobi name.SecurityID = omega arith
some_width Eti name.ClOrdID = omega arith
some_width Eobi name.ClOrdID = omega arith
some_width Eti name.Price = omega arith
some_width Eobi name.Price = omega arith
some_width Eti name.OrderQty = omega arith
some_width Eobi name.OrderQty = omega arith
some_width Eti name.OrderID = omega arith
some_width Eobi name.OrderID = omega arith
some_width Eti name.ApplBegMsgID = omega arith
some_width Eobi name.ApplBegMsgID = omega arith
some_width Eti name.ApplEndMsgID = omega arith
some_width Eobi name.ApplEndMsgID = omega arith
some_width Eti name.SessionRejectReason = omega arith
some_width Eobi name.SessionRejectReason = omega arith
some_width Eti name.ApplTotalMessageCount = omega arith
some_width Eobi name.ApplTotalMessageCount = omega arith
some_width Eti name.RefApplLastMsgID = omega arith
some_width Eobi name.RefApplLastMsgID = omega arith
some_width Eti name.ApplMsgID = omega arith
some_width Eobi name.ApplMsgID = omega arith
some_width Eti name.TrdRegTSTimePriority = omega arith
some_width Eobi name.TrdRegTSTimePriority = omega arith
some_width Eti name.NoAffectedOrders = omega arith
some_width Eobi name.NoAffectedOrders = omega arith
some_width Eti name.LeavesQty = omega arith
some_width Eobi name.LeavesQty = omega arith
some_width Eti name.CumQty = omega arith
some_width Eobi name.CumQty = omega arith
some_width Eti name.FillQty = omega arith
some_width Eobi name.FillQty = omega arith
some_width Eti name.FillPx = omega arith
some_width Eobi name.FillPx = omega arith
some_width Eti name.ApplSeqNum = omega arith
some_width Eobi name.ApplSeqNum = omega arith
some_width Eti name.MarketSegmentID = omega arith
some_width Eobi name.MarketSegmentID = omega arith
some_width Eti name.LastMsgSeqNumProcessed = omega arith
some_width Eobi name.LastMsgSeqNumProcessed = omega arith
some_width Eti name.DisplayQty = omega arith
some_width Eobi name.DisplayQty = omega arith
some_width Eti name.TrdRegTSPrevTimePriority = omega arith
some_width Eobi name.TrdRegTSPrevTimePriority = omega arith
some_width Eti name.PrevPrice = omega arith
some_width Eobi name.PrevPrice = omega arith
some_width Eti name.PrevDisplayQty = omega arith
some_width Eobi name.PrevDisplayQty = omega arith
some_width Eti name.LastQty = omega arith
some_width Eobi name.LastQty = omega arith
some_width Eti name.LastPx = omega arith
some_width Eobi name.LastPx = omega arith
some_width Eti name.AggressorTime = omega arith
some_width Eobi name.AggressorTime = omega arith
some_width Eti name.AggressorSide = omega arith
some_width Eobi name.AggressorSide = omega arith
some_width Eti name.TotNoOrders = omega arith
some_width Eobi name.TotNoOrders = omega arith

same_kinds : (a b : Kind) → same_kind a b ≡ true → a ≡ b
unfolding same_kind kind_text
same_kinds Unsigned Unsigned e = refl
same_kinds Unsigned Signed e = cc e
same_kinds Unsigned Raw e = cc e
same_kinds Signed Unsigned e = cc e
same_kinds Signed Signed e = refl
same_kinds Signed Raw e = cc e
same_kinds Raw Unsigned e = cc e
same_kinds Raw Signed e = cc e
same_kinds Raw Raw e = refl

pub kinds_same : (a b : Kind) → same_kind a b ≡ true → a ≡ b
kinds_same = same_kinds

-- a field that is found for a name has its kind and width
pub record IsFound (family : Family) (n : FieldName) (f : Place) : Type 0 where
  pub kind : f.kind ≡ kind_of n
  pub width : f.width ≡ width_in family n

found : (family : Family) (n : FieldName) (w : List ℕ) (f : Place) → is_place family n w f ≡ true → IsFound family n f
unfolding is_place
found family n w f e =
    let two = both (bytes_eq w (field_text n) && same_kind f.kind (kind_of n)) (f.width == width_in family n) e in
    let one = both (bytes_eq w (field_text n)) (same_kind f.kind (kind_of n)) two.0 in
    let s : nat_eq f.width (width_in family n) ≡ true = two.1 in
    record { kind = same_kinds f.kind (kind_of n) one.1; width = grind (arith, nat_tests) }

width_is : (family : Family) (n : FieldName) (w : List ℕ) (f : Place) → is_place family n w f ≡ true → 1 ≤ f.width
unfolding is_place
width_is family n w f e =
    let s : nat_eq f.width (width_in family n) ≡ true = (both (bytes_eq w (field_text n) && same_kind f.kind (kind_of n)) (f.width == width_in family n) e).1 in
    let same : f.width ≡ width_in family n = grind (arith, nat_tests) in
    let low = some_width family n in
    omega arith

pub later : (family : Family) (n : FieldName) (ws : List (List ℕ)) (from to : ℕ) (fs : List Place) (f : Place) → LaidOut from fs to → find_field family n ws fs ≡ Some f → from ≤ f.offset
unfolding find_field
later family n [] from to fs f l e = cc e
later family n (w ∷ ws) from to [] f l e = cc e
later family n (w ∷ ws) from to (g ∷ gs) f l e = by (is_place family n w g) e (later family n ws (from + g.width) to gs f l.1)
  where
    by : (b : Bool) → cond b (Some g) (find_field family n ws gs) ≡ Some f → (find_field family n ws gs ≡ Some f → from + g.width ≤ f.offset) → from ≤ f.offset
    by true h more = let s : g ≡ f = cc h in let o : g.offset ≡ f.offset = ap (λ (p : Place). p.offset) s in omega (arith, l.0)
    by false h more = let m = more h in omega arith

-- two names that are found have two places
pub two_places : (family : Family) (n m : FieldName) (ws : List (List ℕ)) (from to : ℕ) (fs : List Place) (f g : Place)
    → n ≢ m → LaidOut from fs to → find_field family n ws fs ≡ Some f → find_field family m ws fs ≡ Some g → f.offset ≢ g.offset
unfolding find_field
two_places family n m [] from to fs f g ne l e d = cc e
two_places family n m (w ∷ ws) from to [] f g ne l e d = cc e
two_places family n m (w ∷ ws) from to (h ∷ hs) f g ne l e d = by (is_place family n w h) (is_place family m w h) refl refl e d (λ e d. two_places family n m ws (from + h.width) to hs f g ne l.1 e d)
  where
    at : (p : Place) → h ≡ p → p.offset ≡ from
    at p s = ap (λ (q : Place). q.offset) (sym s) ∙ l.0

    by : (a b : Bool) → is_place family n w h ≡ a → is_place family m w h ≡ b → cond a (Some h) (find_field family n ws hs) ≡ Some f → cond b (Some h) (find_field family m ws hs) ≡ Some g
        → (find_field family n ws hs ≡ Some f → find_field family m ws hs ≡ Some g → f.offset ≢ g.offset) → f.offset ≢ g.offset
    by true true p q e d more = absurd (ne (one_text n m (sym (text_is family n w h p) ∙ text_is family m w h q)))
    by true false p q e d more =
        let s : h ≡ f = cc e in
        let o = at f s in
        let r = later family m ws (from + h.width) to hs g l.1 d in
        let wide = width_is family n w h p in
        λ same. omega arith
    by false true p q e d more =
        let s : h ≡ g = cc d in
        let o = at g s in
        let r = later family n ws (from + h.width) to hs f l.1 e in
        let wide = width_is family m w h q in
        λ same. omega arith
    by false false p q e d more = more e d

pub found_place : (family : Family) (n : FieldName) (ws : List (List ℕ)) (fs : List Place) (f : Place) → find_field family n ws fs ≡ Some f → IsFound family n f
unfolding find_field
found_place family n [] fs f e = cc e
found_place family n (w ∷ ws) [] f e = cc e
found_place family n (w ∷ ws) (g ∷ gs) f e = by (is_place family n w g) refl e (found_place family n ws gs f)
  where
    by : (b : Bool) → is_place family n w g ≡ b → cond b (Some g) (find_field family n ws gs) ≡ Some f → (find_field family n ws gs ≡ Some f → IsFound family n f) → IsFound family n f
    by true p h more = let s : g ≡ f = cc h in let P : Place → Type 0 = λ x. IsFound family n x in subst P s (found family n w g p)
    by false p h more = more h

-- a name that is neither of the first two is found after these
pub past_two : (family : Family) (n : FieldName) (ws : List (List ℕ)) (fs : List Place) (to : ℕ) (v w : List ℕ) (a b f : Place)
    → LaidOut 0 fs to → slice_get ws 0 ≡ Some v → slice_get ws 1 ≡ Some w → slice_get fs 0 ≡ Some a → slice_get fs 1 ≡ Some b
    → v ≢ field_text n → w ≢ field_text n → find_field family n ws fs ≡ Some f → a.width + b.width ≤ f.offset
unfolding find_field
past_two family n [] fs to v w a b f l p q r s x y e = cc p
past_two family n (v' ∷ []) fs to v w a b f l p q r s x y e = cc q
past_two family n (v' ∷ w' ∷ ws) [] to v w a b f l p q r s x y e = cc r
past_two family n (v' ∷ w' ∷ ws) (a' ∷ []) to v w a b f l p q r s x y e = cc s
past_two family n (v' ∷ w' ∷ ws) (a' ∷ b' ∷ fs) to v w a b f l p q r s x y e =
    let is_v : v' ≡ v = cc p in
    let is_w : w' ≡ w = cc q in
    let is_a : a'.width ≡ a.width = ap (λ (o : Option Place). option_map_or (λ (g : Place). g.width) o 0) r in
    let is_b : b'.width ≡ b.width = ap (λ (o : Option Place). option_map_or (λ (g : Place). g.width) o 0) s in
    let m = later family n ws (0 + a'.width + b'.width) to fs f l.1.1 (second (is_place family n w' b') refl (λ t. y (sym is_w ∙ t)) (first (is_place family n v' a') refl (λ t. x (sym is_v ∙ t)) e)) in
    omega arith
  where
    first : (c : Bool) → is_place family n v' a' ≡ c → v' ≢ field_text n → cond c (Some a') (cond (is_place family n w' b') (Some b') (find_field family n ws fs)) ≡ Some f
        → cond (is_place family n w' b') (Some b') (find_field family n ws fs) ≡ Some f
    first true p ne h = absurd (ne (text_is family n v' a' p))
    first false p ne h = h

    second : (c : Bool) → is_place family n w' b' ≡ c → w' ≢ field_text n → cond c (Some b') (find_field family n ws fs) ≡ Some f → find_field family n ws fs ≡ Some f
    second true p ne h = absurd (ne (text_is family n w' b' p))
    second false p ne h = h

-- a name is known by its number
name_again_by_number : (n : FieldName) → slice_get all_names (name_number n) ≡ Some n
unfolding name_number all_names
name_again_by_number name.BodyLen = refl
name_again_by_number name.TemplateID = refl
name_again_by_number name.MsgSeqNum = refl
name_again_by_number name.HeartBtInt = refl
name_again_by_number name.PartyIDSessionID = refl
name_again_by_number name.Side = refl
name_again_by_number name.SecurityID = refl
name_again_by_number name.ClOrdID = refl
name_again_by_number name.Price = refl
name_again_by_number name.OrderQty = refl
name_again_by_number name.OrderID = refl
name_again_by_number name.ApplBegMsgID = refl
name_again_by_number name.ApplEndMsgID = refl
name_again_by_number name.SessionRejectReason = refl
name_again_by_number name.ApplTotalMessageCount = refl
name_again_by_number name.RefApplLastMsgID = refl
name_again_by_number name.ApplMsgID = refl
name_again_by_number name.TrdRegTSTimePriority = refl
name_again_by_number name.NoAffectedOrders = refl
name_again_by_number name.LeavesQty = refl
name_again_by_number name.CumQty = refl
name_again_by_number name.FillQty = refl
name_again_by_number name.FillPx = refl
name_again_by_number name.ApplSeqNum = refl
name_again_by_number name.MarketSegmentID = refl
name_again_by_number name.LastMsgSeqNumProcessed = refl
name_again_by_number name.DisplayQty = refl
name_again_by_number name.TrdRegTSPrevTimePriority = refl
name_again_by_number name.PrevPrice = refl
name_again_by_number name.PrevDisplayQty = refl
name_again_by_number name.LastQty = refl
name_again_by_number name.LastPx = refl
name_again_by_number name.AggressorTime = refl
name_again_by_number name.AggressorSide = refl
name_again_by_number name.TotNoOrders = refl

one_number : (n m : FieldName) → name_number n ≡ name_number m → n ≡ m
one_number n m e = let f : Some n ≡ Some m = sym (name_again_by_number n) ∙ ap (slice_get all_names) e ∙ name_again_by_number m in cc f

same_numbers : (a b : ℕ) → (a == b) ≡ true → a ≡ b
same_numbers a b e = grind (arith, nat_tests)

numbers_same : (a b : ℕ) → a ≡ b → (a == b) ≡ true
numbers_same a b e = grind (arith, nat_tests)

-- a name is among others exactly where it is one of them
pub among_contains : (n : FieldName) (names : List FieldName) → is_among n names ≡ true → Contains names n
unfolding is_among
among_contains n [] e = cc e
among_contains n (m ∷ ms) e = by (name_number m == name_number n) refl e (among_contains n ms)
  where
    by : (b : Bool) → (name_number m == name_number n) ≡ b → (b || list_any (λ o. name_number o == name_number n) ms) ≡ true → (is_among n ms ≡ true → Contains ms n) → Contains (m ∷ ms) n
    by true p h more = (0, omega arith, one_number m n (same_numbers (name_number m) (name_number n) p))
    by false p h more = let (k, inside, is) = more h in (suc k, omega arith, is)

pub among_none : (n m : FieldName) (names : List FieldName) → is_among n names ≡ false → Contains names m → m ≢ n
unfolding is_among
among_none n m [] e c same = let (k, inside, is) = c in absurd (omega arith)
among_none n m (x ∷ xs) e c same = by (name_number x == name_number n) refl e c (λ h c. among_none n m xs h c same)
  where
    by : (b : Bool) → (name_number x == name_number n) ≡ b → (b || list_any (λ o. name_number o == name_number n) xs) ≡ false → Contains (x ∷ xs) m
        → (list_any (λ o. name_number o == name_number n) xs ≡ false → Contains xs m → ⊥) → ⊥
    by true p h c more = cc h
    by false p h (zero, inside, is) more = let t = numbers_same (name_number x) (name_number n) (ap name_number (is ∙ same)) in cc (t, p)
    by false p h (suc k, inside, is) more = more h (k, omega arith, is)

pub among_tail : (n m : FieldName) (names : List FieldName) → is_among n (m ∷ names) ≡ false → is_among n names ≡ false
unfolding is_among
among_tail n m names e = by (name_number m == name_number n) e
  where
    by : (b : Bool) → (b || list_any (λ o. name_number o == name_number n) names) ≡ false → list_any (λ o. name_number o == name_number n) names ≡ false
    by true h = cc h
    by false h = h

pub among_front : (n : FieldName) (names : List FieldName) → is_among n (name.BodyLen ∷ name.TemplateID ∷ names) ≡ false
    → (is_among n (name.BodyLen ∷ name.TemplateID ∷ []) ≡ false) × (is_among n names ≡ false)
unfolding is_among
among_front n names e = by (name_number name.BodyLen == name_number n) (name_number name.TemplateID == name_number n) e
  where
    by : (a b : Bool) → (a || (b || list_any (λ o. name_number o == name_number n) names)) ≡ false → ((a || (b || false)) ≡ false) × (list_any (λ o. name_number o == name_number n) names ≡ false)
    by true b h = cc h
    by false true h = cc h
    by false false h = (refl, h)
