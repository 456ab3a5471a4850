-- Facts about the numbers of responses.
use Rattle.std.proofs.Common.{◌≡◌, ◌≤◌, ◌&&◌, leb, ℕ, zero, suc, Bool, true, false, Option, Some, None, refl, sym, ap, subst, arith, not, is_some, pos}
use Rattle.std.specs.Prelude.{Contains, ℤ, ◌≤ℤ◌}
use Rattle.std.specs.Option.{option_map_or}
use Rattle.std.specs.Int.Signed.{le_z, le_z_yes}
use Rattle.std.proofs.lemmas.Bool.Decides.{nat_tests}
use Rattle.t7_base.specs.Ranges.{IsPrice, IsQuantity, IsStamp}
use Rattle.t7_layout.specs.declared.words.Kind.TheVariants.{Raw}
use Rattle.t7_layout.specs.declared.roles.Role.{Role}
use Rattle.t7_layout.specs.declared.roles.Role.TheVariants as role
use Rattle.t7_layout.specs.declared.roles.FieldName.{FieldName}
use Rattle.t7_layout.specs.declared.roles.FieldName.TheVariants as name
use Rattle.t7_layout.specs.Roles.{kind_of, name_number, required}
use Rattle.t7_fields.specs.Messages.{Message, is_among, said_number, value}
use Rattle.t7_fields.proofs.NameFacts.{among_contains}
use Rattle.t7_eti.specs.Nulls.{sought}
use Rattle.t7_eti.specs.Ranges.{IsSound, first_out, fits, in_range}
use Rattle.t7_eti.specs.Reasons.{all_reasons, reason_number, reason_of}
use Rattle.t7_eti.proofs.NullFacts.{find_none, value_is}

-- raw bytes may be any
pub raw_fits : (name : FieldName) (o : Option ℤ) → kind_of name ≡ Raw → fits name o ≡ true
unfolding kind_of fits in_range
raw_fits name.BodyLen o h = cc h
raw_fits name.TemplateID o h = cc h
raw_fits name.MsgSeqNum o h = cc h
raw_fits name.HeartBtInt o h = cc h
raw_fits name.PartyIDSessionID o h = cc h
raw_fits name.Side o h = cc h
raw_fits name.SecurityID o h = cc h
raw_fits name.ClOrdID o h = cc h
raw_fits name.Price o h = cc h
raw_fits name.OrderQty o h = cc h
raw_fits name.OrderID o h = cc h
raw_fits name.ApplBegMsgID None h = refl
raw_fits name.ApplBegMsgID (Some z) h = refl
raw_fits name.ApplEndMsgID None h = refl
raw_fits name.ApplEndMsgID (Some z) h = refl
raw_fits name.SessionRejectReason o h = cc h
raw_fits name.ApplTotalMessageCount o h = cc h
raw_fits name.RefApplLastMsgID None h = refl
raw_fits name.RefApplLastMsgID (Some z) h = refl
raw_fits name.ApplMsgID None h = refl
raw_fits name.ApplMsgID (Some z) h = refl
raw_fits name.TrdRegTSTimePriority o h = cc h
raw_fits name.NoAffectedOrders o h = cc h
raw_fits name.LeavesQty o h = cc h
raw_fits name.CumQty o h = cc h
raw_fits name.FillQty o h = cc h
raw_fits name.FillPx o h = cc h
raw_fits name.ApplSeqNum o h = cc h
raw_fits name.MarketSegmentID o h = cc h
raw_fits name.LastMsgSeqNumProcessed o h = cc h
raw_fits name.DisplayQty o h = cc h
raw_fits name.TrdRegTSPrevTimePriority o h = cc h
raw_fits name.PrevPrice o h = cc h
raw_fits name.PrevDisplayQty o h = cc h
raw_fits name.LastQty o h = cc h
raw_fits name.LastPx o h = cc h
raw_fits name.AggressorTime o h = cc h
raw_fits name.AggressorSide o h = cc h
raw_fits name.TotNoOrders o h = cc h

-- a field that is looked for in a sound message says a number of its range
says_in_range : (m : Message) (name : FieldName) → IsSound m → is_among name (sought m.role) ≡ true → (z : ℤ) × (said_number m name ≡ Some z) × (in_range name z ≡ true)
unfolding first_out fits
says_in_range m name h there = by (said_number m name) refl (h.whole.each name there) (find_none (λ name. not (fits name (said_number m name))) (sought m.role) name h.ranged (among_contains name (sought m.role) there))
  where
    yes : (b : Bool) → not b ≡ false → b ≡ true
    yes true e = refl
    yes false e = cc e

    by : (o : Option ℤ) → said_number m name ≡ o → is_some o ≡ true → not (option_map_or (in_range name) o true) ≡ false → (z : ℤ) × (said_number m name ≡ Some z) × (in_range name z ≡ true)
    by None e some ranged = cc some
    by (Some z) e some ranged = (z, e, yes (in_range name z) ranged)

pub value_in_range : (m : Message) (name : FieldName) → IsSound m → is_among name (sought m.role) ≡ true → in_range name (value m name) ≡ true
value_in_range m name h there =
    let (z, said_is, ranged) = says_in_range m name h there in
    subst (λ (v : ℤ). in_range name v ≡ true) (sym (value_is m name z said_is)) ranged

pub both : (a b : Bool) → (a && b) ≡ true → (a ≡ true) × (b ≡ true)
both true b h = (refl, h)
both false b h = cc h

le_true : (a b : ℤ) → le_z a b ≡ true → a ≤ℤ b
le_true a b e = le_z_yes (rw e tt)

pub is_price : (z : ℤ) → in_range name.FillPx z ≡ true → IsPrice z
unfolding in_range
is_price z e = let (low, high) = both _ _ e in (le_true _ _ low, le_true _ _ high)

pub is_quantity : (z : ℤ) → in_range name.FillQty z ≡ true → IsQuantity z
unfolding in_range
is_quantity z e = let (low, high) = both _ _ e in (le_true _ _ low, le_true _ _ high)

pub is_stamp : (n : ℕ) → in_range name.TrdRegTSTimePriority (pos n) ≡ true → IsStamp n
unfolding in_range
is_stamp n e =
    let (low, high) = both _ _ e in
    let l : leb 1 n ≡ true = low in
    let h : leb n 9_223_372_036_854_775_807 ≡ true = high in
    let a : 1 ≤ n = grind (arith, nat_tests) in
    let b : n ≤ 9_223_372_036_854_775_807 = grind (arith, nat_tests) in
    (a, omega arith)

pub is_reason : (n : ℕ) → in_range name.SessionRejectReason (pos n) ≡ true → (1 ≤ n) × (n ≤ 17)
unfolding in_range
is_reason n e =
    let (low, high) = both _ _ e in
    let l : leb 1 n ≡ true = low in
    let h : leb n 17 ≡ true = high in
    (grind (arith, nat_tests), grind (arith, nat_tests))

-- each number from 1 to 17 is that of a reason
pub reason_there : (n : ℕ) → 1 ≤ n → n ≤ 17 → is_some (reason_of n) ≡ true
unfolding reason_of all_reasons reason_number
reason_there zero l h = absurd (omega arith)
reason_there (suc zero) l h = refl
reason_there (suc (suc zero)) l h = refl
reason_there (suc (suc (suc zero))) l h = refl
reason_there (suc (suc (suc (suc zero)))) l h = refl
reason_there (suc (suc (suc (suc (suc zero))))) l h = refl
reason_there (suc (suc (suc (suc (suc (suc zero)))))) l h = refl
reason_there (suc (suc (suc (suc (suc (suc (suc zero))))))) l h = refl
reason_there (suc (suc (suc (suc (suc (suc (suc (suc zero)))))))) l h = refl
reason_there (suc (suc (suc (suc (suc (suc (suc (suc (suc zero))))))))) l h = refl
reason_there (suc (suc (suc (suc (suc (suc (suc (suc (suc (suc zero)))))))))) l h = refl
reason_there (suc (suc (suc (suc (suc (suc (suc (suc (suc (suc (suc zero))))))))))) l h = refl
reason_there (suc (suc (suc (suc (suc (suc (suc (suc (suc (suc (suc (suc zero)))))))))))) l h = refl
reason_there (suc (suc (suc (suc (suc (suc (suc (suc (suc (suc (suc (suc (suc zero))))))))))))) l h = refl
reason_there (suc (suc (suc (suc (suc (suc (suc (suc (suc (suc (suc (suc (suc (suc zero)))))))))))))) l h = refl
reason_there (suc (suc (suc (suc (suc (suc (suc (suc (suc (suc (suc (suc (suc (suc (suc zero))))))))))))))) l h = refl
reason_there (suc (suc (suc (suc (suc (suc (suc (suc (suc (suc (suc (suc (suc (suc (suc (suc zero)))))))))))))))) l h = refl
reason_there (suc (suc (suc (suc (suc (suc (suc (suc (suc (suc (suc (suc (suc (suc (suc (suc (suc zero))))))))))))))))) l h = refl
reason_there (suc (suc (suc (suc (suc (suc (suc (suc (suc (suc (suc (suc (suc (suc (suc (suc (suc (suc n)))))))))))))))))) l h = absurd (omega arith)

pub never_no_reason : (m : Message) (n : ℕ) → pos n ≡ value m name.SessionRejectReason → IsSound m → is_among name.SessionRejectReason (sought m.role) ≡ true → reason_of n ≡ None → ⊥
never_no_reason m n e h there none =
    let (low, high) = is_reason n (subst (λ (v : ℤ). in_range name.SessionRejectReason v ≡ true) (sym e) (value_in_range m name.SessionRejectReason h there)) in
    cc (reason_there n low high, ap is_some none)

reject_among : is_among name.MsgSeqNum (required role.Reject) ≡ true
unfolding is_among required name_number
reject_among = refl

-- a Reject requires a MsgSeqNum, which may be null
pub reject_number : (r : Role) → r ≡ role.Reject → Contains (required r) name.MsgSeqNum
reject_number r e = among_contains name.MsgSeqNum (required r) (subst (λ (v : Role). is_among name.MsgSeqNum (required v) ≡ true) (sym e) reject_among)
