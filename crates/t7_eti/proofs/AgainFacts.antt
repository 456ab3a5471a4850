-- What was written of a request or a response is read as it again.
use Rattle.std.proofs.Common.{◌≡◌, ◌≢◌, ◌∙◌, ◌&&◌, ◌<◌, ◌≤◌, leb, ℕ, suc, List, [], ◌∷◌, Bool, true, false, Option, Some, None, Ok, Err, refl, sym, ap, subst, slice_get, pos, nat_abs, not, map, arith, T}
use Rattle.std.specs.Prelude.{ℤ, IfSome}
use Rattle.std.specs.Option.{option_and_then, option_map_or}
use Rattle.std.specs.Ordering.{int_eq}
use Rattle.std.proofs.lemmas.Bool.Decides.{Decides-int_eq, nat_tests}
use Rattle.t7_base.specs.declared.ids.Side.{Side}
use Rattle.t7_base.specs.declared.ids.Side.TheVariants.{Buy, Sell}
use Rattle.t7_base.specs.Ranges.{IsPrice, IsQuantity, IsStamp}
use Rattle.t7_layout.specs.declared.roles.Role.{Role}
use Rattle.t7_layout.specs.declared.roles.Role.TheVariants as role
use Rattle.t7_layout.specs.declared.roles.FieldName.{FieldName}
use Rattle.t7_layout.specs.declared.roles.FieldName.TheVariants as name
use Rattle.t7_layout.specs.Layouts.{Layout, Place}
use Rattle.t7_layout.specs.Lookups.{find_role, place_in, role_of_layout}
use Rattle.t7_layout.specs.Roles.{name_number, required}
use Rattle.t7_layout.proofs.FoundFacts.{role_own}
use Rattle.t7_fields.specs.declared.writer.Scalar.{Scalar}
use Rattle.t7_fields.specs.declared.writer.Scalar.TheVariants as number
use Rattle.t7_fields.specs.Messages.{Message, first_unset, is_among, number_at, said_number, value}
use Rattle.t7_fields.specs.Writing.{IsWritten, Says, meaning, unset_number}
use Rattle.t7_eti.specs.declared.nulls.FieldFault.TheVariants as fault
use Rattle.t7_eti.specs.declared.reason.Reason.{Reason}
use Rattle.t7_eti.specs.declared.reason.Reason.TheVariants as reasons
use Rattle.t7_eti.specs.declared.request.Request.{Request}
use Rattle.t7_eti.specs.declared.request.Request.TheVariants as request
use Rattle.t7_eti.specs.declared.response.Kept.{Kept}
use Rattle.t7_eti.specs.declared.response.Kept.TheVariants as kept
use Rattle.t7_eti.specs.declared.response.Response.{Response}
use Rattle.t7_eti.specs.declared.response.Response.TheVariants as response
use Rattle.t7_eti.specs.Nulls.{counts_as_null, first_missing, is_missing, sought, unsought}
use Rattle.t7_eti.specs.Ranges.{first_out, fits, in_range}
use Rattle.t7_eti.specs.Reasons.{all_reasons, reason_number, reason_of}
use Rattle.t7_eti.specs.Requests.{IsAskable, is_request, request_as, request_client, request_in, request_number, request_of}
use Rattle.t7_eti.specs.Responses.{is_response, kept_as, response_as, response_in, response_of, side_of}
use Rattle.t7_eti.specs.Saying.{IsRanged, kept_fields, kept_role, read_again, reject_fields, request_fields, request_role, response_fields, response_role, side_number}
use Rattle.t7_eti.proofs.NullFacts.{number_other, value_is}
use Rattle.t7_eti.proofs.RangeFacts.{both}

-- bytes, as a message of a role
abbrev message : List Layout → Role → List ℕ → Message
message layouts r b = record { layouts = layouts; role = r; bytes = b }

abbrev names : List (FieldName × Scalar) → List FieldName
names ps = map (λ (p : FieldName × Scalar). p.0) ps

says_value : (layouts : List Layout) (r : Role) (b : List ℕ) (ps : List (FieldName × Scalar)) (k : ℕ) (p : FieldName × Scalar) → Says layouts r b ps → slice_get ps k ≡ Some p → value (message layouts r b) p.0 ≡ meaning p.1
says_value layouts r b ps k p h e = value_is (message layouts r b) p.0 (meaning p.1) (h.each k p e)

says_tail : (layouts : List Layout) (r : Role) (b : List ℕ) (p : FieldName × Scalar) (ps : List (FieldName × Scalar)) → Says layouts r b (p ∷ ps) → Says layouts r b ps
says_tail layouts r b p ps h = record { each = λ k q e. h.each (suc k) q e }

yes_and : (a b : Bool) → a ≡ true → b ≡ true → (a && b) ≡ true
yes_and a b e f = rw (e, f) refl

not_no : (b : Bool) → b ≡ false → not b ≡ true
not_no b e = rw e refl

no_of_not : (b : Bool) → not b ≡ true → b ≡ false
no_of_not true e = cc e
no_of_not false e = refl

-- each number counts
counts_each : List (FieldName × Scalar) → Bool
counts_each [] = true
counts_each (p ∷ ps) = not (counts_as_null p.0 (meaning p.1)) && counts_each ps

none_missing_said : (layouts : List Layout) (r : Role) (b : List ℕ) (ps : List (FieldName × Scalar)) → Says layouts r b ps → counts_each ps ≡ true → first_missing (message layouts r b) (names ps) ≡ None
unfolding first_missing is_missing counts_each
none_missing_said layouts r b [] h c = refl
none_missing_said layouts r b (p ∷ ps) h c =
    let (one, more) = both _ _ c in
    let said_is : said_number (message layouts r b) p.0 ≡ Some (meaning p.1) = h.each 0 p refl in
    let here : counts_as_null p.0 (meaning p.1) ≡ false = no_of_not _ one in
    let rest = none_missing_said layouts r b ps (says_tail layouts r b p ps h) more in
    rw (said_is, here) rest

client_other : (n : ℕ) → n ≢ 18_446_744_073_709_551_615 → int_eq (pos n) (pos 18_446_744_073_709_551_615) ≡ false
client_other n h = by (int_eq (pos n) (pos 18_446_744_073_709_551_615)) refl
  where
    by : (c : Bool) → int_eq (pos n) (pos 18_446_744_073_709_551_615) ≡ c → c ≡ false
    by true e = absurd (h (ap nat_abs ((Decides-int_eq (pos n) (pos 18_446_744_073_709_551_615)).0 e)))
    by false e = refl

below_number : (n : ℕ) → n < 4_294_967_295 → not (int_eq (pos n) (pos 4_294_967_295)) ≡ true
below_number n h = let other : n ≢ 4_294_967_295 = omega arith in not_no _ (number_other n other)

below_client : (n : ℕ) → n < 18_446_744_073_709_551_615 → not (int_eq (pos n) (pos 18_446_744_073_709_551_615)) ≡ true
below_client n h = let other : n ≢ 18_446_744_073_709_551_615 = omega arith in not_no _ (client_other n other)

request_counts : (r : Request) → IsAskable r → counts_each (request_fields r) ≡ true
unfolding counts_each counts_as_null meaning request_fields request_number request_client
request_counts (request.Logon seq heart session) h = yes_and _ _ (below_number seq h.number) refl
request_counts (request.Logout seq) h = yes_and _ _ (below_number seq h.number) refl
request_counts request.Heartbeat h = refl
request_counts (request.New seq security side price qty client) h = yes_and _ _ (below_number seq h.number) (yes_and _ _ (below_client client h.client) refl)
request_counts (request.Modify seq order client price qty) h = yes_and _ _ (below_number seq h.number) (yes_and _ _ (below_client client h.client) refl)
request_counts (request.Delete seq order client) h = yes_and _ _ (below_number seq h.number) (yes_and _ _ (below_client client h.client) refl)
request_counts (request.DeleteAll seq security) h = yes_and _ _ (below_number seq h.number) refl
request_counts (request.Resend seq after upto) h = yes_and _ _ (below_number seq h.number) refl

request_sought : (r : Request) → sought (request_role r) ≡ names (request_fields r)
unfolding sought unsought required request_role request_fields
request_sought (request.Logon seq heart session) = refl
request_sought (request.Logout seq) = refl
request_sought request.Heartbeat = refl
request_sought (request.New seq security side price qty client) = refl
request_sought (request.Modify seq order client price qty) = refl
request_sought (request.Delete seq order client) = refl
request_sought (request.DeleteAll seq security) = refl
request_sought (request.Resend seq after upto) = refl

request_is : (r : Request) → is_request (request_role r) ≡ true
unfolding is_request request_role
request_is (request.Logon seq heart session) = refl
request_is (request.Logout seq) = refl
request_is request.Heartbeat = refl
request_is (request.New seq security side price qty client) = refl
request_is (request.Modify seq order client price qty) = refl
request_is (request.Delete seq order client) = refl
request_is (request.DeleteAll seq security) = refl
request_is (request.Resend seq after upto) = refl

request_same : (layouts : List Layout) (r : Request) (b : List ℕ) → Says layouts (request_role r) b (request_fields r) → request_as (request_role r) (message layouts (request_role r) b) ≡ r
unfolding request_as request_role request_fields meaning
request_same layouts (request.Logon seq heart session) b h = rw (says_value layouts role.LogonRequest b (request_fields (request.Logon seq heart session)) 0 (name.MsgSeqNum, number.Word seq) h refl, says_value layouts role.LogonRequest b (request_fields (request.Logon seq heart session)) 1 (name.HeartBtInt, number.Word heart) h refl, says_value layouts role.LogonRequest b (request_fields (request.Logon seq heart session)) 2 (name.PartyIDSessionID, number.Word session) h refl) refl
request_same layouts (request.Logout seq) b h = rw (says_value layouts role.LogoutRequest b (request_fields (request.Logout seq)) 0 (name.MsgSeqNum, number.Word seq) h refl) refl
request_same layouts request.Heartbeat b h = refl
request_same layouts (request.New seq security side price qty client) b h = rw (says_value layouts role.NewOrderSingleRequest b (request_fields (request.New seq security side price qty client)) 0 (name.MsgSeqNum, number.Word seq) h refl, says_value layouts role.NewOrderSingleRequest b (request_fields (request.New seq security side price qty client)) 1 (name.Side, number.Byte side) h refl, says_value layouts role.NewOrderSingleRequest b (request_fields (request.New seq security side price qty client)) 2 (name.SecurityID, number.Signed security) h refl, says_value layouts role.NewOrderSingleRequest b (request_fields (request.New seq security side price qty client)) 3 (name.ClOrdID, number.Long client) h refl, says_value layouts role.NewOrderSingleRequest b (request_fields (request.New seq security side price qty client)) 4 (name.Price, number.Signed price) h refl, says_value layouts role.NewOrderSingleRequest b (request_fields (request.New seq security side price qty client)) 5 (name.OrderQty, number.Signed qty) h refl) refl
request_same layouts (request.Modify seq order client price qty) b h = rw (says_value layouts role.ModifyOrderSingleRequest b (request_fields (request.Modify seq order client price qty)) 0 (name.MsgSeqNum, number.Word seq) h refl, says_value layouts role.ModifyOrderSingleRequest b (request_fields (request.Modify seq order client price qty)) 1 (name.OrderID, number.Long order) h refl, says_value layouts role.ModifyOrderSingleRequest b (request_fields (request.Modify seq order client price qty)) 2 (name.ClOrdID, number.Long client) h refl, says_value layouts role.ModifyOrderSingleRequest b (request_fields (request.Modify seq order client price qty)) 3 (name.Price, number.Signed price) h refl, says_value layouts role.ModifyOrderSingleRequest b (request_fields (request.Modify seq order client price qty)) 4 (name.OrderQty, number.Signed qty) h refl) refl
request_same layouts (request.Delete seq order client) b h = rw (says_value layouts role.DeleteOrderSingleRequest b (request_fields (request.Delete seq order client)) 0 (name.MsgSeqNum, number.Word seq) h refl, says_value layouts role.DeleteOrderSingleRequest b (request_fields (request.Delete seq order client)) 1 (name.OrderID, number.Long order) h refl, says_value layouts role.DeleteOrderSingleRequest b (request_fields (request.Delete seq order client)) 2 (name.ClOrdID, number.Long client) h refl) refl
request_same layouts (request.DeleteAll seq security) b h = rw (says_value layouts role.DeleteAllOrderRequest b (request_fields (request.DeleteAll seq security)) 0 (name.MsgSeqNum, number.Word seq) h refl, says_value layouts role.DeleteAllOrderRequest b (request_fields (request.DeleteAll seq security)) 1 (name.SecurityID, number.Signed security) h refl) refl
request_same layouts (request.Resend seq after upto) b h = rw (says_value layouts role.RetransmitMEMessageRequest b (request_fields (request.Resend seq after upto)) 0 (name.MsgSeqNum, number.Word seq) h refl, says_value layouts role.RetransmitMEMessageRequest b (request_fields (request.Resend seq after upto)) 1 (name.ApplBegMsgID, number.Raw after) h refl, says_value layouts role.RetransmitMEMessageRequest b (request_fields (request.Resend seq after upto)) 2 (name.ApplEndMsgID, number.Raw upto) h refl) refl

-- a request that is said is read
pub request_again : (layouts : List Layout) (r : Request) (b : List ℕ) → IsAskable r → Says layouts (request_role r) b (request_fields r) → request_of (message layouts (request_role r) b) ≡ Ok r
unfolding request_of
request_again layouts r b askable h =
    let none : first_missing (message layouts (request_role r) b) (sought (request_role r)) ≡ None =
    subst (λ (ns : List FieldName). first_missing (message layouts (request_role r) b) ns ≡ None) (sym (request_sought r)) (none_missing_said layouts (request_role r) b (request_fields r) h (request_counts r askable)) in
    rw (request_is r, none, request_same layouts r b h) refl

pub request_in_again : (layouts : List Layout) (r : Request) (b : List ℕ) → IsAskable r → IsWritten layouts (request_role r) (request_fields r) b
    → IfSome (find_role layouts (request_role r)) (λ t. request_in layouts (record { layout = t; bytes = b }) ≡ Ok r)
unfolding request_in
request_in_again layouts r b askable h = by (find_role layouts (request_role r)) refl
  where
    by : (o : Option Layout) → find_role layouts (request_role r) ≡ o → IfSome o (λ t. option_map_or (λ role. request_of (message layouts role b)) (role_of_layout t) (Err fault.NoRole) ≡ Ok r)
    by None e = tt
    by (Some t) e = rw (role_own layouts (request_role r) t e) (request_again layouts r b askable h.says)

-- the fields of a response that are looked for
looked : Response → List (FieldName × Scalar)
looked (response.Reject seq reason) = (name.SessionRejectReason, number.Word (reason_number reason)) ∷ []
looked r = response_fields r

says_looked : (layouts : List Layout) (r : Response) (b : List ℕ) → Says layouts (response_role r) b (response_fields r) → Says layouts (response_role r) b (looked r)
unfolding looked response_fields reject_fields
says_looked layouts (response.Logon seq heart) b h = h
says_looked layouts (response.Logout seq) b h = h
says_looked layouts (response.Resent seq count last known) b h = h
says_looked layouts response.Beat b h = h
says_looked layouts (response.Reject None reason) b h = h
says_looked layouts (response.Reject (Some seq) reason) b h = says_tail layouts _ b _ _ h
says_looked layouts (response.Kept n what) b h = h

response_sought : (r : Response) → sought (response_role r) ≡ names (looked r)
unfolding sought unsought required response_role looked response_fields kept_role kept_fields
response_sought (response.Logon seq heart) = refl
response_sought (response.Logout seq) = refl
response_sought (response.Resent seq count last known) = refl
response_sought response.Beat = refl
response_sought (response.Reject seq reason) = refl
response_sought (response.Kept n (kept.New order client stamp)) = refl
response_sought (response.Kept n (kept.Changed order client stamp)) = refl
response_sought (response.Kept n (kept.Deleted order client)) = refl
response_sought (response.Kept n (kept.DeletedAll security count)) = refl
response_sought (response.Kept n (kept.Cleared security count)) = refl
response_sought (response.Kept n (kept.Exec order side leaves cum last_qty last_price)) = refl

response_is : (r : Response) → is_response (response_role r) ≡ true
unfolding is_response response_role kept_role
response_is (response.Logon seq heart) = refl
response_is (response.Logout seq) = refl
response_is (response.Resent seq count last known) = refl
response_is response.Beat = refl
response_is (response.Reject seq reason) = refl
response_is (response.Kept n (kept.New order client stamp)) = refl
response_is (response.Kept n (kept.Changed order client stamp)) = refl
response_is (response.Kept n (kept.Deleted order client)) = refl
response_is (response.Kept n (kept.DeletedAll security count)) = refl
response_is (response.Kept n (kept.Cleared security count)) = refl
response_is (response.Kept n (kept.Exec order side leaves cum last_qty last_price)) = refl

none_unset_said : (layouts : List Layout) (r : Role) (b : List ℕ) (ps : List (FieldName × Scalar)) → Says layouts r b ps → first_unset (message layouts r b) (names ps) ≡ None
unfolding first_unset
none_unset_said layouts r b [] h = refl
none_unset_said layouts r b (p ∷ ps) h =
    let said_is : said_number (message layouts r b) p.0 ≡ Some (meaning p.1) = h.each 0 p refl in
    rw said_is (none_unset_said layouts r b ps (says_tail layouts r b p ps h))

-- each number is in its range
ranged_each : List (FieldName × Scalar) → Bool
ranged_each [] = true
ranged_each (p ∷ ps) = in_range p.0 (meaning p.1) && ranged_each ps

none_out_said : (layouts : List Layout) (r : Role) (b : List ℕ) (ps : List (FieldName × Scalar)) → Says layouts r b ps → ranged_each ps ≡ true → first_out (message layouts r b) (names ps) ≡ None
unfolding first_out fits ranged_each
none_out_said layouts r b [] h c = refl
none_out_said layouts r b (p ∷ ps) h c =
    let (inside, more) = both (in_range p.0 (meaning p.1)) (ranged_each ps) c in
    let here : in_range p.0 (meaning p.1) ≡ true = inside in
    let said_is : said_number (message layouts r b) p.0 ≡ Some (meaning p.1) = h.each 0 p refl in
    let rest = none_out_said layouts r b ps (says_tail layouts r b p ps h) more in
    rw (said_is, here) rest

t_true : (b : Bool) → T b → b ≡ true
t_true true h = refl
t_true false h = absurd h

stamp_ranged : (n : ℕ) → IsStamp n → in_range name.TrdRegTSTimePriority (pos n) ≡ true
unfolding in_range
stamp_ranged n h =
    let low : leb 1 n ≡ true = grind (arith, nat_tests, h.0) in
    let most : n ≤ 9_223_372_036_854_775_807 = omega (arith, h.1) in
    let high : leb n 9_223_372_036_854_775_807 ≡ true = grind (arith, nat_tests) in
    yes_and _ _ low high

quantity_ranged : (n : ℕ) → IsQuantity (pos n) → in_range name.FillQty (pos n) ≡ true
unfolding in_range
quantity_ranged n h = yes_and _ _ (t_true _ h.0.le) (t_true _ h.1.le)

price_ranged : (z : ℤ) → IsPrice z → in_range name.FillPx z ≡ true
unfolding in_range
price_ranged z h = yes_and _ _ (t_true _ h.0.le) (t_true _ h.1.le)

side_ranged : (s : Side) → in_range name.Side (pos (side_number s)) ≡ true
unfolding in_range side_number
side_ranged Buy = refl
side_ranged Sell = refl

reason_ranged : (x : Reason) → in_range name.SessionRejectReason (pos (reason_number x)) ≡ true
unfolding in_range reason_number
reason_ranged reasons.UnknownTemplate = refl
reason_ranged reasons.BadLength = refl
reason_ranged reasons.NullField = refl
reason_ranged reasons.SeqNum = refl
reason_ranged reasons.NotLoggedOn = refl
reason_ranged reasons.AlreadyLoggedOn = refl
reason_ranged reasons.UnknownSession = refl
reason_ranged reasons.SessionInUse = refl
reason_ranged reasons.UnknownSecurity = refl
reason_ranged reasons.BadSide = refl
reason_ranged reasons.BadPrice = refl
reason_ranged reasons.BadQty = refl
reason_ranged reasons.UnknownOrder = refl
reason_ranged reasons.BelowExecuted = refl
reason_ranged reasons.BookFull = refl
reason_ranged reasons.DayFull = refl
reason_ranged reasons.BadRange = refl

pub reason_same : (x : Reason) → reason_of (reason_number x) ≡ Some x
unfolding reason_of reason_number all_reasons
reason_same reasons.UnknownTemplate = refl
reason_same reasons.BadLength = refl
reason_same reasons.NullField = refl
reason_same reasons.SeqNum = refl
reason_same reasons.NotLoggedOn = refl
reason_same reasons.AlreadyLoggedOn = refl
reason_same reasons.UnknownSession = refl
reason_same reasons.SessionInUse = refl
reason_same reasons.UnknownSecurity = refl
reason_same reasons.BadSide = refl
reason_same reasons.BadPrice = refl
reason_same reasons.BadQty = refl
reason_same reasons.UnknownOrder = refl
reason_same reasons.BelowExecuted = refl
reason_same reasons.BookFull = refl
reason_same reasons.DayFull = refl
reason_same reasons.BadRange = refl

side_same : (s : Side) → side_of (pos (side_number s)) ≡ s
unfolding side_number
side_same Buy = refl
side_same Sell = refl

response_ranged : (r : Response) → IsRanged r → ranged_each (looked r) ≡ true
unfolding ranged_each looked response_fields kept_fields meaning in_range
response_ranged (response.Logon seq heart) h = refl
response_ranged (response.Logout seq) h = refl
response_ranged (response.Resent seq count last known) h = refl
response_ranged response.Beat h = refl
response_ranged (response.Reject seq reason) h = yes_and _ _ (reason_ranged reason) refl
response_ranged (response.Kept n (kept.New order client stamp)) h = yes_and _ _ (stamp_ranged stamp h) refl
response_ranged (response.Kept n (kept.Changed order client stamp)) h = yes_and _ _ (stamp_ranged stamp h) refl
response_ranged (response.Kept n (kept.Deleted order client)) h = refl
response_ranged (response.Kept n (kept.DeletedAll security count)) h = refl
response_ranged (response.Kept n (kept.Cleared security count)) h = refl
response_ranged (response.Kept n (kept.Exec order side leaves cum last_qty last_price)) h = yes_and _ _ (quantity_ranged last_qty h.0) (yes_and _ _ (price_ranged last_price h.1) (yes_and _ _ (side_ranged side) refl))

-- what a Reject says of MsgSeqNum where nothing was put in it
reject_unset : (layouts : List Layout) (b : List ℕ) (x : Reason) → IsWritten layouts role.Reject (reject_fields None x) b
    → said_number (message layouts role.Reject b) name.MsgSeqNum ≡ option_and_then (λ f. unset_number f.null) (place_in layouts role.Reject name.MsgSeqNum)
unfolding said_number reject_fields
reject_unset layouts b x h = by (place_in layouts role.Reject name.MsgSeqNum) refl (λ f e. h.unset name.MsgSeqNum f e among)
  where
    among : is_among name.MsgSeqNum (name.BodyLen ∷ name.TemplateID ∷ name.SessionRejectReason ∷ []) ≡ false
    among = unfold is_among name_number in refl

    by : (o : Option Place) → place_in layouts role.Reject name.MsgSeqNum ≡ o → ((f : Place) → place_in layouts role.Reject name.MsgSeqNum ≡ Some f → said_number (message layouts role.Reject b) name.MsgSeqNum ≡ unset_number f.null)
        → option_and_then (λ f. number_at f b) o ≡ option_and_then (λ f. unset_number f.null) o
    by None e more = refl
    by (Some f) e more = rw e at (more f e)

kept_same : (layouts : List Layout) (n : ℕ) (k : Kept) (b : List ℕ) → Says layouts (kept_role k) b (kept_fields n k) → kept_as (kept_role k) (message layouts (kept_role k) b) ≡ response.Kept n k
unfolding kept_as kept_role kept_fields meaning
kept_same layouts n (kept.New order client stamp) b h = rw (says_value layouts role.NewOrderResponse b (kept_fields n (kept.New order client stamp)) 0 (name.ApplMsgID, number.Raw n) h refl, says_value layouts role.NewOrderResponse b (kept_fields n (kept.New order client stamp)) 1 (name.OrderID, number.Long order) h refl, says_value layouts role.NewOrderResponse b (kept_fields n (kept.New order client stamp)) 2 (name.ClOrdID, number.Long client) h refl, says_value layouts role.NewOrderResponse b (kept_fields n (kept.New order client stamp)) 3 (name.TrdRegTSTimePriority, number.Long stamp) h refl) refl
kept_same layouts n (kept.Changed order client stamp) b h = rw (says_value layouts role.ModifyOrderResponse b (kept_fields n (kept.Changed order client stamp)) 0 (name.ApplMsgID, number.Raw n) h refl, says_value layouts role.ModifyOrderResponse b (kept_fields n (kept.Changed order client stamp)) 1 (name.OrderID, number.Long order) h refl, says_value layouts role.ModifyOrderResponse b (kept_fields n (kept.Changed order client stamp)) 2 (name.ClOrdID, number.Long client) h refl, says_value layouts role.ModifyOrderResponse b (kept_fields n (kept.Changed order client stamp)) 3 (name.TrdRegTSTimePriority, number.Long stamp) h refl) refl
kept_same layouts n (kept.Deleted order client) b h = rw (says_value layouts role.DeleteOrderResponse b (kept_fields n (kept.Deleted order client)) 0 (name.ApplMsgID, number.Raw n) h refl, says_value layouts role.DeleteOrderResponse b (kept_fields n (kept.Deleted order client)) 1 (name.OrderID, number.Long order) h refl, says_value layouts role.DeleteOrderResponse b (kept_fields n (kept.Deleted order client)) 2 (name.ClOrdID, number.Long client) h refl) refl
kept_same layouts n (kept.DeletedAll security count) b h = rw (says_value layouts role.DeleteAllOrderResponse b (kept_fields n (kept.DeletedAll security count)) 0 (name.ApplMsgID, number.Raw n) h refl, says_value layouts role.DeleteAllOrderResponse b (kept_fields n (kept.DeletedAll security count)) 1 (name.SecurityID, number.Signed security) h refl, says_value layouts role.DeleteAllOrderResponse b (kept_fields n (kept.DeletedAll security count)) 2 (name.NoAffectedOrders, number.Half count) h refl) refl
kept_same layouts n (kept.Cleared security count) b h = rw (says_value layouts role.DeleteAllOrderBroadcast b (kept_fields n (kept.Cleared security count)) 0 (name.ApplMsgID, number.Raw n) h refl, says_value layouts role.DeleteAllOrderBroadcast b (kept_fields n (kept.Cleared security count)) 1 (name.SecurityID, number.Signed security) h refl, says_value layouts role.DeleteAllOrderBroadcast b (kept_fields n (kept.Cleared security count)) 2 (name.NoAffectedOrders, number.Half count) h refl) refl
kept_same layouts n (kept.Exec order side leaves cum last_qty last_price) b h = rw (says_value layouts role.OrderExecNotification b (kept_fields n (kept.Exec order side leaves cum last_qty last_price)) 0 (name.ApplMsgID, number.Raw n) h refl, says_value layouts role.OrderExecNotification b (kept_fields n (kept.Exec order side leaves cum last_qty last_price)) 1 (name.OrderID, number.Long order) h refl, says_value layouts role.OrderExecNotification b (kept_fields n (kept.Exec order side leaves cum last_qty last_price)) 2 (name.LeavesQty, number.Signed leaves) h refl, says_value layouts role.OrderExecNotification b (kept_fields n (kept.Exec order side leaves cum last_qty last_price)) 3 (name.CumQty, number.Signed cum) h refl, says_value layouts role.OrderExecNotification b (kept_fields n (kept.Exec order side leaves cum last_qty last_price)) 4 (name.FillQty, number.Signed (pos last_qty)) h refl, says_value layouts role.OrderExecNotification b (kept_fields n (kept.Exec order side leaves cum last_qty last_price)) 5 (name.FillPx, number.Signed last_price) h refl, says_value layouts role.OrderExecNotification b (kept_fields n (kept.Exec order side leaves cum last_qty last_price)) 6 (name.Side, number.Byte (side_number side)) h refl, side_same side) refl

kept_last : (k : Kept) (m : Message) → response_as (kept_role k) m ≡ kept_as (kept_role k) m
unfolding response_as kept_role
kept_last (kept.New order client stamp) m = refl
kept_last (kept.Changed order client stamp) m = refl
kept_last (kept.Deleted order client) m = refl
kept_last (kept.DeletedAll security count) m = refl
kept_last (kept.Cleared security count) m = refl
kept_last (kept.Exec order side leaves cum last_qty last_price) m = refl

response_same : (layouts : List Layout) (r : Response) (b : List ℕ) → IsWritten layouts (response_role r) (response_fields r) b → response_as (response_role r) (message layouts (response_role r) b) ≡ read_again layouts r
unfolding response_as response_role response_fields reject_fields meaning read_again kept_as
response_same layouts (response.Logon seq heart) b h = rw (says_value layouts role.LogonResponse b (response_fields (response.Logon seq heart)) 0 (name.MsgSeqNum, number.Word seq) h.says refl, says_value layouts role.LogonResponse b (response_fields (response.Logon seq heart)) 1 (name.HeartBtInt, number.Word heart) h.says refl) refl
response_same layouts (response.Logout seq) b h = rw (says_value layouts role.LogoutResponse b (response_fields (response.Logout seq)) 0 (name.MsgSeqNum, number.Word seq) h.says refl) refl
response_same layouts (response.Resent seq count last known) b h = rw (says_value layouts role.RetransmitMEMessageResponse b (response_fields (response.Resent seq count last known)) 0 (name.MsgSeqNum, number.Word seq) h.says refl, says_value layouts role.RetransmitMEMessageResponse b (response_fields (response.Resent seq count last known)) 1 (name.ApplTotalMessageCount, number.Half count) h.says refl, says_value layouts role.RetransmitMEMessageResponse b (response_fields (response.Resent seq count last known)) 2 (name.ApplEndMsgID, number.Raw last) h.says refl, says_value layouts role.RetransmitMEMessageResponse b (response_fields (response.Resent seq count last known)) 3 (name.RefApplLastMsgID, number.Raw known) h.says refl) refl
response_same layouts response.Beat b h = refl
response_same layouts (response.Reject None reason) b h =
    rw (reject_unset layouts b reason h, says_value layouts role.Reject b (reject_fields None reason) 0 (name.SessionRejectReason, number.Word (reason_number reason)) h.says refl, reason_same reason) refl
response_same layouts (response.Reject (Some seq) reason) b h =
    rw (h.says.each 0 (name.MsgSeqNum, number.Word seq) refl, says_value layouts role.Reject b (reject_fields (Some seq) reason) 1 (name.SessionRejectReason, number.Word (reason_number reason)) h.says refl, reason_same reason) refl
response_same layouts (response.Kept n what) b h = kept_last what _ ∙ kept_same layouts n what b h.says

-- a response that is written is read
pub response_again : (layouts : List Layout) (r : Response) (b : List ℕ) → IsRanged r → IsWritten layouts (response_role r) (response_fields r) b → response_of (message layouts (response_role r) b) ≡ Ok (read_again layouts r)
unfolding response_of
response_again layouts r b ranged h =
    let m : Message = message layouts (response_role r) b in
    let says_each = says_looked layouts r b h.says in
    let set : first_unset m (sought (response_role r)) ≡ None =
    subst (λ (ns : List FieldName). first_unset m ns ≡ None) (sym (response_sought r)) (none_unset_said layouts (response_role r) b (looked r) says_each) in
    let inside : first_out m (sought (response_role r)) ≡ None =
    subst (λ (ns : List FieldName). first_out m ns ≡ None) (sym (response_sought r)) (none_out_said layouts (response_role r) b (looked r) says_each (response_ranged r ranged)) in
    rw (response_is r, set, inside, response_same layouts r b h) refl

pub response_in_again : (layouts : List Layout) (r : Response) (b : List ℕ) → IsRanged r → IsWritten layouts (response_role r) (response_fields r) b
    → IfSome (find_role layouts (response_role r)) (λ t. response_in layouts (record { layout = t; bytes = b }) ≡ Ok (read_again layouts r))
unfolding response_in
response_in_again layouts r b ranged h = by (find_role layouts (response_role r)) refl
  where
    by : (o : Option Layout) → find_role layouts (response_role r) ≡ o → IfSome o (λ t. option_map_or (λ role. response_of (message layouts role b)) (role_of_layout t) (Err fault.NoRole) ≡ Ok (read_again layouts r))
    by None e = tt
    by (Some t) e = rw (role_own layouts (response_role r) t e) (response_again layouts r b ranged h)

-- the same, under the template of its role
pub request_under : (layouts : List Layout) (r : Request) (t : Layout) (b : List ℕ) → find_role layouts (request_role r) ≡ Some t → IsAskable r → IsWritten layouts (request_role r) (request_fields r) b
    → request_in layouts (record { layout = t; bytes = b }) ≡ Ok r
request_under layouts r t b e askable h = rw e at (request_in_again layouts r b askable h)

pub response_under : (layouts : List Layout) (r : Response) (t : Layout) (b : List ℕ) → find_role layouts (response_role r) ≡ Some t → IsRanged r → IsWritten layouts (response_role r) (response_fields r) b
    → response_in layouts (record { layout = t; bytes = b }) ≡ Ok (read_again layouts r)
response_under layouts r t b e ranged h = rw e at (response_in_again layouts r b ranged h)
