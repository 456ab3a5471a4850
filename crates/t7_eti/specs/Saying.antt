-- What the messages of requests and responses say, field by field, in the order of the manual's layout.
use Rattle.std.specs.Prelude.{ℕ, List, [], ◌∷◌, Option, Some, None, pos, nat_abs, option_map}
use Rattle.std.specs.Option.{option_and_then}
use Rattle.t7_base.specs.declared.ids.Side.{Side}
use Rattle.t7_base.specs.declared.ids.Side.TheVariants.{Buy, Sell}
use Rattle.t7_base.specs.Ranges.{IsPrice, IsQuantity, IsStamp}
use Rattle.t7_layout.specs.declared.roles.Role.{Role}
use Rattle.t7_layout.specs.declared.roles.Role.TheVariants as role
use Rattle.t7_layout.specs.declared.roles.FieldName.{FieldName}
use Rattle.t7_layout.specs.declared.roles.FieldName.TheVariants as name
use Rattle.t7_layout.specs.Layouts.{Layout}
use Rattle.t7_layout.specs.Lookups.{place_in}
use Rattle.t7_fields.specs.declared.writer.Scalar.{Scalar}
use Rattle.t7_fields.specs.declared.writer.Scalar.TheVariants as number
use Rattle.t7_fields.specs.Writing.{IsOrdinary, message_saying, unset_number}
use Rattle.t7_eti.specs.declared.reason.Reason.{Reason}
use Rattle.t7_eti.specs.declared.request.Request.{Request}
use Rattle.t7_eti.specs.declared.request.Request.TheVariants as request
use Rattle.t7_eti.specs.declared.response.Kept.{Kept}
use Rattle.t7_eti.specs.declared.response.Kept.TheVariants as kept
use Rattle.t7_eti.specs.declared.response.Response.{Response}
use Rattle.t7_eti.specs.declared.response.Response.TheVariants as response
use Rattle.t7_eti.specs.Reasons.{reason_number}

-- the role of a request
unfoldable pub request_role : Request → Role
request_role (request.Logon seq heart session) = role.LogonRequest
request_role (request.Logout seq) = role.LogoutRequest
request_role request.Heartbeat = role.EtiHeartbeat
request_role (request.New seq security side price qty client) = role.NewOrderSingleRequest
request_role (request.Modify seq order client price qty) = role.ModifyOrderSingleRequest
request_role (request.Delete seq order client) = role.DeleteOrderSingleRequest
request_role (request.DeleteAll seq security) = role.DeleteAllOrderRequest
request_role (request.Resend seq after upto) = role.RetransmitMEMessageRequest

-- what it says
unfoldable pub request_fields : Request → List (FieldName × Scalar)
request_fields (request.Logon seq heart session) = (name.MsgSeqNum, number.Word seq) ∷ (name.HeartBtInt, number.Word heart) ∷ (name.PartyIDSessionID, number.Word session) ∷ []
request_fields (request.Logout seq) = (name.MsgSeqNum, number.Word seq) ∷ []
request_fields request.Heartbeat = []
request_fields (request.New seq security side price qty client) =
    (name.MsgSeqNum, number.Word seq) ∷ (name.Side, number.Byte side) ∷ (name.SecurityID, number.Signed security)
    ∷ (name.ClOrdID, number.Long client) ∷ (name.Price, number.Signed price) ∷ (name.OrderQty, number.Signed qty) ∷ []
request_fields (request.Modify seq order client price qty) =
    (name.MsgSeqNum, number.Word seq) ∷ (name.OrderID, number.Long order) ∷ (name.ClOrdID, number.Long client)
    ∷ (name.Price, number.Signed price) ∷ (name.OrderQty, number.Signed qty) ∷ []
request_fields (request.Delete seq order client) = (name.MsgSeqNum, number.Word seq) ∷ (name.OrderID, number.Long order) ∷ (name.ClOrdID, number.Long client) ∷ []
request_fields (request.DeleteAll seq security) = (name.MsgSeqNum, number.Word seq) ∷ (name.SecurityID, number.Signed security) ∷ []
request_fields (request.Resend seq after upto) = (name.MsgSeqNum, number.Word seq) ∷ (name.ApplBegMsgID, number.Raw after) ∷ (name.ApplEndMsgID, number.Raw upto) ∷ []

-- its bytes
abbrev pub request_bytes : List Layout → Request → List ℕ
request_bytes layouts r = message_saying layouts (request_role r) (request_fields r)

-- the number of a side
unfoldable pub side_number : Side → ℕ
side_number Buy = 1
side_number Sell = 2

-- the role of a recoverable response
unfoldable pub kept_role : Kept → Role
kept_role (kept.New order client stamp) = role.NewOrderResponse
kept_role (kept.Changed order client stamp) = role.ModifyOrderResponse
kept_role (kept.Deleted order client) = role.DeleteOrderResponse
kept_role (kept.DeletedAll security count) = role.DeleteAllOrderResponse
kept_role (kept.Cleared security count) = role.DeleteAllOrderBroadcast
kept_role (kept.Exec order side leaves cum last_qty last_price) = role.OrderExecNotification

-- what it says with its number
unfoldable pub kept_fields : ℕ → Kept → List (FieldName × Scalar)
kept_fields n (kept.New order client stamp) =
    (name.ApplMsgID, number.Raw n) ∷ (name.OrderID, number.Long order) ∷ (name.ClOrdID, number.Long client) ∷ (name.TrdRegTSTimePriority, number.Long stamp) ∷ []
kept_fields n (kept.Changed order client stamp) =
    (name.ApplMsgID, number.Raw n) ∷ (name.OrderID, number.Long order) ∷ (name.ClOrdID, number.Long client) ∷ (name.TrdRegTSTimePriority, number.Long stamp) ∷ []
kept_fields n (kept.Deleted order client) = (name.ApplMsgID, number.Raw n) ∷ (name.OrderID, number.Long order) ∷ (name.ClOrdID, number.Long client) ∷ []
kept_fields n (kept.DeletedAll security count) = (name.ApplMsgID, number.Raw n) ∷ (name.SecurityID, number.Signed security) ∷ (name.NoAffectedOrders, number.Half count) ∷ []
kept_fields n (kept.Cleared security count) = (name.ApplMsgID, number.Raw n) ∷ (name.SecurityID, number.Signed security) ∷ (name.NoAffectedOrders, number.Half count) ∷ []
kept_fields n (kept.Exec order side leaves cum last_qty last_price) =
    (name.ApplMsgID, number.Raw n) ∷ (name.OrderID, number.Long order) ∷ (name.LeavesQty, number.Signed leaves) ∷ (name.CumQty, number.Signed cum)
    ∷ (name.FillQty, number.Signed (pos last_qty)) ∷ (name.FillPx, number.Signed last_price) ∷ (name.Side, number.Byte (side_number side)) ∷ []

-- the role of a response
unfoldable pub response_role : Response → Role
response_role (response.Logon seq heart) = role.LogonResponse
response_role (response.Logout seq) = role.LogoutResponse
response_role response.Beat = role.HeartbeatNotification
response_role (response.Reject seq reason) = role.Reject
response_role (response.Resent seq count last known) = role.RetransmitMEMessageResponse
response_role (response.Kept n what) = kept_role what

-- what a Reject says: MsgSeqNum is left unset where there is no number
unfoldable pub reject_fields : Option ℕ → Reason → List (FieldName × Scalar)
reject_fields None reason = (name.SessionRejectReason, number.Word (reason_number reason)) ∷ []
reject_fields (Some seq) reason = (name.MsgSeqNum, number.Word seq) ∷ (name.SessionRejectReason, number.Word (reason_number reason)) ∷ []

-- what a response says
unfoldable pub response_fields : Response → List (FieldName × Scalar)
response_fields (response.Logon seq heart) = (name.MsgSeqNum, number.Word seq) ∷ (name.HeartBtInt, number.Word heart) ∷ []
response_fields (response.Logout seq) = (name.MsgSeqNum, number.Word seq) ∷ []
response_fields response.Beat = []
response_fields (response.Reject seq reason) = reject_fields seq reason
response_fields (response.Resent seq count last known) =
    (name.MsgSeqNum, number.Word seq) ∷ (name.ApplTotalMessageCount, number.Half count) ∷ (name.ApplEndMsgID, number.Raw last) ∷ (name.RefApplLastMsgID, number.Raw known) ∷ []
response_fields (response.Kept n what) = kept_fields n what

-- its bytes
abbrev pub response_bytes : List Layout → Response → List ℕ
response_bytes layouts r = message_saying layouts (response_role r) (response_fields r)

-- what a written response is read as: itself, but a Reject without a number has the number 0 where the table gives its MsgSeqNum no null
unfoldable pub read_again : List Layout → Response → Response
read_again layouts (response.Reject None reason) =
    response.Reject (option_map nat_abs (option_and_then (λ f. unset_number f.null) (place_in layouts role.Reject name.MsgSeqNum))) reason
read_again layouts r = r

-- a response's time stamp, quantity and price are in the ranges of their types, as they are in every value of these types
abbrev pub IsRanged : Response → Type 0
IsRanged (response.Kept n (kept.New order client stamp)) = IsStamp stamp
IsRanged (response.Kept n (kept.Changed order client stamp)) = IsStamp stamp
IsRanged (response.Kept n (kept.Exec order side leaves cum last_qty last_price)) = IsQuantity (pos last_qty) × IsPrice last_price
IsRanged r = Unit {0}

-- each number is not the greatest of its type, or the least of a signed one
abbrev pub EachOrdinary : List (FieldName × Scalar) → Type 0
EachOrdinary [] = Unit {0}
EachOrdinary (p ∷ ps) = IsOrdinary p.1 × EachOrdinary ps
