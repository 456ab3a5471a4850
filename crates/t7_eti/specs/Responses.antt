-- The responses that messages say.
use Rattle.std.specs.Prelude.{if◌then◌else◌, List, Bool, true, false, Ok, Err, Result, ℤ, pos, nat_abs, option_map, unwrap_or}
use Rattle.std.specs.Option.{option_map_or}
use Rattle.std.specs.Ordering.{int_eq}
use Rattle.t7_base.specs.declared.ids.Side.{Side}
use Rattle.t7_base.specs.declared.ids.Side.TheVariants.{Buy, Sell}
use Rattle.t7_layout.specs.declared.roles.Role.{Role}
use Rattle.t7_layout.specs.declared.roles.Role.TheVariants as role
use Rattle.t7_layout.specs.declared.roles.FieldName.TheVariants as name
use Rattle.t7_layout.specs.Layouts.{Layout}
use Rattle.t7_layout.specs.Lookups.{role_of_layout}
use Rattle.t7_fields.specs.Messages.{Message, first_unset, said_number, value}
use Rattle.t7_fields.specs.Spelling.{Seen}
use Rattle.t7_eti.specs.declared.nulls.FieldFault.{FieldFault}
use Rattle.t7_eti.specs.declared.nulls.FieldFault.TheVariants as fault
use Rattle.t7_eti.specs.declared.reason.Reason.{Reason}
use Rattle.t7_eti.specs.declared.reason.Reason.TheVariants.{UnknownTemplate}
use Rattle.t7_eti.specs.declared.response.Kept.TheVariants as kept
use Rattle.t7_eti.specs.declared.response.Response.{Response}
use Rattle.t7_eti.specs.declared.response.Response.TheVariants as response
use Rattle.t7_eti.specs.Nulls.{sought}
use Rattle.t7_eti.specs.Ranges.{first_out}
use Rattle.t7_eti.specs.Reasons.{reason_of}
use Rattle.t7_eti.specs.Requests.{natural}

-- the roles of responses
unfoldable pub is_response : Role → Bool
is_response role.LogonResponse = true
is_response role.LogoutResponse = true
is_response role.HeartbeatNotification = true
is_response role.Reject = true
is_response role.RetransmitMEMessageResponse = true
is_response role.NewOrderResponse = true
is_response role.ModifyOrderResponse = true
is_response role.DeleteOrderResponse = true
is_response role.DeleteAllOrderResponse = true
is_response role.DeleteAllOrderBroadcast = true
is_response role.OrderExecNotification = true
is_response other = false

-- the side of a number: 1 is buy and 2 is sell
abbrev pub side_of : ℤ → Side
side_of z = if int_eq z (pos 1) then Buy else Sell

-- the reason that a Reject says
abbrev pub reason_said : Message → Reason
reason_said m = unwrap_or (reason_of (natural m name.SessionRejectReason)) UnknownTemplate

-- the recoverable response of a message of a role, field by field, with its number
unfoldable pub kept_as : Role → Message → Response
kept_as role.NewOrderResponse m = response.Kept (natural m name.ApplMsgID) (kept.New (natural m name.OrderID) (natural m name.ClOrdID) (natural m name.TrdRegTSTimePriority))
kept_as role.ModifyOrderResponse m = response.Kept (natural m name.ApplMsgID) (kept.Changed (natural m name.OrderID) (natural m name.ClOrdID) (natural m name.TrdRegTSTimePriority))
kept_as role.DeleteOrderResponse m = response.Kept (natural m name.ApplMsgID) (kept.Deleted (natural m name.OrderID) (natural m name.ClOrdID))
kept_as role.DeleteAllOrderResponse m = response.Kept (natural m name.ApplMsgID) (kept.DeletedAll (value m name.SecurityID) (natural m name.NoAffectedOrders))
kept_as role.DeleteAllOrderBroadcast m = response.Kept (natural m name.ApplMsgID) (kept.Cleared (value m name.SecurityID) (natural m name.NoAffectedOrders))
kept_as role.OrderExecNotification m =
    response.Kept (natural m name.ApplMsgID)
    (kept.Exec (natural m name.OrderID) (side_of (value m name.Side)) (value m name.LeavesQty) (value m name.CumQty) (natural m name.FillQty)
    (value m name.FillPx))
kept_as other m = response.Beat

-- the response of a message of a role, field by field
unfoldable pub response_as : Role → Message → Response
response_as role.LogonResponse m = response.Logon (natural m name.MsgSeqNum) (natural m name.HeartBtInt)
response_as role.LogoutResponse m = response.Logout (natural m name.MsgSeqNum)
response_as role.Reject m = response.Reject (option_map nat_abs (said_number m name.MsgSeqNum)) (reason_said m)
response_as role.RetransmitMEMessageResponse m =
    response.Resent (natural m name.MsgSeqNum) (natural m name.ApplTotalMessageCount) (natural m name.ApplEndMsgID) (natural m name.RefApplLastMsgID)
response_as other m = kept_as other m

-- the response that a message says: no response's role, or the first field without a value, or else the first out of its range, or else the response
unfoldable pub response_of : Message → Result Response FieldFault
response_of m =
    if is_response m.role then option_map_or (λ name. Err (fault.Null name)) (first_unset m (sought m.role))
    (option_map_or (λ name. Err (fault.Value name)) (first_out m (sought m.role)) (Ok (response_as m.role m)))
    else Err fault.NoRole

-- the same, of the bytes under a template
unfoldable pub response_in : List Layout → Seen → Result Response FieldFault
response_in layouts v = option_map_or (λ role. response_of (record { layouts = layouts; role = role; bytes = v.bytes })) (role_of_layout v.layout) (Err fault.NoRole)
