-- The requests that messages say.
use Rattle.std.specs.Prelude.{ℕ, ◌<◌, if◌then◌else◌, List, Bool, true, false, Option, Some, None, Ok, Err, Result, nat_abs, IfSome}
use Rattle.std.specs.Option.{option_and_then, option_map_or}
use Rattle.t7_layout.specs.declared.roles.Role.{Role}
use Rattle.t7_layout.specs.declared.roles.Role.TheVariants as role
use Rattle.t7_layout.specs.declared.roles.FieldName.{FieldName}
use Rattle.t7_layout.specs.declared.roles.FieldName.TheVariants as name
use Rattle.t7_layout.specs.Layouts.{Layout}
use Rattle.t7_layout.specs.Lookups.{role_of_layout}
use Rattle.t7_fields.specs.Messages.{Message, value}
use Rattle.t7_fields.specs.Spelling.{Seen}
use Rattle.t7_eti.specs.declared.nulls.FieldFault.{FieldFault}
use Rattle.t7_eti.specs.declared.nulls.FieldFault.TheVariants as fault
use Rattle.t7_eti.specs.declared.request.Request.{Request}
use Rattle.t7_eti.specs.declared.request.Request.TheVariants as request
use Rattle.t7_eti.specs.Nulls.{first_missing, is_missing, sought}

-- the roles of requests
unfoldable pub is_request : Role → Bool
is_request role.LogonRequest = true
is_request role.LogoutRequest = true
is_request role.EtiHeartbeat = true
is_request role.NewOrderSingleRequest = true
is_request role.ModifyOrderSingleRequest = true
is_request role.DeleteOrderSingleRequest = true
is_request role.DeleteAllOrderRequest = true
is_request role.RetransmitMEMessageRequest = true
is_request other = false

-- a number of a field that is not signed
abbrev pub natural : Message → FieldName → ℕ
natural m name = nat_abs (value m name)

-- the request of a message of a role, field by field
unfoldable pub request_as : Role → Message → Request
request_as role.LogonRequest m = request.Logon (natural m name.MsgSeqNum) (natural m name.HeartBtInt) (natural m name.PartyIDSessionID)
request_as role.LogoutRequest m = request.Logout (natural m name.MsgSeqNum)
request_as role.NewOrderSingleRequest m =
    request.New (natural m name.MsgSeqNum) (value m name.SecurityID) (natural m name.Side) (value m name.Price) (value m name.OrderQty) (natural m name.ClOrdID)
request_as role.ModifyOrderSingleRequest m =
    request.Modify (natural m name.MsgSeqNum) (natural m name.OrderID) (natural m name.ClOrdID) (value m name.Price) (value m name.OrderQty)
request_as role.DeleteOrderSingleRequest m = request.Delete (natural m name.MsgSeqNum) (natural m name.OrderID) (natural m name.ClOrdID)
request_as role.DeleteAllOrderRequest m = request.DeleteAll (natural m name.MsgSeqNum) (value m name.SecurityID)
request_as role.RetransmitMEMessageRequest m = request.Resend (natural m name.MsgSeqNum) (natural m name.ApplBegMsgID) (natural m name.ApplEndMsgID)
request_as other m = request.Heartbeat

-- the request that a message says: no request's role, or the first missing field, or else the request
unfoldable pub request_of : Message → Result Request FieldFault
request_of m =
    if is_request m.role then option_map_or (λ name. Err (fault.Null name)) (first_missing m (sought m.role)) (Ok (request_as m.role m))
    else Err fault.NoRole

-- the same, of the bytes under a template
unfoldable pub request_in : List Layout → Seen → Result Request FieldFault
request_in layouts v = option_map_or (λ role. request_of (record { layouts = layouts; role = role; bytes = v.bytes })) (role_of_layout v.layout) (Err fault.NoRole)

-- the MsgSeqNum of a request
unfoldable pub request_number : Request → Option ℕ
request_number (request.Logon seq heart session) = Some seq
request_number (request.Logout seq) = Some seq
request_number request.Heartbeat = None
request_number (request.New seq security side price qty client) = Some seq
request_number (request.Modify seq order client price qty) = Some seq
request_number (request.Delete seq order client) = Some seq
request_number (request.DeleteAll seq security) = Some seq
request_number (request.Resend seq after upto) = Some seq

-- the ClOrdID of a request
unfoldable pub request_client : Request → Option ℕ
request_client (request.New seq security side price qty client) = Some client
request_client (request.Modify seq order client price qty) = Some client
request_client (request.Delete seq order client) = Some client
request_client other = None

-- the roles of requests that have a MsgSeqNum: all but a heartbeat's
unfoldable pub is_numbered : Role → Bool
is_numbered role.EtiHeartbeat = false
is_numbered other = is_request other

-- the MsgSeqNum that a message of such a role says, if any that does not count as null
unfoldable pub number_of : Message → Option ℕ
number_of m = if is_numbered m.role then (if is_missing m name.MsgSeqNum then None else Some (natural m name.MsgSeqNum)) else None

-- the same, of the bytes under a template
unfoldable pub number_in : List Layout → Seen → Option ℕ
number_in layouts v = option_and_then (λ role. number_of (record { layouts = layouts; role = role; bytes = v.bytes })) (role_of_layout v.layout)

-- a request's MsgSeqNum and ClOrdID are not the greatest of 32 and of 64 bits, which count as null
pub record IsAskable (r : Request) : Type 0 where
  pub number : IfSome (request_number r) (λ n. n < 4_294_967_295)
  pub client : IfSome (request_client r) (λ n. n < 18_446_744_073_709_551_615)
