use Rattle.std.proofs.Common.{rules}
use Rattle.t7_layout.specs.Roles.{required}
use Rattle.t7_layout.proofs.roles.Role.required.Goals as goal

pub returns-in-LogonRequest : goal.returns-in-LogonRequest
unfolding required
returns-in-LogonRequest c = search rules

pub returns-in-LogoutRequest : goal.returns-in-LogoutRequest
unfolding required
returns-in-LogoutRequest c = search rules

pub returns-in-EtiHeartbeat : goal.returns-in-EtiHeartbeat
unfolding required
returns-in-EtiHeartbeat c = search rules

pub returns-in-NewOrderSingleRequest : goal.returns-in-NewOrderSingleRequest
unfolding required
returns-in-NewOrderSingleRequest c = search rules

pub returns-in-ModifyOrderSingleRequest : goal.returns-in-ModifyOrderSingleRequest
unfolding required
returns-in-ModifyOrderSingleRequest c = search rules

pub returns-in-DeleteOrderSingleRequest : goal.returns-in-DeleteOrderSingleRequest
unfolding required
returns-in-DeleteOrderSingleRequest c = search rules

pub returns-in-DeleteAllOrderRequest : goal.returns-in-DeleteAllOrderRequest
unfolding required
returns-in-DeleteAllOrderRequest c = search rules

pub returns-in-RetransmitMEMessageRequest : goal.returns-in-RetransmitMEMessageRequest
unfolding required
returns-in-RetransmitMEMessageRequest c = search rules

pub returns-in-LogonResponse : goal.returns-in-LogonResponse
unfolding required
returns-in-LogonResponse c = search rules

pub returns-in-LogoutResponse : goal.returns-in-LogoutResponse
unfolding required
returns-in-LogoutResponse c = search rules

pub returns-in-HeartbeatNotification : goal.returns-in-HeartbeatNotification
unfolding required
returns-in-HeartbeatNotification c = search rules

pub returns-in-Reject : goal.returns-in-Reject
unfolding required
returns-in-Reject c = search rules

pub returns-in-RetransmitMEMessageResponse : goal.returns-in-RetransmitMEMessageResponse
unfolding required
returns-in-RetransmitMEMessageResponse c = search rules

pub returns-in-NewOrderResponse : goal.returns-in-NewOrderResponse
unfolding required
returns-in-NewOrderResponse c = search rules

pub returns-in-ModifyOrderResponse : goal.returns-in-ModifyOrderResponse
unfolding required
returns-in-ModifyOrderResponse c = search rules

pub returns-in-DeleteOrderResponse : goal.returns-in-DeleteOrderResponse
unfolding required
returns-in-DeleteOrderResponse c = search rules

pub returns-in-DeleteAllOrderResponse : goal.returns-in-DeleteAllOrderResponse
unfolding required
returns-in-DeleteAllOrderResponse c = search rules

pub returns-in-DeleteAllOrderBroadcast : goal.returns-in-DeleteAllOrderBroadcast
unfolding required
returns-in-DeleteAllOrderBroadcast c = search rules

pub returns-in-OrderExecNotification : goal.returns-in-OrderExecNotification
unfolding required
returns-in-OrderExecNotification c = search rules

pub returns-in-PacketHeader : goal.returns-in-PacketHeader
unfolding required
returns-in-PacketHeader c = search rules

pub returns-in-EobiHeartbeat : goal.returns-in-EobiHeartbeat
unfolding required
returns-in-EobiHeartbeat c = search rules

pub returns-in-OrderAdd : goal.returns-in-OrderAdd
unfolding required
returns-in-OrderAdd c = search rules

pub returns-in-OrderModify : goal.returns-in-OrderModify
unfolding required
returns-in-OrderModify c = search rules

pub returns-in-OrderModifySamePriority : goal.returns-in-OrderModifySamePriority
unfolding required
returns-in-OrderModifySamePriority c = search rules

pub returns-in-OrderDelete : goal.returns-in-OrderDelete
unfolding required
returns-in-OrderDelete c = search rules

pub returns-in-OrderMassDelete : goal.returns-in-OrderMassDelete
unfolding required
returns-in-OrderMassDelete c = search rules

pub returns-in-PartialOrderExecution : goal.returns-in-PartialOrderExecution
unfolding required
returns-in-PartialOrderExecution c = search rules

pub returns-in-FullOrderExecution : goal.returns-in-FullOrderExecution
unfolding required
returns-in-FullOrderExecution c = search rules

pub returns-in-ExecutionSummary : goal.returns-in-ExecutionSummary
unfolding required
returns-in-ExecutionSummary c = search rules

pub returns-in-ProductSummary : goal.returns-in-ProductSummary
unfolding required
returns-in-ProductSummary c = search rules

pub returns-in-InstrumentSummary : goal.returns-in-InstrumentSummary
unfolding required
returns-in-InstrumentSummary c = search rules

pub returns-in-SnapshotOrder : goal.returns-in-SnapshotOrder
unfolding required
returns-in-SnapshotOrder c = search rules
