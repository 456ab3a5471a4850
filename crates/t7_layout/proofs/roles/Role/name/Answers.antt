use Rattle.std.proofs.Common.{rules}
use Rattle.t7_layout.specs.Roles.{role_text}
use Rattle.t7_layout.proofs.roles.Role.name.Goals as goal

pub returns-in-LogonRequest : goal.returns-in-LogonRequest
unfolding role_text
returns-in-LogonRequest c = search rules

pub returns-in-LogoutRequest : goal.returns-in-LogoutRequest
unfolding role_text
returns-in-LogoutRequest c = search rules

pub returns-in-EtiHeartbeat : goal.returns-in-EtiHeartbeat
unfolding role_text
returns-in-EtiHeartbeat c = search rules

pub returns-in-NewOrderSingleRequest : goal.returns-in-NewOrderSingleRequest
unfolding role_text
returns-in-NewOrderSingleRequest c = search rules

pub returns-in-ModifyOrderSingleRequest : goal.returns-in-ModifyOrderSingleRequest
unfolding role_text
returns-in-ModifyOrderSingleRequest c = search rules

pub returns-in-DeleteOrderSingleRequest : goal.returns-in-DeleteOrderSingleRequest
unfolding role_text
returns-in-DeleteOrderSingleRequest c = search rules

pub returns-in-DeleteAllOrderRequest : goal.returns-in-DeleteAllOrderRequest
unfolding role_text
returns-in-DeleteAllOrderRequest c = search rules

pub returns-in-RetransmitMEMessageRequest : goal.returns-in-RetransmitMEMessageRequest
unfolding role_text
returns-in-RetransmitMEMessageRequest c = search rules

pub returns-in-LogonResponse : goal.returns-in-LogonResponse
unfolding role_text
returns-in-LogonResponse c = search rules

pub returns-in-LogoutResponse : goal.returns-in-LogoutResponse
unfolding role_text
returns-in-LogoutResponse c = search rules

pub returns-in-HeartbeatNotification : goal.returns-in-HeartbeatNotification
unfolding role_text
returns-in-HeartbeatNotification c = search rules

pub returns-in-Reject : goal.returns-in-Reject
unfolding role_text
returns-in-Reject c = search rules

pub returns-in-RetransmitMEMessageResponse : goal.returns-in-RetransmitMEMessageResponse
unfolding role_text
returns-in-RetransmitMEMessageResponse c = search rules

pub returns-in-NewOrderResponse : goal.returns-in-NewOrderResponse
unfolding role_text
returns-in-NewOrderResponse c = search rules

pub returns-in-ModifyOrderResponse : goal.returns-in-ModifyOrderResponse
unfolding role_text
returns-in-ModifyOrderResponse c = search rules

pub returns-in-DeleteOrderResponse : goal.returns-in-DeleteOrderResponse
unfolding role_text
returns-in-DeleteOrderResponse c = search rules

pub returns-in-DeleteAllOrderResponse : goal.returns-in-DeleteAllOrderResponse
unfolding role_text
returns-in-DeleteAllOrderResponse c = search rules

pub returns-in-DeleteAllOrderBroadcast : goal.returns-in-DeleteAllOrderBroadcast
unfolding role_text
returns-in-DeleteAllOrderBroadcast c = search rules

pub returns-in-OrderExecNotification : goal.returns-in-OrderExecNotification
unfolding role_text
returns-in-OrderExecNotification c = search rules

pub returns-in-PacketHeader : goal.returns-in-PacketHeader
unfolding role_text
returns-in-PacketHeader c = search rules

pub returns-in-EobiHeartbeat : goal.returns-in-EobiHeartbeat
unfolding role_text
returns-in-EobiHeartbeat c = search rules

pub returns-in-OrderAdd : goal.returns-in-OrderAdd
unfolding role_text
returns-in-OrderAdd c = search rules

pub returns-in-OrderModify : goal.returns-in-OrderModify
unfolding role_text
returns-in-OrderModify c = search rules

pub returns-in-OrderModifySamePriority : goal.returns-in-OrderModifySamePriority
unfolding role_text
returns-in-OrderModifySamePriority c = search rules

pub returns-in-OrderDelete : goal.returns-in-OrderDelete
unfolding role_text
returns-in-OrderDelete c = search rules

pub returns-in-OrderMassDelete : goal.returns-in-OrderMassDelete
unfolding role_text
returns-in-OrderMassDelete c = search rules

pub returns-in-PartialOrderExecution : goal.returns-in-PartialOrderExecution
unfolding role_text
returns-in-PartialOrderExecution c = search rules

pub returns-in-FullOrderExecution : goal.returns-in-FullOrderExecution
unfolding role_text
returns-in-FullOrderExecution c = search rules

pub returns-in-ExecutionSummary : goal.returns-in-ExecutionSummary
unfolding role_text
returns-in-ExecutionSummary c = search rules

pub returns-in-ProductSummary : goal.returns-in-ProductSummary
unfolding role_text
returns-in-ProductSummary c = search rules

pub returns-in-InstrumentSummary : goal.returns-in-InstrumentSummary
unfolding role_text
returns-in-InstrumentSummary c = search rules

pub returns-in-SnapshotOrder : goal.returns-in-SnapshotOrder
unfolding role_text
returns-in-SnapshotOrder c = search rules
