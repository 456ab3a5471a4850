-- The templates that the product itself reads and writes, and the fields that each requires.
use Rattle.std.specs.Prelude.{ℕ, List, [], ◌∷◌, codes}
use Rattle.t7_layout.specs.declared.words.Family.{Family}
use Rattle.t7_layout.specs.declared.words.Family.TheVariants.{Eti, Eobi}
use Rattle.t7_layout.specs.declared.words.Kind.{Kind}
use Rattle.t7_layout.specs.declared.words.Kind.TheVariants.{Unsigned, Signed, Raw}
use Rattle.t7_layout.specs.declared.roles.Role.{Role}
use Rattle.t7_layout.specs.declared.roles.Role.TheVariants.{LogonRequest, LogoutRequest, EtiHeartbeat, NewOrderSingleRequest, ModifyOrderSingleRequest, DeleteOrderSingleRequest, DeleteAllOrderRequest, RetransmitMEMessageRequest, LogonResponse, LogoutResponse, HeartbeatNotification, Reject, RetransmitMEMessageResponse, NewOrderResponse, ModifyOrderResponse, DeleteOrderResponse, DeleteAllOrderResponse, DeleteAllOrderBroadcast, OrderExecNotification, PacketHeader, EobiHeartbeat, OrderAdd, OrderModify, OrderModifySamePriority, OrderDelete, OrderMassDelete, PartialOrderExecution, FullOrderExecution, ExecutionSummary, ProductSummary, InstrumentSummary, SnapshotOrder}
use Rattle.t7_layout.specs.declared.roles.FieldName.{FieldName}
use Rattle.t7_layout.specs.declared.roles.FieldName.TheVariants.{BodyLen, TemplateID, MsgSeqNum, HeartBtInt, PartyIDSessionID, Side, SecurityID, ClOrdID, Price, OrderQty, OrderID, ApplBegMsgID, ApplEndMsgID, SessionRejectReason, ApplTotalMessageCount, RefApplLastMsgID, ApplMsgID, TrdRegTSTimePriority, NoAffectedOrders, LeavesQty, CumQty, FillQty, FillPx, ApplSeqNum, MarketSegmentID, LastMsgSeqNumProcessed, DisplayQty, TrdRegTSPrevTimePriority, PrevPrice, PrevDisplayQty, LastQty, LastPx, AggressorTime, AggressorSide, TotNoOrders}

-- every role
unfoldable pub all_roles : List Role
all_roles =
    LogonRequest ∷ LogoutRequest ∷ EtiHeartbeat ∷ NewOrderSingleRequest ∷ ModifyOrderSingleRequest ∷ DeleteOrderSingleRequest ∷ DeleteAllOrderRequest ∷ RetransmitMEMessageRequest ∷ LogonResponse ∷ LogoutResponse ∷ HeartbeatNotification ∷ Reject ∷ RetransmitMEMessageResponse ∷ NewOrderResponse ∷ ModifyOrderResponse ∷ DeleteOrderResponse ∷ DeleteAllOrderResponse ∷ DeleteAllOrderBroadcast ∷ OrderExecNotification ∷ PacketHeader ∷ EobiHeartbeat ∷ OrderAdd ∷ OrderModify ∷ OrderModifySamePriority ∷ OrderDelete ∷ OrderMassDelete ∷ PartialOrderExecution ∷ FullOrderExecution ∷ ExecutionSummary ∷ ProductSummary ∷ InstrumentSummary ∷ SnapshotOrder ∷ []

-- the family that a role is of
unfoldable pub family_of : Role → Family
family_of LogonRequest = Eti
family_of LogoutRequest = Eti
family_of EtiHeartbeat = Eti
family_of NewOrderSingleRequest = Eti
family_of ModifyOrderSingleRequest = Eti
family_of DeleteOrderSingleRequest = Eti
family_of DeleteAllOrderRequest = Eti
family_of RetransmitMEMessageRequest = Eti
family_of LogonResponse = Eti
family_of LogoutResponse = Eti
family_of HeartbeatNotification = Eti
family_of Reject = Eti
family_of RetransmitMEMessageResponse = Eti
family_of NewOrderResponse = Eti
family_of ModifyOrderResponse = Eti
family_of DeleteOrderResponse = Eti
family_of DeleteAllOrderResponse = Eti
family_of DeleteAllOrderBroadcast = Eti
family_of OrderExecNotification = Eti
family_of PacketHeader = Eobi
family_of EobiHeartbeat = Eobi
family_of OrderAdd = Eobi
family_of OrderModify = Eobi
family_of OrderModifySamePriority = Eobi
family_of OrderDelete = Eobi
family_of OrderMassDelete = Eobi
family_of PartialOrderExecution = Eobi
family_of FullOrderExecution = Eobi
family_of ExecutionSummary = Eobi
family_of ProductSummary = Eobi
family_of InstrumentSummary = Eobi
family_of SnapshotOrder = Eobi

-- the name of a role's template
unfoldable pub role_text : Role → List ℕ
role_text LogonRequest = codes "LogonRequest"
role_text LogoutRequest = codes "LogoutRequest"
role_text EtiHeartbeat = codes "Heartbeat"
role_text NewOrderSingleRequest = codes "NewOrderSingleRequest"
role_text ModifyOrderSingleRequest = codes "ModifyOrderSingleRequest"
role_text DeleteOrderSingleRequest = codes "DeleteOrderSingleRequest"
role_text DeleteAllOrderRequest = codes "DeleteAllOrderRequest"
role_text RetransmitMEMessageRequest = codes "RetransmitMEMessageRequest"
role_text LogonResponse = codes "LogonResponse"
role_text LogoutResponse = codes "LogoutResponse"
role_text HeartbeatNotification = codes "HeartbeatNotification"
role_text Reject = codes "Reject"
role_text RetransmitMEMessageResponse = codes "RetransmitMEMessageResponse"
role_text NewOrderResponse = codes "NewOrderResponse"
role_text ModifyOrderResponse = codes "ModifyOrderResponse"
role_text DeleteOrderResponse = codes "DeleteOrderResponse"
role_text DeleteAllOrderResponse = codes "DeleteAllOrderResponse"
role_text DeleteAllOrderBroadcast = codes "DeleteAllOrderBroadcast"
role_text OrderExecNotification = codes "OrderExecNotification"
role_text PacketHeader = codes "PacketHeader"
role_text EobiHeartbeat = codes "Heartbeat"
role_text OrderAdd = codes "OrderAdd"
role_text OrderModify = codes "OrderModify"
role_text OrderModifySamePriority = codes "OrderModifySamePriority"
role_text OrderDelete = codes "OrderDelete"
role_text OrderMassDelete = codes "OrderMassDelete"
role_text PartialOrderExecution = codes "PartialOrderExecution"
role_text FullOrderExecution = codes "FullOrderExecution"
role_text ExecutionSummary = codes "ExecutionSummary"
role_text ProductSummary = codes "ProductSummary"
role_text InstrumentSummary = codes "InstrumentSummary"
role_text SnapshotOrder = codes "SnapshotOrder"

-- the fields that a role requires, in the order in which they are looked for
unfoldable pub required : Role → List FieldName
required LogonRequest = BodyLen ∷ TemplateID ∷ MsgSeqNum ∷ HeartBtInt ∷ PartyIDSessionID ∷ []
required LogoutRequest = BodyLen ∷ TemplateID ∷ MsgSeqNum ∷ []
required EtiHeartbeat = BodyLen ∷ TemplateID ∷ []
required NewOrderSingleRequest = BodyLen ∷ TemplateID ∷ MsgSeqNum ∷ Side ∷ SecurityID ∷ ClOrdID ∷ Price ∷ OrderQty ∷ []
required ModifyOrderSingleRequest = BodyLen ∷ TemplateID ∷ MsgSeqNum ∷ OrderID ∷ ClOrdID ∷ Price ∷ OrderQty ∷ []
required DeleteOrderSingleRequest = BodyLen ∷ TemplateID ∷ MsgSeqNum ∷ OrderID ∷ ClOrdID ∷ []
required DeleteAllOrderRequest = BodyLen ∷ TemplateID ∷ MsgSeqNum ∷ SecurityID ∷ []
required RetransmitMEMessageRequest = BodyLen ∷ TemplateID ∷ MsgSeqNum ∷ ApplBegMsgID ∷ ApplEndMsgID ∷ []
required LogonResponse = BodyLen ∷ TemplateID ∷ MsgSeqNum ∷ HeartBtInt ∷ []
required LogoutResponse = BodyLen ∷ TemplateID ∷ MsgSeqNum ∷ []
required HeartbeatNotification = BodyLen ∷ TemplateID ∷ []
required Reject = BodyLen ∷ TemplateID ∷ MsgSeqNum ∷ SessionRejectReason ∷ []
required RetransmitMEMessageResponse = BodyLen ∷ TemplateID ∷ MsgSeqNum ∷ ApplTotalMessageCount ∷ ApplEndMsgID ∷ RefApplLastMsgID ∷ []
required NewOrderResponse = BodyLen ∷ TemplateID ∷ ApplMsgID ∷ OrderID ∷ ClOrdID ∷ TrdRegTSTimePriority ∷ []
required ModifyOrderResponse = BodyLen ∷ TemplateID ∷ ApplMsgID ∷ OrderID ∷ ClOrdID ∷ TrdRegTSTimePriority ∷ []
required DeleteOrderResponse = BodyLen ∷ TemplateID ∷ ApplMsgID ∷ OrderID ∷ ClOrdID ∷ []
required DeleteAllOrderResponse = BodyLen ∷ TemplateID ∷ ApplMsgID ∷ SecurityID ∷ NoAffectedOrders ∷ []
required DeleteAllOrderBroadcast = BodyLen ∷ TemplateID ∷ ApplMsgID ∷ SecurityID ∷ NoAffectedOrders ∷ []
required OrderExecNotification = BodyLen ∷ TemplateID ∷ ApplMsgID ∷ OrderID ∷ LeavesQty ∷ CumQty ∷ FillQty ∷ FillPx ∷ Side ∷ []
required PacketHeader = BodyLen ∷ TemplateID ∷ MsgSeqNum ∷ ApplSeqNum ∷ MarketSegmentID ∷ []
required EobiHeartbeat = BodyLen ∷ TemplateID ∷ MsgSeqNum ∷ LastMsgSeqNumProcessed ∷ []
required OrderAdd = BodyLen ∷ TemplateID ∷ MsgSeqNum ∷ SecurityID ∷ TrdRegTSTimePriority ∷ DisplayQty ∷ Side ∷ Price ∷ []
required OrderModify = BodyLen ∷ TemplateID ∷ MsgSeqNum ∷ SecurityID ∷ TrdRegTSPrevTimePriority ∷ PrevPrice ∷ PrevDisplayQty ∷ TrdRegTSTimePriority ∷ DisplayQty ∷ Side ∷ Price ∷ []
required OrderModifySamePriority = BodyLen ∷ TemplateID ∷ MsgSeqNum ∷ SecurityID ∷ TrdRegTSTimePriority ∷ PrevDisplayQty ∷ DisplayQty ∷ Side ∷ Price ∷ []
required OrderDelete = BodyLen ∷ TemplateID ∷ MsgSeqNum ∷ SecurityID ∷ TrdRegTSTimePriority ∷ DisplayQty ∷ Side ∷ Price ∷ []
required OrderMassDelete = BodyLen ∷ TemplateID ∷ MsgSeqNum ∷ SecurityID ∷ []
required PartialOrderExecution = BodyLen ∷ TemplateID ∷ MsgSeqNum ∷ SecurityID ∷ TrdRegTSTimePriority ∷ Side ∷ Price ∷ LastQty ∷ LastPx ∷ []
required FullOrderExecution = BodyLen ∷ TemplateID ∷ MsgSeqNum ∷ SecurityID ∷ TrdRegTSTimePriority ∷ Side ∷ Price ∷ LastQty ∷ LastPx ∷ []
required ExecutionSummary = BodyLen ∷ TemplateID ∷ MsgSeqNum ∷ SecurityID ∷ AggressorTime ∷ AggressorSide ∷ LastQty ∷ LastPx ∷ []
required ProductSummary = BodyLen ∷ TemplateID ∷ MsgSeqNum ∷ LastMsgSeqNumProcessed ∷ []
required InstrumentSummary = BodyLen ∷ TemplateID ∷ MsgSeqNum ∷ SecurityID ∷ TotNoOrders ∷ []
required SnapshotOrder = BodyLen ∷ TemplateID ∷ MsgSeqNum ∷ TrdRegTSTimePriority ∷ DisplayQty ∷ Side ∷ Price ∷ []

-- the name of a field
unfoldable pub field_text : FieldName → List ℕ
field_text BodyLen = codes "BodyLen"
field_text TemplateID = codes "TemplateID"
field_text MsgSeqNum = codes "MsgSeqNum"
field_text HeartBtInt = codes "HeartBtInt"
field_text PartyIDSessionID = codes "PartyIDSessionID"
field_text Side = codes "Side"
field_text SecurityID = codes "SecurityID"
field_text ClOrdID = codes "ClOrdID"
field_text Price = codes "Price"
field_text OrderQty = codes "OrderQty"
field_text OrderID = codes "OrderID"
field_text ApplBegMsgID = codes "ApplBegMsgID"
field_text ApplEndMsgID = codes "ApplEndMsgID"
field_text SessionRejectReason = codes "SessionRejectReason"
field_text ApplTotalMessageCount = codes "ApplTotalMessageCount"
field_text RefApplLastMsgID = codes "RefApplLastMsgID"
field_text ApplMsgID = codes "ApplMsgID"
field_text TrdRegTSTimePriority = codes "TrdRegTSTimePriority"
field_text NoAffectedOrders = codes "NoAffectedOrders"
field_text LeavesQty = codes "LeavesQty"
field_text CumQty = codes "CumQty"
field_text FillQty = codes "FillQty"
field_text FillPx = codes "FillPx"
field_text ApplSeqNum = codes "ApplSeqNum"
field_text MarketSegmentID = codes "MarketSegmentID"
field_text LastMsgSeqNumProcessed = codes "LastMsgSeqNumProcessed"
field_text DisplayQty = codes "DisplayQty"
field_text TrdRegTSPrevTimePriority = codes "TrdRegTSPrevTimePriority"
field_text PrevPrice = codes "PrevPrice"
field_text PrevDisplayQty = codes "PrevDisplayQty"
field_text LastQty = codes "LastQty"
field_text LastPx = codes "LastPx"
field_text AggressorTime = codes "AggressorTime"
field_text AggressorSide = codes "AggressorSide"
field_text TotNoOrders = codes "TotNoOrders"

-- the kind of a required field
unfoldable pub kind_of : FieldName → Kind
kind_of BodyLen = Unsigned
kind_of TemplateID = Unsigned
kind_of MsgSeqNum = Unsigned
kind_of HeartBtInt = Unsigned
kind_of PartyIDSessionID = Unsigned
kind_of Side = Unsigned
kind_of SecurityID = Signed
kind_of ClOrdID = Unsigned
kind_of Price = Signed
kind_of OrderQty = Signed
kind_of OrderID = Unsigned
kind_of ApplBegMsgID = Raw
kind_of ApplEndMsgID = Raw
kind_of SessionRejectReason = Unsigned
kind_of ApplTotalMessageCount = Unsigned
kind_of RefApplLastMsgID = Raw
kind_of ApplMsgID = Raw
kind_of TrdRegTSTimePriority = Unsigned
kind_of NoAffectedOrders = Unsigned
kind_of LeavesQty = Signed
kind_of CumQty = Signed
kind_of FillQty = Signed
kind_of FillPx = Signed
kind_of ApplSeqNum = Unsigned
kind_of MarketSegmentID = Signed
kind_of LastMsgSeqNumProcessed = Unsigned
kind_of DisplayQty = Signed
kind_of TrdRegTSPrevTimePriority = Unsigned
kind_of PrevPrice = Signed
kind_of PrevDisplayQty = Signed
kind_of LastQty = Signed
kind_of LastPx = Signed
kind_of AggressorTime = Unsigned
kind_of AggressorSide = Unsigned
kind_of TotNoOrders = Unsigned

-- the width of a required field; only that of BodyLen depends on the family
unfoldable pub width_in : Family → FieldName → ℕ
width_in Eti BodyLen = 4
width_in Eobi BodyLen = 2
width_in family TemplateID = 2
width_in family MsgSeqNum = 4
width_in family HeartBtInt = 4
width_in family PartyIDSessionID = 4
width_in family Side = 1
width_in family SecurityID = 8
width_in family ClOrdID = 8
width_in family Price = 8
width_in family OrderQty = 8
width_in family OrderID = 8
width_in family ApplBegMsgID = 16
width_in family ApplEndMsgID = 16
width_in family SessionRejectReason = 4
width_in family ApplTotalMessageCount = 2
width_in family RefApplLastMsgID = 16
width_in family ApplMsgID = 16
width_in family TrdRegTSTimePriority = 8
width_in family NoAffectedOrders = 2
width_in family LeavesQty = 8
width_in family CumQty = 8
width_in family FillQty = 8
width_in family FillPx = 8
width_in family ApplSeqNum = 4
width_in family MarketSegmentID = 4
width_in family LastMsgSeqNumProcessed = 4
width_in family DisplayQty = 8
width_in family TrdRegTSPrevTimePriority = 8
width_in family PrevPrice = 8
width_in family PrevDisplayQty = 8
width_in family LastQty = 8
width_in family LastPx = 8
width_in family AggressorTime = 8
width_in family AggressorSide = 1
width_in family TotNoOrders = 2

-- the fields that each template of a family begins with
unfoldable pub header : Family → List FieldName
header Eti = BodyLen ∷ TemplateID ∷ []
header Eobi = BodyLen ∷ TemplateID ∷ MsgSeqNum ∷ []

-- every name of a required field
unfoldable pub all_names : List FieldName
all_names =
    BodyLen ∷ TemplateID ∷ MsgSeqNum ∷ HeartBtInt ∷ PartyIDSessionID ∷ Side ∷ SecurityID ∷ ClOrdID ∷ Price ∷ OrderQty ∷ OrderID ∷ ApplBegMsgID ∷ ApplEndMsgID ∷ SessionRejectReason ∷ ApplTotalMessageCount ∷ RefApplLastMsgID ∷ ApplMsgID ∷ TrdRegTSTimePriority ∷ NoAffectedOrders ∷ LeavesQty ∷ CumQty ∷ FillQty ∷ FillPx ∷ ApplSeqNum ∷ MarketSegmentID ∷ LastMsgSeqNumProcessed ∷ DisplayQty ∷ TrdRegTSPrevTimePriority ∷ PrevPrice ∷ PrevDisplayQty ∷ LastQty ∷ LastPx ∷ AggressorTime ∷ AggressorSide ∷ TotNoOrders ∷ []

-- where a role stands among all of them
unfoldable pub role_number : Role → ℕ
role_number LogonRequest = 0
role_number LogoutRequest = 1
role_number EtiHeartbeat = 2
role_number NewOrderSingleRequest = 3
role_number ModifyOrderSingleRequest = 4
role_number DeleteOrderSingleRequest = 5
role_number DeleteAllOrderRequest = 6
role_number RetransmitMEMessageRequest = 7
role_number LogonResponse = 8
role_number LogoutResponse = 9
role_number HeartbeatNotification = 10
role_number Reject = 11
role_number RetransmitMEMessageResponse = 12
role_number NewOrderResponse = 13
role_number ModifyOrderResponse = 14
role_number DeleteOrderResponse = 15
role_number DeleteAllOrderResponse = 16
role_number DeleteAllOrderBroadcast = 17
role_number OrderExecNotification = 18
role_number PacketHeader = 19
role_number EobiHeartbeat = 20
role_number OrderAdd = 21
role_number OrderModify = 22
role_number OrderModifySamePriority = 23
role_number OrderDelete = 24
role_number OrderMassDelete = 25
role_number PartialOrderExecution = 26
role_number FullOrderExecution = 27
role_number ExecutionSummary = 28
role_number ProductSummary = 29
role_number InstrumentSummary = 30
role_number SnapshotOrder = 31

-- where a field name stands among all of them
unfoldable pub name_number : FieldName → ℕ
name_number BodyLen = 0
name_number TemplateID = 1
name_number MsgSeqNum = 2
name_number HeartBtInt = 3
name_number PartyIDSessionID = 4
name_number Side = 5
name_number SecurityID = 6
name_number ClOrdID = 7
name_number Price = 8
name_number OrderQty = 9
name_number OrderID = 10
name_number ApplBegMsgID = 11
name_number ApplEndMsgID = 12
name_number SessionRejectReason = 13
name_number ApplTotalMessageCount = 14
name_number RefApplLastMsgID = 15
name_number ApplMsgID = 16
name_number TrdRegTSTimePriority = 17
name_number NoAffectedOrders = 18
name_number LeavesQty = 19
name_number CumQty = 20
name_number FillQty = 21
name_number FillPx = 22
name_number ApplSeqNum = 23
name_number MarketSegmentID = 24
name_number LastMsgSeqNumProcessed = 25
name_number DisplayQty = 26
name_number TrdRegTSPrevTimePriority = 27
name_number PrevPrice = 28
name_number PrevDisplayQty = 29
name_number LastQty = 30
name_number LastPx = 31
name_number AggressorTime = 32
name_number AggressorSide = 33
name_number TotNoOrders = 34
