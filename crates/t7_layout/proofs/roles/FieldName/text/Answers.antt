use Rattle.std.proofs.Common.{rules}
use Rattle.t7_layout.specs.Roles.{field_text}
use Rattle.t7_layout.proofs.roles.FieldName.text.Goals as goal

pub returns-in-BodyLen : goal.returns-in-BodyLen
unfolding field_text
returns-in-BodyLen c = search rules

pub returns-in-TemplateID : goal.returns-in-TemplateID
unfolding field_text
returns-in-TemplateID c = search rules

pub returns-in-MsgSeqNum : goal.returns-in-MsgSeqNum
unfolding field_text
returns-in-MsgSeqNum c = search rules

pub returns-in-HeartBtInt : goal.returns-in-HeartBtInt
unfolding field_text
returns-in-HeartBtInt c = search rules

pub returns-in-PartyIDSessionID : goal.returns-in-PartyIDSessionID
unfolding field_text
returns-in-PartyIDSessionID c = search rules

pub returns-in-Side : goal.returns-in-Side
unfolding field_text
returns-in-Side c = search rules

pub returns-in-SecurityID : goal.returns-in-SecurityID
unfolding field_text
returns-in-SecurityID c = search rules

pub returns-in-ClOrdID : goal.returns-in-ClOrdID
unfolding field_text
returns-in-ClOrdID c = search rules

pub returns-in-Price : goal.returns-in-Price
unfolding field_text
returns-in-Price c = search rules

pub returns-in-OrderQty : goal.returns-in-OrderQty
unfolding field_text
returns-in-OrderQty c = search rules

pub returns-in-OrderID : goal.returns-in-OrderID
unfolding field_text
returns-in-OrderID c = search rules

pub returns-in-ApplBegMsgID : goal.returns-in-ApplBegMsgID
unfolding field_text
returns-in-ApplBegMsgID c = search rules

pub returns-in-ApplEndMsgID : goal.returns-in-ApplEndMsgID
unfolding field_text
returns-in-ApplEndMsgID c = search rules

pub returns-in-SessionRejectReason : goal.returns-in-SessionRejectReason
unfolding field_text
returns-in-SessionRejectReason c = search rules

pub returns-in-ApplTotalMessageCount : goal.returns-in-ApplTotalMessageCount
unfolding field_text
returns-in-ApplTotalMessageCount c = search rules

pub returns-in-RefApplLastMsgID : goal.returns-in-RefApplLastMsgID
unfolding field_text
returns-in-RefApplLastMsgID c = search rules

pub returns-in-ApplMsgID : goal.returns-in-ApplMsgID
unfolding field_text
returns-in-ApplMsgID c = search rules

pub returns-in-TrdRegTSTimePriority : goal.returns-in-TrdRegTSTimePriority
unfolding field_text
returns-in-TrdRegTSTimePriority c = search rules

pub returns-in-NoAffectedOrders : goal.returns-in-NoAffectedOrders
unfolding field_text
returns-in-NoAffectedOrders c = search rules

pub returns-in-LeavesQty : goal.returns-in-LeavesQty
unfolding field_text
returns-in-LeavesQty c = search rules

pub returns-in-CumQty : goal.returns-in-CumQty
unfolding field_text
returns-in-CumQty c = search rules

pub returns-in-FillQty : goal.returns-in-FillQty
unfolding field_text
returns-in-FillQty c = search rules

pub returns-in-FillPx : goal.returns-in-FillPx
unfolding field_text
returns-in-FillPx c = search rules

pub returns-in-ApplSeqNum : goal.returns-in-ApplSeqNum
unfolding field_text
returns-in-ApplSeqNum c = search rules

pub returns-in-MarketSegmentID : goal.returns-in-MarketSegmentID
unfolding field_text
returns-in-MarketSegmentID c = search rules

pub returns-in-LastMsgSeqNumProcessed : goal.returns-in-LastMsgSeqNumProcessed
unfolding field_text
returns-in-LastMsgSeqNumProcessed c = search rules

pub returns-in-DisplayQty : goal.returns-in-DisplayQty
unfolding field_text
returns-in-DisplayQty c = search rules

pub returns-in-TrdRegTSPrevTimePriority : goal.returns-in-TrdRegTSPrevTimePriority
unfolding field_text
returns-in-TrdRegTSPrevTimePriority c = search rules

pub returns-in-PrevPrice : goal.returns-in-PrevPrice
unfolding field_text
returns-in-PrevPrice c = search rules

pub returns-in-PrevDisplayQty : goal.returns-in-PrevDisplayQty
unfolding field_text
returns-in-PrevDisplayQty c = search rules

pub returns-in-LastQty : goal.returns-in-LastQty
unfolding field_text
returns-in-LastQty c = search rules

pub returns-in-LastPx : goal.returns-in-LastPx
unfolding field_text
returns-in-LastPx c = search rules

pub returns-in-AggressorTime : goal.returns-in-AggressorTime
unfolding field_text
returns-in-AggressorTime c = search rules

pub returns-in-AggressorSide : goal.returns-in-AggressorSide
unfolding field_text
returns-in-AggressorSide c = search rules

pub returns-in-TotNoOrders : goal.returns-in-TotNoOrders
unfolding field_text
returns-in-TotNoOrders c = search rules
