-- The bytes of the messages of market data, field by field.
use Rattle.std.specs.Prelude.{ℕ, ◌≤◌, List, [], ◌∷◌, ℤ, pos, neg_ℤ, ◌≤ℤ◌}
use Rattle.t7_layout.specs.declared.roles.Role.{Role}
use Rattle.t7_layout.specs.declared.roles.Role.TheVariants as role
use Rattle.t7_layout.specs.declared.roles.FieldName.{FieldName}
use Rattle.t7_layout.specs.declared.roles.FieldName.TheVariants as name
use Rattle.t7_layout.specs.Layouts.{Layout}
use Rattle.t7_fields.specs.declared.writer.Scalar.{Scalar}
use Rattle.t7_fields.specs.declared.writer.Scalar.TheVariants as number
use Rattle.t7_fields.specs.Writing.{message_saying}
use Rattle.t7_base.specs.declared.ids.Side.{Side}
use Rattle.t7_base.specs.declared.ids.Side.TheVariants.{Buy, Sell}
use Rattle.t7_base.specs.declared.public.Public.{Public}
use Rattle.t7_base.specs.declared.public.Public.TheVariants as public
use Rattle.t7_base.specs.declared.public.Resting.{Resting}
use Rattle.t7_base.specs.Ranges.{IsPrice, IsQuantity, IsStamp}
use Rattle.t7_eobi.specs.declared.walks.Live.{Live}
use Rattle.t7_eobi.specs.declared.walks.Live.TheVariants as live
use Rattle.t7_eobi.specs.declared.walks.Snap.{Snap}
use Rattle.t7_eobi.specs.declared.walks.Snap.TheVariants as snap

-- a number of a message or of a datagram
abbrev pub IsSequence : ℕ → Type 0
IsSequence n = (1 ≤ n) × (n ≤ 4_294_967_294)

-- the numbers of an item that was read on the live channel are in their ranges
abbrev pub IsLiveItem : Live → Type 0
IsLiveItem (live.Message number message) = IsSequence number
IsLiveItem (live.Beat last) = last ≤ 4_294_967_294

-- those of an item of the snapshot channel
abbrev pub IsSnapItem : Snap → Type 0
IsSnapItem (snap.Product last) = last ≤ 4_294_967_294
IsSnapItem (snap.Instrument security count) = Unit {0}
IsSnapItem (snap.Order side price stamp qty) = Unit {0}

-- a SecurityID that can be written by every table: a number of 64 bits other than the least, which may stand for no number
abbrev pub IsSecurity : ℤ → Type 0
IsSecurity z = (neg_ℤ (pos 9_223_372_036_854_775_807) ≤ℤ z) × (z ≤ℤ pos 9_223_372_036_854_775_807)

-- the security of a live message
abbrev pub security_of : Public → ℤ
security_of (public.Add o) = o.security
security_of (public.Modify security side prev_stamp prev_price prev_qty stamp price qty) = security
security_of (public.SamePriority security side stamp price prev_qty qty) = security
security_of (public.Delete o) = o.security
security_of (public.MassDelete security) = security
security_of (public.Partial security side stamp price last_qty last_price) = security
security_of (public.Full security side stamp price last_qty last_price) = security
security_of (public.Summary security side stamp last_qty last_price) = security
security_of public.Other = pos 0

-- the numbers of an order are in their ranges
abbrev pub IsResting : Resting → Type 0
IsResting o = IsSecurity o.security × IsPrice o.price × IsStamp o.stamp × IsQuantity (pos o.qty)

-- the numbers of a live message that can be written are in their ranges
abbrev pub IsPublic : Public → Type 0
IsPublic (public.Add o) = IsResting o
IsPublic (public.Modify security side prev_stamp prev_price prev_qty stamp price qty) =
    IsSecurity security × IsStamp prev_stamp × IsPrice prev_price × IsQuantity (pos prev_qty) × IsStamp stamp × IsPrice price × IsQuantity (pos qty)
IsPublic (public.SamePriority security side stamp price prev_qty qty) = IsSecurity security × IsStamp stamp × IsPrice price × IsQuantity (pos prev_qty) × IsQuantity (pos qty)
IsPublic (public.Delete o) = IsResting o
IsPublic (public.MassDelete security) = IsSecurity security
IsPublic (public.Partial security side stamp price last_qty last_price) = IsSecurity security × IsStamp stamp × IsPrice price × IsQuantity (pos last_qty) × IsPrice last_price
IsPublic (public.Full security side stamp price last_qty last_price) = IsSecurity security × IsStamp stamp × IsPrice price × IsQuantity (pos last_qty) × IsPrice last_price
IsPublic (public.Summary security side stamp last_qty last_price) = IsSecurity security × IsStamp stamp × IsQuantity (pos last_qty) × IsPrice last_price
IsPublic public.Other = ⊥

-- those of an item of the snapshot channel
abbrev pub IsSnap : Snap → Type 0
IsSnap (snap.Product last) = last ≤ 4_294_967_294
IsSnap (snap.Instrument security count) = IsSecurity security × (count ≤ 65534)
IsSnap (snap.Order side price stamp qty) = IsPrice price × IsStamp stamp × IsQuantity (pos qty)

-- what is asked of an item of the snapshot channel beyond its types: no number is one that may stand for no number
abbrev pub IsKnown : Snap → Type 0
IsKnown (snap.Product last) = last ≤ 4_294_967_294
IsKnown (snap.Instrument security count) = IsSecurity security × (count ≤ 65534)
IsKnown (snap.Order side price stamp qty) = Unit {0}

-- the number of a side
unfoldable pub side_number : Side → ℕ
side_number Buy = 1
side_number Sell = 2

-- what an order says
abbrev pub order_fields : ℕ → Resting → List (FieldName × Scalar)
order_fields seq o =
    (name.MsgSeqNum, number.Word seq) ∷ (name.SecurityID, number.Signed o.security) ∷ (name.TrdRegTSTimePriority, number.Long o.stamp)
    ∷ (name.DisplayQty, number.Signed (pos o.qty)) ∷ (name.Side, number.Byte (side_number o.side)) ∷ (name.Price, number.Signed o.price) ∷ []

-- what an execution of a resting order says
abbrev pub execution_fields : ℕ → ℤ → Side → ℕ → ℤ → ℕ → ℤ → List (FieldName × Scalar)
execution_fields seq security side stamp price last_qty last_price =
    (name.MsgSeqNum, number.Word seq) ∷ (name.SecurityID, number.Signed security) ∷ (name.TrdRegTSTimePriority, number.Long stamp)
    ∷ (name.Side, number.Byte (side_number side)) ∷ (name.Price, number.Signed price) ∷ (name.LastQty, number.Signed (pos last_qty)) ∷ (name.LastPx, number.Signed last_price) ∷ []

-- the role of a live message
unfoldable pub role_for : Public → Role
role_for (public.Add o) = role.OrderAdd
role_for (public.Modify security side prev_stamp prev_price prev_qty stamp price qty) = role.OrderModify
role_for (public.SamePriority security side stamp price prev_qty qty) = role.OrderModifySamePriority
role_for (public.Delete o) = role.OrderDelete
role_for (public.MassDelete security) = role.OrderMassDelete
role_for (public.Partial security side stamp price last_qty last_price) = role.PartialOrderExecution
role_for (public.Full security side stamp price last_qty last_price) = role.FullOrderExecution
role_for (public.Summary security side stamp last_qty last_price) = role.ExecutionSummary
role_for public.Other = role.OrderMassDelete

-- what a live message says with its number
unfoldable pub public_fields : ℕ → Public → List (FieldName × Scalar)
public_fields seq (public.Add o) = order_fields seq o
public_fields seq (public.Modify security side prev_stamp prev_price prev_qty stamp price qty) =
    (name.MsgSeqNum, number.Word seq) ∷ (name.SecurityID, number.Signed security) ∷ (name.TrdRegTSPrevTimePriority, number.Long prev_stamp)
    ∷ (name.PrevPrice, number.Signed prev_price) ∷ (name.PrevDisplayQty, number.Signed (pos prev_qty)) ∷ (name.TrdRegTSTimePriority, number.Long stamp)
    ∷ (name.DisplayQty, number.Signed (pos qty)) ∷ (name.Side, number.Byte (side_number side)) ∷ (name.Price, number.Signed price) ∷ []
public_fields seq (public.SamePriority security side stamp price prev_qty qty) =
    (name.MsgSeqNum, number.Word seq) ∷ (name.SecurityID, number.Signed security) ∷ (name.TrdRegTSTimePriority, number.Long stamp)
    ∷ (name.PrevDisplayQty, number.Signed (pos prev_qty)) ∷ (name.DisplayQty, number.Signed (pos qty)) ∷ (name.Side, number.Byte (side_number side)) ∷ (name.Price, number.Signed price) ∷ []
public_fields seq (public.Delete o) = order_fields seq o
public_fields seq (public.MassDelete security) = (name.MsgSeqNum, number.Word seq) ∷ (name.SecurityID, number.Signed security) ∷ []
public_fields seq (public.Partial security side stamp price last_qty last_price) = execution_fields seq security side stamp price last_qty last_price
public_fields seq (public.Full security side stamp price last_qty last_price) = execution_fields seq security side stamp price last_qty last_price
public_fields seq (public.Summary security side stamp last_qty last_price) =
    (name.MsgSeqNum, number.Word seq) ∷ (name.SecurityID, number.Signed security) ∷ (name.AggressorTime, number.Long stamp)
    ∷ (name.AggressorSide, number.Byte (side_number side)) ∷ (name.LastQty, number.Signed (pos last_qty)) ∷ (name.LastPx, number.Signed last_price) ∷ []
public_fields seq public.Other = (name.MsgSeqNum, number.Word seq) ∷ []

-- the role of a message of the snapshot channel
unfoldable pub snap_role : Snap → Role
snap_role (snap.Product last) = role.ProductSummary
snap_role (snap.Instrument security count) = role.InstrumentSummary
snap_role (snap.Order side price stamp qty) = role.SnapshotOrder

-- what it says
unfoldable pub snap_fields : Snap → List (FieldName × Scalar)
snap_fields (snap.Product last) = (name.LastMsgSeqNumProcessed, number.Word last) ∷ []
snap_fields (snap.Instrument security count) = (name.SecurityID, number.Signed security) ∷ (name.TotNoOrders, number.Half count) ∷ []
snap_fields (snap.Order side price stamp qty) =
    (name.TrdRegTSTimePriority, number.Long stamp) ∷ (name.DisplayQty, number.Signed (pos qty)) ∷ (name.Side, number.Byte (side_number side)) ∷ (name.Price, number.Signed price) ∷ []

-- what a header says
abbrev pub header_fields : ℕ → ℕ → List (FieldName × Scalar)
header_fields segment count = (name.ApplSeqNum, number.Word count) ∷ (name.MarketSegmentID, number.SignedWord (pos segment)) ∷ []

-- what a heartbeat says
abbrev pub beat_fields : ℕ → List (FieldName × Scalar)
beat_fields last = (name.LastMsgSeqNumProcessed, number.Word last) ∷ []

-- the bytes of a header
abbrev pub header_bytes : List Layout → ℕ → ℕ → List ℕ
header_bytes layouts segment count = message_saying layouts role.PacketHeader (header_fields segment count)

-- the bytes of a live message with its number
abbrev pub public_bytes : List Layout → ℕ → Public → List ℕ
public_bytes layouts seq message = message_saying layouts (role_for message) (public_fields seq message)

-- the bytes of a heartbeat
abbrev pub beat_bytes : List Layout → ℕ → List ℕ
beat_bytes layouts last = message_saying layouts role.EobiHeartbeat (beat_fields last)

-- the bytes of a message of the snapshot channel
abbrev pub snap_bytes : List Layout → Snap → List ℕ
snap_bytes layouts item = message_saying layouts (snap_role item) (snap_fields item)
