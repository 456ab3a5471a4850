-- What the messages of market data say.
use Rattle.std.specs.Prelude.{if◌then◌else◌, ℤ, pos, nat_abs}
use Rattle.std.specs.Ordering.{int_eq}
use Rattle.t7_layout.specs.declared.roles.Role.{Role}
use Rattle.t7_layout.specs.declared.roles.Role.TheVariants as role
use Rattle.t7_layout.specs.declared.roles.FieldName.TheVariants as name
use Rattle.t7_fields.specs.Messages.{Message, value}
use Rattle.t7_base.specs.declared.ids.Side.{Side}
use Rattle.t7_base.specs.declared.ids.Side.TheVariants.{Buy, Sell}
use Rattle.t7_base.specs.declared.public.Public.{Public}
use Rattle.t7_base.specs.declared.public.Public.TheVariants as public
use Rattle.t7_base.specs.declared.public.Resting.{Resting}
use Rattle.t7_eobi.specs.declared.walks.Snap.{Snap}
use Rattle.t7_eobi.specs.declared.walks.Snap.TheVariants as snap

-- the side of a number: 1 is a buy
abbrev pub side_of : ℤ → Side
side_of z = if int_eq z (pos 1) then Buy else Sell

-- the order that an OrderAdd or an OrderDelete says
unfoldable pub resting_of : Message → Resting
resting_of m = record {
  security = value m name.SecurityID;
  side = side_of (value m name.Side);
  price = value m name.Price;
  stamp = nat_abs (value m name.TrdRegTSTimePriority);
  qty = nat_abs (value m name.DisplayQty);
}

-- what a message of a live role says
unfoldable pub public_as : Role → Message → Public
public_as role.OrderAdd m = public.Add (resting_of m)
public_as role.OrderModify m =
    public.Modify (value m name.SecurityID) (side_of (value m name.Side)) (nat_abs (value m name.TrdRegTSPrevTimePriority)) (value m name.PrevPrice) (nat_abs (value m name.PrevDisplayQty))
    (nat_abs (value m name.TrdRegTSTimePriority)) (value m name.Price) (nat_abs (value m name.DisplayQty))
public_as role.OrderModifySamePriority m =
    public.SamePriority (value m name.SecurityID) (side_of (value m name.Side)) (nat_abs (value m name.TrdRegTSTimePriority)) (value m name.Price) (nat_abs (value m name.PrevDisplayQty))
    (nat_abs (value m name.DisplayQty))
public_as role.OrderDelete m = public.Delete (resting_of m)
public_as role.OrderMassDelete m = public.MassDelete (value m name.SecurityID)
public_as role.PartialOrderExecution m =
    public.Partial (value m name.SecurityID) (side_of (value m name.Side)) (nat_abs (value m name.TrdRegTSTimePriority)) (value m name.Price) (nat_abs (value m name.LastQty)) (value m name.LastPx)
public_as role.FullOrderExecution m =
    public.Full (value m name.SecurityID) (side_of (value m name.Side)) (nat_abs (value m name.TrdRegTSTimePriority)) (value m name.Price) (nat_abs (value m name.LastQty)) (value m name.LastPx)
public_as role.ExecutionSummary m =
    public.Summary (value m name.SecurityID) (side_of (value m name.AggressorSide)) (nat_abs (value m name.AggressorTime)) (nat_abs (value m name.LastQty)) (value m name.LastPx)
public_as other m = public.Other

-- the live message that the bytes of a live role say
abbrev pub public_of : Message → Public
public_of m = public_as m.role m

-- what a message of a snapshot role says
unfoldable pub snap_as : Role → Message → Snap
snap_as role.InstrumentSummary m = snap.Instrument (value m name.SecurityID) (nat_abs (value m name.TotNoOrders))
snap_as role.SnapshotOrder m = snap.Order (side_of (value m name.Side)) (value m name.Price) (nat_abs (value m name.TrdRegTSTimePriority)) (nat_abs (value m name.DisplayQty))
snap_as other m = snap.Product (nat_abs (value m name.LastMsgSeqNumProcessed))
