-- Facts about the roles of messages.
use Rattle.std.proofs.Common.{◌≡◌, ◌∙◌, ◌&&◌, Bool, true, false, List, [], ◌∷◌, Some, refl, sym, cond}
use Rattle.std.specs.Prelude.{find}
use Rattle.t7_layout.specs.declared.words.Family.{Family}
use Rattle.t7_layout.specs.declared.words.Family.TheVariants.{Eti, Eobi}
use Rattle.t7_layout.specs.declared.roles.Role.{Role}
use Rattle.t7_layout.specs.declared.roles.Role.TheVariants as role
use Rattle.t7_layout.specs.declared.roles.FieldName.TheVariants as name
use Rattle.t7_layout.specs.Layouts.{Layout}
use Rattle.t7_layout.specs.Lookups.{find_role, is_layout_of}
use Rattle.t7_layout.specs.Roles.{family_of, name_number, required}
use Rattle.t7_layout.specs.Rows.{family_text, same_family}
use Rattle.t7_fields.specs.Messages.{is_among}
use Rattle.t7_base.specs.declared.ids.Channel.TheVariants.{Live}
use Rattle.t7_eobi.specs.Datagrams.{in_channel}
use Rattle.t7_eobi.specs.Ranges.{counted, is_live}

pub both : (a b : Bool) → (a && b) ≡ true → (a ≡ true) × (b ≡ true)
both true b h = (refl, h)
both false b h = cc h

pub found_self : {X : Type 0} (p : X → Bool) (xs : List X) (x : X) → find p xs ≡ Some x → p x ≡ true
found_self p [] x e = cc e
found_self {X = X} p (y ∷ ys) x e = by (p y) refl e (found_self p ys x)
  where
    by : (b : Bool) → p y ≡ b → cond b (Some y) (find p ys) ≡ Some x → (find p ys ≡ Some x → p x ≡ true) → p x ≡ true
    by true t e more = let s : y ≡ x = cc e in rw (← s) t
    by false t e more = more e

pub one_family : (a b : Family) → same_family a b ≡ true → a ≡ b
unfolding same_family family_text
one_family Eti Eti h = refl
one_family Eti Eobi h = cc h
one_family Eobi Eti h = cc h
one_family Eobi Eobi h = refl

-- a template's role is of its family
pub layout_family : (r : Role) (t : Layout) → is_layout_of r t ≡ true → t.family ≡ family_of r
unfolding is_layout_of
layout_family r t e = one_family _ _ (both _ _ e).0

pub role_family : (r : Role) (t : Layout) → is_layout_of r t ≡ true → t.family ≡ Eobi → family_of r ≡ Eobi
role_family r t e f = sym (layout_family r t e) ∙ f

pub family_found : (layouts : List Layout) (r : Role) (t : Layout) → find_role layouts r ≡ Some t → t.family ≡ family_of r
unfolding find_role
family_found layouts r t e = layout_family r t (found_self _ layouts t e)

pub live_in : (r : Role) → is_live r ≡ true → in_channel Live r ≡ true
unfolding is_live in_channel
live_in role.LogonRequest h = cc h
live_in role.LogoutRequest h = cc h
live_in role.EtiHeartbeat h = cc h
live_in role.NewOrderSingleRequest h = cc h
live_in role.ModifyOrderSingleRequest h = cc h
live_in role.DeleteOrderSingleRequest h = cc h
live_in role.DeleteAllOrderRequest h = cc h
live_in role.RetransmitMEMessageRequest h = cc h
live_in role.LogonResponse h = cc h
live_in role.LogoutResponse h = cc h
live_in role.HeartbeatNotification h = cc h
live_in role.Reject h = cc h
live_in role.RetransmitMEMessageResponse h = cc h
live_in role.NewOrderResponse h = cc h
live_in role.ModifyOrderResponse h = cc h
live_in role.DeleteOrderResponse h = cc h
live_in role.DeleteAllOrderResponse h = cc h
live_in role.DeleteAllOrderBroadcast h = cc h
live_in role.OrderExecNotification h = cc h
live_in role.PacketHeader h = cc h
live_in role.EobiHeartbeat h = cc h
live_in role.OrderAdd h = refl
live_in role.OrderModify h = refl
live_in role.OrderModifySamePriority h = refl
live_in role.OrderDelete h = refl
live_in role.OrderMassDelete h = refl
live_in role.PartialOrderExecution h = refl
live_in role.FullOrderExecution h = refl
live_in role.ExecutionSummary h = refl
live_in role.ProductSummary h = cc h
live_in role.InstrumentSummary h = cc h
live_in role.SnapshotOrder h = cc h

pub beat_is : (r : Role) → is_live r ≡ false → in_channel Live r ≡ true → r ≡ role.EobiHeartbeat
unfolding is_live in_channel
beat_is role.LogonRequest h k = cc k
beat_is role.LogoutRequest h k = cc k
beat_is role.EtiHeartbeat h k = cc k
beat_is role.NewOrderSingleRequest h k = cc k
beat_is role.ModifyOrderSingleRequest h k = cc k
beat_is role.DeleteOrderSingleRequest h k = cc k
beat_is role.DeleteAllOrderRequest h k = cc k
beat_is role.RetransmitMEMessageRequest h k = cc k
beat_is role.LogonResponse h k = cc k
beat_is role.LogoutResponse h k = cc k
beat_is role.HeartbeatNotification h k = cc k
beat_is role.Reject h k = cc k
beat_is role.RetransmitMEMessageResponse h k = cc k
beat_is role.NewOrderResponse h k = cc k
beat_is role.ModifyOrderResponse h k = cc k
beat_is role.DeleteOrderResponse h k = cc k
beat_is role.DeleteAllOrderResponse h k = cc k
beat_is role.DeleteAllOrderBroadcast h k = cc k
beat_is role.OrderExecNotification h k = cc k
beat_is role.PacketHeader h k = cc k
beat_is role.EobiHeartbeat h k = refl
beat_is role.OrderAdd h k = cc h
beat_is role.OrderModify h k = cc h
beat_is role.OrderModifySamePriority h k = cc h
beat_is role.OrderDelete h k = cc h
beat_is role.OrderMassDelete h k = cc h
beat_is role.PartialOrderExecution h k = cc h
beat_is role.FullOrderExecution h k = cc h
beat_is role.ExecutionSummary h k = cc h
beat_is role.ProductSummary h k = cc k
beat_is role.InstrumentSummary h k = cc k
beat_is role.SnapshotOrder h k = cc k

pub live_counts : (r : Role) → is_live r ≡ true → is_among name.MsgSeqNum (counted r) ≡ true
unfolding is_live counted required is_among name_number
live_counts role.LogonRequest h = cc h
live_counts role.LogoutRequest h = cc h
live_counts role.EtiHeartbeat h = cc h
live_counts role.NewOrderSingleRequest h = cc h
live_counts role.ModifyOrderSingleRequest h = cc h
live_counts role.DeleteOrderSingleRequest h = cc h
live_counts role.DeleteAllOrderRequest h = cc h
live_counts role.RetransmitMEMessageRequest h = cc h
live_counts role.LogonResponse h = cc h
live_counts role.LogoutResponse h = cc h
live_counts role.HeartbeatNotification h = cc h
live_counts role.Reject h = cc h
live_counts role.RetransmitMEMessageResponse h = cc h
live_counts role.NewOrderResponse h = cc h
live_counts role.ModifyOrderResponse h = cc h
live_counts role.DeleteOrderResponse h = cc h
live_counts role.DeleteAllOrderResponse h = cc h
live_counts role.DeleteAllOrderBroadcast h = cc h
live_counts role.OrderExecNotification h = cc h
live_counts role.PacketHeader h = cc h
live_counts role.EobiHeartbeat h = cc h
live_counts role.OrderAdd h = refl
live_counts role.OrderModify h = refl
live_counts role.OrderModifySamePriority h = refl
live_counts role.OrderDelete h = refl
live_counts role.OrderMassDelete h = refl
live_counts role.PartialOrderExecution h = refl
live_counts role.FullOrderExecution h = refl
live_counts role.ExecutionSummary h = refl
live_counts role.ProductSummary h = cc h
live_counts role.InstrumentSummary h = cc h
live_counts role.SnapshotOrder h = cc h
