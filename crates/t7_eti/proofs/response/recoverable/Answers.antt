use Rattle.std.proofs.Common.{rules}
use Rattle.t7_eti.specs.Responses.{kept_as}
use Rattle.t7_eti.specs.Nulls.{sought, unsought}
use Rattle.t7_fields.specs.Messages.{is_among}
use Rattle.t7_layout.specs.Roles.{name_number, required, kind_of, width_in, family_of}
use Rattle.t7_eti.proofs.response.recoverable.Goals as goal

pub order-requires-clause-there : goal.order-requires-clause-there
unfolding kept_as sought unsought is_among name_number required kind_of width_in family_of
order-requires-clause-there c = search rules

pub double-requires-clause-there : goal.double-requires-clause-there
unfolding kept_as sought unsought is_among name_number required kind_of width_in family_of
double-requires-clause-there c = search rules

pub double-requires-clause-kind : goal.double-requires-clause-kind
unfolding kept_as sought unsought is_among name_number required kind_of width_in family_of
double-requires-clause-kind c = search rules

pub stamp-requires-clause-there : goal.stamp-requires-clause-there
unfolding kept_as sought unsought is_among name_number required kind_of width_in family_of
stamp-requires-clause-there c = search rules

pub order-requires-in-ModifyOrderResponse-clause-there : goal.order-requires-in-ModifyOrderResponse-clause-there
unfolding kept_as sought unsought is_among name_number required kind_of width_in family_of
order-requires-in-ModifyOrderResponse-clause-there c = search rules

pub double-requires-in-ModifyOrderResponse-clause-there : goal.double-requires-in-ModifyOrderResponse-clause-there
unfolding kept_as sought unsought is_among name_number required kind_of width_in family_of
double-requires-in-ModifyOrderResponse-clause-there c = search rules

pub double-requires-in-ModifyOrderResponse-clause-kind : goal.double-requires-in-ModifyOrderResponse-clause-kind
unfolding kept_as sought unsought is_among name_number required kind_of width_in family_of
double-requires-in-ModifyOrderResponse-clause-kind c = search rules

pub stamp-requires-in-ModifyOrderResponse-clause-there : goal.stamp-requires-in-ModifyOrderResponse-clause-there
unfolding kept_as sought unsought is_among name_number required kind_of width_in family_of
stamp-requires-in-ModifyOrderResponse-clause-there c = search rules

pub order-requires-in-DeleteOrderResponse-clause-there : goal.order-requires-in-DeleteOrderResponse-clause-there
unfolding kept_as sought unsought is_among name_number required kind_of width_in family_of
order-requires-in-DeleteOrderResponse-clause-there c = search rules

pub double-requires-in-DeleteOrderResponse-clause-there : goal.double-requires-in-DeleteOrderResponse-clause-there
unfolding kept_as sought unsought is_among name_number required kind_of width_in family_of
double-requires-in-DeleteOrderResponse-clause-there c = search rules

pub double-requires-in-DeleteOrderResponse-clause-kind : goal.double-requires-in-DeleteOrderResponse-clause-kind
unfolding kept_as sought unsought is_among name_number required kind_of width_in family_of
double-requires-in-DeleteOrderResponse-clause-kind c = search rules

pub signed-requires-clause-there : goal.signed-requires-clause-there
unfolding kept_as sought unsought is_among name_number required kind_of width_in family_of
signed-requires-clause-there c = search rules

pub signed-requires-clause-kind : goal.signed-requires-clause-kind
unfolding kept_as sought unsought is_among name_number required kind_of width_in family_of
signed-requires-clause-kind c = search rules

pub half-requires-clause-there : goal.half-requires-clause-there
unfolding kept_as sought unsought is_among name_number required kind_of width_in family_of
half-requires-clause-there c = search rules

pub half-requires-clause-kind : goal.half-requires-clause-kind
unfolding kept_as sought unsought is_among name_number required kind_of width_in family_of
half-requires-clause-kind c = search rules

pub half-requires-clause-width : goal.half-requires-clause-width
unfolding kept_as sought unsought is_among name_number required kind_of width_in family_of
half-requires-clause-width c = search rules

pub signed-requires-in-DeleteAllOrderBroadcast-clause-there : goal.signed-requires-in-DeleteAllOrderBroadcast-clause-there
unfolding kept_as sought unsought is_among name_number required kind_of width_in family_of
signed-requires-in-DeleteAllOrderBroadcast-clause-there c = search rules

pub signed-requires-in-DeleteAllOrderBroadcast-clause-kind : goal.signed-requires-in-DeleteAllOrderBroadcast-clause-kind
unfolding kept_as sought unsought is_among name_number required kind_of width_in family_of
signed-requires-in-DeleteAllOrderBroadcast-clause-kind c = search rules

pub half-requires-in-DeleteAllOrderBroadcast-clause-there : goal.half-requires-in-DeleteAllOrderBroadcast-clause-there
unfolding kept_as sought unsought is_among name_number required kind_of width_in family_of
half-requires-in-DeleteAllOrderBroadcast-clause-there c = search rules

pub half-requires-in-DeleteAllOrderBroadcast-clause-kind : goal.half-requires-in-DeleteAllOrderBroadcast-clause-kind
unfolding kept_as sought unsought is_among name_number required kind_of width_in family_of
half-requires-in-DeleteAllOrderBroadcast-clause-kind c = search rules

pub half-requires-in-DeleteAllOrderBroadcast-clause-width : goal.half-requires-in-DeleteAllOrderBroadcast-clause-width
unfolding kept_as sought unsought is_among name_number required kind_of width_in family_of
half-requires-in-DeleteAllOrderBroadcast-clause-width c = search rules

pub order-requires-in-OrderExecNotification-clause-there : goal.order-requires-in-OrderExecNotification-clause-there
unfolding kept_as sought unsought is_among name_number required kind_of width_in family_of
order-requires-in-OrderExecNotification-clause-there c = search rules

pub side-requires-clause-there : goal.side-requires-clause-there
unfolding kept_as sought unsought is_among name_number required kind_of width_in family_of
side-requires-clause-there c = search rules

pub signed-requires-in-OrderExecNotification-clause-there : goal.signed-requires-in-OrderExecNotification-clause-there
unfolding kept_as sought unsought is_among name_number required kind_of width_in family_of
signed-requires-in-OrderExecNotification-clause-there c = search rules

pub signed-requires-in-OrderExecNotification-clause-kind : goal.signed-requires-in-OrderExecNotification-clause-kind
unfolding kept_as sought unsought is_among name_number required kind_of width_in family_of
signed-requires-in-OrderExecNotification-clause-kind c = search rules

pub signed-requires-in-OrderExecNotification-2-clause-there : goal.signed-requires-in-OrderExecNotification-2-clause-there
unfolding kept_as sought unsought is_among name_number required kind_of width_in family_of
signed-requires-in-OrderExecNotification-2-clause-there c = search rules

pub signed-requires-in-OrderExecNotification-2-clause-kind : goal.signed-requires-in-OrderExecNotification-2-clause-kind
unfolding kept_as sought unsought is_among name_number required kind_of width_in family_of
signed-requires-in-OrderExecNotification-2-clause-kind c = search rules

pub last_qty-requires-clause-there : goal.last_qty-requires-clause-there
unfolding kept_as sought unsought is_among name_number required kind_of width_in family_of
last_qty-requires-clause-there c = search rules

pub last_price-requires-clause-there : goal.last_price-requires-clause-there
unfolding kept_as sought unsought is_among name_number required kind_of width_in family_of
last_price-requires-clause-there c = search rules

pub returns-in_default : goal.returns-in_default
unfolding kept_as sought unsought is_among name_number required kind_of width_in family_of
returns-in_default c = search rules

pub long-requires-clause-there : goal.long-requires-clause-there
unfolding kept_as sought unsought is_among name_number required kind_of width_in family_of
long-requires-clause-there c = search rules

pub long-requires-clause-kind : goal.long-requires-clause-kind
unfolding kept_as sought unsought is_among name_number required kind_of width_in family_of
long-requires-clause-kind c = search rules

pub long-requires-clause-width : goal.long-requires-clause-width
unfolding kept_as sought unsought is_among name_number required kind_of width_in family_of
long-requires-clause-width c = search rules

pub returns : goal.returns
unfolding kept_as sought unsought is_among name_number required kind_of width_in family_of
returns c = search rules
