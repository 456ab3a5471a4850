use Rattle.std.proofs.Common.{rules}
use Rattle.t7_eti.specs.Requests.{request_as, is_request, request_number, request_client}
use Rattle.t7_eti.specs.Nulls.{sought, unsought}
use Rattle.t7_fields.specs.Messages.{is_among}
use Rattle.t7_layout.specs.Roles.{name_number, required, kind_of, width_in, family_of}
use Rattle.t7_eti.proofs.request.whole_request.Goals as goal

pub sequence_number-requires-clause-there : goal.sequence_number-requires-clause-there
unfolding request_as is_request request_number request_client sought unsought is_among name_number required kind_of width_in family_of
sequence_number-requires-clause-there c = search rules

pub word-requires-clause-there : goal.word-requires-clause-there
unfolding request_as is_request request_number request_client sought unsought is_among name_number required kind_of width_in family_of
word-requires-clause-there c = search rules

pub word-requires-clause-kind : goal.word-requires-clause-kind
unfolding request_as is_request request_number request_client sought unsought is_among name_number required kind_of width_in family_of
word-requires-clause-kind c = search rules

pub word-requires-clause-width : goal.word-requires-clause-width
unfolding request_as is_request request_number request_client sought unsought is_among name_number required kind_of width_in family_of
word-requires-clause-width c = search rules

pub word-requires-in-LogonRequest-clause-there : goal.word-requires-in-LogonRequest-clause-there
unfolding request_as is_request request_number request_client sought unsought is_among name_number required kind_of width_in family_of
word-requires-in-LogonRequest-clause-there c = search rules

pub word-requires-in-LogonRequest-clause-kind : goal.word-requires-in-LogonRequest-clause-kind
unfolding request_as is_request request_number request_client sought unsought is_among name_number required kind_of width_in family_of
word-requires-in-LogonRequest-clause-kind c = search rules

pub word-requires-in-LogonRequest-clause-width : goal.word-requires-in-LogonRequest-clause-width
unfolding request_as is_request request_number request_client sought unsought is_among name_number required kind_of width_in family_of
word-requires-in-LogonRequest-clause-width c = search rules

pub sequence_number-requires-in-LogoutRequest-clause-there : goal.sequence_number-requires-in-LogoutRequest-clause-there
unfolding request_as is_request request_number request_client sought unsought is_among name_number required kind_of width_in family_of
sequence_number-requires-in-LogoutRequest-clause-there c = search rules

pub sequence_number-requires-in-NewOrderSingleRequest-clause-there : goal.sequence_number-requires-in-NewOrderSingleRequest-clause-there
unfolding request_as is_request request_number request_client sought unsought is_among name_number required kind_of width_in family_of
sequence_number-requires-in-NewOrderSingleRequest-clause-there c = search rules

pub signed-requires-clause-there : goal.signed-requires-clause-there
unfolding request_as is_request request_number request_client sought unsought is_among name_number required kind_of width_in family_of
signed-requires-clause-there c = search rules

pub signed-requires-clause-kind : goal.signed-requires-clause-kind
unfolding request_as is_request request_number request_client sought unsought is_among name_number required kind_of width_in family_of
signed-requires-clause-kind c = search rules

pub byte-requires-clause-there : goal.byte-requires-clause-there
unfolding request_as is_request request_number request_client sought unsought is_among name_number required kind_of width_in family_of
byte-requires-clause-there c = search rules

pub byte-requires-clause-kind : goal.byte-requires-clause-kind
unfolding request_as is_request request_number request_client sought unsought is_among name_number required kind_of width_in family_of
byte-requires-clause-kind c = search rules

pub byte-requires-clause-width : goal.byte-requires-clause-width
unfolding request_as is_request request_number request_client sought unsought is_among name_number required kind_of width_in family_of
byte-requires-clause-width c = search rules

pub signed-requires-in-NewOrderSingleRequest-clause-there : goal.signed-requires-in-NewOrderSingleRequest-clause-there
unfolding request_as is_request request_number request_client sought unsought is_among name_number required kind_of width_in family_of
signed-requires-in-NewOrderSingleRequest-clause-there c = search rules

pub signed-requires-in-NewOrderSingleRequest-clause-kind : goal.signed-requires-in-NewOrderSingleRequest-clause-kind
unfolding request_as is_request request_number request_client sought unsought is_among name_number required kind_of width_in family_of
signed-requires-in-NewOrderSingleRequest-clause-kind c = search rules

pub signed-requires-in-NewOrderSingleRequest-2-clause-there : goal.signed-requires-in-NewOrderSingleRequest-2-clause-there
unfolding request_as is_request request_number request_client sought unsought is_among name_number required kind_of width_in family_of
signed-requires-in-NewOrderSingleRequest-2-clause-there c = search rules

pub signed-requires-in-NewOrderSingleRequest-2-clause-kind : goal.signed-requires-in-NewOrderSingleRequest-2-clause-kind
unfolding request_as is_request request_number request_client sought unsought is_among name_number required kind_of width_in family_of
signed-requires-in-NewOrderSingleRequest-2-clause-kind c = search rules

pub client-requires-clause-there : goal.client-requires-clause-there
unfolding request_as is_request request_number request_client sought unsought is_among name_number required kind_of width_in family_of
client-requires-clause-there c = search rules

pub sequence_number-requires-in-ModifyOrderSingleRequest-clause-there : goal.sequence_number-requires-in-ModifyOrderSingleRequest-clause-there
unfolding request_as is_request request_number request_client sought unsought is_among name_number required kind_of width_in family_of
sequence_number-requires-in-ModifyOrderSingleRequest-clause-there c = search rules

pub double-requires-clause-there : goal.double-requires-clause-there
unfolding request_as is_request request_number request_client sought unsought is_among name_number required kind_of width_in family_of
double-requires-clause-there c = search rules

pub double-requires-clause-kind : goal.double-requires-clause-kind
unfolding request_as is_request request_number request_client sought unsought is_among name_number required kind_of width_in family_of
double-requires-clause-kind c = search rules

pub client-requires-in-ModifyOrderSingleRequest-clause-there : goal.client-requires-in-ModifyOrderSingleRequest-clause-there
unfolding request_as is_request request_number request_client sought unsought is_among name_number required kind_of width_in family_of
client-requires-in-ModifyOrderSingleRequest-clause-there c = search rules

pub signed-requires-in-ModifyOrderSingleRequest-clause-there : goal.signed-requires-in-ModifyOrderSingleRequest-clause-there
unfolding request_as is_request request_number request_client sought unsought is_among name_number required kind_of width_in family_of
signed-requires-in-ModifyOrderSingleRequest-clause-there c = search rules

pub signed-requires-in-ModifyOrderSingleRequest-clause-kind : goal.signed-requires-in-ModifyOrderSingleRequest-clause-kind
unfolding request_as is_request request_number request_client sought unsought is_among name_number required kind_of width_in family_of
signed-requires-in-ModifyOrderSingleRequest-clause-kind c = search rules

pub signed-requires-in-ModifyOrderSingleRequest-2-clause-there : goal.signed-requires-in-ModifyOrderSingleRequest-2-clause-there
unfolding request_as is_request request_number request_client sought unsought is_among name_number required kind_of width_in family_of
signed-requires-in-ModifyOrderSingleRequest-2-clause-there c = search rules

pub signed-requires-in-ModifyOrderSingleRequest-2-clause-kind : goal.signed-requires-in-ModifyOrderSingleRequest-2-clause-kind
unfolding request_as is_request request_number request_client sought unsought is_among name_number required kind_of width_in family_of
signed-requires-in-ModifyOrderSingleRequest-2-clause-kind c = search rules

pub sequence_number-requires-in-DeleteOrderSingleRequest-clause-there : goal.sequence_number-requires-in-DeleteOrderSingleRequest-clause-there
unfolding request_as is_request request_number request_client sought unsought is_among name_number required kind_of width_in family_of
sequence_number-requires-in-DeleteOrderSingleRequest-clause-there c = search rules

pub double-requires-in-DeleteOrderSingleRequest-clause-there : goal.double-requires-in-DeleteOrderSingleRequest-clause-there
unfolding request_as is_request request_number request_client sought unsought is_among name_number required kind_of width_in family_of
double-requires-in-DeleteOrderSingleRequest-clause-there c = search rules

pub double-requires-in-DeleteOrderSingleRequest-clause-kind : goal.double-requires-in-DeleteOrderSingleRequest-clause-kind
unfolding request_as is_request request_number request_client sought unsought is_among name_number required kind_of width_in family_of
double-requires-in-DeleteOrderSingleRequest-clause-kind c = search rules

pub client-requires-in-DeleteOrderSingleRequest-clause-there : goal.client-requires-in-DeleteOrderSingleRequest-clause-there
unfolding request_as is_request request_number request_client sought unsought is_among name_number required kind_of width_in family_of
client-requires-in-DeleteOrderSingleRequest-clause-there c = search rules

pub sequence_number-requires-in-DeleteAllOrderRequest-clause-there : goal.sequence_number-requires-in-DeleteAllOrderRequest-clause-there
unfolding request_as is_request request_number request_client sought unsought is_among name_number required kind_of width_in family_of
sequence_number-requires-in-DeleteAllOrderRequest-clause-there c = search rules

pub signed-requires-in-DeleteAllOrderRequest-clause-there : goal.signed-requires-in-DeleteAllOrderRequest-clause-there
unfolding request_as is_request request_number request_client sought unsought is_among name_number required kind_of width_in family_of
signed-requires-in-DeleteAllOrderRequest-clause-there c = search rules

pub signed-requires-in-DeleteAllOrderRequest-clause-kind : goal.signed-requires-in-DeleteAllOrderRequest-clause-kind
unfolding request_as is_request request_number request_client sought unsought is_among name_number required kind_of width_in family_of
signed-requires-in-DeleteAllOrderRequest-clause-kind c = search rules

pub sequence_number-requires-in-RetransmitMEMessageRequest-clause-there : goal.sequence_number-requires-in-RetransmitMEMessageRequest-clause-there
unfolding request_as is_request request_number request_client sought unsought is_among name_number required kind_of width_in family_of
sequence_number-requires-in-RetransmitMEMessageRequest-clause-there c = search rules

pub long-requires-clause-there : goal.long-requires-clause-there
unfolding request_as is_request request_number request_client sought unsought is_among name_number required kind_of width_in family_of
long-requires-clause-there c = search rules

pub long-requires-clause-kind : goal.long-requires-clause-kind
unfolding request_as is_request request_number request_client sought unsought is_among name_number required kind_of width_in family_of
long-requires-clause-kind c = search rules

pub long-requires-clause-width : goal.long-requires-clause-width
unfolding request_as is_request request_number request_client sought unsought is_among name_number required kind_of width_in family_of
long-requires-clause-width c = search rules

pub long-requires-in-RetransmitMEMessageRequest-clause-there : goal.long-requires-in-RetransmitMEMessageRequest-clause-there
unfolding request_as is_request request_number request_client sought unsought is_among name_number required kind_of width_in family_of
long-requires-in-RetransmitMEMessageRequest-clause-there c = search rules

pub long-requires-in-RetransmitMEMessageRequest-clause-kind : goal.long-requires-in-RetransmitMEMessageRequest-clause-kind
unfolding request_as is_request request_number request_client sought unsought is_among name_number required kind_of width_in family_of
long-requires-in-RetransmitMEMessageRequest-clause-kind c = search rules

pub long-requires-in-RetransmitMEMessageRequest-clause-width : goal.long-requires-in-RetransmitMEMessageRequest-clause-width
unfolding request_as is_request request_number request_client sought unsought is_among name_number required kind_of width_in family_of
long-requires-in-RetransmitMEMessageRequest-clause-width c = search rules

pub unreachable-requires : goal.unreachable-requires
unfolding request_as is_request request_number request_client sought unsought is_among name_number required kind_of width_in family_of
unreachable-requires c = search rules

pub returns-in-LogonRequest-clause-value : goal.returns-in-LogonRequest-clause-value
unfolding request_as is_request request_number request_client sought unsought is_among name_number required kind_of width_in family_of
returns-in-LogonRequest-clause-value c = search rules

pub returns-in-LogonRequest-clause-askable : goal.returns-in-LogonRequest-clause-askable
unfolding request_as is_request request_number request_client sought unsought is_among name_number required kind_of width_in family_of
returns-in-LogonRequest-clause-askable c = search rules

pub returns-in-LogoutRequest-clause-value : goal.returns-in-LogoutRequest-clause-value
unfolding request_as is_request request_number request_client sought unsought is_among name_number required kind_of width_in family_of
returns-in-LogoutRequest-clause-value c = search rules

pub returns-in-LogoutRequest-clause-askable : goal.returns-in-LogoutRequest-clause-askable
unfolding request_as is_request request_number request_client sought unsought is_among name_number required kind_of width_in family_of
returns-in-LogoutRequest-clause-askable c = search rules

pub returns-in-EtiHeartbeat-clause-value : goal.returns-in-EtiHeartbeat-clause-value
unfolding request_as is_request request_number request_client sought unsought is_among name_number required kind_of width_in family_of
returns-in-EtiHeartbeat-clause-value c = search rules

pub returns-in-EtiHeartbeat-clause-askable : goal.returns-in-EtiHeartbeat-clause-askable
unfolding request_as is_request request_number request_client sought unsought is_among name_number required kind_of width_in family_of
returns-in-EtiHeartbeat-clause-askable c = search rules

pub returns-in-NewOrderSingleRequest-clause-value : goal.returns-in-NewOrderSingleRequest-clause-value
unfolding request_as is_request request_number request_client sought unsought is_among name_number required kind_of width_in family_of
returns-in-NewOrderSingleRequest-clause-value c = search rules

pub returns-in-NewOrderSingleRequest-clause-askable : goal.returns-in-NewOrderSingleRequest-clause-askable
unfolding request_as is_request request_number request_client sought unsought is_among name_number required kind_of width_in family_of
returns-in-NewOrderSingleRequest-clause-askable c = search rules

pub returns-in-ModifyOrderSingleRequest-clause-value : goal.returns-in-ModifyOrderSingleRequest-clause-value
unfolding request_as is_request request_number request_client sought unsought is_among name_number required kind_of width_in family_of
returns-in-ModifyOrderSingleRequest-clause-value c = search rules

pub returns-in-ModifyOrderSingleRequest-clause-askable : goal.returns-in-ModifyOrderSingleRequest-clause-askable
unfolding request_as is_request request_number request_client sought unsought is_among name_number required kind_of width_in family_of
returns-in-ModifyOrderSingleRequest-clause-askable c = search rules

pub returns-in-DeleteOrderSingleRequest-clause-value : goal.returns-in-DeleteOrderSingleRequest-clause-value
unfolding request_as is_request request_number request_client sought unsought is_among name_number required kind_of width_in family_of
returns-in-DeleteOrderSingleRequest-clause-value c = search rules

pub returns-in-DeleteOrderSingleRequest-clause-askable : goal.returns-in-DeleteOrderSingleRequest-clause-askable
unfolding request_as is_request request_number request_client sought unsought is_among name_number required kind_of width_in family_of
returns-in-DeleteOrderSingleRequest-clause-askable c = search rules

pub returns-in-DeleteAllOrderRequest-clause-value : goal.returns-in-DeleteAllOrderRequest-clause-value
unfolding request_as is_request request_number request_client sought unsought is_among name_number required kind_of width_in family_of
returns-in-DeleteAllOrderRequest-clause-value c = search rules

pub returns-in-DeleteAllOrderRequest-clause-askable : goal.returns-in-DeleteAllOrderRequest-clause-askable
unfolding request_as is_request request_number request_client sought unsought is_among name_number required kind_of width_in family_of
returns-in-DeleteAllOrderRequest-clause-askable c = search rules

pub returns-in-RetransmitMEMessageRequest-clause-value : goal.returns-in-RetransmitMEMessageRequest-clause-value
unfolding request_as is_request request_number request_client sought unsought is_among name_number required kind_of width_in family_of
returns-in-RetransmitMEMessageRequest-clause-value c = search rules

pub returns-in-RetransmitMEMessageRequest-clause-askable : goal.returns-in-RetransmitMEMessageRequest-clause-askable
unfolding request_as is_request request_number request_client sought unsought is_among name_number required kind_of width_in family_of
returns-in-RetransmitMEMessageRequest-clause-askable c = search rules
