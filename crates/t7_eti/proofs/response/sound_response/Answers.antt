use Rattle.std.proofs.Common.{rules}
use Rattle.t7_eti.specs.Responses.{response_as}
use Rattle.t7_eti.specs.Nulls.{sought, unsought}
use Rattle.t7_fields.specs.Messages.{is_among}
use Rattle.t7_layout.specs.Roles.{name_number, required, kind_of, width_in, family_of}
use Rattle.t7_eti.proofs.response.sound_response.Goals as goal

pub word-requires-clause-there : goal.word-requires-clause-there
unfolding response_as sought unsought is_among name_number required kind_of width_in family_of
word-requires-clause-there c = search rules

pub word-requires-clause-kind : goal.word-requires-clause-kind
unfolding response_as sought unsought is_among name_number required kind_of width_in family_of
word-requires-clause-kind c = search rules

pub word-requires-clause-width : goal.word-requires-clause-width
unfolding response_as sought unsought is_among name_number required kind_of width_in family_of
word-requires-clause-width c = search rules

pub word-requires-in-LogonResponse-clause-there : goal.word-requires-in-LogonResponse-clause-there
unfolding response_as sought unsought is_among name_number required kind_of width_in family_of
word-requires-in-LogonResponse-clause-there c = search rules

pub word-requires-in-LogonResponse-clause-kind : goal.word-requires-in-LogonResponse-clause-kind
unfolding response_as sought unsought is_among name_number required kind_of width_in family_of
word-requires-in-LogonResponse-clause-kind c = search rules

pub word-requires-in-LogonResponse-clause-width : goal.word-requires-in-LogonResponse-clause-width
unfolding response_as sought unsought is_among name_number required kind_of width_in family_of
word-requires-in-LogonResponse-clause-width c = search rules

pub word-requires-in-LogoutResponse-clause-there : goal.word-requires-in-LogoutResponse-clause-there
unfolding response_as sought unsought is_among name_number required kind_of width_in family_of
word-requires-in-LogoutResponse-clause-there c = search rules

pub word-requires-in-LogoutResponse-clause-kind : goal.word-requires-in-LogoutResponse-clause-kind
unfolding response_as sought unsought is_among name_number required kind_of width_in family_of
word-requires-in-LogoutResponse-clause-kind c = search rules

pub word-requires-in-LogoutResponse-clause-width : goal.word-requires-in-LogoutResponse-clause-width
unfolding response_as sought unsought is_among name_number required kind_of width_in family_of
word-requires-in-LogoutResponse-clause-width c = search rules

pub reason-requires-clause-there : goal.reason-requires-clause-there
unfolding response_as sought unsought is_among name_number required kind_of width_in family_of
reason-requires-clause-there c = search rules

pub word-requires-in-RetransmitMEMessageResponse-clause-there : goal.word-requires-in-RetransmitMEMessageResponse-clause-there
unfolding response_as sought unsought is_among name_number required kind_of width_in family_of
word-requires-in-RetransmitMEMessageResponse-clause-there c = search rules

pub word-requires-in-RetransmitMEMessageResponse-clause-kind : goal.word-requires-in-RetransmitMEMessageResponse-clause-kind
unfolding response_as sought unsought is_among name_number required kind_of width_in family_of
word-requires-in-RetransmitMEMessageResponse-clause-kind c = search rules

pub word-requires-in-RetransmitMEMessageResponse-clause-width : goal.word-requires-in-RetransmitMEMessageResponse-clause-width
unfolding response_as sought unsought is_among name_number required kind_of width_in family_of
word-requires-in-RetransmitMEMessageResponse-clause-width c = search rules

pub half-requires-clause-there : goal.half-requires-clause-there
unfolding response_as sought unsought is_among name_number required kind_of width_in family_of
half-requires-clause-there c = search rules

pub half-requires-clause-kind : goal.half-requires-clause-kind
unfolding response_as sought unsought is_among name_number required kind_of width_in family_of
half-requires-clause-kind c = search rules

pub half-requires-clause-width : goal.half-requires-clause-width
unfolding response_as sought unsought is_among name_number required kind_of width_in family_of
half-requires-clause-width c = search rules

pub long-requires-clause-there : goal.long-requires-clause-there
unfolding response_as sought unsought is_among name_number required kind_of width_in family_of
long-requires-clause-there c = search rules

pub long-requires-clause-kind : goal.long-requires-clause-kind
unfolding response_as sought unsought is_among name_number required kind_of width_in family_of
long-requires-clause-kind c = search rules

pub long-requires-clause-width : goal.long-requires-clause-width
unfolding response_as sought unsought is_among name_number required kind_of width_in family_of
long-requires-clause-width c = search rules

pub long-requires-in-RetransmitMEMessageResponse-clause-there : goal.long-requires-in-RetransmitMEMessageResponse-clause-there
unfolding response_as sought unsought is_among name_number required kind_of width_in family_of
long-requires-in-RetransmitMEMessageResponse-clause-there c = search rules

pub long-requires-in-RetransmitMEMessageResponse-clause-kind : goal.long-requires-in-RetransmitMEMessageResponse-clause-kind
unfolding response_as sought unsought is_among name_number required kind_of width_in family_of
long-requires-in-RetransmitMEMessageResponse-clause-kind c = search rules

pub long-requires-in-RetransmitMEMessageResponse-clause-width : goal.long-requires-in-RetransmitMEMessageResponse-clause-width
unfolding response_as sought unsought is_among name_number required kind_of width_in family_of
long-requires-in-RetransmitMEMessageResponse-clause-width c = search rules

pub returns-in-LogonResponse : goal.returns-in-LogonResponse
unfolding response_as sought unsought is_among name_number required kind_of width_in family_of
returns-in-LogonResponse c = search rules

pub returns-in-LogoutResponse : goal.returns-in-LogoutResponse
unfolding response_as sought unsought is_among name_number required kind_of width_in family_of
returns-in-LogoutResponse c = search rules

pub returns-in-Reject : goal.returns-in-Reject
unfolding response_as sought unsought is_among name_number required kind_of width_in family_of
returns-in-Reject c = search rules

pub returns-in-RetransmitMEMessageResponse : goal.returns-in-RetransmitMEMessageResponse
unfolding response_as sought unsought is_among name_number required kind_of width_in family_of
returns-in-RetransmitMEMessageResponse c = search rules

pub returns-in_default : goal.returns-in_default
unfolding response_as sought unsought is_among name_number required kind_of width_in family_of
returns-in_default c = search rules
