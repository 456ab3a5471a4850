use Rattle.std.proofs.Common.{rules}
use Rattle.t7_eti.specs.Saying.{response_role, response_fields, reject_fields}
use Rattle.t7_layout.specs.Roles.{family_of}
use Rattle.t7_fields.specs.Writing.{longest}
use Rattle.t7_eti.proofs.SayingFacts.{response_said}
use Rattle.t7_eti.proofs.write.say_response.Goals as goal

pub write-requires-clause-room : goal.write-requires-clause-room
unfolding response_role response_fields reject_fields family_of longest
write-requires-clause-room c = search (rules, response_said)

pub write-requires-clause-said : goal.write-requires-clause-said
unfolding response_role response_fields reject_fields family_of longest
write-requires-clause-said c = search (rules, response_said)

pub write-requires-in-Logout-clause-room : goal.write-requires-in-Logout-clause-room
unfolding response_role response_fields reject_fields family_of longest
write-requires-in-Logout-clause-room c = search (rules, response_said)

pub write-requires-in-Logout-clause-said : goal.write-requires-in-Logout-clause-said
unfolding response_role response_fields reject_fields family_of longest
write-requires-in-Logout-clause-said c = search (rules, response_said)

pub write-requires-in-Beat-clause-room : goal.write-requires-in-Beat-clause-room
unfolding response_role response_fields reject_fields family_of longest
write-requires-in-Beat-clause-room c = search (rules, response_said)

pub write-requires-in-Beat-clause-said : goal.write-requires-in-Beat-clause-said
unfolding response_role response_fields reject_fields family_of longest
write-requires-in-Beat-clause-said c = search (rules, response_said)

pub write-requires-in-Reject-None-default-clause-room : goal.write-requires-in-Reject-None-default-clause-room
unfolding response_role response_fields reject_fields family_of longest
write-requires-in-Reject-None-default-clause-room c = search (rules, response_said)

pub write-requires-in-Reject-None-default-clause-said : goal.write-requires-in-Reject-None-default-clause-said
unfolding response_role response_fields reject_fields family_of longest
write-requires-in-Reject-None-default-clause-said c = search (rules, response_said)

pub write-requires-in-Reject-Some-default-clause-room : goal.write-requires-in-Reject-Some-default-clause-room
unfolding response_role response_fields reject_fields family_of longest
write-requires-in-Reject-Some-default-clause-room c = search (rules, response_said)

pub write-requires-in-Reject-Some-default-clause-said : goal.write-requires-in-Reject-Some-default-clause-said
unfolding response_role response_fields reject_fields family_of longest
write-requires-in-Reject-Some-default-clause-said c = search (rules, response_said)

pub write-requires-in-Resent-clause-room : goal.write-requires-in-Resent-clause-room
unfolding response_role response_fields reject_fields family_of longest
write-requires-in-Resent-clause-room c = search (rules, response_said)

pub write-requires-in-Resent-clause-said : goal.write-requires-in-Resent-clause-said
unfolding response_role response_fields reject_fields family_of longest
write-requires-in-Resent-clause-said c = search (rules, response_said)

pub say_kept-requires-clause-known : goal.say_kept-requires-clause-known
unfolding response_role response_fields reject_fields family_of longest
say_kept-requires-clause-known c = search (rules, response_said)

pub returns-in-Logon-clause-length : goal.returns-in-Logon-clause-length
unfolding response_role response_fields reject_fields family_of longest
returns-in-Logon-clause-length c = search (rules, response_said)

pub returns-in-Logon-clause-bytes : goal.returns-in-Logon-clause-bytes
unfolding response_role response_fields reject_fields family_of longest
returns-in-Logon-clause-bytes c = search (rules, response_said)

pub returns-in-Logon-clause-written : goal.returns-in-Logon-clause-written
unfolding response_role response_fields reject_fields family_of longest
returns-in-Logon-clause-written c = search (rules, response_said)

pub returns-in-Logout-clause-length : goal.returns-in-Logout-clause-length
unfolding response_role response_fields reject_fields family_of longest
returns-in-Logout-clause-length c = search (rules, response_said)

pub returns-in-Logout-clause-bytes : goal.returns-in-Logout-clause-bytes
unfolding response_role response_fields reject_fields family_of longest
returns-in-Logout-clause-bytes c = search (rules, response_said)

pub returns-in-Logout-clause-written : goal.returns-in-Logout-clause-written
unfolding response_role response_fields reject_fields family_of longest
returns-in-Logout-clause-written c = search (rules, response_said)

pub returns-in-Beat-clause-length : goal.returns-in-Beat-clause-length
unfolding response_role response_fields reject_fields family_of longest
returns-in-Beat-clause-length c = search (rules, response_said)

pub returns-in-Beat-clause-bytes : goal.returns-in-Beat-clause-bytes
unfolding response_role response_fields reject_fields family_of longest
returns-in-Beat-clause-bytes c = search (rules, response_said)

pub returns-in-Beat-clause-written : goal.returns-in-Beat-clause-written
unfolding response_role response_fields reject_fields family_of longest
returns-in-Beat-clause-written c = search (rules, response_said)

pub returns-in-Reject-None-default-clause-length : goal.returns-in-Reject-None-default-clause-length
unfolding response_role response_fields reject_fields family_of longest
returns-in-Reject-None-default-clause-length c = search (rules, response_said)

pub returns-in-Reject-None-default-clause-bytes : goal.returns-in-Reject-None-default-clause-bytes
unfolding response_role response_fields reject_fields family_of longest
returns-in-Reject-None-default-clause-bytes c = search (rules, response_said)

pub returns-in-Reject-None-default-clause-written : goal.returns-in-Reject-None-default-clause-written
unfolding response_role response_fields reject_fields family_of longest
returns-in-Reject-None-default-clause-written c = search (rules, response_said)

pub returns-in-Reject-Some-default-clause-length : goal.returns-in-Reject-Some-default-clause-length
unfolding response_role response_fields reject_fields family_of longest
returns-in-Reject-Some-default-clause-length c = search (rules, response_said)

pub returns-in-Reject-Some-default-clause-bytes : goal.returns-in-Reject-Some-default-clause-bytes
unfolding response_role response_fields reject_fields family_of longest
returns-in-Reject-Some-default-clause-bytes c = search (rules, response_said)

pub returns-in-Reject-Some-default-clause-written : goal.returns-in-Reject-Some-default-clause-written
unfolding response_role response_fields reject_fields family_of longest
returns-in-Reject-Some-default-clause-written c = search (rules, response_said)

pub returns-in-Resent-clause-length : goal.returns-in-Resent-clause-length
unfolding response_role response_fields reject_fields family_of longest
returns-in-Resent-clause-length c = search (rules, response_said)

pub returns-in-Resent-clause-bytes : goal.returns-in-Resent-clause-bytes
unfolding response_role response_fields reject_fields family_of longest
returns-in-Resent-clause-bytes c = search (rules, response_said)

pub returns-in-Resent-clause-written : goal.returns-in-Resent-clause-written
unfolding response_role response_fields reject_fields family_of longest
returns-in-Resent-clause-written c = search (rules, response_said)

pub returns-in-Kept-clause-length : goal.returns-in-Kept-clause-length
unfolding response_role response_fields reject_fields family_of longest
returns-in-Kept-clause-length c = search (rules, response_said)

pub returns-in-Kept-clause-bytes : goal.returns-in-Kept-clause-bytes
unfolding response_role response_fields reject_fields family_of longest
returns-in-Kept-clause-bytes c = search (rules, response_said)

pub returns-in-Kept-clause-written : goal.returns-in-Kept-clause-written
unfolding response_role response_fields reject_fields family_of longest
returns-in-Kept-clause-written c = search (rules, response_said)
