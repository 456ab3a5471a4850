use Rattle.std.proofs.Common.{rules}
use Rattle.t7_eti.specs.Saying.{request_fields, request_role}
use Rattle.t7_eti.proofs.SayingFacts.{request_said}
use Rattle.t7_layout.specs.Roles.{family_of}
use Rattle.t7_fields.specs.Writing.{longest}
use Rattle.t7_eti.proofs.write.say_request.Goals as goal

pub write-requires-in-New-clause-said : goal.write-requires-in-New-clause-said
unfolding request_role request_fields
write-requires-in-New-clause-said c =
    let said = request_said c.args.table.now c.args.request.now c.requires.known in
    let here = rw c.in-New.is at said in
    search (rules, here)

pub write-requires-in-Modify-clause-said : goal.write-requires-in-Modify-clause-said
unfolding request_role request_fields
write-requires-in-Modify-clause-said c =
    let said = request_said c.args.table.now c.args.request.now c.requires.known in
    let here = rw c.in-Modify.is at said in
    search (rules, here)

pub write-requires-clause-room : goal.write-requires-clause-room
unfolding request_role request_fields family_of longest
write-requires-clause-room c = search (rules, request_said)

pub write-requires-clause-said : goal.write-requires-clause-said
unfolding request_role request_fields family_of longest
write-requires-clause-said c = search (rules, request_said)

pub write-requires-in-Logout-clause-room : goal.write-requires-in-Logout-clause-room
unfolding request_role request_fields family_of longest
write-requires-in-Logout-clause-room c = search (rules, request_said)

pub write-requires-in-Logout-clause-said : goal.write-requires-in-Logout-clause-said
unfolding request_role request_fields family_of longest
write-requires-in-Logout-clause-said c = search (rules, request_said)

pub write-requires-in-Heartbeat-clause-room : goal.write-requires-in-Heartbeat-clause-room
unfolding request_role request_fields family_of longest
write-requires-in-Heartbeat-clause-room c = search (rules, request_said)

pub write-requires-in-Heartbeat-clause-said : goal.write-requires-in-Heartbeat-clause-said
unfolding request_role request_fields family_of longest
write-requires-in-Heartbeat-clause-said c = search (rules, request_said)

pub write-requires-in-New-clause-room : goal.write-requires-in-New-clause-room
unfolding request_role request_fields family_of longest
write-requires-in-New-clause-room c = search (rules, request_said)

pub write-requires-in-Modify-clause-room : goal.write-requires-in-Modify-clause-room
unfolding request_role request_fields family_of longest
write-requires-in-Modify-clause-room c = search (rules, request_said)

pub write-requires-in-Delete-clause-room : goal.write-requires-in-Delete-clause-room
unfolding request_role request_fields family_of longest
write-requires-in-Delete-clause-room c = search (rules, request_said)

pub write-requires-in-Delete-clause-said : goal.write-requires-in-Delete-clause-said
unfolding request_role request_fields family_of longest
write-requires-in-Delete-clause-said c = search (rules, request_said)

pub write-requires-in-DeleteAll-clause-room : goal.write-requires-in-DeleteAll-clause-room
unfolding request_role request_fields family_of longest
write-requires-in-DeleteAll-clause-room c = search (rules, request_said)

pub write-requires-in-DeleteAll-clause-said : goal.write-requires-in-DeleteAll-clause-said
unfolding request_role request_fields family_of longest
write-requires-in-DeleteAll-clause-said c = search (rules, request_said)

pub write-requires-in-Resend-clause-room : goal.write-requires-in-Resend-clause-room
unfolding request_role request_fields family_of longest
write-requires-in-Resend-clause-room c = search (rules, request_said)

pub write-requires-in-Resend-clause-said : goal.write-requires-in-Resend-clause-said
unfolding request_role request_fields family_of longest
write-requires-in-Resend-clause-said c = search (rules, request_said)

pub returns-in-Logon-clause-length : goal.returns-in-Logon-clause-length
unfolding request_role request_fields family_of longest
returns-in-Logon-clause-length c = search (rules, request_said)

pub returns-in-Logon-clause-bytes : goal.returns-in-Logon-clause-bytes
unfolding request_role request_fields family_of longest
returns-in-Logon-clause-bytes c = search (rules, request_said)

pub returns-in-Logon-clause-written : goal.returns-in-Logon-clause-written
unfolding request_role request_fields family_of longest
returns-in-Logon-clause-written c = search (rules, request_said)

pub returns-in-Logout-clause-length : goal.returns-in-Logout-clause-length
unfolding request_role request_fields family_of longest
returns-in-Logout-clause-length c = search (rules, request_said)

pub returns-in-Logout-clause-bytes : goal.returns-in-Logout-clause-bytes
unfolding request_role request_fields family_of longest
returns-in-Logout-clause-bytes c = search (rules, request_said)

pub returns-in-Logout-clause-written : goal.returns-in-Logout-clause-written
unfolding request_role request_fields family_of longest
returns-in-Logout-clause-written c = search (rules, request_said)

pub returns-in-Heartbeat-clause-length : goal.returns-in-Heartbeat-clause-length
unfolding request_role request_fields family_of longest
returns-in-Heartbeat-clause-length c = search (rules, request_said)

pub returns-in-Heartbeat-clause-bytes : goal.returns-in-Heartbeat-clause-bytes
unfolding request_role request_fields family_of longest
returns-in-Heartbeat-clause-bytes c = search (rules, request_said)

pub returns-in-Heartbeat-clause-written : goal.returns-in-Heartbeat-clause-written
unfolding request_role request_fields family_of longest
returns-in-Heartbeat-clause-written c = search (rules, request_said)

pub returns-in-New-clause-length : goal.returns-in-New-clause-length
unfolding request_role request_fields family_of longest
returns-in-New-clause-length c = search (rules, request_said)

pub returns-in-New-clause-bytes : goal.returns-in-New-clause-bytes
unfolding request_role request_fields family_of longest
returns-in-New-clause-bytes c = search (rules, request_said)

pub returns-in-New-clause-written : goal.returns-in-New-clause-written
unfolding request_role request_fields family_of longest
returns-in-New-clause-written c = search (rules, request_said)

pub returns-in-Modify-clause-length : goal.returns-in-Modify-clause-length
unfolding request_role request_fields family_of longest
returns-in-Modify-clause-length c = search (rules, request_said)

pub returns-in-Modify-clause-bytes : goal.returns-in-Modify-clause-bytes
unfolding request_role request_fields family_of longest
returns-in-Modify-clause-bytes c = search (rules, request_said)

pub returns-in-Modify-clause-written : goal.returns-in-Modify-clause-written
unfolding request_role request_fields family_of longest
returns-in-Modify-clause-written c = search (rules, request_said)

pub returns-in-Delete-clause-length : goal.returns-in-Delete-clause-length
unfolding request_role request_fields family_of longest
returns-in-Delete-clause-length c = search (rules, request_said)

pub returns-in-Delete-clause-bytes : goal.returns-in-Delete-clause-bytes
unfolding request_role request_fields family_of longest
returns-in-Delete-clause-bytes c = search (rules, request_said)

pub returns-in-Delete-clause-written : goal.returns-in-Delete-clause-written
unfolding request_role request_fields family_of longest
returns-in-Delete-clause-written c = search (rules, request_said)

pub returns-in-DeleteAll-clause-length : goal.returns-in-DeleteAll-clause-length
unfolding request_role request_fields family_of longest
returns-in-DeleteAll-clause-length c = search (rules, request_said)

pub returns-in-DeleteAll-clause-bytes : goal.returns-in-DeleteAll-clause-bytes
unfolding request_role request_fields family_of longest
returns-in-DeleteAll-clause-bytes c = search (rules, request_said)

pub returns-in-DeleteAll-clause-written : goal.returns-in-DeleteAll-clause-written
unfolding request_role request_fields family_of longest
returns-in-DeleteAll-clause-written c = search (rules, request_said)

pub returns-in-Resend-clause-length : goal.returns-in-Resend-clause-length
unfolding request_role request_fields family_of longest
returns-in-Resend-clause-length c = search (rules, request_said)

pub returns-in-Resend-clause-bytes : goal.returns-in-Resend-clause-bytes
unfolding request_role request_fields family_of longest
returns-in-Resend-clause-bytes c = search (rules, request_said)

pub returns-in-Resend-clause-written : goal.returns-in-Resend-clause-written
unfolding request_role request_fields family_of longest
returns-in-Resend-clause-written c = search (rules, request_said)
