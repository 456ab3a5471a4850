use Rattle.std.proofs.Common.{rules}
use Rattle.t7_eti.specs.Saying.{kept_role}
use Rattle.t7_eti.proofs.SayingFacts.{kept_said}
use Rattle.t7_eti.specs.Saying.{kept_fields}
use Rattle.t7_layout.specs.Roles.{family_of}
use Rattle.t7_fields.specs.Writing.{longest}
use Rattle.t7_eti.proofs.write.say_kept.Goals as goal

pub write-requires-in-Exec-clause-said : goal.write-requires-in-Exec-clause-said
unfolding kept_role
write-requires-in-Exec-clause-said c =
    let said = kept_said c.args.table.now c.args.number c.args.what.now c.requires.known in
    let here = rw c.in-Exec.is at said in
    rw c.executed-fields.ensures.fields (search (rules, here))

pub write-requires-clause-room : goal.write-requires-clause-room
unfolding kept_role kept_fields family_of longest
write-requires-clause-room c = search (rules, kept_said)

pub write-requires-clause-said : goal.write-requires-clause-said
unfolding kept_role kept_fields family_of longest
write-requires-clause-said c = search (rules, kept_said)

pub write-requires-in-Changed-clause-room : goal.write-requires-in-Changed-clause-room
unfolding kept_role kept_fields family_of longest
write-requires-in-Changed-clause-room c = search (rules, kept_said)

pub write-requires-in-Changed-clause-said : goal.write-requires-in-Changed-clause-said
unfolding kept_role kept_fields family_of longest
write-requires-in-Changed-clause-said c = search (rules, kept_said)

pub write-requires-in-Deleted-clause-room : goal.write-requires-in-Deleted-clause-room
unfolding kept_role kept_fields family_of longest
write-requires-in-Deleted-clause-room c = search (rules, kept_said)

pub write-requires-in-Deleted-clause-said : goal.write-requires-in-Deleted-clause-said
unfolding kept_role kept_fields family_of longest
write-requires-in-Deleted-clause-said c = search (rules, kept_said)

pub write-requires-in-DeletedAll-clause-room : goal.write-requires-in-DeletedAll-clause-room
unfolding kept_role kept_fields family_of longest
write-requires-in-DeletedAll-clause-room c = search (rules, kept_said)

pub write-requires-in-DeletedAll-clause-said : goal.write-requires-in-DeletedAll-clause-said
unfolding kept_role kept_fields family_of longest
write-requires-in-DeletedAll-clause-said c = search (rules, kept_said)

pub write-requires-in-Cleared-clause-room : goal.write-requires-in-Cleared-clause-room
unfolding kept_role kept_fields family_of longest
write-requires-in-Cleared-clause-room c = search (rules, kept_said)

pub write-requires-in-Cleared-clause-said : goal.write-requires-in-Cleared-clause-said
unfolding kept_role kept_fields family_of longest
write-requires-in-Cleared-clause-said c = search (rules, kept_said)

pub write-requires-in-Exec-clause-room : goal.write-requires-in-Exec-clause-room
unfolding kept_role kept_fields family_of longest
write-requires-in-Exec-clause-room c = search (rules, kept_said)

pub returns-in-New-clause-length : goal.returns-in-New-clause-length
unfolding kept_role kept_fields family_of longest
returns-in-New-clause-length c = search (rules, kept_said)

pub returns-in-New-clause-bytes : goal.returns-in-New-clause-bytes
unfolding kept_role kept_fields family_of longest
returns-in-New-clause-bytes c = search (rules, kept_said)

pub returns-in-New-clause-written : goal.returns-in-New-clause-written
unfolding kept_role kept_fields family_of longest
returns-in-New-clause-written c = search (rules, kept_said)

pub returns-in-Changed-clause-length : goal.returns-in-Changed-clause-length
unfolding kept_role kept_fields family_of longest
returns-in-Changed-clause-length c = search (rules, kept_said)

pub returns-in-Changed-clause-bytes : goal.returns-in-Changed-clause-bytes
unfolding kept_role kept_fields family_of longest
returns-in-Changed-clause-bytes c = search (rules, kept_said)

pub returns-in-Changed-clause-written : goal.returns-in-Changed-clause-written
unfolding kept_role kept_fields family_of longest
returns-in-Changed-clause-written c = search (rules, kept_said)

pub returns-in-Deleted-clause-length : goal.returns-in-Deleted-clause-length
unfolding kept_role kept_fields family_of longest
returns-in-Deleted-clause-length c = search (rules, kept_said)

pub returns-in-Deleted-clause-bytes : goal.returns-in-Deleted-clause-bytes
unfolding kept_role kept_fields family_of longest
returns-in-Deleted-clause-bytes c = search (rules, kept_said)

pub returns-in-Deleted-clause-written : goal.returns-in-Deleted-clause-written
unfolding kept_role kept_fields family_of longest
returns-in-Deleted-clause-written c = search (rules, kept_said)

pub returns-in-DeletedAll-clause-length : goal.returns-in-DeletedAll-clause-length
unfolding kept_role kept_fields family_of longest
returns-in-DeletedAll-clause-length c = search (rules, kept_said)

pub returns-in-DeletedAll-clause-bytes : goal.returns-in-DeletedAll-clause-bytes
unfolding kept_role kept_fields family_of longest
returns-in-DeletedAll-clause-bytes c = search (rules, kept_said)

pub returns-in-DeletedAll-clause-written : goal.returns-in-DeletedAll-clause-written
unfolding kept_role kept_fields family_of longest
returns-in-DeletedAll-clause-written c = search (rules, kept_said)

pub returns-in-Cleared-clause-length : goal.returns-in-Cleared-clause-length
unfolding kept_role kept_fields family_of longest
returns-in-Cleared-clause-length c = search (rules, kept_said)

pub returns-in-Cleared-clause-bytes : goal.returns-in-Cleared-clause-bytes
unfolding kept_role kept_fields family_of longest
returns-in-Cleared-clause-bytes c = search (rules, kept_said)

pub returns-in-Cleared-clause-written : goal.returns-in-Cleared-clause-written
unfolding kept_role kept_fields family_of longest
returns-in-Cleared-clause-written c = search (rules, kept_said)

pub returns-in-Exec-clause-length : goal.returns-in-Exec-clause-length
unfolding kept_role kept_fields family_of longest
returns-in-Exec-clause-length c = search (rules, kept_said)

pub returns-in-Exec-clause-bytes : goal.returns-in-Exec-clause-bytes
unfolding kept_role kept_fields family_of longest
returns-in-Exec-clause-bytes c = search (rules, kept_said)

pub returns-in-Exec-clause-written : goal.returns-in-Exec-clause-written
unfolding kept_role kept_fields family_of longest
returns-in-Exec-clause-written c = search (rules, kept_said)
