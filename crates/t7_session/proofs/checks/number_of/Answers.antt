use Rattle.std.proofs.Common.{rules}
use Rattle.t7_eti.specs.Requests.{request_number}
use Rattle.t7_session.proofs.checks.number_of.Goals as goal

pub returns-in-Heartbeat : goal.returns-in-Heartbeat
unfolding request_number
returns-in-Heartbeat c = search rules

pub returns-in-Logon : goal.returns-in-Logon
unfolding request_number
returns-in-Logon c = search rules

pub returns-in-Logon-2 : goal.returns-in-Logon-2
unfolding request_number
returns-in-Logon-2 c = search rules

pub returns-in-Logon-3 : goal.returns-in-Logon-3
unfolding request_number
returns-in-Logon-3 c = search rules

pub returns-in-Logon-4 : goal.returns-in-Logon-4
unfolding request_number
returns-in-Logon-4 c = search rules

pub returns-in-Logon-5 : goal.returns-in-Logon-5
unfolding request_number
returns-in-Logon-5 c = search rules

pub returns-in-Logon-6 : goal.returns-in-Logon-6
unfolding request_number
returns-in-Logon-6 c = search rules

pub returns-in-Logon-7 : goal.returns-in-Logon-7
unfolding request_number
returns-in-Logon-7 c = search rules
