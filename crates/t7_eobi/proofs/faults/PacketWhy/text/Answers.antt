use Rattle.std.proofs.Common.{rules}
use Rattle.t7_eobi.specs.Faults.{why_text}
use Rattle.t7_eobi.proofs.faults.PacketWhy.text.Goals as goal

pub returns-in-TooLong : goal.returns-in-TooLong
unfolding why_text
returns-in-TooLong c = search rules

pub returns-in-Cut : goal.returns-in-Cut
unfolding why_text
returns-in-Cut c = search rules

pub returns-in-NoHeader : goal.returns-in-NoHeader
unfolding why_text
returns-in-NoHeader c = search rules

pub returns-in-Length : goal.returns-in-Length
unfolding why_text
returns-in-Length c = search rules

pub returns-in-Null : goal.returns-in-Null
unfolding why_text
returns-in-Null c = search rules

pub returns-in-Value : goal.returns-in-Value
unfolding why_text
returns-in-Value c = search rules

pub returns-in-Product : goal.returns-in-Product
unfolding why_text
returns-in-Product c = search rules
