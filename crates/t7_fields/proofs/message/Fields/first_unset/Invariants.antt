use Rattle.std.proofs.Common.{◌≡◌, drop}
use Rattle.t7_fields.specs.Messages.{first_unset}
use Rattle.t7_fields.proofs.message.Fields.first_unset.Given as goal

abbrev pub invariant-loop-name : goal.invariant-loop-name
invariant-loop-name l = first_unset l.self (drop l.name-index l.names) ≡ first_unset l.self l.names
