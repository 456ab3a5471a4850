use Rattle.std.proofs.Common.{◌≡◌, ◌++◌, map, take}
use Rattle.t7_layout.specs.Inside.{field_in}
use Rattle.t7_layout.proofs.index.push_fields.Given as goal

abbrev pub invariant-loop-name : goal.invariant-loop-name
invariant-loop-name l = l.fields.items ≡ l.initial.fields.items ++ map (field_in l.templates l.role) (take l.name-index l.names)
