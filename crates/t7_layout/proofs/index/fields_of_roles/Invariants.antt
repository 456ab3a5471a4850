use Rattle.std.proofs.Common.{◌≡◌, map, take}
use Rattle.std.specs.List.{flat_map}
use Rattle.t7_layout.specs.Inside.{field_in}
use Rattle.t7_layout.proofs.index.fields_of_roles.Given as goal

abbrev pub invariant-loop-role : goal.invariant-loop-role
invariant-loop-role l = l.fields.items ≡ flat_map (λ role. map (field_in l.templates role) l.names) (take l.role-index l.roles)
