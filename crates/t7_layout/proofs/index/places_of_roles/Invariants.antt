use Rattle.std.proofs.Common.{◌≡◌, map, take}
use Rattle.t7_layout.specs.Inside.{place_of_role}
use Rattle.t7_layout.proofs.index.places_of_roles.Given as goal

abbrev pub invariant-loop-role : goal.invariant-loop-role
invariant-loop-role l = l.places.items ≡ map (place_of_role l.templates) (take l.role-index l.roles)
