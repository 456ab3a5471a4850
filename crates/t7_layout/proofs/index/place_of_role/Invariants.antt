use Rattle.std.proofs.Common.{◌≡◌, ◌+◌, drop}
use Rattle.t7_layout.specs.Inside.{place_of_role}
use Rattle.t7_layout.proofs.index.place_of_role.Given as goal

abbrev pub invariant-loop-place : goal.invariant-loop-place
invariant-loop-place l = place_of_role l.templates l.role ≡ l.place + place_of_role (drop l.place l.templates) l.role
