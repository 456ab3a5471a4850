use Rattle.std.proofs.Common.{◌≡◌, drop, take, map}
use Rattle.t7_layout.specs.Tables.{place_of}
use Rattle.t7_layout.proofs.fields.fields_of.Given as goal

abbrev pub invariant-loop-place : goal.invariant-loop-place
invariant-loop-place l = l.fields.items ≡ map (place_of l.size) (drop l.start (take l.place l.rows))
