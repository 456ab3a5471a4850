use Rattle.std.proofs.Common.{◌≡◌, drop, take, map}
use Rattle.t7_layout.specs.Tables.{row_name}
use Rattle.t7_layout.proofs.fields.names_of.Given as goal

abbrev pub invariant-loop-place : goal.invariant-loop-place
invariant-loop-place l = map (λ n. n.items) l.names.items ≡ map row_name (drop l.start (take l.place l.rows))
