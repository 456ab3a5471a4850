use Rattle.std.proofs.Common.{◌≡◌, drop, map}
use Rattle.t7_layout.specs.Lookups.{find_field}
use Rattle.t7_layout.proofs.templates.find_field.Given as goal

abbrev pub invariant-loop-i : goal.invariant-loop-i
invariant-loop-i l =
    find_field l.family l.name (map (λ n. n.items) l.names) l.fields
    ≡ find_field l.family l.name (drop l.i (map (λ n. n.items) l.names)) (drop l.i l.fields)
