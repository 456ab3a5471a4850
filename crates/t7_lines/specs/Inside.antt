-- What contracts see of a gap buffer, and what its ring always keeps.
use Rattle.std.specs.Prelude.{◌≡◌, length}
use Rattle.t7_lines.specs.declared.gap.GapBuffer.TheInside.{Inside}
use Rattle.t7_lines.specs.Gap.{Gap}
use Rattle.t7_lines.specs.Ring.{IsPlaced, entries}

-- a gap buffer as contracts see it
abbrev pub gap_of : Inside → Gap
gap_of g = record { window = g.window; highest = g.highest; kept = entries g.window g.highest g.ring.items; tallies = g.tallies }

-- there are as many places as the window has numbers, and each message stands at its place
pub record IsRing (g : Inside) : Type 0 where
  pub full : length g.ring.items ≡ g.window
  pub placed : IsPlaced g.window g.highest 0 g.ring.items
