-- The program of the drill as contracts see it.
use Rattle.t7_drill.specs.declared.day.Drill.TheInside.{Inside}
use Rattle.t7_drill.specs.Kits.{Kit}

-- the program as contracts see it
abbrev pub kit_of : Inside → Kit
kit_of d = record {
  layouts = d.table.now;
  draw = d.draw;
  day = d.exchange;
  first = d.first;
  second = d.second;
  rejects = d.rejects;
  copies = d.copies.items;
  image = d.member;
}
