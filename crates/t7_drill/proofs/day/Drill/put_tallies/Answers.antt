-- The four lines, one behind another.
use Rattle.std.proofs.Common.{ap, [], ◌∷◌, ◌++◌}
use Rattle.t7_base.specs.declared.ids.Feed.TheVariants.{LiveA, LiveB, SnapA, SnapB}
use Rattle.t7_lines.specs.Gap.{tally_of}
use Rattle.t7_drill.specs.Kits.{Kit}
use Rattle.t7_drill.specs.Telling.{tally_line}
use Rattle.t7_drill.proofs.TellingFacts.{lines_behind, tally_said}
use Rattle.t7_drill.proofs.day.Drill.put_tallies.Goals as goal

pub returns : goal.returns
returns c =
    let kit = c.args.self.now in
    let image = c.self.inside.member in
    let same = ap (λ (k : Kit). k.image) c.self.view_is in
    let a = tally_said _ c.put_tally.new.text.items LiveA c.tally.result image kit c.in_ok-put_tally.ensures c.tally.ensures same in
    let b = tally_said _ c.put_tally-2.new.text.items LiveB c.tally-2.result image kit c.in_ok-put_tally-2.ensures c.tally-2.ensures same in
    let d = tally_said _ c.put_tally-3.new.text.items SnapA c.tally-3.result image kit c.in_ok-put_tally-3.ensures c.tally-3.ensures same in
    let e = tally_said _ c.put_tally-4.new.text.items SnapB c.tally-4.result image kit c.in_ok-put_tally-4.ensures c.tally-4.ensures same in
    let text = c.args.text.now.items in
    let la = tally_line LiveA (tally_of kit.image.tallies LiveA) ∷ [] in
    let lb = tally_line LiveB (tally_of kit.image.tallies LiveB) ∷ [] in
    let sa = tally_line SnapA (tally_of kit.image.tallies SnapA) ∷ [] in
    let sb = tally_line SnapB (tally_of kit.image.tallies SnapB) ∷ [] in
    lines_behind text c.put_tally-3.new.text.items c.put_tally-4.new.text.items (la ++ lb ++ sa) sb
    (lines_behind text c.put_tally-2.new.text.items c.put_tally-3.new.text.items (la ++ lb) sa
    (lines_behind text c.put_tally.new.text.items c.put_tally-2.new.text.items la lb a b) d) e
