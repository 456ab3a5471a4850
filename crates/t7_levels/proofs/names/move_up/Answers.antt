use Rattle.std.proofs.Common.{◌-◌, sym, refl, ◌∙◌, arith}
use Rattle.std.proofs.lemmas.List.{length-set}
use Rattle.std.specs.List.{remove}
use Rattle.t7_levels.proofs.HoleLemmas.{insert_back, length_remove, slide_on, slide_end}
use Rattle.t7_levels.proofs.names.move_up.Goals as goal

pub loop-place-init : goal.loop-place-init
loop-place-init g c = record {
  low = c.requires.order;
  high = omega arith;
  moved = λ d. sym (insert_back c.args.entries.now.items c.args.hole d c.requires.within);
  size = refl;
  capacity = refl;
}

pub loop-place-preserved : goal.loop-place-preserved
loop-place-preserved g c =
    let rest = remove c.args.entries.now.items c.args.hole in
    let size = length_remove c.args.entries.now.items c.args.hole c.requires.within in
    record {
      low = omega (arith, c.loop-place-test.true);
      high = omega (arith, c.loop-place.invariant.high);
      moved = λ d. slide_on rest c.loop-place.entries.items c.loop-place.place (c.loop-place.place - 1) c.index.result.now (omega (arith, c.loop-place-test.true)) (omega (arith, size, c.requires.within, c.loop-place.invariant.high, c.loop-place-test.true)) c.loop-place.invariant.moved c.index.ensures d;
      size = length-set c.loop-place.entries.items c.loop-place.place c.index.result.now ∙ c.loop-place.invariant.size;
      capacity = c.loop-place.invariant.capacity;
    }

pub returns-clause-items : goal.returns-clause-items
returns-clause-items g c =
    let rest = remove c.args.entries.now.items c.args.hole in
    let size = length_remove c.args.entries.now.items c.args.hole c.requires.within in
    slide_end rest c.loop-place.entries.items c.loop-place.place c.args.at c.args.entry (omega (arith, c.loop-place-test.false, c.loop-place.invariant.low)) (omega (arith, size, c.requires.within, c.requires.order)) c.loop-place.invariant.moved
