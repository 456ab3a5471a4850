use Rattle.std.proofs.Common.{◌≡◌, ap, replicate}
use Rattle.std.proofs.lemmas.List.{length-replicate}
use Rattle.t7_lines.specs.Gap.{no_tallies}
use Rattle.t7_lines.proofs.Rings.{no_entry, free_entries, free_placed, free_ring}
use Rattle.t7_lines.proofs.gap.GapBuffer.new.Goals as goal

-- all places are free
all_free : (c : goal.After-new) → c.resize.new.self.items ≡ replicate c.args.window no_entry
all_free c = free_ring c.args.window _ c.resize.new.self.items c.new-ring.result.items c.new-ring.ensures.items c.new-ring.ensures.len c.in_ok-resize.ensures.items

pub invariant_of-result : goal.invariant_of-result
invariant_of-result c = record {
  full = rw (all_free c) (length-replicate c.args.window no_entry);
  placed = rw (all_free c) (free_placed c.args.window 0 0 c.args.window);
}

pub returns : goal.returns
returns c = rw (all_free c, c.new.ensures) (ap (λ x. record { window = c.args.window; highest = 0; kept = x; tallies = no_tallies }) (free_entries c.args.window 0 c.args.window))
