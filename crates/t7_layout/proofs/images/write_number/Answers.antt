use Rattle.std.proofs.Common.{◌∙◌, ◌++◌, ap, drop, List, ℕ, rules, w64}
use Rattle.std.specs.Int.{w128}
use Rattle.std.proofs.lemmas.Int.{to_z-of_z}
use Rattle.t7_layout.specs.Images.{IsHeld, complement, number_bytes}
use Rattle.t7_layout.proofs.BytesFacts.{held_long, low_written}
use Rattle.t7_layout.proofs.images.write_number.Goals as goal

pub overflow_cast-n : goal.overflow_cast-n
overflow_cast-n c =
    let long = held_long c.args.kind c.args.width c.args.n c.in-Unsigned.is c.requires.high c.requires.held in
    rw (to_z-of_z w128 c.args.n c.ranges.n, long.is) (search rules)

pub write_uint-requires-clause-fits : goal.write_uint-requires-clause-fits
unfolding IsHeld
write_uint-requires-clause-fits c = search rules

pub overflow_cast-n-in-Signed : goal.overflow_cast-n-in-Signed
unfolding IsHeld
overflow_cast-n-in-Signed c = search rules

pub unreachable-requires : goal.unreachable-requires
unfolding IsHeld
unreachable-requires c = search rules

pub returns-in-Unsigned : goal.returns-in-Unsigned
unfolding IsHeld number_bytes complement
returns-in-Unsigned c = search rules

pub returns-in-Signed : goal.returns-in-Signed
unfolding IsHeld
returns-in-Signed c =
    let low = low_written c.args.width c.args.n c.requires.low c.requires.high (rw c.in-Signed.is at c.requires.held) in
    search (rules, low)
