use Rattle.std.proofs.Common.{◌∙◌, arith, refl}
use Rattle.t7_layout.proofs.ImageFacts.{body_width, length_room, length_width_is}
use Rattle.t7_layout.proofs.images.write_header.Goals as goal

pub write_at-requires-clause-low : goal.write_at-requires-clause-low
write_at-requires-clause-low c =
    let wide = length_width_is c.args.family in
    let e = c.width-width.ensures ∙ body_width c.args.family in
    omega arith

pub write_at-requires-clause-high : goal.write_at-requires-clause-high
write_at-requires-clause-high c =
    let wide = length_width_is c.args.family in
    let e = c.width-width.ensures ∙ body_width c.args.family in
    omega arith

pub write_at-requires-clause-room : goal.write_at-requires-clause-room
write_at-requires-clause-room c =
    let wide = length_width_is c.args.family in
    let e = c.width-width.ensures ∙ body_width c.args.family in
    omega arith

pub write_at-requires-clause-fits : goal.write_at-requires-clause-fits
write_at-requires-clause-fits c = rw (c.width-width.ensures ∙ body_width c.args.family) (length_room c.args.family c.args.size c.requires.short)

pub write_at-requires-2-clause-room : goal.write_at-requires-2-clause-room
write_at-requires-2-clause-room c =
    let wide = length_width_is c.args.family in
    let e = c.width-width.ensures ∙ body_width c.args.family in
    let same = c.write_at.ensures.same_length in
    omega arith

pub returns-clause-bytes : goal.returns-clause-bytes
returns-clause-bytes c =
    let e = c.width-width.ensures ∙ body_width c.args.family in
    rw (c.write_at-2.ensures.bytes, c.write_at.ensures.bytes, e) refl
