use Rattle.std.proofs.Common.{arith, length, ap}
use Rattle.t7_layout.specs.Images.{unset_bytes}
use Rattle.t7_layout.proofs.ImageFacts.{unset_length}
use Rattle.t7_layout.proofs.images.image_of.Goals as goal

pub write_header-requires-clause-room : goal.write_header-requires-clause-room
write_header-requires-clause-room c =
    let long = unset_length 0 c.args.fields.now c.args.size c.requires.laid in
    let bytes = ap length c.deref_mut.ensures.value in
    let same = ap length c.in_ok-bytes.ensures in
    omega arith
