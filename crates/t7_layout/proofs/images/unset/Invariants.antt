use Rattle.std.proofs.Common.{◌≡◌, take}
use Rattle.t7_layout.specs.Images.{unset_bytes}
use Rattle.t7_layout.proofs.images.unset.Given as goal

abbrev pub invariant-loop-field : goal.invariant-loop-field
invariant-loop-field l = l.bytes.items ≡ unset_bytes (take l.field-index l.fields)
