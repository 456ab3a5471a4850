use Rattle.std.proofs.Common.{◌≡◌, ◌++◌, take}
use Rattle.std.specs.List.{flat_map}
use Rattle.t7_layout.specs.Texts.{line_of}
use Rattle.t7_layout.proofs.text.push_lines.Given as goal

abbrev pub invariant-loop-template : goal.invariant-loop-template
invariant-loop-template l = l.out.items ≡ l.initial.out.items ++ flat_map line_of (take l.template-index l.templates)
