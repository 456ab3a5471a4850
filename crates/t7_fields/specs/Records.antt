-- The record that the bytes of a message are read as.
use Rattle.std.specs.Prelude.{ℕ, List, map}
use Rattle.t7_layout.specs.declared.words.Kind.{Kind}
use Rattle.t7_layout.specs.declared.words.Kind.TheVariants.{Raw}
use Rattle.t7_layout.specs.Layouts.{Layout, Place}
use Rattle.t7_fields.specs.Spelling.{Value, Number, Bytes, raw_at}
use Rattle.t7_fields.specs.Messages.{number_as}

-- the value that a field's bytes are read as
unfoldable pub value_as : Kind → Place → List ℕ → Value
value_as Raw f b = Bytes (raw_at f b)
value_as kind f b = Number (number_as kind f b)

-- the values of a template's fields
unfoldable pub record_in : Layout → List ℕ → List Value
record_in t b = map (λ f. value_as f.kind f b) t.fields
