-- What a view keeps beside what it says. No contract of a public call speaks of it.
use Rattle.std.specs.Prelude.{ℕ, List}
use Rattle.t7_layout.specs.Layouts.{IsLayout, Layout}
use Rattle.t7_fields.specs.Spelling.{Fits}

-- a whole template, and bytes that it is laid over
pub record IsLaid (t : Layout) (b : List ℕ) : Type 0 where
  pub layout : IsLayout t
  pub fits : Fits t b
