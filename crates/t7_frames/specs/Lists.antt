-- Vectors of bytes as lists.
use Rattle.std.specs.Prelude.{ℕ, List, map}
use Rattle.std.specs.declared.vec.Vec.{Vec}
use Rattle.std.specs.declared.alloc.Global.{Global}

-- the lists of bytes in a list of vectors
abbrev pub lists : Vec (Vec ℕ Global) Global → List (List ℕ)
lists frames = map (λ frame. frame.items) frames.items
