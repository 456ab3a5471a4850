-- What a walk over a whole snapshot has left to tell.
use Rattle.std.specs.Prelude.{ℕ, ◌+◌, List, ◌++◌, length}
use Rattle.t7_base.specs.declared.public.Resting.{Resting}
use Rattle.t7_eobi.specs.Datagrams.{snaps_left}
use Rattle.t7_snapshot.specs.declared.whole.WholeWalk.{WholeWalk}
use Rattle.t7_snapshot.specs.Store.{seen}
use Rattle.t7_snapshot.specs.Whole.{told, snaps_from}

-- the orders that a walk has left to tell
abbrev pub told_left : WholeWalk → List Resting
told_left walk = told walk.security (snaps_left walk.rest ++ snaps_from (seen walk.store.now) walk.next walk.left)

-- how many items and datagrams a walk has left
abbrev pub work_left : WholeWalk → ℕ
work_left walk = length (snaps_left walk.rest ++ snaps_from (seen walk.store.now) walk.next walk.left) + walk.left
