-- What a take of a snapshot datagram answers, and what it leaves once its answer is let go.
use Rattle.std.specs.Prelude.{◌≡◌, ℕ, ◌≤◌, List, [], Option, Some, None, ⊤}
use Rattle.std.specs.Borrow.{follows_so, MutBor, Fml}
use mathlib.Core.Option.{none}
use mir.Syntax.{named}
use Rattle.t7_snapshot.specs.declared.whole.WholeSnapshot.{WholeSnapshot}
use Rattle.t7_snapshot.specs.contracts.assembler.Assembler.{the_row}
use Rattle.t7_feed.specs.Cycles.{Section, Run, Finds}
use Rattle.t7_snapshot.specs.Store.{Store, seen, Takes}

-- the whole snapshot is the cycle of these sections
pub record IsCycle (whole : WholeSnapshot) (parts : List Section) : Type 0 where
  pub run : Run whole.store.now.terms.listing.securities (seen whole.store.now) whole.number whole.first whole.last parts

-- the whole snapshot is the cycle in which datagram i stands
pub record IsWhole (i : ℕ) (whole : WholeSnapshot) : Type 0 where
  pub from : whole.first ≤ i
  pub upto : i ≤ whole.last
  pub parts : List Section
  pub cycle : IsCycle whole parts

-- a whole snapshot is answered exactly where datagram i stands in a run of kept datagrams that spells one cycle, and it is that cycle
abbrev pub Answers : Store → ℕ → Option WholeSnapshot → Type 0
Answers store i None = (m : ℕ) (parts : List Section) → Finds store.terms.listing.securities (seen store) i m parts → ⊥
Answers store i (Some whole) = (whole.store.now ≡ store) × IsWhole i whole

-- the assembler took datagram i and answered so
abbrev pub Took : Store → ℕ → List ℕ → Option WholeSnapshot → Store → Type 0
Took old i bytes result new = Takes i bytes old new × Answers new i result

-- so it stands once the answer, which borrows the assembler, is let go
abbrev pub TakesLent : MutBor Store → ℕ → List ℕ → Option WholeSnapshot → Fml
TakesLent s i bytes result = follows_so (the_row (record { mir = named 0; lft = [] })) (the_row (record { mir = named 0; lft = [] })) s.ghost_name none (λ _ _. ⊤) (λ new. Took s.now i bytes result new)
