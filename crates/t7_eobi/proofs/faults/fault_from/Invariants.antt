use Rattle.std.proofs.Common.{◌≡◌, ◌+◌, ◌<◌, ◌^◌, ℕ, List, length}
use Rattle.t7_layout.specs.Layouts.{Layout}
use Rattle.t7_base.specs.declared.ids.Channel.{Channel}
use Rattle.t7_eobi.specs.Faults.{fault_from}
use Rattle.t7_eobi.proofs.faults.fault_from.Given as goal

-- the faults that are left are those of the whole
pub record Left (layouts : List Layout) (channel : Channel) (start : ℕ) (bytes : List ℕ) (place : ℕ) (rest : List ℕ) : Type 0 where
  pub same : fault_from layouts channel place 0 rest ≡ fault_from layouts channel start 0 bytes
  pub room : place + length rest < 2 ^ 63

abbrev pub invariant-loop-rest : goal.invariant-loop-rest
invariant-loop-rest l = Left l.table l.channel l.start l.bytes l.place l.rest

abbrev pub decreases-loop-rest : goal.decreases-loop-rest
decreases-loop-rest l = length l.rest
