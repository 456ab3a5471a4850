use Rattle.std.proofs.Common.{◌≡◌, ℕ, List, None, length}
use Rattle.std.specs.List.{filter_map}
use Rattle.t7_layout.specs.Layouts.{Layout}
use Rattle.t7_base.specs.declared.ids.Channel.TheVariants as channels
use Rattle.t7_eobi.specs.Datagrams.{live_of, messages_of}
use Rattle.t7_eobi.specs.Faults.{fault_from}
use Rattle.t7_eobi.proofs.walks.next_live.Given as goal

-- what is left has no fault, and its items are those of the whole
pub record Left (layouts : List Layout) (bytes rest : List ℕ) : Type 0 where
  pub sound : fault_from layouts channels.Live 0 0 rest ≡ None
  pub items : filter_map (live_of layouts) (messages_of bytes) ≡ filter_map (live_of layouts) (messages_of rest)

abbrev pub invariant-loop-rest : goal.invariant-loop-rest
invariant-loop-rest l = Left l.table l.bytes l.rest

abbrev pub decreases-loop-rest : goal.decreases-loop-rest
decreases-loop-rest l = length l.rest
