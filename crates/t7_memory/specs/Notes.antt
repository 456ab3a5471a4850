-- Calls that were noted with their bytes, and what they say.
use Rattle.std.specs.Prelude.{ℕ, List, [], ◌∷◌, ◌++◌, Option, None, Some, map, take, drop, slice_get}
use Rattle.std.specs.Option.{option_map, option_and_then}
use Rattle.t7_base.specs.declared.ids.Feed.{Feed}
use Rattle.t7_memory.specs.declared.kinds.Asking.{Asking}
use Rattle.t7_memory.specs.declared.kinds.Asking.TheVariants.{Listen, Dial}
use Rattle.t7_memory.specs.declared.kinds.Sending.{Sending}
use Rattle.t7_memory.specs.declared.kinds.Sending.TheVariants.{Bytes, Close}
use Rattle.t7_memory.specs.declared.kinds.Binding.{Binding}
use Rattle.t7_net.specs.Lines.{Bind, Casting}
use Rattle.t7_net.specs.Links.{LinkAsk, Listened, Dialed, LinkSent, Gave, Shut}

-- a call of some kind, and its bytes
pub record Note (K : Type 0) : Type 0 where
  pub kind : K
  pub bytes : List ℕ

-- the notes of those kinds, whose bytes have those lengths and stand one after another
abbrev pub notes : {K : Type 0} → List K → List ℕ → List ℕ → List (Note K)
notes [] lengths bytes = []
notes (kind ∷ kinds) [] bytes = []
notes (kind ∷ kinds) (n ∷ lengths) bytes = record { kind = kind; bytes = take n bytes } ∷ notes kinds lengths (drop n bytes)

-- what was noted, where it is still told, and the calls and bytes that there is room for
pub record Noted (K : Type 0) : Type 0 where
  pub told : Option (List (Note K))
  pub calls : ℕ
  pub bytes : ℕ

-- a list that is told, with one thing more at its end
abbrev pub more : {A : Type 0} → Option (List A) → A → Option (List A)
more None last = None
more (Some first) last = Some (first ++ last ∷ [])

-- what stands at a place of a list that is told
abbrev pub told_at : {A : Type 0} → Option (List A) → ℕ → Option A
told_at list at = option_and_then (λ told. slice_get told at) list

-- what a kind of call with these bytes asked of a link
abbrev pub asked_by : Asking → List ℕ → LinkAsk
asked_by (Listen made) bytes = Listened bytes made
asked_by (Dial conn) bytes = Dialed bytes conn

-- what a kind of call with these bytes sent on a link
abbrev pub sent_by : Sending → List ℕ → LinkSent
sent_by (Bytes conn) bytes = Gave conn bytes
sent_by (Close conn) bytes = Shut conn

-- what a kind of call with these bytes bound
abbrev pub bound_by : Binding → List ℕ → Bind
bound_by binding bytes = record { feed = binding.feed; address = bytes; listen = binding.listen }

-- what a call with these bytes cast on a feed
abbrev pub cast_by : Feed → List ℕ → Casting
cast_by feed bytes = record { feed = feed; bytes = bytes }

-- what the notes say, each by its kind and its bytes
abbrev pub calls_by : {K A : Type 0} → (K → List ℕ → A) → Option (List (Note K)) → Option (List A)
calls_by by told = option_map (map (λ note. by note.kind note.bytes)) told
