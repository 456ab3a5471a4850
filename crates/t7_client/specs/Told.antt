-- What the bytes at the front of a connection say.
use Rattle.std.specs.Prelude.{◌≡◌, ℕ, ◌≤◌, true, List, length, Option, Some, None}
use Rattle.t7_layout.specs.Layouts.{Layout}
use Rattle.t7_frames.specs.Frames.{Front, whole, not_yet, bad_length}
use Rattle.t7_eti.specs.declared.response.Response.{Response}
use Rattle.t7_client.specs.declared.hearing.Told.{Told}
use Rattle.t7_client.specs.declared.hearing.Told.TheVariants.{Nothing, Said, Misfit}
use Rattle.t7_client.specs.Hearing.{response_by}
use Rattle.t7_client.specs.Sound.{asks}

-- a frame says the response that it is
abbrev pub told_as : ℕ → Option Response → Told
told_as count None = Misfit
told_as count (Some said) = Said said count

-- what stands at the front says nothing yet, a response, or none for ever
abbrev pub told_at : List Layout → Front → Told
told_at layouts not_yet = Nothing
told_at layouts (bad_length len) = Misfit
told_at layouts (whole frame) = told_as (length frame) (response_by layouts frame)

-- a response that makes a client ask has at least sixteen bytes
abbrev pub IsLong : Told → Type 0
IsLong Nothing = Unit {0}
IsLong Misfit = Unit {0}
IsLong (Said said count) = asks said ≡ true → 16 ≤ count
