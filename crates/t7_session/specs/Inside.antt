-- What always holds of the parts of a session.
use Rattle.std.specs.Prelude.{◌≡◌, ℕ, ◌<◌, List, Option, IsNone, IsSome, IfSome}
use Rattle.t7_frames.specs.Frames.{front_of, IsWhole}
use Rattle.t7_eti.specs.declared.request.Request.{Request}
use Rattle.t7_session.specs.Steps.{number_asked}

-- what is asked stands whole at the front, a request with a number leaves one for the next, and a logon has the first
pub record IsSession (untreated : List ℕ) (session : Option ℕ) (next : ℕ) (asked : Option Request) : Type 0 where
  pub front : IsSome asked → IsWhole (front_of untreated)
  pub room : IfSome (number_asked asked) (λ n. next < 4_294_967_295)
  pub first : IsNone session → next ≡ 1
