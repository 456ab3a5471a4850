-- What a client of a session asks on its connection.
use Rattle.std.specs.Prelude.{◌≡◌, ℕ, List, [], ◌∷◌, map}
use Rattle.std.specs.List.{concat}
use Rattle.t7_layout.specs.Layouts.{Layout}
use Rattle.t7_fields.specs.Writing.{AreSized}
use Rattle.t7_eti.specs.declared.request.Request.{Request}
use Rattle.t7_eti.specs.declared.request.Request.TheVariants as request
use Rattle.t7_eti.specs.Requests.{IsAskable}
use Rattle.t7_eti.specs.Saying.{EachOrdinary, request_bytes, request_fields}

-- a request that logs on names the session
abbrev pub IsOf : ℕ → Request → Type 0
IsOf session (request.Logon seq heart other) = other ≡ session
IsOf session other = Unit {0}

-- a client of a session may make a request: it is of that session, and its numbers are ones of their types that stand for no value in no field
pub record IsMade (session : ℕ) (asked : Request) : Type 0 where
  pub own : IsOf session asked
  pub askable : IsAskable asked
  pub ordinary : EachOrdinary (request_fields asked)
  pub sized : AreSized (request_fields asked)

-- it may make each of these
abbrev pub AreMade : ℕ → List Request → Type 0
AreMade session [] = Unit {0}
AreMade session (asked ∷ more) = IsMade session asked × AreMade session more

-- bytes are whole requests that a client of a session may make
pub record AreAsked (layouts : List Layout) (session : ℕ) (bytes : List ℕ) : Type 0 where
  pub requests : List Request
  pub whole : bytes ≡ concat (map (request_bytes layouts) requests)
  pub made : AreMade session requests
