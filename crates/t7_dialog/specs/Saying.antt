-- What an exchange says on one connection.
use Rattle.std.specs.Prelude.{ℕ, ◌==◌, if◌then◌else◌, Bool, true, false, List, [], ◌∷◌, map}
use Rattle.std.specs.List.{concat}
use Rattle.t7_layout.specs.Layouts.{Layout}
use Rattle.t7_fields.specs.Writing.{IsWritten}
use Rattle.t7_eti.specs.declared.response.Response.{Response}
use Rattle.t7_eti.specs.Saying.{IsRanged, response_bytes, response_fields, response_role}
use Rattle.t7_entry.specs.State.{Doing, closes, replies, sends, tells}

-- the responses that go out on a connection among what was done, up to its close
abbrev pub said_on : ℕ → List Doing → List Response
said_on conn [] = []
said_on conn (tells messages ∷ doings) = said_on conn doings
said_on conn (replies (sends other said) ∷ doings) = if conn == other then said ∷ said_on conn doings else said_on conn doings
said_on conn (replies (closes other) ∷ doings) = if conn == other then [] else said_on conn doings

-- the connection is closed among what was done
abbrev pub is_shut : ℕ → List Doing → Bool
is_shut conn [] = false
is_shut conn (tells messages ∷ doings) = is_shut conn doings
is_shut conn (replies (sends other said) ∷ doings) = is_shut conn doings
is_shut conn (replies (closes other) ∷ doings) = if conn == other then true else is_shut conn doings

-- the bytes of responses, one behind another
abbrev pub bytes_of : List Layout → List Response → List ℕ
bytes_of layouts responses = concat (map (response_bytes layouts) responses)

-- the bytes of a response say it and nothing else, and its quantities and prices are in their ranges
pub record IsSaid (layouts : List Layout) (said : Response) : Type 0 where
  pub written : IsWritten layouts (response_role said) (response_fields said) (response_bytes layouts said)
  pub ranged : IsRanged said

-- so are those of each of these
abbrev pub AreSaid : List Layout → List Response → Type 0
AreSaid layouts [] = Unit {0}
AreSaid layouts (said ∷ more) = IsSaid layouts said × AreSaid layouts more
