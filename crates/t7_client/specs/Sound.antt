-- What always holds of a client: each of its requests has a number below the greatest of 32 bits.
use Rattle.std.specs.Prelude.{ℕ, ◌+◌, ◌*◌, ◌^◌, ◌≤◌, Bool, true, false, if◌then◌else◌, Option, Some, None, length}
use Rattle.t7_eti.specs.declared.response.Response.{Response}
use Rattle.t7_eti.specs.declared.response.Response.TheVariants as response
use Rattle.t7_client.specs.declared.machine.Answer.{Answer}
use Rattle.t7_client.specs.Recovering.{Recovery}

-- how many requests a client may still make for an answer
abbrev pub owed : Option Answer → ℕ
owed None = 0
owed (Some answer) = if answer.asked then 0 else 1

-- a response for which a client may make a request of its own
abbrev pub asks : Response → Bool
asks (response.Logon seq heart) = true
asks (response.Resent seq count last known) = true
asks other = false

-- The session is one of a product. A client makes a request of its own for at most one in sixteen of the bytes that it treats, as a
-- LogonResponse or an answer has as many; and the bytes, the orders and the logouts are few.
pub record IsSound (client : Recovery) : Type 0 where
  pub least : 1 ≤ client.session
  pub most : client.session ≤ 4_000_000_000
  pub numbers : 16 * (client.next + owed client.answer) ≤ 16 * (2 + client.made) + client.treated
  pub made : client.made ≤ 1_000_000_000
  pub few : client.treated + length client.rest ≤ 2 ^ 35
