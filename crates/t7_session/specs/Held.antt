-- What a session holds.
use Rattle.std.specs.Prelude.{ℕ, List, Option, None, []}
use Rattle.t7_eti.specs.declared.request.Request.{Request}

-- a connection's bytes, its session and its heartbeats
pub record Held : Type 0 where
  -- the bytes that were not treated yet
  pub untreated : List ℕ
  -- the session that is logged on
  pub session : Option ℕ
  -- the number that the next request has to have
  pub next : ℕ
  -- the heartbeat interval in milliseconds, within its limits
  pub heart : ℕ
  -- the moments of the last receipt and of the last sending
  pub received : ℕ
  pub sent : ℕ
  -- what the front frame asks, from the step that said so until it is done
  pub asked : Option Request

-- a connection that has just been opened
abbrev pub opened : Held
opened = record { untreated = []; session = None; next = 1; heart = 0; received = 0; sent = 0; asked = None }
