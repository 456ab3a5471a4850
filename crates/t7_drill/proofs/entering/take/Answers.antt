-- On a connection that isn't open bytes change nothing.
use Rattle.std.proofs.Common.{◌≡◌, ℕ, List, sym}
use Rattle.std.proofs.lemmas.List.{append-nil}
use Rattle.t7_entry.specs.Days.{Day, day_after}
use Rattle.t7_entry.specs.Events.{Bytes, bytes}
use Rattle.t7_entry.specs.Stalls.{IsShut}
use Rattle.t7_drill.proofs.entering.take.Goals as goal

shut_bytes : (day : Day) (conn moment : ℕ) (piece : List ℕ) → IsShut day conn → day_after day (Bytes conn piece moment) ≡ day
unfolding bytes
shut_bytes day conn moment piece shut = let e = shut.input in simp (e, append-nil)

pub returns-then-not-is_open : goal.returns-then-not-is_open
returns-then-not-is_open c = sym (shut_bytes c.args.exchange.now c.args.conn c.args.moment c.args.bytes.now c.if-not-is_open.ensures)
