-- Replies that may be written by every table.
use Rattle.t7_eti.specs.declared.response.Response.{Response}
use Rattle.t7_eti.specs.Saying.{EachOrdinary, response_fields}
use Rattle.t7_entry.specs.State.{Reply, closes, sends}

-- no number of a response may be one that stands for no value
abbrev pub IsSayable : Response → Type 0
IsSayable r = EachOrdinary (response_fields r)

-- nor one of a reply that is a response
abbrev pub CanBeSaid : Reply → Type 0
CanBeSaid (sends conn r) = IsSayable r
CanBeSaid (closes conn) = Unit {0}
