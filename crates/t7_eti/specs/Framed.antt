-- The bytes of a response, as they stand on a connection.
use Rattle.std.specs.Prelude.{◌≡◌, ◌≤◌, List, Some, Ok, length}
use Rattle.t7_layout.specs.Layouts.{Layout}
use Rattle.t7_layout.specs.Lookups.{IsTable, find_role}
use Rattle.t7_fields.specs.Spelling.{Fits}
use Rattle.t7_fields.specs.Writing.{AreKnown, AreSized}
use Rattle.t7_eti.specs.declared.response.Response.{Response}
use Rattle.t7_eti.specs.Responses.{response_in}
use Rattle.t7_eti.specs.Saying.{IsRanged, read_again, response_bytes, response_fields, response_role}

-- The bytes of a response are as many as its template has, 8 to 1,024; BodyLen says their count, so they are a frame; and they are read
-- as the response.
pub record IsFramed (layouts : List Layout) (r : Response) (t : Layout) : Type 0 where
  pub count : length (response_bytes layouts r) ≡ t.size
  pub long : 8 ≤ t.size
  pub short : t.size ≤ 1024
  pub fits : Fits t (response_bytes layouts r)
  pub read : response_in layouts (record { layout = t; bytes = response_bytes layouts r }) ≡ Ok (read_again layouts r)

-- So are those of each response by a valid table, whose numbers are ones of their types and stand for no value in no field.
abbrev pub ResponsesAreFrames : Type 0
ResponsesAreFrames =
    (layouts : List Layout) (r : Response) (t : Layout) → IsTable layouts → find_role layouts (response_role r) ≡ Some t → IsRanged r
    → AreKnown layouts (response_role r) (response_fields r) → AreSized (response_fields r) → IsFramed layouts r t
