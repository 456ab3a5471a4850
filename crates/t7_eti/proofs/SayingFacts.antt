-- What is said of a request or a response may be written, and is read again.
use Rattle.std.proofs.Common.{◌≡◌, ℕ, zero, suc, List, [], ◌∷◌, true, Some, None, refl, subst, arith}
use Rattle.std.specs.Prelude.{Contains}
use Rattle.t7_layout.specs.declared.roles.FieldName.{FieldName}
use Rattle.t7_layout.specs.Layouts.{Layout}
use Rattle.t7_layout.specs.Roles.{family_of, kind_of, name_number, required, width_in}
use Rattle.t7_layout.specs.Rows.{kind_text, same_kind}
use Rattle.t7_fields.specs.declared.writer.Scalar.{Scalar}
use Rattle.t7_fields.specs.Messages.{is_among}
use Rattle.t7_fields.specs.Writing.{AreKnown, AreOrdinary, AreSaid, IsOrdinary, can_say, can_say_each, number_kind, number_width}
use Rattle.t7_fields.proofs.WriteFacts.{ordinary_known}
use Rattle.t7_layout.specs.Lookups.{IsTable}
use Rattle.t7_eti.specs.declared.request.Request.{Request}
use Rattle.t7_eti.specs.declared.request.Request.TheVariants as request
use Rattle.t7_eti.specs.declared.response.Kept.{Kept}
use Rattle.t7_eti.specs.declared.response.Kept.TheVariants as kept
use Rattle.t7_eti.specs.declared.response.Response.{Response}
use Rattle.t7_eti.specs.declared.response.Response.TheVariants as response
use Rattle.t7_eti.specs.Saying.{EachOrdinary, kept_fields, kept_role, reject_fields, request_fields, request_role, response_fields, response_role}

-- each field of a request is one that its role requires, of its kind and width, and none stands twice
pub request_fits : (r : Request) → can_say_each (request_role r) (request_fields r) ≡ true
unfolding can_say_each can_say is_among required name_number kind_of width_in family_of same_kind kind_text number_kind number_width request_role request_fields
request_fits (request.Logon seq heart session) = refl
request_fits (request.Logout seq) = refl
request_fits request.Heartbeat = refl
request_fits (request.New seq security side price qty client) = refl
request_fits (request.Modify seq order client price qty) = refl
request_fits (request.Delete seq order client) = refl
request_fits (request.DeleteAll seq security) = refl
request_fits (request.Resend seq after upto) = refl

kept_fits : (n : ℕ) (k : Kept) → can_say_each (kept_role k) (kept_fields n k) ≡ true
unfolding can_say_each can_say is_among required name_number kind_of width_in family_of same_kind kind_text number_kind number_width kept_role kept_fields
kept_fits n (kept.New order client stamp) = refl
kept_fits n (kept.Changed order client stamp) = refl
kept_fits n (kept.Deleted order client) = refl
kept_fits n (kept.DeletedAll security count) = refl
kept_fits n (kept.Cleared security count) = refl
kept_fits n (kept.Exec order side leaves cum last_qty last_price) = refl

pub response_fits : (r : Response) → can_say_each (response_role r) (response_fields r) ≡ true
unfolding can_say_each can_say is_among required name_number kind_of width_in family_of same_kind kind_text number_kind number_width response_role response_fields reject_fields
response_fits (response.Logon seq heart) = refl
response_fits (response.Logout seq) = refl
response_fits response.Beat = refl
response_fits (response.Reject None reason) = refl
response_fits (response.Reject (Some seq) reason) = refl
response_fits (response.Resent seq count last known) = refl
response_fits (response.Kept n what) = kept_fits n what

-- so it may be said where its numbers are no nulls
pub request_said : (layouts : List Layout) (r : Request) → AreKnown layouts (request_role r) (request_fields r) → AreSaid layouts (request_role r) (request_fields r)
request_said layouts r known = record { fit = request_fits r; known = known }

pub response_said : (layouts : List Layout) (r : Response) → AreKnown layouts (response_role r) (response_fields r) → AreSaid layouts (response_role r) (response_fields r)
response_said layouts r known = record { fit = response_fits r; known = known }

pub kept_said : (layouts : List Layout) (n : ℕ) (k : Kept) → AreKnown layouts (kept_role k) (kept_fields n k) → AreSaid layouts (kept_role k) (kept_fields n k)
kept_said layouts n k known = record { fit = kept_fits n k; known = known }

-- each of a list of ordinary numbers is one
each_ordinary : (ps : List (FieldName × Scalar)) → EachOrdinary ps → AreOrdinary ps
each_ordinary ps h = record { each = λ p c. by ps h p c }
  where
    by : (ps : List (FieldName × Scalar)) → EachOrdinary ps → (p : FieldName × Scalar) → Contains ps p → IsOrdinary p.1
    by [] h p c = let (k, inside, is) = c in absurd (omega arith)
    by (q ∷ qs) h p (zero, inside, is) = let P : FieldName × Scalar → Type 0 = λ x. IsOrdinary x.1 in subst P is h.0
    by (q ∷ qs) h p (suc k, inside, is) = by qs h.1 p (k, omega arith, is)

pub request_known : (layouts : List Layout) (r : Request) → IsTable layouts → EachOrdinary (request_fields r) → AreKnown layouts (request_role r) (request_fields r)
request_known layouts r table h = ordinary_known layouts (request_role r) (request_fields r) table (request_fits r) (each_ordinary (request_fields r) h)

pub response_known : (layouts : List Layout) (r : Response) → IsTable layouts → EachOrdinary (response_fields r) → AreKnown layouts (response_role r) (response_fields r)
response_known layouts r table h = ordinary_known layouts (response_role r) (response_fields r) table (response_fits r) (each_ordinary (response_fields r) h)
