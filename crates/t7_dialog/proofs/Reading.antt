-- The bytes of requests and of responses are frames, which are read as them.
use Rattle.std.proofs.Common.{◌≡◌, ℕ, true, false, List, Some, Ok, length, refl, sym, ◌∙◌, subst, arith}
use Rattle.std.specs.Prelude.{nat_le, nat_lt}
use Rattle.std.proofs.lemmas.Bool.Decides.{nat_tests}
use Rattle.t7_layout.specs.declared.roles.FieldName.{FieldName}
use Rattle.t7_layout.specs.declared.roles.Role.{Role}
use Rattle.t7_layout.specs.declared.words.Family.{Family}
use Rattle.t7_layout.specs.declared.words.Family.TheVariants.{Eti}
use Rattle.t7_layout.specs.Layouts.{IsLayout, Layout}
use Rattle.t7_layout.specs.Lookups.{IsTable, find_role, find_template, role_of_layout}
use Rattle.t7_layout.specs.Roles.{family_of}
use Rattle.t7_layout.proofs.FoundFacts.{role_family, role_id, role_own, role_whole}
use Rattle.t7_fields.specs.declared.writer.Scalar.{Scalar}
use Rattle.t7_fields.specs.Spelling.{Fits, body_length, length_width, template_id}
use Rattle.t7_fields.specs.Writing.{AreSaid, AreSized, IsWritten, message_saying}
use Rattle.t7_frames.specs.Frames.{IsFrame, body_len}
use Rattle.t7_eti.specs.declared.request.Request.{Request}
use Rattle.t7_eti.specs.declared.request.Request.TheVariants as request
use Rattle.t7_eti.specs.declared.response.Kept.{Kept}
use Rattle.t7_eti.specs.declared.response.Kept.TheVariants as kept
use Rattle.t7_eti.specs.declared.response.Response.{Response}
use Rattle.t7_eti.specs.declared.response.Response.TheVariants as response
use Rattle.t7_eti.specs.Requests.{is_request}
use Rattle.t7_eti.specs.Saying.{kept_role, read_again, request_bytes, request_fields, request_role, response_bytes, response_fields, response_role}
use Rattle.t7_eti.proofs.AgainFacts.{request_again, response_under}
use Rattle.t7_eti.proofs.SayingFacts.{request_known, request_said}
use Rattle.t7_session.specs.Asked.{asked_of}
use Rattle.t7_client.specs.Hearing.{response_by}
use Rattle.t7_dialog.specs.Asking.{IsMade}
use Rattle.t7_dialog.specs.Saying.{IsSaid}

-- what is known of a message that is written
abbrev pub Writes : Type 0
Writes = (layouts : List Layout) (role : Role) (ps : List (FieldName × Scalar)) → IsTable layouts → AreSaid layouts role ps → AreSized ps → IsWritten layouts role ps (message_saying layouts role ps)

-- order entry has templates for requests and responses
asked_family : (r : Request) → family_of (request_role r) ≡ Eti
unfolding request_role family_of
asked_family (request.Logon seq heart session) = refl
asked_family (request.Logout seq) = refl
asked_family request.Heartbeat = refl
asked_family (request.New seq security side price qty client) = refl
asked_family (request.Modify seq order client price qty) = refl
asked_family (request.Delete seq order client) = refl
asked_family (request.DeleteAll seq security) = refl
asked_family (request.Resend seq after upto) = refl

asked_role : (r : Request) → is_request (request_role r) ≡ true
unfolding request_role is_request
asked_role (request.Logon seq heart session) = refl
asked_role (request.Logout seq) = refl
asked_role request.Heartbeat = refl
asked_role (request.New seq security side price qty client) = refl
asked_role (request.Modify seq order client price qty) = refl
asked_role (request.Delete seq order client) = refl
asked_role (request.DeleteAll seq security) = refl
asked_role (request.Resend seq after upto) = refl

kept_family : (what : Kept) → family_of (kept_role what) ≡ Eti
unfolding kept_role family_of
kept_family (kept.New order client stamp) = refl
kept_family (kept.Changed order client stamp) = refl
kept_family (kept.Deleted order client) = refl
kept_family (kept.DeletedAll security count) = refl
kept_family (kept.Cleared security count) = refl
kept_family (kept.Exec order side leaves cum last_qty last_price) = refl

said_family : (r : Response) → family_of (response_role r) ≡ Eti
unfolding response_role family_of
said_family (response.Logon seq heart) = refl
said_family (response.Logout seq) = refl
said_family response.Beat = refl
said_family (response.Reject seq reason) = refl
said_family (response.Resent seq count last known) = refl
said_family (response.Kept number what) = kept_family what

-- bytes that fit a template of order entry, of its length, are a frame
framed : (t : Layout) (bytes : List ℕ) → IsLayout t → t.family ≡ Eti → Fits t bytes → length bytes ≡ t.size → IsFrame bytes
unfolding body_length length_width body_len
framed t bytes layout family fits count =
    let least = layout.long in
    let most = layout.short in
    record {
      least = omega (arith, count, least);
      most = omega (arith, count, most);
      spelled = subst (λ (f : Family). body_length f bytes ≡ length bytes) family fits.said;
    }

-- the template of written bytes
record Template (layouts : List Layout) (role : Role) (bytes : List ℕ) (t : Layout) : Type 0 where
  found : find_role layouts role ≡ Some t
  frame : IsFrame bytes
  at : find_template layouts Eti (template_id Eti bytes) ≡ Some t
  of_role : role_of_layout t ≡ Some role
  count : length bytes ≡ t.size

template_of : (layouts : List Layout) (role : Role) (ps : List (FieldName × Scalar)) (bytes : List ℕ) → IsTable layouts → family_of role ≡ Eti → (written : IsWritten layouts role ps bytes)
    → Template layouts role bytes written.message.0
template_of layouts role ps bytes table eti written =
    let t = written.message.0 in
    let found = written.message.1 in
    let family : t.family ≡ Eti = role_family layouts role t found ∙ eti in
    let whole = written.whole t found in
    let id : template_id Eti bytes ≡ t.id = subst (λ (f : Family). template_id f bytes ≡ t.id) family whole.0.id in
    let here : find_template layouts Eti t.id ≡ Some t = subst (λ (f : Family). find_template layouts f t.id ≡ Some t) eti (role_id layouts role t table found) in
    record {
      found = found;
      frame = framed t bytes (role_whole layouts role t table found) family written.message.2 whole.1;
      at = subst (λ (n : ℕ). find_template layouts Eti n ≡ Some t) (sym id) here;
      of_role = role_own layouts role t found;
      count = whole.1;
    }

-- what the bytes of a request are
pub record Asks (layouts : List Layout) (r : Request) : Type 0 where
  pub frame : IsFrame (request_bytes layouts r)
  pub asked : asked_of layouts (request_bytes layouts r) ≡ Ok r

pub asks : Writes → (layouts : List Layout) (session : ℕ) (r : Request) → IsTable layouts → IsMade session r → Asks layouts r
asks law layouts session r table made =
    let bytes = request_bytes layouts r in
    let role = request_role r in
    let written = law layouts role (request_fields r) table (request_said layouts r (request_known layouts r table made.ordinary)) made.sized in
    let under = template_of layouts role (request_fields r) bytes table (asked_family r) written in
    let t = written.message.0 in
    let count = under.count in
    let long : nat_lt (length bytes) t.size ≡ false = grind (arith, nat_tests) in
    let again = request_again layouts r bytes made.askable written.says in
    let is = asked_role r in
    let at = under.at in
    let of_role = under.of_role in
    record {
      frame = under.frame;
      asked = rw (at, of_role, is, long, again) refl;
    }

-- what the bytes of a response are
pub record Says (layouts : List Layout) (r : Response) : Type 0 where
  pub frame : IsFrame (response_bytes layouts r)
  pub heard : response_by layouts (response_bytes layouts r) ≡ Some (read_again layouts r)

pub says : (layouts : List Layout) (r : Response) → IsTable layouts → IsSaid layouts r → Says layouts r
says layouts r table said =
    let bytes = response_bytes layouts r in
    let written = said.written in
    let under = template_of layouts (response_role r) (response_fields r) bytes table (said_family r) written in
    let t = written.message.0 in
    let count = under.count in
    let long : nat_le t.size (length bytes) ≡ true = grind (arith, nat_tests) in
    let again = response_under layouts r t bytes under.found said.ranged written in
    let at = under.at in
    record {
      frame = under.frame;
      heard = rw (at, long, again) refl;
    }
