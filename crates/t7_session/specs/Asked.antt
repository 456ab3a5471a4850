-- What a frame asks: the tests that need the layout table alone.
use Rattle.std.specs.Prelude.{ℕ, if◌then◌else◌, nat_lt, List, Option, Some, None, Result, Ok, Err, length}
use Rattle.t7_layout.specs.declared.roles.Role.{Role}
use Rattle.t7_layout.specs.declared.words.Family.TheVariants.{Eti}
use Rattle.t7_layout.specs.Layouts.{Layout}
use Rattle.t7_layout.specs.Lookups.{find_template, role_of_layout}
use Rattle.t7_fields.specs.Messages.{Message}
use Rattle.t7_fields.specs.Spelling.{template_id}
use Rattle.t7_eti.specs.declared.nulls.FieldFault.{FieldFault}
use Rattle.t7_eti.specs.declared.reason.Reason.{Reason}
use Rattle.t7_eti.specs.declared.reason.Reason.TheVariants.{BadLength, UnknownTemplate, NullField}
use Rattle.t7_eti.specs.declared.request.Request.{Request}
use Rattle.t7_eti.specs.Requests.{is_request, number_of, request_of}
use Rattle.t7_session.specs.declared.checks.Refusal.{Refusal}

-- a refusal whose Reject carries no number
abbrev pub unnumbered : Reason → Refusal
unnumbered reason = record { seq = None; reason = reason }

-- the request of a message, which is refused where a field is missing; the Reject carries the message's number
abbrev pub or_null : Message → Result Request FieldFault → Result Request Refusal
or_null m (Ok request) = Ok request
or_null m (Err fault) = Err (record { seq = number_of m; reason = NullField })

-- a frame under a request's template asks what it says, unless it is shorter than that
abbrev pub asked_as : List Layout → List ℕ → Layout → Role → Result Request Refusal
asked_as layouts frame template role =
    if nat_lt (length frame) template.size then Err (unnumbered BadLength) else
    let message : Message = record { layouts = layouts; role = role; bytes = frame } in or_null message (request_of message)

-- a frame under a template that is of no request is refused
abbrev pub asked_with : List Layout → List ℕ → Layout → Option Role → Result Request Refusal
asked_with layouts frame template None = Err (unnumbered UnknownTemplate)
asked_with layouts frame template (Some role) = if is_request role then asked_as layouts frame template role else Err (unnumbered UnknownTemplate)

-- a frame without a template is refused
abbrev pub asked_under : List Layout → List ℕ → Option Layout → Result Request Refusal
asked_under layouts frame None = Err (unnumbered UnknownTemplate)
asked_under layouts frame (Some template) = asked_with layouts frame template (role_of_layout template)

-- what a frame asks by the template that its TemplateID names
abbrev pub asked_of : List Layout → List ℕ → Result Request Refusal
asked_of layouts frame = asked_under layouts frame (find_template layouts Eti (template_id Eti frame))
