-- A LogonResponse and an answer to a request for responses have at least sixteen bytes.
use Rattle.std.proofs.Common.{◌≡◌, ℕ, ◌+◌, ◌≤◌, ◌&&◌, ◌⊎◌, Bool, true, false, cond, List, [], ◌∷◌, Option, Some, None, Ok, Err, refl, ap, ◌∙◌, is_some, inl, inr, arith, eqb}
use Rattle.std.specs.Prelude.{slice_get, IfSome}
use Rattle.std.specs.Option.{option_map_or}
use Rattle.std.proofs.lemmas.Bool.Decides.{nat_tests}
use Rattle.t7_layout.specs.declared.words.Family.TheVariants.{Eti}
use Rattle.t7_layout.specs.declared.roles.Role.{Role}
use Rattle.t7_layout.specs.declared.roles.Role.TheVariants as role
use Rattle.t7_layout.specs.declared.roles.FieldName.{FieldName}
use Rattle.t7_layout.specs.declared.roles.FieldName.TheVariants as name
use Rattle.t7_layout.specs.Layouts.{IsLayout, LaidOut, Layout, Place}
use Rattle.t7_layout.specs.Lookups.{IsTable, find_field, find_role, holds_role, is_place, role_of_layout}
use Rattle.t7_layout.specs.Roles.{family_of, field_text, kind_of, required, width_in}
use Rattle.t7_layout.specs.Rows.{same_kind}
use Rattle.t7_layout.specs.declared.words.Kind.TheVariants.{Unsigned}
use Rattle.std.specs.Str.{bytes_eq}
use Rattle.t7_fields.specs.Messages.{Message, first_unset}
use Rattle.t7_eti.specs.declared.nulls.FieldFault.TheVariants as fault
use Rattle.t7_eti.specs.declared.response.Response.{Response}
use Rattle.t7_eti.specs.Nulls.{sought}
use Rattle.t7_eti.specs.Ranges.{first_out}
use Rattle.t7_eti.specs.Responses.{is_response, kept_as, response_as, response_in, response_of}
use Rattle.t7_client.specs.Sound.{asks}

-- fields that are laid out end no earlier than they begin
laid_on : (from : ℕ) (fields : List Place) (to : ℕ) → LaidOut from fields to → from ≤ to
laid_on from [] to laid = omega (arith, laid)
laid_on from (f ∷ fields) to laid = let on = laid_on (from + f.width) fields to laid.1 in omega (arith, on)

both_right : (a b : Bool) → (a && b) ≡ true → b ≡ true
both_right true b is = is
both_right false b is = cc is

-- behind a field of this name there are four bytes more
named_on : (from : ℕ) (words : List (List ℕ)) (fields : List Place) (to : ℕ) → LaidOut from fields to
    → is_some (find_field Eti name.MsgSeqNum words fields) ≡ true → from + 4 ≤ to
unfolding find_field is_place width_in kind_of
named_on from [] fields to laid found = cc found
named_on from (word ∷ words) [] to laid found = cc found
named_on from (word ∷ words) (f ∷ fields) to laid found =
    by (is_place Eti name.MsgSeqNum word f) refl (λ some. named_on (from + f.width) words fields to laid.1 some) found
  where
    width_is : is_place Eti name.MsgSeqNum word f ≡ true → f.width ≡ 4
    width_is is =
        let e : eqb f.width 4 ≡ true = both_right (bytes_eq word (field_text name.MsgSeqNum) && same_kind f.kind Unsigned) (eqb f.width 4) is in
        grind (arith, nat_tests)

    by : (b : Bool) → is_place Eti name.MsgSeqNum word f ≡ b → (is_some (find_field Eti name.MsgSeqNum words fields) ≡ true → from + f.width + 4 ≤ to) → is_some (cond b (Some f) (find_field Eti name.MsgSeqNum words fields)) ≡ true → from + 4 ≤ to
    by true is rest some = let on = laid_on (from + f.width) fields to laid.1 in let w = width_is is in omega (arith, on, w)
    by false is rest some = let on = rest some in omega (arith, on)

-- the responses of these two roles make a client ask
asks_role : (r : Role) (m : Message) → asks (response_as r m) ≡ true → (r ≡ role.LogonResponse) ⊎ (r ≡ role.RetransmitMEMessageResponse)
unfolding response_as kept_as
asks_role role.LogonResponse m is = inl refl
asks_role role.RetransmitMEMessageResponse m is = inr refl
asks_role role.LogonRequest m is = cc is
asks_role role.LogoutRequest m is = cc is
asks_role role.EtiHeartbeat m is = cc is
asks_role role.NewOrderSingleRequest m is = cc is
asks_role role.ModifyOrderSingleRequest m is = cc is
asks_role role.DeleteOrderSingleRequest m is = cc is
asks_role role.DeleteAllOrderRequest m is = cc is
asks_role role.RetransmitMEMessageRequest m is = cc is
asks_role role.LogoutResponse m is = cc is
asks_role role.HeartbeatNotification m is = cc is
asks_role role.Reject m is = cc is
asks_role role.NewOrderResponse m is = cc is
asks_role role.ModifyOrderResponse m is = cc is
asks_role role.DeleteOrderResponse m is = cc is
asks_role role.DeleteAllOrderResponse m is = cc is
asks_role role.DeleteAllOrderBroadcast m is = cc is
asks_role role.OrderExecNotification m is = cc is
asks_role role.PacketHeader m is = cc is
asks_role role.EobiHeartbeat m is = cc is
asks_role role.OrderAdd m is = cc is
asks_role role.OrderModify m is = cc is
asks_role role.OrderModifySamePriority m is = cc is
asks_role role.OrderDelete m is = cc is
asks_role role.OrderMassDelete m is = cc is
asks_role role.PartialOrderExecution m is = cc is
asks_role role.FullOrderExecution m is = cc is
asks_role role.ExecutionSummary m is = cc is
asks_role role.ProductSummary m is = cc is
asks_role role.InstrumentSummary m is = cc is
asks_role role.SnapshotOrder m is = cc is

-- what is read is the response field by field
read_as : (m : Message) (said : Response) → response_of m ≡ Ok said → response_as m.role m ≡ said
unfolding response_of
read_as m said is = by (is_response m.role) (first_unset m (sought m.role)) (first_out m (sought m.role)) is
  where
    by : (b : Bool) (unset out : Option FieldName)
        → cond b (option_map_or (λ n. Err (fault.Null n)) unset (option_map_or (λ n. Err (fault.Value n)) out (Ok (response_as m.role m)))) (Err fault.NoRole) ≡ Ok said
        → response_as m.role m ≡ said
    by false unset out e = cc e
    by true (Some n) out e = cc e
    by true None (Some n) e = cc e
    by true None None e = cc e

-- a response that makes a client ask is one of these two roles
asked_role : (layouts : List Layout) (t : Layout) (bytes : List ℕ) (said : Response) → response_in layouts (record { layout = t; bytes = bytes }) ≡ Ok said → asks said ≡ true
    → (r : Role) × (role_of_layout t ≡ Some r) × ((r ≡ role.LogonResponse) ⊎ (r ≡ role.RetransmitMEMessageResponse))
unfolding response_in
asked_role layouts t bytes said is asked = by (role_of_layout t) refl is
  where
    by : (o : Option Role) → role_of_layout t ≡ o
        → option_map_or (λ (r : Role). response_of (record { layouts = layouts; role = r; bytes = bytes })) o (Err fault.NoRole) ≡ Ok said
        → (r : Role) × (role_of_layout t ≡ Some r) × ((r ≡ role.LogonResponse) ⊎ (r ≡ role.RetransmitMEMessageResponse))
    by None e reads = cc reads
    by (Some r) e reads =
        let m : Message = record { layouts = layouts; role = r; bytes = bytes } in
        let same : response_as r m ≡ said = read_as m said reads in
        (r, e, asks_role r m (ap asks same ∙ asked))

-- a template of either has a MsgSeqNum
both_left : (a b : Bool) → (a && b) ≡ true → a ≡ true
both_left true b is = refl
both_left false b is = cc is

third : (a b c : Bool) (rest : Bool) → (a && (b && (c && rest))) ≡ true → c ≡ true
third a b c rest is = both_left c rest (both_right b (c && rest) (both_right a (b && (c && rest)) is))

numbered : (layouts : List Layout) (t : Layout) (r : Role) → find_role layouts r ≡ Some t → holds_role layouts r ≡ true
    → (r ≡ role.LogonResponse) ⊎ (r ≡ role.RetransmitMEMessageResponse) → is_some (find_field Eti name.MsgSeqNum t.names t.fields) ≡ true
unfolding holds_role required family_of
numbered layouts t r found holds which =
    elim which [
      | inl logon ↦ third _ _ _ _ (rw logon at (rw found at holds))
      | inr answer ↦ third _ _ _ _ (rw answer at (rw found at holds))
    ]

-- the number stands behind the header's six bytes
from_header : (words : List (List ℕ)) (fields : List Place) (size : ℕ) (body id : Place) → slice_get fields 0 ≡ Some body → slice_get words 0 ≡ Some (field_text name.BodyLen)
    → body.width ≡ 4 → slice_get fields 1 ≡ Some id → slice_get words 1 ≡ Some (field_text name.TemplateID) → id.width ≡ 2 → LaidOut 0 fields size
    → is_some (find_field Eti name.MsgSeqNum words fields) ≡ true → 10 ≤ size
unfolding find_field is_place field_text
from_header [] fields size body id body_is body_word body_width id_is id_word id_width laid found = cc found
from_header (w ∷ words) [] size body id body_is body_word body_width id_is id_word id_width laid found = cc found
from_header (w ∷ []) (f ∷ fields) size body id body_is body_word body_width id_is id_word id_width laid found =
    absurd (let e : None ≡ Some (field_text name.TemplateID) = id_word in cc)
from_header (w ∷ v ∷ words) (f ∷ []) size body id body_is body_word body_width id_is id_word id_width laid found =
    absurd (let e : None ≡ Some id = id_is in cc)
from_header (w ∷ v ∷ words) (f ∷ g ∷ fields) size body id body_is body_word body_width id_is id_word id_width laid found =
    let first : w ≡ field_text name.BodyLen = (let e : Some w ≡ Some (field_text name.BodyLen) = body_word in cc) in
    let second : v ≡ field_text name.TemplateID = (let e : Some v ≡ Some (field_text name.TemplateID) = id_word in cc) in
    let left : f ≡ body = (let e : Some f ≡ Some body = body_is in cc) in
    let right : g ≡ id = (let e : Some g ≡ Some id = id_is in cc) in
    let wide : f.width ≡ 4 = ap (λ (p : Place). p.width) left ∙ body_width in
    let narrow : g.width ≡ 2 = ap (λ (p : Place). p.width) right ∙ id_width in
    let behind : is_some (find_field Eti name.MsgSeqNum words fields) ≡ true = rw (first, second) at found in
    let on = named_on (0 + f.width + g.width) words fields size laid.1.1 behind in
    omega (arith, on, wide, narrow)

behind_header : (t : Layout) → IsLayout t → t.family ≡ Eti → is_some (find_field Eti name.MsgSeqNum t.names t.fields) ≡ true → 16 ≤ t.size
unfolding width_in
behind_header t layout family found =
    let head = layout.header in
    let wide : head.body.width ≡ 4 = head.body_is.width_is ∙ ap (λ f. width_in f name.BodyLen) family in
    let narrow : head.id.width ≡ 2 = head.id_is.width_is ∙ ap (λ f. width_in f name.TemplateID) family in
    let ten = from_header t.names t.fields t.size head.body head.id head.body_is.there head.body_is.named wide head.id_is.there head.id_is.named narrow layout.laid found in
    let eights = layout.eights in
    omega (arith, ten, eights)

-- such a response has at least sixteen bytes
pub asks_long : (layouts : List Layout) (t : Layout) (bytes : List ℕ) (said : Response) → IsTable layouts → IsLayout t → t.family ≡ Eti
    → IfSome (role_of_layout t) (λ r. find_role layouts r ≡ Some t) → response_in layouts (record { layout = t; bytes = bytes }) ≡ Ok said → asks said ≡ true → 16 ≤ t.size
asks_long layouts t bytes said table layout family own is asked =
    let which = asked_role layouts t bytes said is asked in
    let found : find_role layouts which.0 ≡ Some t = rw which.1 at own in
    behind_header t layout family (numbered layouts t which.0 found (table.roles which.0) which.2)
