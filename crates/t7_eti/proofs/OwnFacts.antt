-- Templates under which messages may be read, and the numbers of the requests that they say.
use Rattle.std.proofs.Common.{◌≡◌, ◌∙◌, List, Bool, true, false, Option, Some, None, Ok, Err, refl, sym, ap, cond, nat_abs, length}
use Rattle.std.specs.Prelude.{Contains, IfSome, slice_get}
use Rattle.std.specs.Option.{option_and_then, option_map_or}
use Rattle.std.proofs.lemmas.Option.{slice_get_read}
use Rattle.t7_layout.specs.declared.roles.Role.{Role}
use Rattle.t7_layout.specs.declared.roles.Role.TheVariants as role
use Rattle.t7_layout.specs.declared.roles.FieldName.{FieldName}
use Rattle.t7_layout.specs.declared.roles.FieldName.TheVariants as name
use Rattle.t7_layout.specs.Layouts.{Layout}
use Rattle.t7_layout.specs.Lookups.{IsTable, find_role, is_layout_of, role_of_layout}
use Rattle.t7_layout.specs.Roles.{name_number, required}
use Rattle.t7_layout.proofs.FoundFacts.{of_role, only_found, role_own, role_passes}
use Rattle.t7_fields.specs.Messages.{Message, is_among, value}
use Rattle.t7_fields.specs.Spelling.{Seen}
use Rattle.t7_fields.proofs.NameFacts.{among_contains}
use Rattle.t7_eti.specs.declared.nulls.FieldFault.TheVariants as fault
use Rattle.t7_eti.specs.declared.request.Request.{Request}
use Rattle.t7_eti.specs.Nulls.{IsOwn, first_missing, is_missing, sought, unsought}
use Rattle.t7_eti.specs.Requests.{is_numbered, is_request, number_in, number_of, request_as, request_in, request_number, request_of}
use Rattle.t7_eti.proofs.NullFacts.{find_none}

-- the template of a role is its own
pub role_is_own : (layouts : List Layout) (r : Role) (t : Layout) → find_role layouts r ≡ Some t → IsOwn layouts t
role_is_own layouts r t e = rw (role_own layouts r t e) e

-- each template of a table is
listed_found : (layouts : List Layout) (t : Layout) (r : Role) → IsTable layouts → Contains layouts t → role_of_layout t ≡ Some r → find_role layouts r ≡ Some t
unfolding find_role
listed_found layouts t r table c e =
    let (k, inside, is) = c in
    let there : slice_get layouts k ≡ Some t = slice_get_read layouts (length layouts) k t refl inside (sym is) in
    let passes = role_passes t r e in
    let o = of_role r t passes in
    only_found (is_layout_of r) layouts k t there passes
    (λ j y there_too test. table.names j k y t there_too there ((of_role r y test).family ∙ sym o.family) ((of_role r y test).name ∙ sym o.name))

pub listed_is_own : (layouts : List Layout) (t : Layout) → IsTable layouts → Contains layouts t → IsOwn layouts t
listed_is_own layouts t table c = by (role_of_layout t) refl
  where
    by : (o : Option Role) → role_of_layout t ≡ o → IfSome o (λ r. find_role layouts r ≡ Some t)
    by None e = tt
    by (Some r) e = listed_found layouts t r table c e

-- the number of a request that is read is the one that is said
number_read : (r : Role) (m : Message) → is_request r ≡ true → (is_among name.MsgSeqNum (sought r) ≡ true → is_missing m name.MsgSeqNum ≡ false)
    → request_number (request_as r m) ≡ cond (is_numbered r) (cond (is_missing m name.MsgSeqNum) None (Some (nat_abs (value m name.MsgSeqNum)))) None
unfolding is_request request_number request_as is_numbered sought unsought is_among required name_number
number_read role.LogonRequest m h says = rw (says refl) refl
number_read role.LogoutRequest m h says = rw (says refl) refl
number_read role.EtiHeartbeat m h says = refl
number_read role.NewOrderSingleRequest m h says = rw (says refl) refl
number_read role.ModifyOrderSingleRequest m h says = rw (says refl) refl
number_read role.DeleteOrderSingleRequest m h says = rw (says refl) refl
number_read role.DeleteAllOrderRequest m h says = rw (says refl) refl
number_read role.RetransmitMEMessageRequest m h says = rw (says refl) refl
number_read role.LogonResponse m h says = cc h
number_read role.LogoutResponse m h says = cc h
number_read role.HeartbeatNotification m h says = cc h
number_read role.Reject m h says = cc h
number_read role.RetransmitMEMessageResponse m h says = cc h
number_read role.NewOrderResponse m h says = cc h
number_read role.ModifyOrderResponse m h says = cc h
number_read role.DeleteOrderResponse m h says = cc h
number_read role.DeleteAllOrderResponse m h says = cc h
number_read role.DeleteAllOrderBroadcast m h says = cc h
number_read role.OrderExecNotification m h says = cc h
number_read role.PacketHeader m h says = cc h
number_read role.EobiHeartbeat m h says = cc h
number_read role.OrderAdd m h says = cc h
number_read role.OrderModify m h says = cc h
number_read role.OrderModifySamePriority m h says = cc h
number_read role.OrderDelete m h says = cc h
number_read role.OrderMassDelete m h says = cc h
number_read role.PartialOrderExecution m h says = cc h
number_read role.FullOrderExecution m h says = cc h
number_read role.ExecutionSummary m h says = cc h
number_read role.ProductSummary m h says = cc h
number_read role.InstrumentSummary m h says = cc h
number_read role.SnapshotOrder m h says = cc h

never_missing : (m : Message) (n : FieldName) → first_missing m (sought m.role) ≡ None → is_among n (sought m.role) ≡ true → is_missing m n ≡ false
unfolding first_missing
never_missing m n none there = find_none (is_missing m) (sought m.role) n none (among_contains n (sought m.role) there)

number_again : (m : Message) (r : Request) → request_of m ≡ Ok r → request_number r ≡ number_of m
unfolding request_of number_of
number_again m r e = by (is_request m.role) refl (first_missing m (sought m.role)) refl e
  where
    by : (b : Bool) → is_request m.role ≡ b → (o : Option FieldName) → first_missing m (sought m.role) ≡ o
        → cond b (option_map_or (λ name. Err (fault.Null name)) o (Ok (request_as m.role m))) (Err fault.NoRole) ≡ Ok r
        → request_number r ≡ cond (is_numbered m.role) (cond (is_missing m name.MsgSeqNum) None (Some (nat_abs (value m name.MsgSeqNum)))) None
    by false is o f e = cc e
    by true is (Some n) f e = cc e
    by true is None f e =
        let same : request_as m.role m ≡ r = cc e in
        ap request_number (sym same) ∙ number_read m.role m is (λ there. never_missing m name.MsgSeqNum f there)

pub number_in_again : (layouts : List Layout) (v : Seen) (r : Request) → request_in layouts v ≡ Ok r → request_number r ≡ number_in layouts v
unfolding request_in number_in
number_in_again layouts v r e = by (role_of_layout v.layout) e
  where
    by : (o : Option Role) → option_map_or (λ role. request_of (record { layouts = layouts; role = role; bytes = v.bytes })) o (Err fault.NoRole) ≡ Ok r
        → request_number r ≡ option_and_then (λ role. number_of (record { layouts = layouts; role = role; bytes = v.bytes })) o
    by None e = cc e
    by (Some x) e = number_again (record { layouts = layouts; role = x; bytes = v.bytes }) r e
