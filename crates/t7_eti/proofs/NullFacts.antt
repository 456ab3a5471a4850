-- Facts about the fields that a message has to say.
use Rattle.std.proofs.Common.{◌≡◌, ◌≢◌, ◌<◌, ◌^◌, ◌∙◌, ℕ, zero, suc, Bool, true, false, List, [], ◌∷◌, Option, Some, None, drop, refl, sym, ap, subst, cond, arith, not, is_some, pos, nat_abs}
use Rattle.std.specs.Prelude.{Contains, IfNone, find, option_map, ℤ}
use Rattle.std.specs.Option.{option_map_or}
use Rattle.std.specs.Ordering.{int_eq}
use Rattle.std.proofs.lemmas.Bool.Decides.{Decides-int_eq}
use Rattle.t7_layout.specs.declared.roles.Role.{Role}
use Rattle.t7_layout.specs.declared.roles.FieldName.{FieldName}
use Rattle.t7_layout.specs.declared.roles.FieldName.TheVariants as name
use Rattle.t7_layout.specs.declared.words.Family.{Family}
use Rattle.t7_layout.specs.declared.words.Family.TheVariants.{Eti, Eobi}
use Rattle.t7_layout.specs.declared.roles.Role.TheVariants as role
use Rattle.t7_layout.specs.Roles.{name_number, required, width_in}
use Rattle.t7_fields.specs.Messages.{Message, first_unset, is_among, said_number, value}
use Rattle.t7_fields.proofs.NameFacts.{among_contains}
use Rattle.t7_eti.specs.Requests.{is_numbered, is_request, number_of}
use Rattle.t7_eti.specs.Nulls.{HasFields, counts_as_null, first_missing, is_missing, sought}

pub four_bytes : (n w : ℕ) → w ≡ 4 → n < 256 ^ w → n < 2 ^ 32
four_bytes n w e h = let s : n < 256 ^ 4 = subst (λ (v : ℕ). n < 256 ^ v) e h in omega arith

pub two_bytes : (n w : ℕ) → w ≡ 2 → n < 256 ^ w → n < 2 ^ 16
two_bytes n w e h = let s : n < 256 ^ 2 = subst (λ (v : ℕ). n < 256 ^ v) e h in omega arith

pub one_byte : (n w : ℕ) → w ≡ 1 → n < 256 ^ w → n < 2 ^ 8
one_byte n w e h = let s : n < 256 ^ 1 = subst (λ (v : ℕ). n < 256 ^ v) e h in omega arith

-- no number of another field counts as null
pub never_counts : (o : Option ℤ) → option_map_or (λ (z : ℤ). false) o true ≡ not (is_some o)
never_counts None = refl
never_counts (Some z) = refl

contains_drop : {X : Type 0} (n : ℕ) (xs : List X) (x : X) → Contains (drop n xs) x → Contains xs x
contains_drop zero xs x h = h
contains_drop (suc n) [] x h = let (k, inside, is) = h in absurd (omega arith)
contains_drop (suc n) (y ∷ ys) x h = let (k, inside, is) = contains_drop n ys x h in (suc k, omega arith, is)

-- a field that is looked for is one that the role requires
pub sought_required : (role : Role) (name : FieldName) → Contains (sought role) name → Contains (required role) name
unfolding sought
sought_required role name h = contains_drop _ (required role) name h

pub among_required : (role : Role) (name : FieldName) → is_among name (sought role) ≡ true → Contains (required role) name
among_required role name h = sought_required role name (among_contains name (sought role) h)

pub find_none : {X : Type 0} (p : X → Bool) (xs : List X) (x : X) → find p xs ≡ None → Contains xs x → p x ≡ false
find_none p [] x h c = let (k, inside, is) = c in absurd (omega arith)
find_none {X = X} p (y ∷ ys) x h c = by (p y) refl h c (find_none p ys x)
  where
    by : (b : Bool) → p y ≡ b → cond b (Some y) (find p ys) ≡ None → Contains (y ∷ ys) x → (find p ys ≡ None → Contains ys x → p x ≡ false) → p x ≡ false
    by true e h c more = cc h
    by false e h (zero, inside, is) more = rw (← is) e
    by false e h (suc k, inside, is) more = more h (k, omega arith, is)

-- where no field is missing, each says a number that does not count as null
says_what_counts : (m : Message) (name : FieldName) → first_missing m (sought m.role) ≡ None → is_among name (sought m.role) ≡ true → (z : ℤ) × (said_number m name ≡ Some z) × (counts_as_null name z ≡ false)
unfolding first_missing is_missing
says_what_counts m name none there =
    by (said_number m name) refl (find_none (is_missing m) (sought m.role) name none (among_contains name (sought m.role) there))
  where
    by : (o : Option ℤ) → said_number m name ≡ o → option_map_or (counts_as_null name) o true ≡ false → (z : ℤ) × (said_number m name ≡ Some z) × (counts_as_null name z ≡ false)
    by None e h = cc h
    by (Some z) e h = (z, e, h)

pub none_missing : (m : Message) (o : Option FieldName) → o ≡ first_missing m (sought m.role) → IfNone o (HasFields m)
none_missing m (Some name) e = tt
none_missing m None e = record { each = λ name there. let (z, said_is, counts) = says_what_counts m name (sym e) there in ap is_some said_is }

pub never_none : (m : Message) (name : FieldName) → HasFields m → is_among name (sought m.role) ≡ true → said_number m name ≡ None → ⊥
never_none m name whole there e = let h = whole.each name there in cc (rw e at h)

pub value_is : (m : Message) (name : FieldName) (z : ℤ) → said_number m name ≡ Some z → value m name ≡ z
unfolding value
value_is m name z e = rw e refl

pub value_known : (m : Message) (name : FieldName) (n : ℕ) → Some (pos n) ≡ said_number m name → n ≡ nat_abs (value m name)
value_known m name n e = sym (ap nat_abs (value_is m name (pos n) (sym e)))

pub number_width : (family : Family) → width_in family name.MsgSeqNum ≡ 4
unfolding width_in
number_width Eti = refl
number_width Eobi = refl

not_pos : (n k : ℕ) → int_eq (pos n) (pos k) ≡ false → n ≢ k
not_pos n k h e = cc ((Decides-int_eq (pos n) (pos k)).1 (ap pos e), h)

-- the number of a request is not the greatest of 32 bits, and its client's is not that of 64
pub number_counts : (m : Message) (n : ℕ) → pos n ≡ value m name.MsgSeqNum → first_missing m (sought m.role) ≡ None → is_among name.MsgSeqNum (sought m.role) ≡ true → n ≢ 4_294_967_295
unfolding counts_as_null
number_counts m n e none there =
    let (z, said_is, counts) = says_what_counts m name.MsgSeqNum none there in
    let same : z ≡ pos n = sym (value_is m name.MsgSeqNum z said_is) ∙ sym e in
    not_pos n 4_294_967_295 (subst (λ (v : ℤ). int_eq v (pos 4_294_967_295) ≡ false) same counts)

pub client_counts : (m : Message) (n : ℕ) → pos n ≡ value m name.ClOrdID → first_missing m (sought m.role) ≡ None → is_among name.ClOrdID (sought m.role) ≡ true → n ≢ 18_446_744_073_709_551_615
unfolding counts_as_null
client_counts m n e none there =
    let (z, said_is, counts) = says_what_counts m name.ClOrdID none there in
    let same : z ≡ pos n = sym (value_is m name.ClOrdID z said_is) ∙ sym e in
    not_pos n 18_446_744_073_709_551_615 (subst (λ (v : ℤ). int_eq v (pos 18_446_744_073_709_551_615) ≡ false) same counts)

-- a role of a request that has a number requires MsgSeqNum
numbered_among : (r : Role) → is_numbered r ≡ true → is_among name.MsgSeqNum (required r) ≡ true
unfolding is_numbered is_request is_among required name_number
numbered_among role.LogonRequest h = refl
numbered_among role.LogoutRequest h = refl
numbered_among role.EtiHeartbeat h = cc h
numbered_among role.NewOrderSingleRequest h = refl
numbered_among role.ModifyOrderSingleRequest h = refl
numbered_among role.DeleteOrderSingleRequest h = refl
numbered_among role.DeleteAllOrderRequest h = refl
numbered_among role.RetransmitMEMessageRequest h = refl
numbered_among role.LogonResponse h = cc h
numbered_among role.LogoutResponse h = cc h
numbered_among role.HeartbeatNotification h = cc h
numbered_among role.Reject h = cc h
numbered_among role.RetransmitMEMessageResponse h = cc h
numbered_among role.NewOrderResponse h = cc h
numbered_among role.ModifyOrderResponse h = cc h
numbered_among role.DeleteOrderResponse h = cc h
numbered_among role.DeleteAllOrderResponse h = cc h
numbered_among role.DeleteAllOrderBroadcast h = cc h
numbered_among role.OrderExecNotification h = cc h
numbered_among role.PacketHeader h = cc h
numbered_among role.EobiHeartbeat h = cc h
numbered_among role.OrderAdd h = cc h
numbered_among role.OrderModify h = cc h
numbered_among role.OrderModifySamePriority h = cc h
numbered_among role.OrderDelete h = cc h
numbered_among role.OrderMassDelete h = cc h
numbered_among role.PartialOrderExecution h = cc h
numbered_among role.FullOrderExecution h = cc h
numbered_among role.ExecutionSummary h = cc h
numbered_among role.ProductSummary h = cc h
numbered_among role.InstrumentSummary h = cc h
numbered_among role.SnapshotOrder h = cc h

pub numbered_required : (r : Role) → is_numbered r ≡ true → Contains (required r) name.MsgSeqNum
numbered_required r h = among_contains name.MsgSeqNum (required r) (numbered_among r h)

-- the number of a message that has none, says none, or says one
pub number_never : (m : Message) → is_numbered m.role ≡ false → number_of m ≡ None
unfolding number_of
number_never m e = rw e refl

pub number_none : (m : Message) (o : Option ℕ) → option_map pos o ≡ said_number m name.MsgSeqNum → o ≡ None → number_of m ≡ None
unfolding number_of is_missing
number_none m o e none = by (is_numbered m.role)
  where
    by : (b : Bool) → cond b (cond (option_map_or (counts_as_null name.MsgSeqNum) (said_number m name.MsgSeqNum) true) None (Some (nat_abs (value m name.MsgSeqNum)))) None ≡ None
    by true = rw (← e, none) refl
    by false = refl

pub number_some : (m : Message) (o : Option ℕ) (n : ℕ) → is_numbered m.role ≡ true → option_map pos o ≡ said_number m name.MsgSeqNum → o ≡ Some n
    → number_of m ≡ cond (int_eq (pos n) (pos 4_294_967_295)) None (Some n)
unfolding number_of is_missing counts_as_null
number_some m o n numbered e some =
    let says : said_number m name.MsgSeqNum ≡ Some (pos n) = sym e ∙ ap (option_map pos) some in
    rw (numbered, value_is m name.MsgSeqNum (pos n) says, says) refl

pub number_equal : (n : ℕ) → n ≡ 4_294_967_295 → int_eq (pos n) (pos 4_294_967_295) ≡ true
number_equal n e = (Decides-int_eq (pos n) (pos 4_294_967_295)).1 (ap pos e)

pub number_other : (n : ℕ) → n ≢ 4_294_967_295 → int_eq (pos n) (pos 4_294_967_295) ≡ false
number_other n h = by (int_eq (pos n) (pos 4_294_967_295)) refl
  where
    by : (b : Bool) → int_eq (pos n) (pos 4_294_967_295) ≡ b → b ≡ false
    by true e = absurd (h (ap nat_abs ((Decides-int_eq (pos n) (pos 4_294_967_295)).0 e)))
    by false e = refl

-- an unsigned number that is said
pub abs_said : (r : Option ℕ) (o : Option ℤ) → option_map pos r ≡ o → r ≡ option_map nat_abs o
abs_said None o e = rw (← e) refl
abs_said (Some n) o e = rw (← e) refl

none_unset_says : (m : Message) (name : FieldName) (names : List FieldName) → first_unset m names ≡ None → Contains names name → is_some (said_number m name) ≡ true
unfolding first_unset
none_unset_says m name names none there = by (is_some (said_number m name)) (find_none (λ name. not (is_some (said_number m name))) names name none there)
  where
    by : (b : Bool) → not b ≡ false → b ≡ true
    by true h = refl
    by false h = cc h

pub none_unset : (m : Message) (o : Option FieldName) → o ≡ first_unset m (sought m.role) → IfNone o (HasFields m)
none_unset m (Some name) e = tt
none_unset m None e = record { each = λ name there. none_unset_says m name (sought m.role) (sym e) (among_contains name (sought m.role) there) }
