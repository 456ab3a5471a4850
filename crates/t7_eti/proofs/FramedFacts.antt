-- The bytes of a response, from what a written message says.
use Rattle.std.proofs.Common.{◌≡◌, suc, Bool, true, false, cond, List, [], ◌∷◌, Some, None, sym, ◌∙◌, subst, arith}
use Rattle.std.specs.Prelude.{Contains, find}
use Rattle.t7_layout.specs.declared.roles.FieldName.{FieldName}
use Rattle.t7_layout.specs.declared.roles.Role.{Role}
use Rattle.t7_layout.specs.Layouts.{IsLayout, Layout}
use Rattle.t7_layout.specs.Lookups.{IsTable, find_role}
use Rattle.t7_fields.specs.declared.writer.Scalar.{Scalar}
use Rattle.t7_fields.specs.Spelling.{Fits}
use Rattle.t7_fields.specs.Writing.{AreSaid, AreSized, IsWritten, message_saying}
use Rattle.t7_eti.specs.Framed.{ResponsesAreFrames}
use Rattle.t7_eti.specs.Saying.{response_bytes, response_fields, response_role}
use Rattle.t7_eti.proofs.AgainFacts.{response_under}
use Rattle.t7_eti.proofs.SayingFacts.{response_said}

-- what a search finds is in the list
found_there : {X : Type 0} (p : X → Bool) (xs : List X) (x : X) → find p xs ≡ Some x → Contains xs x
found_there p [] x is = absurd (let e : None ≡ Some x = is in cc)
found_there p (y ∷ ys) x is = by (p y) (found_there p ys x) is
  where
    by : (b : Bool) → (find p ys ≡ Some x → Contains ys x) → cond b (Some y) (find p ys) ≡ Some x → Contains (y ∷ ys) x
    by true rest is = let same : y ≡ x = cc in (0, omega arith, same)
    by false rest is = let more = rest is in (suc more.0, omega (arith, more.1), more.2)

role_there : (layouts : List Layout) (role : Role) (t : Layout) → find_role layouts role ≡ Some t → Contains layouts t
unfolding find_role
role_there layouts role t is = found_there _ layouts t is

pub responses_are_frames : ((layouts : List Layout) (role : Role) (ps : List (FieldName × Scalar)) → IsTable layouts → AreSaid layouts role ps → AreSized ps → IsWritten layouts role ps (message_saying layouts role ps))
    → ResponsesAreFrames
responses_are_frames law layouts r t table found ranged known sized =
    let written = law layouts (response_role r) (response_fields r) table (response_said layouts r known) sized in
    let layout : IsLayout t = table.whole t (role_there layouts (response_role r) t found) in
    let own : Some written.message.0 ≡ Some t = sym written.message.1 ∙ found in
    let same : written.message.0 ≡ t = cc in
    record {
      count = (written.whole t found).1;
      long = layout.long;
      short = layout.short;
      fits = subst (λ (l : Layout). Fits l (response_bytes layouts r)) same written.message.2;
      read = response_under layouts r t (response_bytes layouts r) found ranged written;
    }
