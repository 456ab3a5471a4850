-- What one receipt comes to.
use Rattle.std.proofs.Common.{◌≡◌, ◌≢◌, ℕ, List, [], ◌∷◌, true, false, Option, Result, Ok, Err, OnOk, IfErr, take, refl, sym, ◌∙◌, ap, subst}
use Rattle.std.specs.Str.{bytes_eq}
use Rattle.std.proofs.lemmas.Slice.Eq.{bytes_eq-Decides}
use Rattle.t7_base.specs.Outside.{Grew}
use Rattle.t7_base.proofs.Grown.{grew_as, grew_nothing}
use Rattle.t7_feed.specs.Arrivals.{AreTerms, Delivery, Terms}
use Rattle.t7_member.specs.Keeping.{Image}
use Rattle.t7_net.specs.declared.line.LineItem.{LineItem}
use Rattle.t7_net.specs.declared.line.LineItem.TheVariants as item
use Rattle.t7_net.specs.declared.line.Received.{Received}
use Rattle.t7_net.specs.declared.line.Received.TheVariants as received
use Rattle.t7_net.specs.Lines.{line_taken}
use Rattle.t7_outcome.specs.declared.ending.Stop.{Stop}
use Rattle.t7_outcome.specs.declared.ending.Stop.TheVariants.{WriteFault}
use Rattle.t7_outcome.specs.Outcome.{Part, Shows, Spelled, text_of}
use Rattle.t7_outcome.specs.Steps.{Prints}
use Rattle.t7_outcome.proofs.Lines.{spelled_shown}
use Rattle.t7_follow.specs.Clauses.{WroteAll}
use Rattle.t7_follow.specs.Followers.{Following, KeepsAll, Stands, Stepped, Took, WroteCut}
use Rattle.t7_follow.specs.Lines.{changed_lines, state_line}
use Rattle.t7_follow.specs.Members.{IsShown, Made, state_of}
use Rattle.t7_follow.specs.Reports.{IsReported, Moment, Watched, delivered}
use Rattle.t7_follow.proofs.Keeping.{has_taken}

-- the line stands already
pub same_line : (last line : List ℕ) → bytes_eq last line ≡ true → last ≡ line
same_line last line same = (bytes_eq-Decides last line).0 same

pub printed_none : {T : Type 0} (p : Option (List ℕ)) (last line : List ℕ) (r : Result T Stop) (x : T) → bytes_eq last line ≡ true → r ≡ Ok x
    → Grew p p (Prints (changed_lines last line) r)
printed_none {T} p last line r x same is =
    let none : changed_lines last line ≡ [] = rw same refl in
    grew_nothing p (Prints (changed_lines last line) r) (subst (λ (e : Result T Stop). Prints (changed_lines last line) e []) (sym is) (ap text_of (sym none)))

pub printed_one : {T U : Type 0} (p q : Option (List ℕ)) (last line : List ℕ) (first : Result T Stop) (r : Result U Stop) → bytes_eq last line ≡ false
    → ((w : List ℕ) → Prints (line ∷ []) first w → Prints (line ∷ []) r w) → Grew p q (Prints (line ∷ []) first) → Grew p q (Prints (changed_lines last line) r)
printed_one p q last line first r other to front =
    let one : changed_lines last line ≡ line ∷ [] = rw other refl in
    subst (λ (l : List (List ℕ)). Grew p q (Prints l r)) (sym one) (grew_as p q (Prints (line ∷ []) first) (Prints (line ∷ []) r) front to)

-- a receipt is one
one_item : (what : Received) (into : List ℕ) → what ≢ received.Failed → (i : LineItem) × (line_taken what into ≡ i ∷ [])
one_item (received.Datagram feed count) into some = (item.Datagram feed (take count into), refl)
one_item received.Quiet into some = (item.Quiet, refl)
one_item received.Failed into some = absurd (some refl)

-- What a member keeps by these deliveries, it shows.
abbrev pub Shown : Type 0
Shown = (terms : Terms) (came : List Delivery) (member : Image) → AreTerms terms → Made terms came member → KeepsAll terms came member → IsShown terms came member

-- the line after it is that of what the member shows
reported : (terms : Terms) (before : List LineItem) (i : LineItem) (old mid : Following) → Shown → AreTerms terms → Stands terms before old → Took (i ∷ []) old mid
    → IsReported (Watched terms (i ∷ before)) (changed_lines old.printed (state_line (state_of mid.member)))
reported terms before i old mid law are stands took =
    let taken = has_taken terms before i old mid stands took in (
      old.printed,
      state_line (state_of mid.member),
      stands.printed,
      (mid.member, law terms (delivered (i ∷ before)) mid.member are taken.made taken.keeps, refl),
      refl,
    )

-- A receipt was taken, and its line was printed, or cut off.
module _ (terms : Terms) (before : List LineItem) (i : LineItem) (old mid new : Following) (law : Shown) (are : AreTerms terms) (stands : Stands terms before old) (took : Took (i ∷ []) old mid)
    (member : new.member ≡ mid.member) (datagrams : new.datagrams ≡ mid.datagrams) where
  line : List ℕ
  line = state_line (state_of mid.member)

  parts : List (Part Moment)
  parts = Shows (Watched terms (i ∷ before)) ∷ []

  stands_now : new.printed ≡ line → Stands terms (i ∷ before) new
  unfolding line
  stands_now is =
      let taken = has_taken terms before i old mid stands took in record {
        made = subst (λ (m : Image). Made terms (delivered (i ∷ before)) m) (sym member) taken.made;
        keeps = subst (λ (m : Image). KeepsAll terms (delivered (i ∷ before)) m) (sym member) taken.keeps;
        printed = (mid.member, law terms (delivered (i ∷ before)) mid.member are taken.made taken.keeps, is);
        count = datagrams ∙ taken.count;
      }

  spelled : Spelled IsReported parts (changed_lines old.printed line)
  unfolding line parts
  spelled = spelled_shown IsReported (Watched terms (i ∷ before)) (changed_lines old.printed line) (reported terms before i old mid law are stands took)

  stepped : {T : Type 0} (p q : Option (List ℕ)) (r : Result T Stop) → OnOk r (new.printed ≡ line) → IfErr r (λ stop. stop ≡ WriteFault)
      → Grew p q (Prints (changed_lines old.printed line) r) → (added : List LineItem) → added ≡ i ∷ [] → Stepped terms before new p q r added
  unfolding parts
  stepped p q (Ok done) last only front added is = (
    i,
    is,
    stands_now last,
    grew_as p q (λ w. w ≡ text_of (changed_lines old.printed line)) (WroteAll IsReported parts) front
        (λ w all. (changed_lines old.printed line, spelled, all)),
  )
  stepped {T} p q (Err stop) last only front added is =
      subst (λ (e : Stop). Stepped terms before new p q (let bad : Result T Stop = Err e in bad) added) (sym only) (
        i,
        is,
        grew_as p q (Prints (changed_lines old.printed line) (let bad : Result T Stop = Err stop in bad)) (WroteCut IsReported parts) front
            (λ w one. (changed_lines old.printed line, spelled, subst (λ (e : Stop). Prints (changed_lines old.printed line) (let bad : Result T Stop = Err e in bad) w) only one)),
      )

pub step_taken : {T : Type 0} (terms : Terms) (before : List LineItem) (what : Received) (into : List ℕ) (old mid new : Following) (p q : Option (List ℕ)) (r : Result T Stop)
    → Shown → AreTerms terms → Stands terms before old → what ≢ received.Failed → Took (line_taken what into) old mid → mid.printed ≡ old.printed
    → new.member ≡ mid.member → new.datagrams ≡ mid.datagrams → OnOk r (new.printed ≡ state_line (state_of mid.member)) → IfErr r (λ stop. stop ≡ WriteFault)
    → Grew p q (Prints (changed_lines mid.printed (state_line (state_of mid.member))) r) → (added : List LineItem) → added ≡ line_taken what into
    → Stepped terms before new p q r added
unfolding line
step_taken terms before what into old mid new p q r law are stands some took same member datagrams last only front added is =
    let one = one_item what into some in
    let taken : Took (one.0 ∷ []) old mid = subst (λ (l : List LineItem). Took l old mid) one.1 took in
    stepped terms before one.0 old mid new law are stands taken member datagrams p q r last only
    (subst (λ (l : List ℕ). Grew p q (Prints (changed_lines l (state_line (state_of mid.member))) r)) same front) added (is ∙ one.1)
