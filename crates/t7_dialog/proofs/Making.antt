-- Requests that a client may make.
use Rattle.std.proofs.Common.{◌≡◌, ℕ, ℤ, zero, suc, ◌^◌, ◌<◌, ◌≤◌, ◌≤ℤ◌, pos, negsuc, List, [], ◌∷◌, ◌++◌, map, refl, sym, ap, ◌∙◌, subst, arith, append_assoc}
use Rattle.std.proofs.lemmas.Int.{ints}
use Rattle.std.proofs.lemmas.List.{map-append}
use Rattle.std.proofs.lemmas.List.Folds.{concat-append}
use Rattle.std.specs.List.{concat}
use Rattle.std.specs.Prelude.{Contains, neg_ℤ}
use Rattle.t7_base.specs.declared.ids.Side.{Side}
use Rattle.t7_base.specs.declared.ids.Side.TheVariants.{Buy, Sell}
use Rattle.t7_layout.specs.Layouts.{Layout}
use Rattle.t7_layout.specs.declared.roles.FieldName.{FieldName}
use Rattle.t7_layout.specs.declared.words.Kind.TheVariants.{Signed}
use Rattle.t7_fields.specs.declared.writer.Scalar.{Scalar}
use Rattle.t7_fields.specs.Spelling.{IsHeld}
use Rattle.t7_fields.specs.Writing.{AreSized, IsOrdinary, IsSized}
use Rattle.t7_eti.specs.declared.request.Request.{Request}
use Rattle.t7_eti.specs.declared.request.Request.TheVariants as request
use Rattle.t7_eti.specs.Requests.{request_client, request_number}
use Rattle.t7_eti.specs.Saying.{request_bytes, request_fields, side_number}
use Rattle.t7_dialog.specs.Asking.{AreAsked, AreMade, IsMade}
use Rattle.t7_dialog.specs.Coming.{AreResends}

-- each of these is a number of its type
abbrev EachSized : List (FieldName × Scalar) → Type 0
EachSized [] = Unit {0}
EachSized (p ∷ ps) = IsSized p.1 × EachSized ps

sized_at : (ps : List (FieldName × Scalar)) (p : FieldName × Scalar) → EachSized ps → Contains ps p → IsSized p.1
sized_at [] p each (i, low, is) = absurd (omega (arith, low))
sized_at (q ∷ ps) p each (zero, low, is) = let same : q ≡ p = is in subst (λ (x : FieldName × Scalar). IsSized x.1) same each.0
sized_at (q ∷ ps) p each (suc i, low, is) = sized_at ps p each.1 (i, omega (arith, low), is)

sized : (ps : List (FieldName × Scalar)) → EachSized ps → AreSized ps
sized ps each = record { each = λ p there. sized_at ps p each there }

-- a LogonRequest
pub logon_made : (session : ℕ) → session ≤ 4_000_000_000 → IsMade session (request.Logon 1 30_000 session)
unfolding request_fields request_number request_client IsSized IsOrdinary
logon_made session most = record {
  own = refl;
  askable = record { number = omega arith; client = tt };
  ordinary = (λ is. absurd (omega (arith, is)), (λ is. absurd (omega (arith, is)), (λ is. absurd (omega (arith, is, most)), tt)));
  sized = sized (request_fields (request.Logon 1 30_000 session)) (omega arith, (omega arith, (omega (arith, most), tt)));
}

-- a request for responses
pub resend_made : (session seq after upto : ℕ) → seq < 4_294_967_295 → after < 256 ^ 16 → upto < 256 ^ 16 → IsMade session (request.Resend seq after upto)
unfolding request_fields request_number request_client IsSized IsOrdinary
resend_made session seq after upto few room top = record {
  own = tt;
  askable = record { number = few; client = tt };
  ordinary = (λ is. absurd (omega (arith, is, few)), (tt, (tt, tt)));
  sized = sized (request_fields (request.Resend seq after upto)) (omega (arith, few), (room, (top, tt)));
}

-- those behind a client's list
pub resends_made : (session next count : ℕ) (asked : List Request) → next ≤ 4_294_967_295 → count < 2 ^ 64 → AreResends next count asked → AreMade session asked
resends_made session next count [] few room are = tt
resends_made session next count (request.Resend seq after upto ∷ asked) few room are =
    let a = are.0.0 in let b = are.0.1 in let c = are.0.2 in
    (resend_made session seq after upto (omega (arith, a, few)) (omega (arith, b, room)) (omega (arith, c)), resends_made session next count asked few room are.1)
resends_made session next count (request.Logon seq heart other ∷ asked) few room are = absurd are.0
resends_made session next count (request.Logout seq ∷ asked) few room are = absurd are.0
resends_made session next count (request.Heartbeat ∷ asked) few room are = absurd are.0
resends_made session next count (request.New seq security side price qty client ∷ asked) few room are = absurd are.0
resends_made session next count (request.Modify seq order client price qty ∷ asked) few room are = absurd are.0
resends_made session next count (request.Delete seq order client ∷ asked) few room are = absurd are.0
resends_made session next count (request.DeleteAll seq security ∷ asked) few room are = absurd are.0

-- a new order
side_few : (side : Side) → side_number side ≤ 2
unfolding side_number
side_few Buy = omega arith
side_few Sell = omega arith

held_long : (z : ℤ) → neg_ℤ (pos 1_000_000_000_000_000_000) ≤ℤ z → z ≤ℤ pos 1_000_000_000_000_000_000 → IsHeld Signed 8 z
unfolding IsHeld
held_long (pos n) low high = omega (arith, ints, high)
held_long (negsuc n) low high = omega (arith, ints, low)

pub order_made : (session seq : ℕ) (security : ℤ) (side : Side) (price : ℤ) (quantity client : ℕ) → seq < 4_294_967_295
    → pos 1 ≤ℤ security → security ≤ℤ pos 1_000_000_000_000_000_000
    → neg_ℤ (pos 100_000_000_000_000_000) ≤ℤ price → price ≤ℤ pos 100_000_000_000_000_000 → quantity ≤ 1_000_000_000_000_000 → client < 18_446_744_073_709_551_615
    → IsMade session (request.New seq security (side_number side) price (pos quantity) client)
unfolding request_fields request_number request_client IsSized IsOrdinary
order_made session seq security side price quantity client few low high least most many known =
    let s = side_few side in
    record {
      own = tt;
      askable = record { number = few; client = known };
      ordinary = (
        λ is. absurd (omega (arith, is, few)),
        (
          λ is. absurd (omega (arith, is, s)),
          (
            λ is. absurd (omega (arith, ints, is, low)),
            (
              λ is. absurd (omega (arith, is, known)),
              (
                λ is. absurd (omega (arith, ints, is, least)),
                (λ is. absurd (omega (arith, ints, is)), tt),
              ),
            ),
          ),
        ),
      );
      sized = sized (request_fields (request.New seq security (side_number side) price (pos quantity) client)) (
        omega (arith, few),
        (
          omega (arith, s),
          (
            held_long security (omega (arith, ints, low)) high,
            (
              omega (arith, known),
              (
                held_long price (omega (arith, ints, least)) (omega (arith, ints, most)),
                (held_long (pos quantity) (omega (arith, ints)) (omega (arith, ints, many)), tt),
              ),
            ),
          ),
        ),
      );
    }

-- more requests behind others
made_both : (session : ℕ) (xs ys : List Request) → AreMade session xs → AreMade session ys → AreMade session (xs ++ ys)
made_both session [] ys are more = more
made_both session (x ∷ xs) ys are more = (are.0, made_both session xs ys are.1 more)

pub asked_more : (layouts : List Layout) (session : ℕ) (first queue later : List ℕ) (more : List Request) → AreAsked layouts session (first ++ queue) → AreMade session more
    → later ≡ queue ++ concat (map (request_bytes layouts) more) → AreAsked layouts session (first ++ later)
asked_more layouts session first queue later more are made is =
    let bytes = request_bytes layouts in
    record {
      requests = are.requests ++ more;
      whole = ap (λ (l : List ℕ). first ++ l) is
          ∙ sym (append_assoc first queue (concat (map bytes more)))
          ∙ ap (λ (l : List ℕ). l ++ concat (map bytes more)) are.whole
          ∙ sym (concat-append (map bytes are.requests) (map bytes more)) ∙ ap concat (sym (map-append bytes are.requests more));
      made = made_both session are.requests more are.made made;
    }
