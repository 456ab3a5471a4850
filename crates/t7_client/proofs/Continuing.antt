-- Clients and bytes of which one leaves what the other does.
use Rattle.std.proofs.Common.{◌≡◌, ℕ, ◌+◌, ◌-◌, ◌^◌, ◌<◌, ◌≤◌, ◌==◌, true, List, [], ◌∷◌, ◌++◌, length, take, drop, None, refl, sym, ap, ◌∙◌, arith, append_assoc}
use Rattle.std.proofs.lemmas.Bool.Decides.{nat_tests}
use Rattle.std.proofs.lemmas.List.{append-nil, length-append, length-drop, take-append-drop, take_all}
use Rattle.t7_frames.specs.Frames.{front_of, not_yet}
use Rattle.t7_frames.specs.Split.{Split, split_of}
use Rattle.t7_client.specs.declared.fault.ClientFault.{ClientFault}
use Rattle.t7_client.specs.declared.fault.ClientFault.TheVariants.{Misfit, Memory}
use Rattle.t7_client.specs.Hearing.{Continues, Heard, StopsBy, Stays, after_first, heard, heard_behind, heard_by}
use Rattle.t7_client.specs.Recovering.{Recovery, cut}
use Rattle.t7_client.specs.Sound.{IsSound}

-- nothing changes
stays_itself : (client : Recovery) → Stays client client
stays_itself client = record { layouts = refl; session = refl; dialed = refl; made = refl }

stays_on : (a b c : Recovery) → Stays a b → Stays b c → Stays a c
stays_on a b c ab bc = record { layouts = bc.layouts ∙ ab.layouts; session = bc.session ∙ ab.session; dialed = bc.dialed ∙ ab.dialed; made = bc.made ∙ ab.made }

pub continues_itself : (client : Recovery) (bytes : List ℕ) → Continues client bytes client bytes
continues_itself client bytes = record { heard = refl; stops = λ end stops. stops; stays = stays_itself client; count = refl }

pub continues_on : (a b c : Recovery) (x y z : List ℕ) → Continues a x b y → Continues b y c z → Continues a x c z
continues_on a b c x y z ab bc = record {
  heard = ab.heard ∙ bc.heard;
  stops = λ end stops. ab.stops end (bc.stops end stops);
  stays = stays_on a b c ab.stays bc.stays;
  count = bc.count ∙ ab.count;
}

-- what ends the one ends the other
pub stops_before : (a b : Recovery) (x y : List ℕ) (fault : ClientFault) (end : Recovery) → Continues a x b y → StopsBy b y fault end → StopsBy a x fault end
stops_before a b x y (Misfit place) end on (place_is, end_is) =
    (ap (λ (h : Heard). h.misfit) on.heard ∙ place_is, end_is ∙ ap (λ (h : Heard). cut h.client) (sym on.heard))
stops_before a b x y Memory end on stops = on.stops end stops

-- bytes are taken in
abbrev pub fed : Recovery → ℕ → List ℕ → Recovery
fed client count left = record client { rest = client.rest ++ take count left }

pub feeds : (client : Recovery) (count : ℕ) (left : List ℕ) → Continues client left (fed client count left) (drop count left)
feeds client count left =
    let split : client.rest ++ left ≡ (client.rest ++ take count left) ++ drop count left =
    ap (λ (l : List ℕ). client.rest ++ l) (sym (take-append-drop count left)) ∙ sym (append_assoc client.rest (take count left) (drop count left)) in
    let one : length (client.rest ++ take count left) ≡ length client.rest + length (take count left) = length-append client.rest (take count left) in
    let two : length (take count left) + length (drop count left) ≡ length left =
    sym (length-append (take count left) (drop count left)) ∙ ap length (take-append-drop count left) in
    record {
      heard = ap (λ (l : List ℕ). heard_by (split_of l).rest (split_of l).frames (record client { rest = [] })) split;
      stops = λ end (n, is). (n, is ∙ ap (λ (l : List ℕ). cut (after_first n (split_of l).frames (record client { rest = [] }))) (sym split));
      stays = record { layouts = refl; session = refl; dialed = refl; made = refl };
      count = omega (arith, one, two);
    }

-- where nothing whole stands in front and nothing is left, all was heard
pub heard_all : ((bytes : List ℕ) → front_of bytes ≡ not_yet → (split_of bytes ≡ record { frames = []; rest = bytes }) × (length bytes < 4096)) → (client : Recovery)
    → front_of client.rest ≡ not_yet → heard client [] ≡ record { client = client; misfit = None }
heard_all waits client front =
    let bare : Recovery = record client { rest = [] } in
    ap (λ (l : List ℕ). heard_by (split_of l).rest (split_of l).frames bare) (append-nil client.rest)
    ∙ ap (λ (s : Split). heard_by s.rest s.frames bare) (waits client.rest front).0
    ∙ ap (heard_behind client.rest bare) front

-- the bytes behind the first so many, as a slice of all
pub tail_is : (left : List ℕ) (count : ℕ) → take (length left - count) (drop count left) ≡ drop count left
tail_is left count = let l = length-drop count left in take_all (length left - count) (drop count left) (omega (arith, l))

pub fed_sound : (client : Recovery) (count : ℕ) (left : List ℕ) → IsSound client → client.treated + length client.rest + length left ≤ 2 ^ 35 → IsSound (fed client count left)
fed_sound client count left sound few =
    let one : length (client.rest ++ take count left) ≡ length client.rest + length (take count left) = length-append client.rest (take count left) in
    let two : length (take count left) + length (drop count left) ≡ length left =
    sym (length-append (take count left) (drop count left)) ∙ ap length (take-append-drop count left) in
    record { least = sound.least; most = sound.most; numbers = sound.numbers; made = sound.made; few = omega (arith, one, two, few) }

pub no_bytes : (left : List ℕ) → true ≡ (length left == 0) → left ≡ []
no_bytes [] is = refl
no_bytes (byte ∷ left) is = absurd (let n : length (byte ∷ left) ≡ 0 = grind (arith, nat_tests) in omega arith)
