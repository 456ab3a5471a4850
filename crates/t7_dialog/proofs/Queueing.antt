-- What a client queues as it hears bytes.
use Rattle.std.proofs.Common.{◌≡◌, ℕ, ◌+◌, ◌-◌, ◌^◌, ◌≤◌, ◌==◌, Bool, true, false, cond, List, [], ◌∷◌, ◌++◌, length, map, Option, Some, None, refl, sym, ap, ◌∙◌, arith, append_assoc, length-append}
use Rattle.std.proofs.lemmas.List.{append-nil, map-append}
use Rattle.std.proofs.lemmas.List.Folds.{concat-append}
use Rattle.std.specs.List.{concat}
use Rattle.t7_eti.specs.declared.request.Request.{Request}
use Rattle.t7_eti.specs.declared.request.Request.TheVariants as request
use Rattle.t7_eti.specs.declared.response.Kept.{Kept}
use Rattle.t7_eti.specs.declared.response.Response.{Response}
use Rattle.t7_eti.specs.declared.response.Response.TheVariants as response
use Rattle.t7_eti.specs.Saying.{request_bytes}
use Rattle.t7_frames.specs.Frames.{Front, bad_length, front_of, not_yet, whole}
use Rattle.t7_layout.specs.Layouts.{Layout}
use Rattle.t7_client.specs.declared.machine.Answer.{Answer}
use Rattle.t7_client.specs.Hearing.{heard_as, heard_behind, heard_by, response_by, split_with, treating}
use Rattle.t7_client.specs.Recovering.{Recovery, after, asking, asking_again, gathering, is_due}
use Rattle.t7_dialog.specs.Coming.{AreResends, ClientsAsk, IsResend, Queues}

-- requests stay below greater bounds
more_resend : (n m k l : ℕ) (asked : Request) → n ≤ m → k ≤ l → IsResend n k asked → IsResend m l asked
more_resend n m k l (request.Resend seq after upto) next count is = let a = is.0 in let b = is.1 in (omega (arith, a, next), omega (arith, b, count), is.2)
more_resend n m k l (request.Logon seq heart session) next count is = absurd is
more_resend n m k l (request.Logout seq) next count is = absurd is
more_resend n m k l request.Heartbeat next count is = absurd is
more_resend n m k l (request.New seq security side price qty client) next count is = absurd is
more_resend n m k l (request.Modify seq order client price qty) next count is = absurd is
more_resend n m k l (request.Delete seq order client) next count is = absurd is
more_resend n m k l (request.DeleteAll seq security) next count is = absurd is

more_resends : (n m k l : ℕ) (asked : List Request) → n ≤ m → k ≤ l → AreResends n k asked → AreResends m l asked
more_resends n m k l [] next count are = tt
more_resends n m k l (a ∷ asked) next count are = (more_resend n m k l a next count are.0, more_resends n m k l asked next count are.1)

both_resends : (n k : ℕ) (xs ys : List Request) → AreResends n k xs → AreResends n k ys → AreResends n k (xs ++ ys)
both_resends n k [] ys are more = more
both_resends n k (x ∷ xs) ys are more = (are.0, both_resends n k xs ys are.1 more)

pub queues_on : (a b c : Recovery) → Queues a b → Queues b c → Queues a c
queues_on a b c one two =
    let n = one.numbers in let m = two.numbers in let g = one.grown in let h = two.grown in
    let bytes = request_bytes a.layouts in
    record {
      asked = one.asked ++ two.asked;
      queue = two.queue
          ∙ ap (λ (l : List Layout). b.queue ++ concat (map (request_bytes l) two.asked)) one.layouts
          ∙ ap (λ (q : List ℕ). q ++ concat (map bytes two.asked)) one.queue
          ∙ append_assoc a.queue (concat (map bytes one.asked)) (concat (map bytes two.asked))
          ∙ ap (λ (q : List ℕ). a.queue ++ q) (sym (concat-append (map bytes one.asked) (map bytes two.asked)) ∙ ap concat (sym (map-append bytes one.asked two.asked)));
      each = both_resends c.next (length c.gathered) one.asked two.asked (more_resends b.next c.next (length b.gathered) (length c.gathered) one.asked m h one.each) two.each;
      numbers = omega (arith, n, m);
      grown = omega (arith, g, h);
      layouts = two.layouts ∙ one.layouts;
      session = two.session ∙ one.session;
      dialed = two.dialed ∙ one.dialed;
      made = two.made ∙ one.made;
    }

-- nothing is queued
abbrev Calm : Recovery → Recovery → Type 0
Calm a b = (b.queue ≡ a.queue) × (b.next ≡ a.next) × (length a.gathered ≤ length b.gathered) × (b.layouts ≡ a.layouts) × (b.session ≡ a.session) × (b.dialed ≡ a.dialed) × (b.made ≡ a.made)

calm_queues : (a b : Recovery) → Calm a b → Queues a b
calm_queues a b calm =
    let same = calm.1 in
    record {
      asked = [];
      queue = calm.0 ∙ sym (append-nil a.queue);
      each = tt;
      numbers = omega (arith, same);
      grown = calm.2;
      layouts = calm.3;
      session = calm.4;
      dialed = calm.5;
      made = calm.6;
    }

asking_queues : (client : Recovery) → Queues client (asking client)
asking_queues client = record {
  asked = request.Resend client.next (length client.gathered) (2 ^ 128 - 1) ∷ [];
  queue = ap (λ (q : List ℕ). client.queue ++ q) (sym (append-nil (request_bytes client.layouts (request.Resend client.next (length client.gathered) (2 ^ 128 - 1)))));
  each = ((omega arith, omega arith, refl), tt);
  numbers = omega arith;
  grown = omega arith;
  layouts = refl;
  session = refl;
  dialed = refl;
  made = refl;
}

again_queues : (client : Recovery) (answer : Option Answer) → Queues client (asking_again client answer)
again_queues client None = calm_queues client client (refl, refl, omega arith, refl, refl, refl, refl)
again_queues client (Some answer) = by (is_due (length client.gathered) answer)
  where
    noted : Recovery
    noted = record client { answer = Some (record answer { asked = true }) }

    by : (b : Bool) → Queues client (cond b (asking noted) client)
    by true = queues_on client noted (asking noted) (calm_queues client noted (refl, refl, omega arith, refl, refl, refl, refl)) (asking_queues noted)
    by false = calm_queues client client (refl, refl, omega arith, refl, refl, refl, refl)

gathering_queues : (client : Recovery) (number : ℕ) (what : Kept) → Queues client (gathering client number what)
gathering_queues client number what = by (number == length client.gathered + 1)
  where
    more : Recovery
    more = record client { gathered = client.gathered ++ what ∷ [] }

    by : (b : Bool) → Queues client (cond b (asking_again (record client { gathered = cond b (client.gathered ++ what ∷ []) client.gathered }) client.answer) client)
    by true =
        let long = length-append client.gathered (what ∷ []) in
        queues_on client more (asking_again more client.answer) (calm_queues client more (refl, refl, omega (arith, long), refl, refl, refl, refl)) (again_queues more client.answer)
    by false = calm_queues client client (refl, refl, omega arith, refl, refl, refl, refl)

after_queues : (client : Recovery) (said : Response) → Queues client (after client said)
after_queues client (response.Logon seq heart) =
    let on : Recovery = record client { logged_on = true } in
    queues_on client on (asking on) (calm_queues client on (refl, refl, omega arith, refl, refl, refl, refl)) (asking_queues on)
after_queues client (response.Logout seq) = calm_queues client (record client { logged_on = false }) (refl, refl, omega arith, refl, refl, refl, refl)
after_queues client response.Beat = calm_queues client client (refl, refl, omega arith, refl, refl, refl, refl)
after_queues client (response.Reject seq reason) = calm_queues client (record client { rejected = Some reason }) (refl, refl, omega arith, refl, refl, refl, refl)
after_queues client (response.Resent seq count last known) =
    let answer : Answer = record { last = last; known = known; asked = false } in
    let noted : Recovery = record client { answer = Some answer } in
    queues_on client noted (asking_again noted (Some answer)) (calm_queues client noted (refl, refl, omega arith, refl, refl, refl, refl)) (again_queues noted (Some answer))
after_queues client (response.Kept number what) = gathering_queues client number what

treating_queues : (client : Recovery) (frame : List ℕ) (said : Response) → Queues client (treating client frame said)
treating_queues client frame said =
    let next = after client said in
    queues_on client next (treating client frame said) (after_queues client said)
    (calm_queues next (treating client frame said) (refl, refl, omega arith, refl, refl, refl, refl))

heard_queues : (rest : List ℕ) (frames : List (List ℕ)) (client : Recovery) → Queues client (heard_by rest frames client).client
heard_queues rest [] client = by (front_of rest)
  where
    by : (f : Front) → Queues client (heard_behind rest client f).client
    by (whole frame) = calm_queues client (record client { rest = rest }) (refl, refl, omega arith, refl, refl, refl, refl)
    by not_yet = calm_queues client (record client { rest = rest }) (refl, refl, omega arith, refl, refl, refl, refl)
    by (bad_length len) = calm_queues client client (refl, refl, omega arith, refl, refl, refl, refl)
heard_queues rest (frame ∷ frames) client = by (response_by client.layouts frame) (λ said. heard_queues rest frames (treating client frame said))
  where
    by : (o : Option Response) → ((said : Response) → Queues (treating client frame said) (heard_by rest frames (treating client frame said)).client)
        → Queues client (heard_as frame (heard_by rest frames) client o).client
    by None go = calm_queues client client (refl, refl, omega arith, refl, refl, refl, refl)
    by (Some said) go = queues_on client (treating client frame said) (heard_by rest frames (treating client frame said)).client (treating_queues client frame said) (go said)

pub clients_ask : ClientsAsk
clients_ask client bytes =
    let bare : Recovery = record client { rest = [] } in
    let split = split_with client bytes in
    queues_on client bare (heard_by split.rest split.frames bare).client (calm_queues client bare (refl, refl, omega arith, refl, refl, refl, refl)) (heard_queues split.rest split.frames bare)
