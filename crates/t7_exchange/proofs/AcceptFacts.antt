-- A command that is accepted: its messages, its responses, and the day after it.
use Rattle.std.proofs.Common.{◌≡◌, ℕ, ◌+◌, ℤ, List, [], ◌∷◌, ◌++◌, length, refl, sym, ap, ◌∙◌, subst, arith, length-append, drop}
use Rattle.std.specs.Prelude.{◌==◌, Contains}
use Rattle.std.specs.List.{All, filter}
use Rattle.std.proofs.lemmas.Int.{ints}
use Rattle.std.proofs.lemmas.List.{append-nil, append_assoc, map-append}
use Rattle.std.proofs.lemmas.List.Elements.{All-cons, All-drop, All-filter, All-head, All-map, All-nil, All-tail, All-weaker}
use Rattle.t7_base.specs.Listing.{IsListing, Listing}
use Rattle.t7_base.specs.declared.public.Public.{Public}
use Rattle.t7_base.specs.declared.public.Public.TheVariants as public
use Rattle.t7_eti.specs.declared.response.Kept.{Kept}
use Rattle.t7_eti.specs.declared.response.Response.TheVariants as response
use Rattle.t7_eobi.specs.Bytes.{IsSecurity}
use Rattle.t7_book.specs.declared.command.Command.{Command}
use Rattle.t7_book.specs.About.{IsAbout}
use Rattle.t7_book.specs.Orders.{BookState, empty_book, roster_of}
use Rattle.t7_book.specs.Steps.{Effect, book_after, messages, steps}
use Rattle.t7_book.specs.Trace.{book_left, trace, trace_from}
use Rattle.t7_packets.specs.Packing.{IsWritable}
use Rattle.t7_orders.specs.declared.response.Numbered.{Numbered}
use Rattle.t7_orders.specs.Answers.{Stored, answers_of, numbered, of_session, stored, stored_from}
use Rattle.t7_entry.specs.State.{Input, Setting, book_of, line_of}
use Rattle.t7_entry.specs.Tellable.{CanBeTold}
use Rattle.t7_entry.specs.Treatment.{accept, deliver}
use Rattle.t7_entry.specs.Days.{before_others, replies_in, told_in, went_on}
use Rattle.t7_entry.specs.Events.{settled_at}
use Rattle.t7_entry.specs.Stalls.{with_input}
use Rattle.t7_entry.proofs.EntryFacts.{stored_from-append}
use Rattle.t7_exchange.specs.Maps.{inputs_of}
use Rattle.t7_feed.specs.Sending.{AreRanged, IsRanged}
use Rattle.t7_exchange.specs.Outbox.{Outbox}
use Rattle.t7_exchange.specs.Sayable.{IsSayable}
use Rattle.t7_exchange.specs.Views.{day_of, state_of}
use Rattle.t7_exchange.specs.Wires.{Acts, Wires, core_of}

-- the messages of a command more
pub trace-more : (book : BookState) (cs : List Command) (c : Command) → trace_from book (cs ++ c ∷ []) ≡ trace_from book cs ++ steps (book_left book cs) c
trace-more book [] c = append-nil (steps book c)
trace-more book (x ∷ cs) c =
    ap (λ (s : List Effect). steps book x ++ s) (trace-more (book_after book x) cs c) ∙ sym (append_assoc (steps book x) (trace_from (book_after book x) cs) (steps (book_left (book_after book x) cs) c))

pub length-messages : (ss : List Effect) → length (messages ss) ≡ length ss
length-messages [] = refl
length-messages (s ∷ ss) = let rest = length-messages ss in omega (arith, rest)

pub last_more : (listing : Listing) (cs : List Command) (c : Command) → length (trace listing (cs ++ c ∷ [])) ≡ length (trace listing cs) + length (messages (steps (book_left (empty_book (roster_of listing)) cs) c))
last_more listing cs c =
    let start = empty_book (roster_of listing) in
    ap length (trace-more start cs c) ∙ length-append (trace_from start cs) (steps (book_left start cs) c)
    ∙ ap (λ n. length (trace_from start cs) + n) (sym (length-messages (steps (book_left start cs) c)))

after_all : {X : Type 0} (xs ys : List X) → drop (length xs) (xs ++ ys) ≡ ys
after_all [] [] = refl
after_all [] (y ∷ ys) = refl
after_all (x ∷ xs) ys = after_all xs ys

pub all_right : {X : Type 0} (P : X → Type 0) (xs ys : List X) → All P (xs ++ ys) → All P ys
all_right P xs ys all = subst (All P) (after_all xs ys) (All-drop P (length xs) (xs ++ ys) all)

-- they may be written
security_known : (listing : Listing) → IsListing listing → (z : ℤ) → Contains listing.securities z → IsSecurity z
security_known listing is z there = let range = is.security z there in (grind (arith, ints, range.0, range.1), grind (arith, ints, range.0, range.1))

about_writable : (listing : Listing) → IsListing listing → (m : Public) → IsAbout listing.securities m → IsWritable m
about_writable listing is (public.Add order) there = record { some = λ e. cc; security = security_known listing is order.security there }
about_writable listing is (public.Modify security side prev_stamp prev_price prev_qty stamp price qty) there = record { some = λ e. cc; security = security_known listing is security there }
about_writable listing is (public.SamePriority security side stamp price prev_qty qty) there = record { some = λ e. cc; security = security_known listing is security there }
about_writable listing is (public.Delete order) there = record { some = λ e. cc; security = security_known listing is order.security there }
about_writable listing is (public.MassDelete security) there = record { some = λ e. cc; security = security_known listing is security there }
about_writable listing is (public.Partial security side stamp price last_qty last_price) there = record { some = λ e. cc; security = security_known listing is security there }
about_writable listing is (public.Full security side stamp price last_qty last_price) there = record { some = λ e. cc; security = security_known listing is security there }
about_writable listing is (public.Summary security side stamp last_qty last_price) there = record { some = λ e. cc; security = security_known listing is security there }
about_writable listing is public.Other there = absurd there

pub steps_writable : (listing : Listing) (cs : List Command) (c : Command) → IsListing listing → All (IsAbout listing.securities) (messages (trace listing (cs ++ c ∷ [])))
    → All IsWritable (messages (steps (book_left (empty_book (roster_of listing)) cs) c))
steps_writable listing cs c is all =
    let start = empty_book (roster_of listing) in
    let ss = steps (book_left start cs) c in
    let split : messages (trace listing (cs ++ c ∷ [])) ≡ messages (trace_from start cs) ++ messages ss = ap messages (trace-more start cs c) ∙ map-append (λ (s : Effect). s.0) (trace_from start cs) ss in
    All-weaker (IsAbout listing.securities) IsWritable (about_writable listing is) (messages ss)
    (all_right (IsAbout listing.securities) (messages (trace_from start cs)) (messages ss) (subst (All (IsAbout listing.securities)) split all))

-- the numbered responses of a command may be written
all_numbered : (before xs : List Stored) → All CanBeTold xs → All (λ (n : Numbered). IsSayable (response.Kept 0 n.what)) (numbered before xs)
all_numbered before [] all = All-nil (λ (n : Numbered). IsSayable (response.Kept 0 n.what))
all_numbered before (x ∷ xs) all =
    All-cons (λ (n : Numbered). IsSayable (response.Kept 0 n.what)) _ _ (All-head CanBeTold x xs all) (all_numbered (before ++ x ∷ []) xs (All-tail CanBeTold x xs all))

pub fresh_sayable : (listing : Listing) (cs : List Command) (c : Command) → All CanBeTold (stored listing (cs ++ c ∷ []))
    → All (λ (n : Numbered). IsSayable (response.Kept 0 n.what)) (numbered (stored listing cs) (answers_of (book_left (empty_book (roster_of listing)) cs) c))
fresh_sayable listing cs c all =
    let start = empty_book (roster_of listing) in
    let said = answers_of (book_left start cs) c in
    let split : stored listing (cs ++ c ∷ []) ≡ stored listing cs ++ said = stored_from-append start cs (c ∷ []) ∙ ap (λ (l : List Stored). stored_from start cs ++ l) (append-nil said) in
    all_numbered (stored listing cs) said (all_right CanBeTold (stored listing cs) said (subst (All CanBeTold) split all))

-- the connections, the replies and the messages after it
pub record Accepted (setting : Setting) (accepted : List Command) (moment : ℕ) (c : Command) (mid new : Wires) : Type 0 where
  pub core : core_of (accepted ++ c ∷ []) new.held ≡ (accept setting moment c (core_of accepted mid.held)).core
  pub replied : new.waiting ≡ mid.waiting ++ replies_in (accept setting moment c (core_of accepted mid.held)).doings
  pub told : told_in (accept setting moment c (core_of accepted mid.held)).doings ≡ before_others (messages (steps (book_of setting accepted) c)) []

pub was_accepted : (setting : Setting) (accepted : List Command) (moment : ℕ) (c : Command) (mid new : Wires)
    → Acts (accepted ++ c ∷ []) mid new (deliver moment (numbered (stored setting.listing accepted) (answers_of (book_of setting accepted) c)))
    → Accepted setting accepted moment c mid new
unfolding accept
was_accepted setting accepted moment c mid new acts = record {
  core = acts.core;
  replied = acts.replied;
  told = ap (before_others (messages (steps (book_of setting accepted) c))) acts.silent;
}

module _ (setting : Setting) (accepted : List Command) (out now : Outbox) (moment conn : ℕ) (c : Command) (w mid new : Wires) (was : Accepted setting accepted moment c mid new)
    (waiting : mid.waiting ≡ w.waiting) (untold : now.untold ≡ out.untold ++ before_others (messages (steps (book_of setting accepted) c)) []) (live : now.live ≡ out.live) (beats : now.beats ≡ out.beats)
    (left : now.cycle.left ≡ out.cycle.left) (snaps : now.snaps ≡ out.snaps) where
  -- in answer to a frame
  pub went_accepted : (input : Input) → inputs_of new.held ≡ settled_at (inputs_of w.held) conn input (line_of (accept setting moment c (core_of accepted mid.held)).core conn)
      → went_on (day_of setting accepted w out) (with_input conn (state_of accepted w) input (accept setting moment c (core_of accepted mid.held))) ≡ day_of setting (accepted ++ c ∷ []) new now
  went_accepted input inputs = λ i. record {
    setting = setting;
    state = record { core = sym was.core i; inputs = sym inputs i };
    waiting = sym (was.replied ∙ ap (λ l. l ++ replies_in (accept setting moment c (core_of accepted mid.held)).doings) waiting) i;
    untold = (ap (λ l. out.untold ++ l) was.told ∙ sym untold) i;
    live = sym live i;
    beats = sym beats i;
    left = sym left i;
    snaps = sym snaps i;
  }

  -- and without one
  pub went_cleared : mid.held ≡ w.held → inputs_of new.held ≡ inputs_of w.held
      → went_on (day_of setting accepted w out) (record { state = record { core = (accept setting moment c (core_of accepted w.held)).core; inputs = inputs_of w.held }; doings = (accept setting moment c (core_of accepted w.held)).doings })
      ≡ day_of setting (accepted ++ c ∷ []) new now
  went_cleared held inputs = λ i. record {
    setting = setting;
    state = record { core = (ap (λ m. (accept setting moment c (core_of accepted m)).core) (sym held) ∙ sym was.core) i; inputs = sym inputs i };
    waiting = (ap (λ m. w.waiting ++ replies_in (accept setting moment c (core_of accepted m)).doings) (sym held) ∙ sym (was.replied ∙ ap (λ l. l ++ replies_in (accept setting moment c (core_of accepted mid.held)).doings) waiting)) i;
    untold = (ap (λ m. out.untold ++ told_in (accept setting moment c (core_of accepted m)).doings) (sym held) ∙ ap (λ l. out.untold ++ l) was.told ∙ sym untold) i;
    live = sym live i;
    beats = sym beats i;
    left = sym left i;
    snaps = sym snaps i;
  }

-- one command more whose fields are in their ranges
pub ranged_more : (cs : List Command) (c : Command) → AreRanged cs → IsRanged c → AreRanged (cs ++ c ∷ [])
ranged_more [] c all is = (is, tt)
ranged_more (x ∷ cs) c all is = (all.0, ranged_more cs c all.1 is)

-- the stored responses of a session may be written
pub kept_sayable : (session : ℕ) (xs : List Stored) → All CanBeTold xs → All (λ (what : Kept). IsSayable (response.Kept 0 what)) (of_session session xs)
kept_sayable session xs all =
    All-map (λ (what : Kept). IsSayable (response.Kept 0 what)) (λ (s : Stored). s.1) (filter (λ (s : Stored). s.0 == session) xs) (All-filter (λ (s : Stored). s.0 == session) CanBeTold xs all)
