-- What sending and closing do to the connections, as order entry sees them.
use Rattle.std.proofs.Common.{◌≡◌, ℕ, true, false, cond, map, drop, List, [], ◌∷◌, ◌++◌, length, suc, ◌+◌, Option, Some, None, is_some, refl, sym, ap, ◌∙◌, arith, max}
use Rattle.std.specs.Option.{option_map}
use Rattle.t7_eti.specs.declared.response.Response.{Response}
use Rattle.t7_book.specs.declared.command.Command.{Command}
use Rattle.t7_session.specs.Held.{Held}
use Rattle.t7_entry.specs.ByNumber.{ByNumber, get, remove}
use Rattle.t7_entry.specs.State.{Core, Outcome, and_then, closes, pure, replies, sends}
use Rattle.t7_entry.specs.Treatment.{close, deliver, send, send_again, send_at}
use Rattle.t7_exchange.specs.Maps.{changed, changed_at, line_part, lines_of}
use Rattle.t7_entry.specs.Days.{replies_in, told_in}
use Rattle.std.proofs.lemmas.List.{append-nil, append_assoc}
use Rattle.t7_eti.specs.declared.response.Kept.{Kept}
use Rattle.t7_eti.specs.declared.response.Response.TheVariants as response
use Rattle.t7_orders.specs.declared.response.Numbered.{Numbered}
use Rattle.t7_entry.proofs.Cutting.{and_then-assoc}
use Rattle.t7_entry.proofs.Parts.{replies_in-append, told_in-append}
use Rattle.t7_exchange.specs.Wires.{Acts, Wires, core_of, delivered}
use Rattle.t7_exchange.proofs.MapFacts.{get-parts, parts-insert, parts-remove}

line_at : (held : ByNumber Held) (conn : ℕ) (o : Option Held) → get held conn ≡ o → get (lines_of held) conn ≡ option_map line_part o
line_at held conn o is = get-parts line_part held conn ∙ ap (option_map line_part) is

pub sent_core : (accepted : List Command) (moment conn : ℕ) (r : Response) (held : ByNumber Held) (o : Option Held) → get held conn ≡ o
    → core_of accepted (changed_at held conn (λ h. record h { sent = max h.sent moment }) o) ≡ (send moment conn r (core_of accepted held)).core
unfolding send
sent_core accepted moment conn r held None is =
    ap (λ l. (send_at moment conn r (core_of accepted held) l).core) (sym (line_at held conn None is))
sent_core accepted moment conn r held (Some h) is =
    (λ i. record { accepted = accepted; lines = parts-insert line_part held conn (record h { sent = max h.sent moment }) i })
    ∙ ap (λ l. (send_at moment conn r (core_of accepted held) l).core) (sym (line_at held conn (Some h) is))

pub sent_doings : (accepted : List Command) (moment conn : ℕ) (r : Response) (held : ByNumber Held) (o : Option Held) → get held conn ≡ o
    → (send moment conn r (core_of accepted held)).doings ≡ cond (is_some o) (replies (sends conn r) ∷ []) []
unfolding send
sent_doings accepted moment conn r held None is = ap (λ l. (send_at moment conn r (core_of accepted held) l).doings) (line_at held conn None is)
sent_doings accepted moment conn r held (Some h) is = ap (λ l. (send_at moment conn r (core_of accepted held) l).doings) (line_at held conn (Some h) is)

pub closed_core : (accepted : List Command) (conn : ℕ) (held : ByNumber Held) → core_of accepted (remove held conn) ≡ (close conn (core_of accepted held)).core
unfolding close
closed_core accepted conn held = λ i. record { accepted = accepted; lines = parts-remove line_part held conn i }

pub and_then-nothing : (o : Outcome) → and_then o pure ≡ o
and_then-nothing o = λ i. record { core = o.core; doings = append-nil o.doings i }

pub acts_none : (accepted : List Command) (moment conn : ℕ) (r : Response) (w : Wires) → get w.held conn ≡ None → Acts accepted w w (send moment conn r)
acts_none accepted moment conn r w is =
    let done = sent_doings accepted moment conn r w.held None is in
    record {
      core = sent_core accepted moment conn r w.held None is;
      replied = sym (append-nil w.waiting) ∙ ap (λ d. w.waiting ++ replies_in d) (sym done);
      silent = ap told_in done;
    }

pub acts_sent : (accepted : List Command) (moment conn : ℕ) (r : Response) (w new : Wires) (h : Held) → get w.held conn ≡ Some h
    → new.held ≡ changed w.held conn (λ (h : Held). record h { sent = max h.sent moment }) → new.waiting ≡ w.waiting ++ sends conn r ∷ [] → Acts accepted w new (send moment conn r)
acts_sent accepted moment conn r w new h is held waiting =
    let done = sent_doings accepted moment conn r w.held (Some h) is in
    record {
      core = ap (core_of accepted) (held ∙ ap (changed_at w.held conn (λ (h : Held). record h { sent = max h.sent moment })) is) ∙ sent_core accepted moment conn r w.held (Some h) is;
      replied = waiting ∙ ap (λ d. w.waiting ++ replies_in d) (sym done);
      silent = ap told_in done;
    }

pub acts_closed : (accepted : List Command) (conn : ℕ) (w new : Wires) → new.held ≡ remove w.held conn → new.waiting ≡ w.waiting ++ closes conn ∷ [] → Acts accepted w new (close conn)
unfolding close
acts_closed accepted conn w new held waiting = record {
  core = ap (core_of accepted) held ∙ closed_core accepted conn w.held;
  replied = waiting;
  silent = refl;
}

pub some_there : {X : Type 0} (o : Option X) → is_some o ≡ true → (x : X) × (o ≡ Some x)
some_there None is = absurd (let e : false ≡ true = is in cc)
some_there (Some x) is = (x, refl)

-- one thing after another
pub acts_then : (accepted : List Command) (old mid new : Wires) (first next : Core → Outcome) → Acts accepted old mid first → Acts accepted mid new next
    → Acts accepted old new (λ core. and_then (first core) next)
acts_then accepted old mid new first next a b =
    let k = core_of accepted old.held in
    let now = next (first k).core in
    record {
      core = b.core ∙ ap (λ c. (next c).core) a.core;
      replied =
          b.replied
          ∙ ap (λ ws. ws ++ replies_in (next (core_of accepted mid.held)).doings) a.replied
          ∙ ap (λ c. (old.waiting ++ replies_in (first k).doings) ++ replies_in (next c).doings) a.core
          ∙ append_assoc old.waiting (replies_in (first k).doings) (replies_in now.doings)
          ∙ ap (λ rs. old.waiting ++ rs) (sym (replies_in-append (first k).doings now.doings));
      silent =
          told_in-append (first k).doings now.doings
          ∙ ap (λ ts. ts ++ told_in now.doings) a.silent
          ∙ ap (λ c. told_in (next c).doings) (sym a.core) ∙ b.silent;
    }

-- nothing is done
pub acts_pure : (accepted : List Command) (w : Wires) → Acts accepted w w pure
acts_pure accepted w = record { core = refl; replied = sym (append-nil w.waiting); silent = refl }

-- one outcome is another
pub acts_same : (accepted : List Command) (old new : Wires) (first other : Core → Outcome) → ((core : Core) → first core ≡ other core) → Acts accepted old new first → Acts accepted old new other
acts_same accepted old new first other same acts =
    let k = core_of accepted old.held in
    record {
      core = acts.core ∙ ap (λ (o : Outcome). o.core) (same k);
      replied = acts.replied ∙ ap (λ (o : Outcome). old.waiting ++ replies_in o.doings) (same k);
      silent = ap (λ (o : Outcome). told_in o.doings) (sym (same k)) ∙ acts.silent;
    }

-- a response more, behind those that went out
pub again_more : (moment conn number : ℕ) (xs : List Kept) (x : Kept) (core : Core)
    → and_then (send_again moment conn number xs core) (send moment conn (response.Kept (number + length xs) x)) ≡ send_again moment conn number (xs ++ x ∷ []) core
unfolding send_again
again_more moment conn number [] x core =
    let e : number + 0 ≡ number = omega arith in
    ap (λ n. send moment conn (response.Kept n x) core) e ∙ sym (and_then-nothing (send moment conn (response.Kept number x) core))
again_more moment conn number (y ∷ xs) x core =
    let first = send moment conn (response.Kept number y) core in
    let e : number + suc (length xs) ≡ (number + 1) + length xs = omega arith in
    and_then-assoc first (send_again moment conn (number + 1) xs) (send moment conn (response.Kept (number + suc (length xs)) x))
    ∙ ap (λ n. and_then first (λ k. and_then (send_again moment conn (number + 1) xs k) (send moment conn (response.Kept n x)))) e
    ∙ ap (and_then first) (λ i k. again_more moment conn (number + 1) xs x k i)

pub deliver_more : (moment : ℕ) (xs : List Numbered) (x : Numbered) (core : Core)
    → and_then (deliver moment xs core) (delivered moment x) ≡ deliver moment (xs ++ x ∷ []) core
unfolding deliver
deliver_more moment [] x core = sym (and_then-nothing (delivered moment x core))
deliver_more moment (y ∷ xs) x core =
    and_then-assoc (delivered moment y core) (deliver moment xs) (delivered moment x)
    ∙ ap (and_then (delivered moment y core)) (λ i k. deliver_more moment xs x k i)

-- one outcome is another where the core is the connections'
pub acts_at : (accepted : List Command) (old new : Wires) (first other : Core → Outcome) → first (core_of accepted old.held) ≡ other (core_of accepted old.held) → Acts accepted old new first → Acts accepted old new other
acts_at accepted old new first other same acts = record {
  core = acts.core ∙ ap (λ (o : Outcome). o.core) same;
  replied = acts.replied ∙ ap (λ (o : Outcome). old.waiting ++ replies_in o.doings) same;
  silent = ap (λ (o : Outcome). told_in o.doings) (sym same) ∙ acts.silent;
}

-- it begins where the connections and the replies are the same
pub acts_from : (accepted : List Command) (old mid new : Wires) (act : Core → Outcome) → mid.held ≡ old.held → mid.waiting ≡ old.waiting → Acts accepted mid new act → Acts accepted old new act
acts_from accepted old mid new act held waiting acts = record {
  core = acts.core ∙ ap (λ (h : ByNumber Held). (act (core_of accepted h)).core) held;
  replied = acts.replied ∙ (λ i. waiting i ++ replies_in (act (core_of accepted (held i))).doings);
  silent = ap (λ (h : ByNumber Held). told_in (act (core_of accepted h)).doings) (sym held) ∙ acts.silent;
}

-- it ends where they are
pub acts_to : (accepted : List Command) (old mid new : Wires) (act : Core → Outcome) → new.held ≡ mid.held → new.waiting ≡ mid.waiting → Acts accepted old mid act → Acts accepted old new act
acts_to accepted old mid new act held waiting acts = record {
  core = ap (core_of accepted) held ∙ acts.core;
  replied = waiting ∙ acts.replied;
  silent = acts.silent;
}

pub map-drop_one : {X Y : Type 0} (f : X → Y) (xs : List X) → map f (drop 1 xs) ≡ drop 1 (map f xs)
map-drop_one f [] = refl
map-drop_one f (x ∷ xs) = ap (map f) (none xs) ∙ sym (none (map f xs))
  where
    none : {Z : Type 0} (l : List Z) → drop 0 l ≡ l
    none [] = refl
    none (z ∷ l) = refl
