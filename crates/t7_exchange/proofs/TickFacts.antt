-- What the heartbeat rule does to the connections, one after another.
use Rattle.std.proofs.Common.{◌≡◌, ℕ, Bool, true, false, cond, ◌||◌, List, [], ◌∷◌, ◌++◌, Option, Some, None, is_some, refl, sym, ap, ◌∙◌}
use Rattle.std.specs.List.{list_any}
use Rattle.std.specs.Option.{option_map, option_map_or}
use Rattle.std.specs.Ordering.{nat_cmp, eq_by_cmp}
use Rattle.std.specs.Cmp.{nat_cmp_total}
use Rattle.std.specs.FinMap.{nat_cmp-IsAntisymmetric}
use Rattle.std.specs.FinMap.Entries.{same_entries}
use Rattle.t7_book.specs.declared.command.Command.{Command}
use Rattle.t7_session.specs.declared.session.Beat.{Beat}
use Rattle.t7_session.specs.declared.session.Beat.TheVariants as beat
use Rattle.t7_session.specs.Heartbeats.{beat_of}
use Rattle.t7_session.specs.Held.{Held}
use Rattle.t7_entry.specs.ByNumber.{ByNumber, Rises, contains_key, get, keys, remove}
use Rattle.t7_entry.specs.State.{Core, Input, and_then, line_of}
use Rattle.t7_entry.specs.Events.{do_beat, settled_each, tick_at, tick_each}
use Rattle.t7_entry.proofs.Cutting.{and_then-assoc}
use Rattle.t7_entry.proofs.Numbers.{get-remove, rises-remove, tied}
use Rattle.t7_exchange.specs.Maps.{IsStill, Stays, input_part, inputs_of, line_part}
use Rattle.t7_exchange.specs.Wires.{Acts, Wires, core_of, ticked}
use Rattle.t7_exchange.proofs.MapFacts.{get-parts, rises-parts}
use Rattle.t7_exchange.proofs.WireFacts.{acts_at, and_then-nothing}

-- one connection more
pub tick_more : (moment : ℕ) (inputs : ByNumber Input) (ks : List ℕ) (k : ℕ) (core : Core)
    → and_then (tick_each moment inputs ks core) (ticked moment k inputs) ≡ tick_each moment inputs (ks ++ k ∷ []) core
unfolding tick_each
tick_more moment inputs [] k core = sym (and_then-nothing (ticked moment k inputs core))
tick_more moment inputs (x ∷ ks) k core =
    and_then-assoc (ticked moment x inputs core) (tick_each moment inputs ks) (ticked moment k inputs)
    ∙ ap (and_then (ticked moment x inputs core)) (λ i c. tick_more moment inputs ks k c i)

-- a connection does what its session's rule wants
pub ticked_is : (accepted : List Command) (moment conn : ℕ) (held : ByNumber Held)
    → ticked moment conn (inputs_of held) (core_of accepted held) ≡ do_beat moment conn (core_of accepted held) (option_map_or (λ (h : Held). beat_of h moment) (get held conn) beat.Nothing)
ticked_is accepted moment conn held =
    (λ i. tick_at moment conn (core_of accepted held) (get-parts line_part held conn i) (get-parts input_part held conn i))
    ∙ by_value (get held conn)
  where
    by_value : (o : Option Held) → tick_at moment conn (core_of accepted held) (option_map line_part o) (option_map input_part o)
        ≡ do_beat moment conn (core_of accepted held) (option_map_or (λ (h : Held). beat_of h moment) o beat.Nothing)
    by_value None = refl
    by_value (Some h) = refl

pub acts_beat : (accepted : List Command) (moment conn : ℕ) (old new : Wires) (b : Beat) → b ≡ option_map_or (λ (h : Held). beat_of h moment) (get old.held conn) beat.Nothing
    → Acts accepted old new (λ core. do_beat moment conn core b) → Acts accepted old new (ticked moment conn (inputs_of old.held))
acts_beat accepted moment conn old new b is acts =
    acts_at accepted old new (λ core. do_beat moment conn core b) (ticked moment conn (inputs_of old.held))
    (ap (do_beat moment conn (core_of accepted old.held)) is ∙ sym (ticked_is accepted moment conn old.held)) acts

-- by what had come on it, where that has stayed
pub ticked_still : (accepted : List Command) (moment conn : ℕ) (old now : ByNumber Held) → Stays old now
    → ticked moment conn (inputs_of now) (core_of accepted now) ≡ ticked moment conn (inputs_of old) (core_of accepted now)
ticked_still accepted moment conn old now stays = by_value (get now conn) refl (stays.each conn)
  where
    core : Core
    core = core_of accepted now

    by_value : (o : Option Held) → get now conn ≡ o → IsStill (get old conn) o → ticked moment conn (inputs_of now) core ≡ ticked moment conn (inputs_of old) core
    by_value None is still =
        let none : line_of core conn ≡ None = get-parts line_part now conn ∙ ap (option_map line_part) is in
        ap (λ l. tick_at moment conn core l (get (inputs_of now) conn)) none ∙ sym (ap (λ l. tick_at moment conn core l (get (inputs_of old) conn)) none)
    by_value (Some h) is still =
        ap (tick_at moment conn core (line_of core conn)) (get-parts input_part now conn ∙ ap (option_map input_part) is ∙ sym still ∙ sym (get-parts input_part old conn))

-- what is left of a connection that is still open
settled_open : (ks : List ℕ) (m : ByNumber Input) (core : Core) (q : ℕ) → contains_key core.lines q ≡ true → get (settled_each ks m core) q ≡ get m q
settled_open [] m core q is = refl
settled_open (k ∷ ks) m core q is =
    settled_open ks (cond (contains_key core.lines k) m (remove m k)) core q is ∙ by_test (contains_key core.lines k) refl
  where
    apart : (b : Bool) → eq_by_cmp nat_cmp q k ≡ b → contains_key core.lines k ≡ false → cond b None (get m q) ≡ get m q
    apart false e shut = refl
    apart true e shut = absurd (let f : true ≡ false = sym is ∙ ap (contains_key core.lines) (tied q k e) ∙ shut in cc)

    by_test : (b : Bool) → contains_key core.lines k ≡ b → get (cond b m (remove m k)) q ≡ get m q
    by_test true e = refl
    by_test false e = get-remove m k q ∙ apart (eq_by_cmp nat_cmp q k) refl e

-- of one that isn't
settled_shut : (ks : List ℕ) (m : ByNumber Input) (core : Core) (q : ℕ) → contains_key core.lines q ≡ false → get (settled_each ks m core) q ≡ cond (list_any (λ k. eq_by_cmp nat_cmp q k) ks) None (get m q)
settled_shut [] m core q is = refl
settled_shut (k ∷ ks) m core q is =
    settled_shut ks (cond (contains_key core.lines k) m (remove m k)) core q is
    ∙ by_test (contains_key core.lines k) refl (eq_by_cmp nat_cmp q k) refl (list_any (λ j. eq_by_cmp nat_cmp q j) ks)
  where
    none : (b : Bool) → cond {A = Option Input} b None None ≡ None
    none true = refl
    none false = refl

    by_test : (b : Bool) → contains_key core.lines k ≡ b → (d : Bool) → eq_by_cmp nat_cmp q k ≡ d → (e : Bool)
        → cond e None (get (cond b m (remove m k)) q) ≡ cond (d || e) None (get m q)
    by_test true here true same e = absurd (let f : false ≡ true = sym is ∙ ap (contains_key core.lines) (tied q k same) ∙ here in cc)
    by_test false here true same e = ap (λ o. cond e None o) (get-remove m k q ∙ ap (λ d. cond d None (get m q)) same) ∙ none e
    by_test true here false same e = refl
    by_test false here false same e = ap (λ o. cond e None o) (get-remove m k q ∙ ap (λ d. cond d None (get m q)) same)

no_key : (m : ByNumber Input) (q : ℕ) → cond (list_any (λ k. eq_by_cmp nat_cmp q k) (keys m)) None (get m q) ≡ None
no_key [] q = refl
no_key (e ∷ m) q = by_test (eq_by_cmp nat_cmp q e.0) (no_key m q)
  where
    by_test : (b : Bool) → cond (list_any (λ k. eq_by_cmp nat_cmp q k) (keys m)) None (get m q) ≡ None
        → cond (b || list_any (λ k. eq_by_cmp nat_cmp q k) (keys m)) None (cond b (Some e.1) (get m q)) ≡ None
    by_test true rest = refl
    by_test false rest = rest

rises_settled : (ks : List ℕ) (m : ByNumber Input) (core : Core) → Rises m → Rises (settled_each ks m core)
rises_settled [] m core rises = rises
rises_settled (k ∷ ks) m core rises = rises_settled ks (cond (contains_key core.lines k) m (remove m k)) core (by_test (contains_key core.lines k))
  where
    by_test : (b : Bool) → Rises (cond b m (remove m k))
    by_test true = rises
    by_test false = rises-remove m k rises

-- what has come on the connections after a tick
pub settled_is : (accepted : List Command) (old new : ByNumber Held) → Stays old new → Rises old → Rises new
    → inputs_of new ≡ settled_each (keys (inputs_of old)) (inputs_of old) (core_of accepted new)
settled_is accepted old new stays rises_old rises_new =
    same_entries nat_cmp nat_cmp_total nat_cmp-IsAntisymmetric (inputs_of new) (settled_each (keys (inputs_of old)) (inputs_of old) core)
    (rises-parts input_part new rises_new) (rises_settled (keys (inputs_of old)) (inputs_of old) core (rises-parts input_part old rises_old))
    (λ q. by_value q (get new q) refl (stays.each q))
  where
    core : Core
    core = core_of accepted new

    by_value : (q : ℕ) (o : Option Held) → get new q ≡ o → IsStill (get old q) o → get (inputs_of new) q ≡ get (settled_each (keys (inputs_of old)) (inputs_of old) core) q
    by_value q None is still =
        get-parts input_part new q ∙ ap (option_map input_part) is
        ∙ sym (settled_shut (keys (inputs_of old)) (inputs_of old) core q (ap is_some (get-parts line_part new q ∙ ap (option_map line_part) is)) ∙ no_key (inputs_of old) q)
    by_value q (Some h) is still =
        get-parts input_part new q ∙ ap (option_map input_part) is ∙ sym still ∙ sym (get-parts input_part old q)
        ∙ sym (settled_open (keys (inputs_of old)) (inputs_of old) core q (ap is_some (get-parts line_part new q ∙ ap (option_map line_part) is)))
