-- What is done leaves a connection with no other session than a client's, and open unless it closes it.
use Rattle.std.proofs.Common.{◌≡◌, ℕ, Bool, true, false, cond, Option, Some, None, refl, sym, ap, ◌∙◌, subst, eq-eqb}
use Rattle.std.specs.Prelude.{◌==◌}
use Rattle.std.specs.Ordering.{nat_cmp, eq_by_cmp}
use Rattle.t7_eti.specs.declared.response.Response.{Response}
use Rattle.t7_entry.specs.ByNumber.{remove}
use Rattle.t7_entry.specs.State.{Core, Line, Outcome, and_then, line_of, pure, with_line}
use Rattle.t7_entry.specs.Treatment.{close, send, send_at, session_at, session_of}
use Rattle.t7_entry.proofs.Numbers.{apart, get-insert, get-remove, tied}
use Rattle.t7_dialog.specs.Saying.{is_shut}
use Rattle.t7_dialog.specs.Serving.{IsFor}
use Rattle.t7_dialog.proofs.Saying.{shut_first, shut_later}

-- no other session, and open where it was
abbrev pub Moves : ℕ → ℕ → Core → Core → Type 0
Moves conn session a b = (IsFor session (session_of a conn) → IsFor session (session_of b conn)) × (line_of b conn ≡ None → line_of a conn ≡ None)

-- unless it is closed
abbrev pub Keeps : ℕ → ℕ → Core → Outcome → Type 0
Keeps conn session a o = is_shut conn o.doings ≡ false → Moves conn session a o.core

-- numbers that a test tells apart
pub eqb_not : (a b : ℕ) → (a == b) ≡ false → a ≡ b → ⊥
eqb_not a b apart same = let equal : (a == b) ≡ true = eq-eqb a b same in let no : true ≡ false = sym equal ∙ apart in cc no

module _ (conn session : ℕ) where
  pub moves_both : (a b c : Core) → Moves conn session a b → Moves conn session b c → Moves conn session a c
  moves_both a b c first next = (λ own. next.0 (first.0 own), λ none. first.1 (next.1 none))

  pub moves_as : (a b : Core) → session_of b conn ≡ session_of a conn → (line_of b conn ≡ None → line_of a conn ≡ None) → Moves conn session a b
  moves_as a b same shut = (λ own. subst (IsFor session) (sym same) own, shut)

  pub moves_none : (a : Core) → Moves conn session a a
  moves_none a = (λ own. own, λ none. none)

  pub keeps_none : (a : Core) → Keeps conn session a (pure a)
  keeps_none a open_still = moves_none a

  pub keeps_then : (a : Core) (first : Outcome) (next : Core → Outcome) → Keeps conn session a first → ((k : Core) → Keeps conn session k (next k)) → Keeps conn session a (and_then first next)
  keeps_then a first next one more open_still =
      let later = (next first.core).doings in
      moves_both a first.core (next first.core).core (one (shut_first conn first.doings later open_still)) (more first.core (shut_later conn first.doings later open_still))

  pub keeps_test : (a : Core) (b : Bool) (first other : Outcome) → Keeps conn session a first → Keeps conn session a other → Keeps conn session a (cond b first other)
  keeps_test a true first other p q = p
  keeps_test a false first other p q = q

  -- from another core
  pub keeps_from : (a b : Core) (o : Outcome) → Moves conn session a b → Keeps conn session b o → Keeps conn session a o
  keeps_from a b o moves keeps open_still = moves_both a b o.core moves (keeps open_still)

  -- a line that is written in the place of another
  line_written : (core : Core) (other : ℕ) (was now : Line) → line_of core other ≡ Some was → line_of (with_line core other now) conn ≡ None → line_of core conn ≡ None
  line_written core other was now is none = by (eq_by_cmp nat_cmp conn other) (sym (get-insert core.lines other now conn) ∙ none)
    where
      by : (b : Bool) → cond b (Some now) (line_of core conn) ≡ None → line_of core conn ≡ None
      by true e = absurd (cc)
      by false e = e

  -- one with a session that it may have
  pub moves_line : (core : Core) (other : ℕ) (was now : Line) → line_of core other ≡ Some was → (conn ≡ other → IsFor session was.session → IsFor session now.session)
      → Moves conn session core (with_line core other now)
  moves_line core other was now is own = (
    λ before. subst (λ (l : Option Line). IsFor session (session_at l)) (sym (get-insert core.lines other now conn)) (by (eq_by_cmp nat_cmp conn other) refl before),
    line_written core other was now is,
  )
    where
      by : (b : Bool) → eq_by_cmp nat_cmp conn other ≡ b → IsFor session (session_of core conn) → IsFor session (session_at (cond b (Some now) (line_of core conn)))
      by true e before =
          let here = tied conn other e in
          own here (subst (λ (l : Option Line). IsFor session (session_at l)) (ap (line_of core) here ∙ is) before)
      by false e before = before

  send_at_keeps : (moment other : ℕ) (said : Response) (core : Core) (line : Option Line) → line_of core other ≡ line → Keeps conn session core (send_at moment other said core line)
  send_at_keeps moment other said core None is open_still = moves_none core
  send_at_keeps moment other said core (Some line) is open_still = moves_line core other line _ is (λ here own. own)

  pub send_keeps : (moment other : ℕ) (said : Response) (core : Core) → Keeps conn session core (send moment other said core)
  unfolding send
  send_keeps moment other said core = send_at_keeps moment other said core (line_of core other) refl

  pub close_keeps : (other : ℕ) (core : Core) → Keeps conn session core (close other core)
  unfolding close
  close_keeps other core = by (conn == other) refl
    where
      left : Core
      left = record { accepted = core.accepted; lines = remove core.lines other }

      by : (b : Bool) → (conn == other) ≡ b → cond b true false ≡ false → Moves conn session core left
      by true e open_still = absurd (cc)
      by false e open_still =
          let same : line_of left conn ≡ line_of core conn =
          get-remove core.lines other conn ∙ ap (λ (x : Bool). cond x None (line_of core conn)) (apart conn other (λ here. eqb_not conn other e here)) in
          moves_as core left (ap session_at same) (λ none. sym same ∙ none)
