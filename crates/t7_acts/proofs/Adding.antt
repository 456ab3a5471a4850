-- Commands that are accepted one after another, and what is told of them.
use Rattle.std.proofs.Common.{◌≡◌, ◌∙◌, Bool, true, false, cond, List, [], ◌∷◌, ◌++◌, length, drop, refl, sym, ap, subst, append_assoc}
use Rattle.std.proofs.lemmas.List.{append-nil}
use Rattle.std.proofs.Math.Seq.{drop-append_seam}
use Rattle.t7_base.specs.declared.public.Public.{Public}
use Rattle.t7_book.specs.declared.command.Command.{Command}
use Rattle.t7_book.specs.Orders.{BookState, empty_book, roster_of}
use Rattle.t7_book.specs.Steps.{book_after, messages, steps}
use Rattle.t7_book.specs.Trace.{book_left}
use Rattle.t7_entry.specs.State.{Core, Doing, Outcome, Reply, Setting, and_then, book_of, replies, tells}
use Rattle.t7_entry.specs.Days.{before_others, told_by, told_in}
use Rattle.t7_acts.specs.Added.{Adds}

before_both : (ms : List Public) (xs ys : List (List Public)) → before_others ms (xs ++ ys) ≡ before_others ms xs ++ ys
before_both [] xs ys = refl
before_both (m ∷ ms) xs ys = refl

pub told_both : (xs ys : List Doing) → told_in (xs ++ ys) ≡ told_in xs ++ told_in ys
told_both [] ys = refl
told_both (replies r ∷ xs) ys = told_both xs ys
told_both (tells ms ∷ xs) ys = ap (before_others ms) (told_both xs ys) ∙ before_both ms (told_in xs) (told_in ys)

pub told_by-append : (book : BookState) (cs more : List Command) → told_by book (cs ++ more) ≡ told_by book cs ++ told_by (book_left book cs) more
told_by-append book [] more = refl
told_by-append book (c ∷ cs) more =
    let next = book_after book c in
    ap (before_others (messages (steps book c))) (told_by-append next cs more)
    ∙ before_both (messages (steps book c)) (told_by next cs) (told_by (book_left next cs) more)

pub book_left-append : (book : BookState) (cs more : List Command) → book_left book (cs ++ more) ≡ book_left (book_left book cs) more
book_left-append book [] more = refl
book_left-append book (c ∷ cs) more = book_left-append (book_after book c) cs more

module _ (setting : Setting) where
  -- some commands were accepted
  pub record Grows (before after : List Command) (doings : List Doing) : Type 0 where
    pub commands : List Command
    pub adds : Adds setting before after doings commands

  -- an outcome accepts some
  abbrev pub Extends : Core → Outcome → Type 0
  Extends core o = Grows core.accepted o.core.accepted o.doings

  pub none : (cs : List Command) → Grows cs cs []
  none cs = record { commands = []; adds = record { accepted = sym (append-nil cs); told = refl } }

  pub one_reply : (cs : List Command) (r : Reply) → Grows cs cs (replies r ∷ [])
  one_reply cs r = record { commands = []; adds = record { accepted = sym (append-nil cs); told = refl } }

  pub one_command : (cs : List Command) (c : Command) → Grows cs (cs ++ c ∷ []) (tells (messages (steps (book_of setting cs) c)) ∷ [])
  one_command cs c = record { commands = c ∷ []; adds = record { accepted = refl; told = refl } }

  pub both : (before mid after : List Command) (first rest : List Doing) → Grows before mid first → Grows mid after rest → Grows before after (first ++ rest)
  both before mid after first rest g h =
      let book = book_of setting before in
      let cs = g.commands in
      let more = h.commands in
      let left : book_of setting mid ≡ book_left book cs =
      ap (book_of setting) g.adds.accepted ∙ book_left-append (empty_book (roster_of setting.listing)) before cs in
      record {
        commands = cs ++ more;
        adds = record {
          accepted = h.adds.accepted ∙ ap (λ l. l ++ more) g.adds.accepted ∙ append_assoc before cs more;
          told = told_both first rest
              ∙ ap (λ l. l ++ told_in rest) g.adds.told
              ∙ ap (λ l. told_by book cs ++ l) (h.adds.told ∙ ap (λ b. told_by b more) left)
              ∙ sym (told_by-append book cs more);
        };
      }

  pub then : (core : Core) (first : Outcome) (next : Core → Outcome) → Extends core first → ((k : Core) → Extends k (next k)) → Extends core (and_then first next)
  then core first next g h = both core.accepted first.core.accepted (next first.core).core.accepted first.doings (next first.core).doings g (h first.core)

  pub by_test : (core : Core) (b : Bool) (first other : Outcome) → Extends core first → Extends core other → Extends core (cond b first other)
  by_test core true first other p q = p
  by_test core false first other p q = q

  -- what stands behind the commands before
  pub behind : (before after : List Command) (doings : List Doing) → Grows before after doings → Adds setting before after doings (drop (length before) after)
  behind before after doings g =
      let is : drop (length before) after ≡ g.commands = ap (drop (length before)) g.adds.accepted ∙ drop-append_seam before g.commands in
      subst (λ (l : List Command). Adds setting before after doings l) (sym is) g.adds
