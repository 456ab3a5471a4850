-- What a book comes to with a command more.
use Rattle.std.proofs.Common.{◌==◌, true, false, cond, map, ◌≡◌, ℕ, ◌+◌, ◌*◌, ◌≤◌, ℤ, List, [], ◌∷◌, ◌++◌, length, None, refl, sym, ap, ◌∙◌, subst, arith}
use Rattle.std.specs.Prelude.{◌<◌}
use Rattle.std.proofs.lemmas.List.{append-nil}
use Rattle.t7_base.specs.Listing.{Listing}
use Rattle.t7_book.specs.declared.command.Command.{Command}
use Rattle.t7_book.specs.declared.command.Command.TheVariants as command
use Rattle.t7_book.specs.declared.command.Note.{Note}
use Rattle.t7_book.specs.declared.command.Note.TheVariants.{Fill, Cleared}
use Rattle.t7_book.specs.declared.command.Done.{Done}
use Rattle.t7_book.specs.Orders.{BookState, Roster, empty_book, roster_of}
use Rattle.t7_book.specs.Commands.{IsForProduct, refusal}
use Rattle.t7_book.specs.Steps.{book_after, done_of, notes_of}
use Rattle.t7_book.specs.Trace.{AreAccepted, AreAcceptedFrom, book_left}
use Rattle.t7_book.specs.Laws.{Each}
use Rattle.t7_orders.specs.Answers.{Stored, answers, answers_of, clearings, executions, numbered, stored_from}
use Rattle.t7_entry.specs.Answered.{AreFor}
use Rattle.t7_entry.proofs.Answering.{answers_for, notes_few}
use Rattle.t7_entry.proofs.EntryFacts.{stored_from-append}
use Rattle.t7_entry.proofs.Owners.{Owned, owned_left}
use Rattle.t7_recover.specs.Shelves.{Shelf, empty_shelf, kept_of, sessions_of}
use Rattle.t7_exchange.specs.Desks.{ListsOf}
use Rattle.t7_exchange.specs.Trading.{IsDesk, Trading, book_at}

pub left_append : (book : BookState) (cs : List Command) (c : Command) → book_left book (cs ++ c ∷ []) ≡ book_after (book_left book cs) c
left_append book [] c = refl
left_append book (x ∷ cs) c = left_append (book_after book x) cs c

pub left_roster : (book : BookState) (cs : List Command) → (book_left book cs).roster ≡ book.roster
left_roster book [] = refl
left_roster book (x ∷ cs) = left_roster (book_after book x) cs

pub each_append : (book : BookState) (cs : List Command) (c : Command) → AreAcceptedFrom book cs → IsForProduct book.roster c → refusal (book_left book cs) c ≡ None → AreAcceptedFrom book (cs ++ c ∷ [])
each_append book [] c each product allowed = (product, allowed, tt)
each_append book (x ∷ cs) c each product allowed = (each.0, each.1, each_append (book_after book x) cs c each.2 product allowed)

executions_few : (session order : ℕ) (notes : List Note) → length (executions session order notes) ≤ 2 * length notes
executions_few session order [] = omega arith
executions_few session order (Fill maker owner side maker_leaves maker_cum taker_leaves taker_cum qty price ∷ notes) = let rest = executions_few session order notes in omega (arith, rest)
executions_few session order (Cleared other count ∷ notes) = let rest = executions_few session order notes in omega (arith, rest)

clearings_few : (security : ℤ) (notes : List Note) → length (clearings security notes) ≤ 2 * length notes
clearings_few security [] = omega arith
clearings_few security (Cleared other count ∷ notes) = let rest = clearings_few security notes in omega (arith, rest)
clearings_few security (Fill maker owner side maker_leaves maker_cum taker_leaves taker_cum qty price ∷ notes) = let rest = clearings_few security notes in omega (arith, rest)

answers_few : (c : Command) (done : Done) (notes : List Note) → length (answers c done notes) ≤ 1 + 2 * length notes
answers_few (command.New moment session security side price qty client) done notes = let few = executions_few session done.order notes in omega (arith, few)
answers_few (command.Modify moment session order price qty client) done notes = let few = executions_few session done.order notes in omega (arith, few)
answers_few (command.Delete moment session order client) done notes = let few = executions_few session done.order notes in omega (arith, few)
answers_few (command.DeleteAll moment session security) done notes = let few = executions_few session done.order notes in omega (arith, few)
answers_few (command.Clear moment security) done notes = let few = clearings_few security notes in omega (arith, few)

-- the responses of a command are at most this many
pub responses_few : (book : BookState) (c : Command) → length (answers_of book c) ≤ 2 + 2 * (length book.orders + length book.roster.sessions)
responses_few book c =
    let some = answers_few c (done_of book c) (notes_of book c) in
    let few = notes_few book c in
    omega (arith, some, few)

-- and are for sessions of the product
pub responses_for : (book : BookState) (cs : List Command) (c : Command) → book ≡ book_left (empty_book book.roster) cs → AreAcceptedFrom (empty_book book.roster) cs → IsForProduct book.roster c → AreFor book.roster.sessions (answers_of book c)
responses_for book cs c left each product =
    answers_for book c product (subst (λ (b : BookState). Each (Owned book.roster.sessions) b.orders) (sym left) (owned_left (empty_book book.roster) cs each tt))

-- a desk with no command yet
empty_sessions : (sessions : List ℕ) → sessions_of (map empty_shelf sessions) ≡ sessions
empty_sessions [] = refl
empty_sessions (s ∷ sessions) = ap (λ (l : List ℕ). s ∷ l) (empty_sessions sessions)

empty_lists : (sessions : List ℕ) (session : ℕ) → kept_of (map empty_shelf sessions) session ≡ []
empty_lists [] session = refl
empty_lists (s ∷ sessions) session =
    let rest = empty_lists sessions session in
    elim (s == session) as (λ b. cond b [] (kept_of (map empty_shelf sessions) session) ≡ []) [ true ↦ refl | false ↦ rest ]

opens : (roster : Roster) → IsDesk (empty_book roster) (map empty_shelf roster.sessions) []
opens roster = record { left = refl; each = tt; few = omega arith; applied = refl; sessions = empty_sessions roster.sessions; lists = λ session there. empty_lists roster.sessions session }

pub opened_desk : (roster : Roster) (book : BookState) (shelves : List Shelf) (cs : List Command) → book ≡ empty_book roster → shelves ≡ map empty_shelf roster.sessions → cs ≡ [] → IsDesk book shelves cs
opened_desk roster book shelves cs is these none =
    subst (λ (b : BookState). IsDesk b shelves cs) (sym is)
    (subst (λ (l : List Shelf). IsDesk (empty_book roster) l cs) (sym these) (subst (λ (l : List Command). IsDesk (empty_book roster) (map empty_shelf roster.sessions) l) (sym none) (opens roster)))

pub one_longer : (cs : List Command) (c : Command) → length (cs ++ c ∷ []) ≡ length cs + 1
one_longer [] c = refl
one_longer (x ∷ cs) c = let rest = one_longer cs c in omega (arith, rest)

-- a desk that has taken a command more
module _ (book : BookState) (after : List Shelf) (cs : List Command) (c : Command) where
  module _ (before : List Shelf) (desk : IsDesk book before cs) (product : IsForProduct book.roster c) (allowed : refusal book c ≡ None) (few : length cs < 200_000)
      (same : sessions_of after ≡ sessions_of before) (lists : ListsOf after (stored_from (empty_book book.roster) cs ++ answers_of book c)) where
    longer : length (cs ++ c ∷ []) ≡ length cs + 1
    longer = one_longer cs c

    with_more : stored_from (empty_book book.roster) cs ++ answers_of book c ≡ stored_from (empty_book book.roster) (cs ++ c ∷ [])
    with_more =
        let start = empty_book book.roster in
        ap (λ (b : BookState). stored_from start cs ++ answers_of b c) desk.left
        ∙ ap (λ (l : List Stored). stored_from start cs ++ l) (sym (append-nil (answers_of (book_left start cs) c)))
        ∙ sym (stored_from-append start cs (c ∷ []))

    then : IsDesk (book_after book c) after (cs ++ c ∷ [])
    then =
        let start = empty_book book.roster in
        let long = longer in
        let applied = desk.applied in
        record {
          left = ap (λ (b : BookState). book_after b c) desk.left ∙ sym (left_append start cs c);
          each = each_append start cs c desk.each product (subst (λ (b : BookState). refusal b c ≡ None) desk.left allowed);
          few = omega (arith, few, long);
          applied = omega (arith, applied, long);
          sessions = same ∙ desk.sessions;
          lists = subst (ListsOf after) with_more lists;
        }

    pub taken_in : (new : BookState) (items : List Command) → new ≡ book_after book c → items ≡ cs ++ c ∷ [] → IsDesk new after items
    taken_in new items is these = subst (λ (b : BookState). IsDesk b after items) (sym is) (subst (λ (l : List Command). IsDesk (book_after book c) after l) (sym these) then)

-- with a command more they are accepted
pub accepted_next : (listing : Listing) (d : Trading) (c : Command) → d.roster ≡ roster_of listing → AreAcceptedFrom (empty_book d.roster) d.accepted → length d.accepted < 200_000
    → IsForProduct d.roster c → refusal (book_at d) c ≡ None → AreAccepted listing (d.accepted ++ c ∷ [])
accepted_next listing d c same each few product allowed =
    let long = one_longer d.accepted c in
    record {
      few = omega (arith, long, few);
      each = subst (λ (r : Roster). AreAcceptedFrom (empty_book r) (d.accepted ++ c ∷ [])) same (each_append (empty_book d.roster) d.accepted c each product allowed);
    }

-- as many are numbered as there are
pub length-numbered : (before xs : List Stored) → length (numbered before xs) ≡ length xs
length-numbered before [] = refl
length-numbered before (x ∷ xs) = let rest = length-numbered (before ++ x ∷ []) xs in omega (arith, rest)

pub accepted_more : (listing : Listing) (cs : List Command) (c : Command) → AreAccepted listing cs → length cs < 200_000 → IsForProduct (roster_of listing) c → refusal (book_left (empty_book (roster_of listing)) cs) c ≡ None
    → AreAccepted listing (cs ++ c ∷ [])
accepted_more listing cs c are few product allowed =
    let long = one_longer cs c in
    record { few = omega (arith, long, few); each = each_append (empty_book (roster_of listing)) cs c are.each product allowed }
