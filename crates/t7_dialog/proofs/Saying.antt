-- What is said on a connection, one thing after another.
use Rattle.std.proofs.Common.{◌≡◌, ℕ, Bool, true, false, cond, List, [], ◌∷◌, ◌++◌, Option, Some, None, refl, sym, ap, ◌∙◌, subst}
use Rattle.std.specs.Prelude.{◌==◌}
use Rattle.std.proofs.lemmas.Bool.{eqb-true}
use Rattle.t7_base.specs.Listing.{Listing}
use Rattle.t7_base.specs.Outside.{Begins}
use Rattle.t7_book.specs.declared.command.Command.{Command}
use Rattle.t7_eti.specs.declared.response.Kept.{Kept}
use Rattle.t7_eti.specs.declared.response.Response.{Response}
use Rattle.t7_eti.specs.declared.response.Response.TheVariants as response
use Rattle.t7_orders.specs.Answers.{responses}
use Rattle.t7_recover.specs.Entries.{AreEntries, IsEntry}
use Rattle.t7_entry.specs.Entries.{AllNameEntries, NamesEntry}
use Rattle.t7_entry.specs.State.{Core, Doing, closes, replies, sends, tells}
use Rattle.t7_entry.specs.Treatment.{session_of}
use Rattle.t7_entry.proofs.EntryFacts.{entry-stays}
use Rattle.t7_dialog.specs.Saying.{is_shut, said_on}
use Rattle.t7_dialog.specs.Serving.{IsFor}

-- a connection that was not closed by both was closed by neither
shut_either : (b : Bool) (x y : Bool) → cond b true x ≡ false → (x ≡ false → y ≡ false) → cond b true y ≡ false
shut_either true x y is goes = is
shut_either false x y is goes = goes is

pub shut_first : (conn : ℕ) (xs ys : List Doing) → is_shut conn (xs ++ ys) ≡ false → is_shut conn xs ≡ false
shut_first conn [] ys is = refl
shut_first conn (tells messages ∷ xs) ys is = shut_first conn xs ys is
shut_first conn (replies (sends other said) ∷ xs) ys is = shut_first conn xs ys is
shut_first conn (replies (closes other) ∷ xs) ys is = shut_either (conn == other) (is_shut conn (xs ++ ys)) (is_shut conn xs) is (shut_first conn xs ys)

shut_behind : (b x : Bool) → cond b true x ≡ false → x ≡ false
shut_behind true x is = absurd (cc)
shut_behind false x is = is

pub shut_later : (conn : ℕ) (xs ys : List Doing) → is_shut conn (xs ++ ys) ≡ false → is_shut conn ys ≡ false
shut_later conn [] ys is = is
shut_later conn (tells messages ∷ xs) ys is = shut_later conn xs ys is
shut_later conn (replies (sends other said) ∷ xs) ys is = shut_later conn xs ys is
shut_later conn (replies (closes other) ∷ xs) ys is = shut_later conn xs ys (shut_behind (conn == other) (is_shut conn (xs ++ ys)) is)

-- what is said by both are entries, where what is said by each is
module _ (list : List Kept) where
  behind_said : (b : Bool) (said : Response) (s t : List Response) → AreEntries list (cond b (said ∷ s) s) → (AreEntries list s → AreEntries list t) → AreEntries list (cond b (said ∷ t) t)
  behind_said true said s t are goes = (are.0, goes are.1)
  behind_said false said s t are goes = goes are

  behind_close : (b shut : Bool) (s t : List Response) (P : Type 0) → AreEntries list (cond b [] s) → (cond b true shut ≡ false → P) → (AreEntries list s → (shut ≡ false → P) → AreEntries list t)
      → AreEntries list (cond b [] t)
  behind_close true shut s t P are later goes = tt
  behind_close false shut s t P are later goes = goes are later

  pub entries_both : (conn : ℕ) (xs ys : List Doing) → AreEntries list (said_on conn xs) → (is_shut conn xs ≡ false → AreEntries list (said_on conn ys)) → AreEntries list (said_on conn (xs ++ ys))
  entries_both conn [] ys are later = later refl
  entries_both conn (tells messages ∷ xs) ys are later = entries_both conn xs ys are later
  entries_both conn (replies (sends other said) ∷ xs) ys are later =
      behind_said (conn == other) said (said_on conn xs) (said_on conn (xs ++ ys)) are (λ rest. entries_both conn xs ys rest later)
  entries_both conn (replies (closes other) ∷ xs) ys are later =
      behind_close (conn == other) (is_shut conn xs) (said_on conn xs) (said_on conn (xs ++ ys)) (AreEntries list (said_on conn ys)) are later
      (λ rest more. entries_both conn xs ys rest more)

-- entries stay as the list grows
entry_stays : (list more : List Kept) (said : Response) → Begins list more → IsEntry list said → IsEntry more said
entry_stays list more (response.Kept number what) begins is =
    subst (λ (l : List Kept). IsEntry l (response.Kept number what)) begins.1 (entry-stays list begins.0 number what is)
entry_stays list more (response.Logon seq heart) begins is = tt
entry_stays list more (response.Logout seq) begins is = tt
entry_stays list more response.Beat begins is = tt
entry_stays list more (response.Reject seq reason) begins is = tt
entry_stays list more (response.Resent seq count last known) begins is = tt

pub entries_stay : (list more : List Kept) (said : List Response) → Begins list more → AreEntries list said → AreEntries more said
entries_stay list more [] begins are = tt
entries_stay list more (s ∷ said) begins are = (entry_stays list more s begins are.0, entries_stay list more said begins are.1)

pub entries_behind : (list : List Kept) (xs ys : List Response) → AreEntries list xs → AreEntries list ys → AreEntries list (xs ++ ys)
entries_behind list [] ys are more = more
entries_behind list (x ∷ xs) ys are more = (are.0, entries_behind list xs ys are.1 more)

-- a session that a connection has, where it has none or this one
pub same_session_as : (session other : ℕ) (held : Option ℕ) → IsFor session held → held ≡ Some other → other ≡ session
same_session_as session other None own is = absurd (let none : None ≡ Some other = is in cc)
same_session_as session other (Some held) own is = let same : held ≡ other = cc in sym same ∙ own

-- what names entries says entries
module _ (listing : Listing) (core : Core) (cs : List Command) (conn session : ℕ) (own : IsFor session (session_of core conn)) where
  abbrev list : List Kept
  list = responses listing cs session

  said_entry : (other : ℕ) (said : Response) → conn ≡ other → NamesEntry listing core cs (replies (sends other said)) → IsEntry list said
  said_entry other (response.Kept number what) here (held, holds, entry) =
      let there : session_of core conn ≡ Some held = ap (session_of core) here ∙ holds in
      subst (λ (s : ℕ). IsEntry (responses listing cs s) (response.Kept number what)) (same_session_as session held (session_of core conn) own there) entry
  said_entry other (response.Logon seq heart) here names = tt
  said_entry other (response.Logout seq) here names = tt
  said_entry other response.Beat here names = tt
  said_entry other (response.Reject seq reason) here names = tt
  said_entry other (response.Resent seq count last known) here names = tt

  one_said : (b : Bool) (said : Response) (more : List Response) → (b ≡ true → IsEntry list said) → AreEntries list more → AreEntries list (cond b (said ∷ more) more)
  one_said true said more is are = (is refl, are)
  one_said false said more is are = are

  one_close : (b : Bool) (more : List Response) → AreEntries list more → AreEntries list (cond b [] more)
  one_close true more are = tt
  one_close false more are = are

  pub names_said : (doings : List Doing) → AllNameEntries listing core cs doings → AreEntries list (said_on conn doings)
  names_said [] names = tt
  names_said (tells messages ∷ doings) names = names_said doings names.1
  names_said (replies (sends other said) ∷ doings) names =
      one_said (conn == other) said (said_on conn doings) (λ same. said_entry other said (eqb-true conn other same) names.0) (names_said doings names.1)
  names_said (replies (closes other) ∷ doings) names = one_close (conn == other) (said_on conn doings) (names_said doings names.1)
