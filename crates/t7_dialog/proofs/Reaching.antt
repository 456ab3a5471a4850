-- What responses come to, one after another, and what a client that has read them needs.
use Rattle.std.proofs.Common.{◌≡◌, ◌≢◌, ℕ, ◌+◌, ◌≤◌, Bool, true, false, cond, nat_le, max, List, [], ◌∷◌, ◌++◌, Option, Some, option_map, refl, ap, ◌∙◌, arith}
use Rattle.std.proofs.lemmas.Bool.Decides.{nat_tests}
use Rattle.t7_eti.specs.declared.response.Response.{Response}
use Rattle.t7_eti.specs.declared.response.Response.TheVariants as response
use Rattle.t7_dialog.specs.Reaching.{AreInStep, IsNumbered, KeepsUp, Reached, answered, count_of, needed, numbered_to, passed, reached_by, reached_with, unanswered}

-- responses behind others
pub step_both : (reached : Reached) (xs ys : List Response) → AreInStep reached xs → AreInStep (reached_by reached xs) ys → AreInStep reached (xs ++ ys)
step_both reached [] ys are more = more
step_both reached (x ∷ xs) ys are more = (are.0, step_both (reached_with reached x) xs ys are.1 more)

pub step_first : (reached : Reached) (xs ys : List Response) → AreInStep reached (xs ++ ys) → AreInStep reached xs × AreInStep (reached_by reached xs) ys
step_first reached [] ys are = (tt, are)
step_first reached (x ∷ xs) ys are = let more = step_first (reached_with reached x) xs ys are.1 in ((are.0, more.0), more.1)

pub reached_on : (reached : Reached) (xs ys : List Response) → reached_by reached (xs ++ ys) ≡ reached_by (reached_by reached xs) ys
reached_on reached [] ys = refl
reached_on reached (x ∷ xs) ys = reached_on (reached_with reached x) xs ys

-- a number that is at most another one, and the next
larger : (n m : ℕ) → nat_le n m ≡ true → max n m ≡ m
larger n m is = let low : n ≤ m = grind (arith, nat_tests) in omega arith

next_larger : (n m : ℕ) → nat_le n m ≡ false → max n m ≡ n
next_larger n m is = let high : m + 1 ≤ n = grind (arith, nat_tests) in omega arith

-- what is needed behind a recoverable response is what it comes to
needed_with : (reached : Reached) (number : ℕ) → IsNumbered reached number → option_map (λ (count : ℕ). max number count) (count_of reached) ≡ count_of (numbered_to reached number)
needed_with unanswered number is = refl
needed_with (answered known) number is = by (nat_le number known) refl
  where
    by : (b : Bool) → nat_le number known ≡ b → Some (max number known) ≡ count_of (cond b (answered known) (passed number))
    by true test = ap Some (larger number known test)
    by false test = ap Some (next_larger number known test)
needed_with (passed count) number is = let larger_is : max number count ≡ number = omega (arith, is) in ap Some larger_is

pub needed_is : (reached : Reached) (said : List Response) → AreInStep reached said → needed said (count_of reached) ≡ count_of (reached_by reached said)
needed_is reached [] are = refl
needed_is reached (response.Kept number what ∷ said) are = ap (needed said) (needed_with reached number are.0) ∙ needed_is (numbered_to reached number) said are.1
needed_is reached (response.Resent seq count last known ∷ said) are = needed_is (answered known) said are.1
needed_is reached (response.Logon seq heart ∷ said) are = needed_is reached said are.1
needed_is reached (response.Logout seq ∷ said) are = needed_is reached said are.1
needed_is reached (response.Beat ∷ said) are = needed_is reached said are.1
needed_is reached (response.Reject seq reason ∷ said) are = needed_is reached said are.1

-- a client that gathers the next response, or passes over another one
pub up_next : (reached : Reached) (known : Option ℕ) (count number : ℕ) → number ≡ count + 1 → IsNumbered reached number → KeepsUp reached known count → KeepsUp (numbered_to reached number) known (count + 1)
up_next unanswered known count number next is keeps = keeps
up_next (answered stored) known count number next is keeps = by (nat_le number stored)
  where
    by : (b : Bool) → KeepsUp (cond b (answered stored) (passed number)) known (count + 1)
    by true = keeps
    by false = (stored, keeps, λ enough. omega (arith, next))
up_next (passed last) known count number next is keeps = (keeps.0, keeps.1, λ enough. omega (arith, next))

pub up_other : (reached : Reached) (known : Option ℕ) (count number : ℕ) → number ≢ count + 1 → IsNumbered reached number → KeepsUp reached known count → KeepsUp (numbered_to reached number) known count
up_other unanswered known count number other is keeps = keeps
up_other (answered stored) known count number other is keeps = by (nat_le number stored) refl
  where
    by : (b : Bool) → nat_le number stored ≡ b → KeepsUp (cond b (answered stored) (passed number)) known count
    by true test = keeps
    by false test = let high : stored + 1 ≤ number = grind (arith, nat_tests) in (stored, keeps, λ enough. omega (arith, other, is, high, enough))
up_other (passed last) known count number other is keeps = (keeps.0, keeps.1, λ enough. let up = keeps.2 enough in omega (arith, other, is, up))
