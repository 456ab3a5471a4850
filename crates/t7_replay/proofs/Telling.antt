-- Replies that the client is told.
use Rattle.std.proofs.Common.{◌≡◌, ℕ, ◌<◌, ◌^◌, ◌==◌, length, Bool, true, false, List, [], ◌∷◌, ◌++◌, Option, Some, None, option_map, refl, sym, ◌∙◌, ap, subst, if◌then◌else◌, cond, Result, Ok, Err, OnOk}
use Rattle.t7_layout.specs.Layouts.{Layout}
use Rattle.t7_eti.specs.Saying.{response_bytes}
use Rattle.t7_client.specs.Recovering.{Recovery}
use Rattle.t7_client.specs.Sound.{IsSound}
use Rattle.t7_eti.specs.declared.response.Response.{Response}
use Rattle.t7_entry.specs.Days.{replies_in}
use Rattle.t7_entry.specs.State.{Doing, Reply, closes, replies, sends, tells}
use Rattle.t7_dialog.specs.Saying.{AreSaid, IsSaid, said_on}
use Rattle.t7_replay.specs.Handing.{AreSaidReplies}
use Rattle.t7_replay.specs.Calling.{Calling, IsSoundCaller, IsSoundCalling, is_on, is_on_line, made_by, said_to, told, told_all}

-- the client itself stays as it is
either_client : (b : Bool) (x y : Calling) → x.client ≡ y.client → (let c : Calling = if b then x else y in c).client ≡ y.client
either_client true x y same = same
either_client false x y same = refl

told_client : (layouts : List Layout) (reply : Reply) (calling : Calling) → (told layouts reply calling).client ≡ calling.client
told_client layouts (sends conn r) calling =
    either_client (is_on conn calling) (record calling { coming = calling.coming ++ response_bytes layouts r }) calling refl
told_client layouts (closes conn) calling = either_client (is_on conn calling) (record calling { lasts = false }) calling refl

told_one : (layouts : List Layout) (reply : Reply) (caller : Option Calling) → made_by (option_map (told layouts reply) caller) ≡ made_by caller
told_one layouts reply None = refl
told_one layouts reply (Some calling) = ap (λ (r : Recovery). r.made) (told_client layouts reply calling)

-- so it has made as many orders
pub told_made : (layouts : List Layout) (all : List Reply) (caller : Option Calling) → made_by (told_all layouts all caller) ≡ made_by caller
told_made layouts [] caller = refl
told_made layouts (reply ∷ later) caller = told_made layouts later (option_map (told layouts reply) caller) ∙ told_one layouts reply caller

-- it stays sound
sound_client : (a b : Calling) → a.client ≡ b.client → IsSoundCalling b → IsSoundCalling a
sound_client a b same is = record {
  sound = subst IsSound (sym same) is.sound;
  few = subst (λ (r : Recovery). length r.gathered < 2 ^ 64) (sym same) is.few;
}

sound_one : (layouts : List Layout) (reply : Reply) (caller : Option Calling) → IsSoundCaller caller → IsSoundCaller (option_map (told layouts reply) caller)
sound_one layouts reply None is = tt
sound_one layouts reply (Some calling) is = sound_client (told layouts reply calling) calling (told_client layouts reply calling) is

pub told_sound : (layouts : List Layout) (all : List Reply) (caller : Option Calling) → IsSoundCaller caller → IsSoundCaller (told_all layouts all caller)
told_sound layouts [] caller is = is
told_sound layouts (reply ∷ later) caller is = told_sound layouts later (option_map (told layouts reply) caller) (sound_one layouts reply caller is)

-- what is said to it among replies whose bytes say them
said_more : (layouts : List Layout) (b : Bool) (said : Response) (more : List Response) → IsSaid layouts said → AreSaid layouts more → AreSaid layouts (cond b (said ∷ more) more)
said_more layouts true said more is are = (is, are)
said_more layouts false said more is are = are

said_less : (layouts : List Layout) (b : Bool) (more : List Response) → AreSaid layouts more → AreSaid layouts (cond b [] more)
said_less layouts true more are = tt
said_less layouts false more are = are

said_list : (layouts : List Layout) (conn : ℕ) (doings : List Doing) → AreSaidReplies layouts (replies_in doings) → AreSaid layouts (said_on conn doings)
said_list layouts conn [] are = tt
said_list layouts conn (tells messages ∷ doings) are = said_list layouts conn doings are
said_list layouts conn (replies (sends other said) ∷ doings) are = said_more layouts (conn == other) said (said_on conn doings) are.0 (said_list layouts conn doings are.1)
said_list layouts conn (replies (closes other) ∷ doings) are = said_less layouts (conn == other) (said_on conn doings) (said_list layouts conn doings are.1)

said_where : (layouts : List Layout) (b : Bool) (said : List Response) → AreSaid layouts said → AreSaid layouts (cond b said [])
said_where layouts true said are = are
said_where layouts false said are = tt

pub said_caller : (layouts : List Layout) (caller : Option Calling) (doings : List Doing) → AreSaidReplies layouts (replies_in doings) → AreSaid layouts (said_to caller doings)
said_caller layouts None doings are = tt
said_caller layouts (Some calling) doings are = said_where layouts (is_on_line calling) (said_on calling.conn doings) (said_list layouts calling.conn doings are)

pub said_behind : (layouts : List Layout) (xs ys : List Response) → AreSaid layouts xs → AreSaid layouts ys → AreSaid layouts (xs ++ ys)
said_behind layouts [] ys are more = more
said_behind layouts (x ∷ xs) ys are more = (are.0, said_behind layouts xs ys are.1 more)

-- a client is sound after a call that went well
pub sound_ok : {T E : Type 0} (r : Result T E) (calling : Calling) → IsSound calling.client → length calling.client.gathered < 2 ^ 64 → OnOk r (IsSoundCalling calling)
sound_ok (Ok x) calling sound few = record { sound = sound; few = few }
sound_ok (Err e) calling sound few = tt
