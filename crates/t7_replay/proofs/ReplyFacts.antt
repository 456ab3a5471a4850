-- Replies that are handed out one by one.
use Rattle.std.proofs.Common.{◌≡◌, ℕ, ◌<◌, arith, Bool, List, [], ◌∷◌, ◌++◌, Option, Some, option_map, length, take, drop, refl, sym, ◌∙◌, ap, subst, append_assoc}
use Rattle.std.proofs.lemmas.List.{append-nil}
use Rattle.std.proofs.Math.Seq.{take-append_seam}
use Rattle.t7_layout.specs.Layouts.{Layout}
use Rattle.t7_eti.specs.declared.reason.Reason.{Reason}
use Rattle.t7_eti.specs.Saying.{response_bytes}
use Rattle.t7_entry.specs.Days.{Day}
use Rattle.t7_entry.specs.State.{Reply, closes, sends}
use Rattle.t7_exchange.specs.declared.replies.Reply.TheVariants as handed
use Rattle.t7_exchange.specs.Handed.{FirstIsSaid, first_handed, first_refused_for, first_written}
use Rattle.t7_outcome.specs.Outcome.{text_of}
use Rattle.t7_outcome.proofs.Lines.{text_of-append}
use Rattle.t7_replay.specs.Calling.{Calling, told_all, with_close, with_frame}
use Rattle.t7_replay.specs.Handing.{AreSaidReplies, IsSaidReply, PrintsReply}
use Rattle.t7_replay.specs.Lines.{close_line, out_line, reject_lines, replies_lines, reply_lines, under}

-- the day without its first reply
without : (old new : Day) → new ≡ record old { waiting = drop 1 old.waiting } → new ≡ record old { waiting = new.waiting }
without old new is = is ∙ ap (λ (w : List Reply). record old { waiting = w }) (sym (ap (λ (d : Day). d.waiting) is))

closes_first : (layouts : List Layout) (conn : ℕ) (waiting : List Reply) → first_handed layouts waiting ≡ Some (handed.Close conn) → waiting ≡ closes conn ∷ drop 1 waiting
closes_first layouts conn [] is = absurd (cc)
closes_first layouts conn (sends c r ∷ more) is = absurd (cc)
closes_first layouts conn (closes c ∷ more) is = let same : c ≡ conn = cc in ap (λ (n : ℕ). closes n ∷ more) same

pub prints_close : (raw : Bool) (old new : Day) (was now : Option Calling) (conn : ℕ) (text later : List ℕ) → first_handed old.setting.layouts old.waiting ≡ Some (handed.Close conn)
    → new ≡ record old { waiting = drop 1 old.waiting } → now ≡ option_map (with_close conn) was
    → later ≡ text ++ text_of (close_line conn ∷ []) → PrintsReply raw old new was now text later
prints_close raw old new was now conn text later is next tells lines = record {
  reply = closes conn;
  first = closes_first old.setting.layouts conn old.waiting is ∙ ap (λ (w : List Reply). closes conn ∷ w) (sym (ap (λ (d : Day). d.waiting) next));
  said = tt;
  others = without old new next;
  tells = tells;
  lines = lines;
}

-- the first reply that waits is a frame: this reply, whose lines are these
record IsFrame (layouts : List Layout) (raw : Bool) (conn : ℕ) (frame : List ℕ) (reason : Option Reason) (waiting : List Reply) : Type 0 where
  reply : Reply
  first : waiting ≡ reply ∷ drop 1 waiting
  tells : (was : Option Calling) → option_map (with_frame conn frame) was ≡ told_all layouts (reply ∷ []) was
  lines : under raw (out_line conn frame ∷ []) ++ reject_lines conn reason ≡ reply_lines layouts raw reply

frame_first : (layouts : List Layout) (raw : Bool) (conn len : ℕ) (out now : List ℕ) (reason : Option Reason) (waiting : List Reply)
    → first_handed layouts waiting ≡ Some (handed.Bytes conn len) → now ≡ first_written layouts waiting out → reason ≡ first_refused_for waiting
    → IsFrame layouts raw conn (take len now) reason waiting
frame_first layouts raw conn len out now reason [] is written why = absurd (cc)
frame_first layouts raw conn len out now reason (closes c ∷ more) is written why = absurd (cc)
frame_first layouts raw conn len out now reason (sends c r ∷ more) is written why =
    let same : conn ≡ c = cc in
    let count : len ≡ length (response_bytes layouts r) = cc in
    let frame : take len now ≡ response_bytes layouts r =
    ap (λ (n : ℕ). take n now) count ∙ ap (take (length (response_bytes layouts r))) written
    ∙ take-append_seam (response_bytes layouts r) (drop (length (response_bytes layouts r)) out) in record {
      reply = sends c r;
      first = refl;
      tells = λ was. rw (same, frame) refl;
      lines = rw (same, frame, why) refl;
    }

-- the first reply is said
first_said : (layouts : List Layout) (reply : Reply) (more : List Reply) → FirstIsSaid layouts (reply ∷ more) → IsSaidReply layouts reply
first_said layouts (sends conn r) more is = record { written = is.0; ranged = is.1 }
first_said layouts (closes conn) more is = tt

pub prints_frame : (raw : Bool) (old new : Day) (was told : Option Calling) (conn len : ℕ) (out now : List ℕ) (reason : Option Reason) (text later : List ℕ)
    → first_handed old.setting.layouts old.waiting ≡ Some (handed.Bytes conn len) → now ≡ first_written old.setting.layouts old.waiting out
    → reason ≡ first_refused_for old.waiting → new ≡ record old { waiting = drop 1 old.waiting }
    → told ≡ option_map (with_frame conn (take len now)) was → FirstIsSaid old.setting.layouts old.waiting
    → later ≡ text ++ text_of (under raw (out_line conn (take len now) ∷ []) ++ reject_lines conn reason) → PrintsReply raw old new was told text later
prints_frame raw old new was told conn len out now reason text later is written why next tells spoken lines =
    let found = frame_first old.setting.layouts raw conn len out now reason old.waiting is written why in record {
      reply = found.reply;
      first = found.first ∙ ap (λ (w : List Reply). found.reply ∷ w) (sym (ap (λ (d : Day). d.waiting) next));
      said = first_said old.setting.layouts found.reply (drop 1 old.waiting) (subst (FirstIsSaid old.setting.layouts) found.first spoken);
      others = without old new next;
      tells = tells ∙ found.tells was;
      lines = lines ∙ ap (λ (l : List (List ℕ)). text ++ text_of l) found.lines;
    }

-- the replies that are left after the first one
pub replies_others : (raw : Bool) (begun old new : Day) (was now : Option Calling) (text later : List ℕ) → old ≡ record begun { waiting = old.waiting }
    → PrintsReply raw old new was now text later → new ≡ record begun { waiting = new.waiting }
replies_others raw begun old new was now text later is prints = prints.others ∙ ap (λ (d : Day). record d { waiting = new.waiting }) is

pub replies_on : (raw : Bool) (old new : Day) (was now : Option Calling) (text later all : List ℕ) → PrintsReply raw old new was now text later
    → text ++ text_of (replies_lines old.setting.layouts raw old.waiting) ≡ all → later ++ text_of (replies_lines new.setting.layouts raw new.waiting) ≡ all
replies_on raw old new was now text later all prints is =
    let layouts = old.setting.layouts in
    let same : new.setting.layouts ≡ layouts = ap (λ (d : Day). d.setting.layouts) prints.others in
    ap (λ (l : List Layout). later ++ text_of (replies_lines l raw new.waiting)) same
    ∙ ap (λ (l : List ℕ). l ++ text_of (replies_lines layouts raw new.waiting)) prints.lines
    ∙ append_assoc text (text_of (reply_lines layouts raw prints.reply)) (text_of (replies_lines layouts raw new.waiting))
    ∙ ap (λ (l : List ℕ). text ++ l) (sym (text_of-append (reply_lines layouts raw prints.reply) (replies_lines layouts raw new.waiting)))
    ∙ ap (λ (w : List Reply). text ++ text_of (replies_lines layouts raw w)) (sym prints.first)
    ∙ is

-- those that are left are said, and the first one was
pub replies_said : (raw : Bool) (begun old new : Day) (was now : Option Calling) (text later : List ℕ) → PrintsReply raw old new was now text later
    → (AreSaidReplies old.setting.layouts old.waiting → AreSaidReplies begun.setting.layouts begun.waiting)
    → AreSaidReplies new.setting.layouts new.waiting → AreSaidReplies begun.setting.layouts begun.waiting
replies_said raw begun old new was now text later prints goes are =
    let layouts = old.setting.layouts in
    let same : new.setting.layouts ≡ layouts = ap (λ (d : Day). d.setting.layouts) prints.others in
    goes (subst (AreSaidReplies layouts) (sym prints.first) (prints.said, subst (λ (l : List Layout). AreSaidReplies l new.waiting) same are))

pub said_none : (begun old : Day) → old.waiting ≡ [] → (AreSaidReplies old.setting.layouts old.waiting → AreSaidReplies begun.setting.layouts begun.waiting)
    → AreSaidReplies begun.setting.layouts begun.waiting
said_none begun old none goes = goes (subst (AreSaidReplies old.setting.layouts) (sym none) tt)

-- none is left
pub replies_none : (raw : Bool) (old : Day) (text all : List ℕ) → old.waiting ≡ [] → text ++ text_of (replies_lines old.setting.layouts raw old.waiting) ≡ all → text ≡ all
replies_none raw old text all none is = sym (append-nil text) ∙ ap (λ (w : List Reply). text ++ text_of (replies_lines old.setting.layouts raw w)) (sym none) ∙ is

-- the client is told those that are left
pub replies_told : (raw : Bool) (old new : Day) (was now all : Option Calling) (text later : List ℕ) → PrintsReply raw old new was now text later
    → told_all old.setting.layouts old.waiting was ≡ all → told_all new.setting.layouts new.waiting now ≡ all
replies_told raw old new was now all text later prints is =
    let layouts = old.setting.layouts in
    let same : new.setting.layouts ≡ layouts = ap (λ (d : Day). d.setting.layouts) prints.others in
    ap (λ (l : List Layout). told_all l new.waiting now) same
    ∙ ap (told_all layouts new.waiting) prints.tells
    ∙ ap (λ (w : List Reply). told_all layouts w was) (sym prints.first)
    ∙ is

-- none is left to tell
pub told_none : (old : Day) (was all : Option Calling) → old.waiting ≡ [] → told_all old.setting.layouts old.waiting was ≡ all → was ≡ all
told_none old was all none is = ap (λ (w : List Reply). told_all old.setting.layouts w was) (sym none) ∙ is

pub fewer : (raw : Bool) (old new : Day) (was now : Option Calling) (text later : List ℕ) → PrintsReply raw old new was now text later
    → length new.waiting < length old.waiting
fewer raw old new was now text later prints = omega (arith, ap length prints.first)
