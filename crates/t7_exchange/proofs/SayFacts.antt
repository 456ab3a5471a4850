-- Responses that may be written.
use Rattle.std.proofs.Common.{◌≢◌, ℕ, ◌<◌, ◌≤◌, Option, Some, None, arith}
use Rattle.std.specs.Prelude.{IfSome}
use Rattle.t7_fields.specs.Writing.{IsOrdinary}
use Rattle.t7_eti.specs.declared.reason.Reason.{Reason}
use Rattle.t7_eti.specs.declared.reason.Reason.TheVariants as why
use Rattle.t7_eti.specs.declared.response.Kept.{Kept}
use Rattle.t7_eti.specs.declared.response.Kept.TheVariants as kept
use Rattle.t7_eti.specs.declared.response.Response.TheVariants as response
use Rattle.t7_eti.specs.Reasons.{reason_number}
use Rattle.t7_eti.specs.Saying.{kept_fields, reject_fields, response_fields}
use Rattle.t7_session.specs.Heartbeats.{interval_of}
use Rattle.t7_exchange.specs.Sayable.{IsSayable}

not_greatest : (n m : ℕ) → n < m → n ≢ m
not_greatest n m less = λ e. omega arith

few_reasons : (reason : Reason) → reason_number reason < 4_294_967_295
unfolding reason_number
few_reasons why.UnknownTemplate = omega arith
few_reasons why.BadLength = omega arith
few_reasons why.NullField = omega arith
few_reasons why.SeqNum = omega arith
few_reasons why.NotLoggedOn = omega arith
few_reasons why.AlreadyLoggedOn = omega arith
few_reasons why.UnknownSession = omega arith
few_reasons why.SessionInUse = omega arith
few_reasons why.UnknownSecurity = omega arith
few_reasons why.BadSide = omega arith
few_reasons why.BadPrice = omega arith
few_reasons why.BadQty = omega arith
few_reasons why.UnknownOrder = omega arith
few_reasons why.BelowExecuted = omega arith
few_reasons why.BookFull = omega arith
few_reasons why.DayFull = omega arith
few_reasons why.BadRange = omega arith

pub reject_said : (seq : Option ℕ) (reason : Reason) → IfSome seq (λ n. n < 4_294_967_295) → IsSayable (response.Reject seq reason)
unfolding response_fields reject_fields IsOrdinary
reject_said None reason known = (not_greatest (reason_number reason) _ (few_reasons reason), tt)
reject_said (Some seq) reason known = (not_greatest seq _ known, (not_greatest (reason_number reason) _ (few_reasons reason), tt))

pub logon_said : (seq heart : ℕ) → seq < 4_294_967_295 → IsSayable (response.Logon seq (interval_of heart))
unfolding response_fields IsOrdinary
logon_said seq heart known = (not_greatest seq _ known, (not_greatest (interval_of heart) _ (omega arith), tt))

pub logout_said : (seq : ℕ) → seq < 4_294_967_295 → IsSayable (response.Logout seq)
unfolding response_fields IsOrdinary
logout_said seq known = (not_greatest seq _ known, tt)

pub beat_said : IsSayable response.Beat
unfolding response_fields
beat_said = tt

pub resent_said : (seq count last known : ℕ) → seq < 4_294_967_295 → count ≤ 500 → IsSayable (response.Resent seq count last known)
unfolding response_fields IsOrdinary
resent_said seq count last known number few = (not_greatest seq _ number, (not_greatest count _ (omega arith), (tt, (tt, tt))))

-- the number of a recoverable response doesn't matter
pub kept_said : (n m : ℕ) (what : Kept) → IsSayable (response.Kept n what) → IsSayable (response.Kept m what)
unfolding response_fields kept_fields IsOrdinary
kept_said n m (kept.New order client stamp) said = said
kept_said n m (kept.Changed order client stamp) said = said
kept_said n m (kept.Deleted order client) said = said
kept_said n m (kept.DeletedAll security count) said = said
kept_said n m (kept.Cleared security count) said = said
kept_said n m (kept.Exec order side leaves cum last_qty last_price) said = said
