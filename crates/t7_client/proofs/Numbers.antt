-- Numbers of requests that no field has as its null.
use Rattle.std.proofs.Common.{◌≢◌, ◌≤◌, ℤ, pos, arith}
use Rattle.std.specs.Prelude.{◌≤ℤ◌, neg_ℤ, negsuc}
use Rattle.std.proofs.lemmas.Int.{ints}
use Rattle.t7_base.specs.declared.ids.Side.{Side}
use Rattle.t7_base.specs.declared.ids.Side.TheVariants.{Buy, Sell}
use Rattle.t7_eti.specs.Saying.{side_number}
use Rattle.t7_client.specs.Recovering.{Recovery}
use Rattle.t7_client.specs.Sound.{IsSound}

pub above_least : (z : ℤ) → neg_ℤ (pos 100_000_000_000_000_000) ≤ℤ z → z ≢ negsuc 9_223_372_036_854_775_807
above_least z low = λ e. omega (arith, ints, low, e)

pub positive : (z : ℤ) → pos 1 ≤ℤ z → z ≢ negsuc 9_223_372_036_854_775_807
positive z low = λ e. omega (arith, ints, low, e)

pub side_ordinary : (side : Side) → side_number side ≢ 255
unfolding side_number
side_ordinary Buy = λ e. omega arith
side_ordinary Sell = λ e. omega arith

-- the next number is below the greatest of 32 bits
pub next_small : (client : Recovery) → IsSound client → client.next ≤ 4_294_967_294
next_small client sound =
    let numbers = sound.numbers in let made = sound.made in let few = sound.few in omega arith
