-- The lines of reports, each without its line feed.
use Rattle.std.specs.Prelude.{ℕ, ℤ, List, ◌++◌, codes, decimal, pos}
use Rattle.std.specs.Fmt.{signed_decimal}
use Rattle.t7_base.specs.declared.ids.Side.{Side}
use Rattle.t7_base.specs.declared.ids.Side.TheVariants.{Buy, Sell}
use Rattle.t7_base.specs.declared.public.Resting.{Resting}
use Rattle.t7_eti.specs.declared.response.Kept.{Kept}
use Rattle.t7_eti.specs.declared.response.Kept.TheVariants as kept
use Rattle.t7_mbook.specs.declared.misfit.Misfit.{Misfit}
use Rattle.t7_mbook.specs.declared.misfit.Misfit.TheVariants as misfit

-- the letter of a side
abbrev pub side_text : Side → List ℕ
side_text Buy = codes "B"
side_text Sell = codes "S"

-- the line of an order: its security, side, price, quantity and priority time stamp
unfoldable pub order_line : Resting → List ℕ
order_line order =
    signed_decimal order.security ++ codes " " ++ side_text order.side ++ codes " " ++ signed_decimal order.price ++ codes " " ++ decimal order.qty ++ codes " " ++ decimal order.stamp

-- an execution begins with its order and side
unfoldable pub executed_order : ℕ → Side → List ℕ
executed_order order side = codes " EXEC " ++ decimal order ++ codes " " ++ side_text side

-- what is left of the order follows, and what was executed of it in all
unfoldable pub executed_so_far : ℤ → ℤ → List ℕ
executed_so_far leaves cum = codes " " ++ signed_decimal leaves ++ codes " " ++ signed_decimal cum

-- the quantity and the price of the trade come last
unfoldable pub executed_now : ℕ → ℤ → List ℕ
executed_now qty price = codes " " ++ decimal qty ++ codes " " ++ signed_decimal price

-- what a response says behind its number
abbrev pub kept_text : Kept → List ℕ
kept_text (kept.New order client stamp) = codes " NEW " ++ decimal order ++ codes " " ++ decimal client ++ codes " " ++ decimal stamp
kept_text (kept.Changed order client stamp) = codes " CHANGED " ++ decimal order ++ codes " " ++ decimal client ++ codes " " ++ decimal stamp
kept_text (kept.Deleted order client) = codes " DELETED " ++ decimal order ++ codes " " ++ decimal client
kept_text (kept.DeletedAll security count) = codes " DELETEDALL " ++ signed_decimal security ++ codes " " ++ decimal count
kept_text (kept.Cleared security count) = codes " CLEARED " ++ signed_decimal security ++ codes " " ++ decimal count
kept_text (kept.Exec order side leaves cum last_qty last_price) = executed_order order side ++ executed_so_far leaves cum ++ executed_now last_qty last_price

-- the line of a recoverable response, with its number
unfoldable pub kept_line : ℕ → Kept → List ℕ
kept_line number what = decimal number ++ kept_text what

-- the words of a misfit, with the kept and the said value where they differ
unfoldable pub misfit_words : Misfit → List ℕ
misfit_words misfit.Security = codes "security"
misfit_words misfit.Absent = codes "absent"
misfit_words (misfit.Price kept said) = codes "price " ++ signed_decimal kept ++ codes " " ++ signed_decimal said
misfit_words (misfit.Quantity kept said) = codes "quantity " ++ decimal kept ++ codes " " ++ decimal said
misfit_words misfit.Present = codes "present"
misfit_words misfit.Full = codes "full"
