-- Commands whose responses may be written.
use Rattle.std.specs.Prelude.{ℕ, ◌<◌}
use Rattle.t7_base.specs.Ranges.{IsMoment, IsPrice}
use Rattle.t7_eti.specs.declared.response.Response.TheVariants as response
use Rattle.t7_eti.specs.Saying.{EachOrdinary, response_fields}
use Rattle.t7_book.specs.declared.command.Command.{Command}
use Rattle.t7_book.specs.declared.command.Command.TheVariants as command
use Rattle.t7_orders.specs.Answers.{Stored}

-- a ClOrdID isn't the greatest number of 64 bits
abbrev pub IsClient : ℕ → Type 0
IsClient client = client < 18_446_744_073_709_551_615

-- the moment and the price of a command are in their ranges, and its ClOrdID isn't the greatest number
abbrev pub IsTellable : Command → Type 0
IsTellable (command.New moment session security side price qty client) = IsMoment moment × IsPrice price × IsClient client
IsTellable (command.Modify moment session order price qty client) = IsMoment moment × IsPrice price × IsClient client
IsTellable (command.Delete moment session order client) = IsClient client
IsTellable (command.DeleteAll moment session security) = Unit {0}
IsTellable (command.Clear moment security) = Unit {0}

-- no number of a stored response may be one that stands for no value
abbrev pub CanBeTold : Stored → Type 0
CanBeTold s = EachOrdinary (response_fields (response.Kept 0 s.1))
