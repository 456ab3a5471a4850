-- What a refusal of a table means.
use Rattle.std.specs.Prelude.{◌≡◌, Option, Some}
use Rattle.t7_layout.specs.declared.words.TableFault.{TableFault}
use Rattle.t7_layout.specs.declared.table.TableRefusal.{TableRefusal}
use Rattle.t7_layout.specs.declared.table.TableRefusal.TheVariants.{Fault, Memory}

-- a refusal names the fault that there is; memory may run out whatever the records are
abbrev pub IsFaultOf : Option TableFault → TableRefusal → Type 0
IsFaultOf fault (Fault f) = fault ≡ Some f
IsFaultOf fault Memory = Unit {0}
