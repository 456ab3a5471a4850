-- The cells of an order, as they are read in place.
use Rattle.t7_script.specs.declared.cells.OrderCells.{OrderCells as Found}
use Rattle.t7_script.specs.Cells.{OrderCells}

-- the bytes of the cells that were found
abbrev pub cells_in : Found → OrderCells
cells_in o = record { security = o.security.now; side = o.side.now; price = o.price.now; quantity = o.quantity.now; client = o.client.now }
