-- The requests of the drill.
use Rattle.std.specs.Prelude.{ℕ, ◌+◌, ◌-◌, ◌%◌, ◌==◌, ◌||◌, Bool, if◌then◌else◌, nat_le, ℤ, pos}
use Rattle.t7_eti.specs.declared.request.Request.{Request}
use Rattle.t7_eti.specs.declared.request.Request.TheVariants as request
use Rattle.t7_script.specs.Draws.{drawn, next_state}

-- the logon of a session on its connection, with a heartbeat every 30 seconds
abbrev pub logon : ℕ → Request
logon session = request.Logon 1 30000 session

-- the numbers of which each fourth and the one after it are: order i of the first phase buys where i modulo 4 is 1 or 2
abbrev pub buys : ℕ → Bool
buys i = i % 4 == 1 || i % 4 == 2

-- Request i of the first phase, which is numbered from 1: an order of quantity 10, of the first security for odd i and else of the second. It buys
-- below 1,000 or sells above 2,000, so that none trades.
abbrev pub opening : ℕ → ℕ → Request
opening number i =
    let security = if i % 2 == 1 then pos 1001 else pos 1002 in
    if buys i then request.New number security 1 (pos (1000 - i % 100)) (pos 10) number
    else request.New number security 2 (pos (2000 + i % 100)) (pos 10) number

-- a price and a quantity of the second phase, as two draws give them
abbrev pub price_at : ℕ → ℤ
price_at x = pos (1400 + drawn 200 x)

-- the quantity of an order of the second phase, from 1 to 50
abbrev pub quantity_at : ℕ → ℤ
quantity_at x = pos (1 + drawn 50 x)

-- a request, and the generator after it was drawn
pub record Asked : Type 0 where
  pub request : Request
  pub draw : ℕ

-- a new order: its security, its side, its price and its quantity are drawn
abbrev pub new_at : ℕ → ℕ → Asked
new_at number x =
    let x1 = next_state x in let x2 = next_state x1 in let x3 = next_state x2 in
    record { request = request.New number (pos (1001 + drawn 2 x)) (1 + drawn 2 x1) (price_at x2) (quantity_at x3) number; draw = next_state x3 }

-- a modification of one of the orders up to the last: the order, its price and its quantity are drawn
abbrev pub modify_at : ℕ → ℕ → ℕ → Asked
modify_at number last x =
    let x1 = next_state x in let x2 = next_state x1 in
    record { request = request.Modify number (1 + drawn last x) number (price_at x1) (quantity_at x2); draw = next_state x2 }

-- a deletion of one of the orders up to the last, which is drawn
abbrev pub delete_at : ℕ → ℕ → ℕ → Asked
delete_at number last x = record { request = request.Delete number (1 + drawn last x) number; draw = next_state x }

-- What a step asks for, where its kind was drawn, the request has this number, and `last` is the last OrderID, or 0 where no order was ever accepted:
-- six kinds of ten are new orders, two modifications and two deletions.
abbrev pub request_at : ℕ → ℕ → ℕ → ℕ → Asked
request_at kind number last x =
    if nat_le kind 5 || last == 0 then new_at number x else
    if nat_le kind 7 then modify_at number last x else delete_at number last x
