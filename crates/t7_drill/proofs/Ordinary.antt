-- The requests of the drill say no number that counts as null.
use Rattle.std.proofs.Common.{◌≡◌, ◌≢◌, ℕ, ◌+◌, ◌<◌, ◌≤◌, ◌≤ℤ◌, ℤ, pos, negsuc, List, [], ◌∷◌, length, sym, subst, arith}
use Rattle.t7_book.specs.declared.command.Command.{Command}
use Rattle.t7_book.specs.declared.command.Command.TheVariants as command
use Rattle.t7_book.specs.Orders.{BookState}
use Rattle.t7_book.specs.Steps.{book_after}
use Rattle.t7_book.specs.Trace.{book_left}
use Rattle.t7_eti.specs.declared.request.Request.{Request}
use Rattle.t7_eti.specs.declared.request.Request.TheVariants as request
use Rattle.t7_eti.specs.Requests.{IsAskable, request_client, request_number}
use Rattle.t7_eti.specs.Saying.{EachOrdinary, request_fields}
use Rattle.t7_fields.specs.Writing.{IsOrdinary}

-- no field of a request says a null, and neither do its numbers
pub record IsSayable (r : Request) : Type 0 where
  pub ordinary : EachOrdinary (request_fields r)
  pub askable : IsAskable r

-- a request that is one of these says no null
pub ordinary_as : (r s : Request) → r ≡ s → IsSayable s → EachOrdinary (request_fields r)
ordinary_as r s same sayable = subst (λ (x : Request). EachOrdinary (request_fields x)) (sym same) sayable.ordinary

pub askable_as : (r s : Request) → r ≡ s → IsSayable s → IsAskable r
askable_as r s same sayable = subst IsAskable (sym same) sayable.askable

-- numbers from 0 on
above : (z : ℤ) (n : ℕ) → pos 0 ≤ℤ z → z ≢ negsuc n
above (pos m) n low = λ is. cc is
above (negsuc m) n low = absurd low.le

pub logon_sayable : (session : ℕ) → session < 4_294_967_295 → IsSayable (request.Logon 1 30_000 session)
unfolding request_fields IsOrdinary request_number request_client
logon_sayable session low = record {
  ordinary = ((λ is. omega arith), ((λ is. omega arith), ((λ is. omega arith), tt)));
  askable = record { number = omega arith; client = tt };
}

pub new_sayable : (number side : ℕ) (security price qty : ℤ) → number < 4_294_967_295 → side < 255 → pos 0 ≤ℤ security → pos 0 ≤ℤ price → pos 0 ≤ℤ qty
    → IsSayable (request.New number security side price qty number)
unfolding request_fields IsOrdinary request_number request_client
new_sayable number side security price qty low few sec_low price_low qty_low = record {
  ordinary = (
    (λ is. omega arith),
    (
      (λ is. omega arith),
      (
        above security _ sec_low,
        ((λ is. omega arith), (above price _ price_low, (above qty _ qty_low, tt))),
      ),
    ),
  );
  askable = record { number = omega arith; client = omega arith };
}

pub modify_sayable : (number order : ℕ) (price qty : ℤ) → number < 4_294_967_295 → order < 18_446_744_073_709_551_615 → pos 0 ≤ℤ price → pos 0 ≤ℤ qty
    → IsSayable (request.Modify number order number price qty)
unfolding request_fields IsOrdinary request_number request_client
modify_sayable number order price qty low few price_low qty_low = record {
  ordinary = ((λ is. omega arith), ((λ is. omega arith), ((λ is. omega arith), (above price _ price_low, (above qty _ qty_low, tt)))));
  askable = record { number = omega arith; client = omega arith };
}

pub delete_sayable : (number order : ℕ) → number < 4_294_967_295 → order < 18_446_744_073_709_551_615 → IsSayable (request.Delete number order number)
unfolding request_fields IsOrdinary request_number request_client
delete_sayable number order low few = record {
  ordinary = ((λ is. omega arith), ((λ is. omega arith), ((λ is. omega arith), tt)));
  askable = record { number = omega arith; client = omega arith };
}

-- no more OrderIDs are given than commands are accepted
pub ids_few : (book : BookState) (cs : List Command) → (book_left book cs).last_id ≤ book.last_id + length cs
ids_few book [] = omega arith
ids_few book (command.New moment session security side price qty client ∷ cs) =
    (let rest = ids_few (book_after book (command.New moment session security side price qty client)) cs in omega arith)
ids_few book (command.Modify moment session order price qty client ∷ cs) =
    (let rest = ids_few (book_after book (command.Modify moment session order price qty client)) cs in omega arith)
ids_few book (command.Delete moment session order client ∷ cs) =
    (let rest = ids_few (book_after book (command.Delete moment session order client)) cs in omega arith)
ids_few book (command.DeleteAll moment session security ∷ cs) =
    (let rest = ids_few (book_after book (command.DeleteAll moment session security)) cs in omega arith)
ids_few book (command.Clear moment security ∷ cs) = (let rest = ids_few (book_after book (command.Clear moment security)) cs in omega arith)
