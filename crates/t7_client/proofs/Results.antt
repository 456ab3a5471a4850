-- What the clauses of a call say, once its result was tested.
use Rattle.std.proofs.Common.{◌≡◌, true, false, Result, Ok, Err}
use Rattle.std.specs.Result.{OnErr, OnOk, is_err}

pub not_err : {T E P : Type 0} (r : Result T E) → false ≡ is_err r → OnOk r P → P
not_err (Ok x) is p = p
not_err (Err e) is p = cc is

pub an_err : {T E P : Type 0} (r : Result T E) → true ≡ is_err r → OnErr r P → P
an_err (Ok x) is p = cc is
an_err (Err e) is p = p
