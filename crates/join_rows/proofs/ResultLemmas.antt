-- What a result says of one outcome.
use Rattle.std.proofs.Common.{Result, Ok, Err}
use Rattle.std.specs.Result.{OnOk, OnErr}

pub on_err_by : {T E : Type 0} (r : Result T E) (P : Type 0) → P → OnErr r P
on_err_by (Ok x) P p = tt
on_err_by (Err e) P p = p

pub on_ok_by : {T E : Type 0} (r : Result T E) (P : Type 0) → P → OnOk r P
on_ok_by (Ok x) P p = p
on_ok_by (Err e) P p = tt
