-- Facts under one answer of a `Result`.
use Rattle.std.proofs.Common.{◌≡◌, Result, Ok, Err, OnOk, OnErr, is_err, true, false}

pub on_ok : {T E P Q : Type 0} → (r : Result T E) → OnOk r P → (P → Q) → OnOk r Q
on_ok (Ok v) p f = f p
on_ok (Err e) p f = tt

pub ok_holds : {T E P : Type 0} → (r : Result T E) → is_err r ≡ false → OnOk r P → P
ok_holds (Ok v) isnt h = h
ok_holds (Err e) isnt h = absurd (cc (isnt))

pub err_holds : {T E P : Type 0} → (r : Result T E) → is_err r ≡ true → OnErr r P → P
err_holds (Ok v) is h = absurd (cc (is))
err_holds (Err e) is h = h
