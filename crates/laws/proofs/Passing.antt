-- What `?` passes on: the error that it was given.
use Rattle.std.proofs.Common.{◌≡◌, ◌∙◌, ap, Result, Err, IsErrAnd}
use Rattle.std.proofs.lemmas.Result.{err_from_is_err_and}

pub passed_on : {T E : Type 0} (r : Result T E) {e : E} → IsErrAnd r (λ x. x ≡ e) → r ≡ Err e
passed_on r h = let p = err_from_is_err_and r h in p.1 ∙ ap Err p.2
