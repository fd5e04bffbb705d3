-- What holds whatever a result is, and of bytes that were appended.
use Rattle.std.proofs.Common.{◌≡◌, ◌∙◌, ◌++◌, ℕ, List, ap, Result, Ok, Err}
use Rattle.std.specs.Prelude.{OnErr}

-- what holds holds at an error
pub on_err : {T E : Type 0} (r : Result T E) (Q : Type 0) → Q → OnErr r Q
on_err (Ok v) Q h = tt
on_err (Err e) Q h = h

-- what is appended to equal bytes
pub appended : (new mid old text : List ℕ) → new ≡ mid ++ text → mid ≡ old → new ≡ old ++ text
appended new mid old text e same = e ∙ ap (λ bytes. bytes ++ text) same
