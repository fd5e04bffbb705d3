-- The stamps of a list of operations with one more.
use Rattle.std.proofs.Common.{◌≡◌, ◌+◌, ℕ, suc, List, [], ◌∷◌, ◌++◌, length, refl, sym, ap, ◌∙◌, arith}
use Rattle.std.specs.List.{range_with_len}
use Rattle.std.proofs.lemmas.List.{length-append, map-append}
use Rattle.fts_model.specs.declared.operation.Op.{Op}
use Rattle.fts_model.specs.declared.operation.Stamped.{Stamped}
use Rattle.fts_model.specs.Operations.{stamps_of}
use Rattle.fts_model.proofs.Lists.{range_with_len-push}

pub stamps_of-push : (xs ys : List (Stamped Op)) (x : Stamped Op) → ys ≡ xs ++ x ∷ [] → stamps_of ys ≡ stamps_of xs ++ x.stamp ∷ []
stamps_of-push xs ys x e = ap stamps_of e ∙ map-append (λ (s : Stamped Op). s.stamp) xs (x ∷ [])

-- one more operation has the next stamp
pub numbered-push : (first : ℕ) (ops : List (Stamped Op)) (op : Stamped Op) → stamps_of ops ≡ range_with_len first (length ops) →
    op.stamp ≡ first + length ops →
    stamps_of (ops ++ op ∷ []) ≡ range_with_len first (length (ops ++ op ∷ []))
numbered-push first ops op run at =
    let more : suc (length ops) ≡ length (ops ++ op ∷ []) = omega (arith, length-append ops (op ∷ [])) in
    stamps_of-push ops (ops ++ op ∷ []) op refl
    ∙ ap (λ (ns : List ℕ). ns ++ op.stamp ∷ []) run
    ∙ ap (λ (n : ℕ). range_with_len first (length ops) ++ n ∷ []) at
    ∙ sym (range_with_len-push first (length ops))
    ∙ ap (λ (n : ℕ). range_with_len first n) more
