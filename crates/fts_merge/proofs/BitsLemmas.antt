-- Bits of members that pass tests, and the members whose bit is set.
use Rattle.std.proofs.Common.{◌≡◌, ◌+◌, Bool, true, false, cond, not, ◌&&◌, ◌||◌, List, [], ◌∷◌, ◌++◌, filter, length, refl, sym, ap, ap₂, ◌∙◌, arith}
use Rattle.std.specs.List.{list_any}
use Rattle.std.proofs.Math.Bool.{and-true}
use Rattle.std.proofs.lemmas.List.Folds.{list_any-append}
use Rattle.fts_model.specs.declared.schema.Field.{Field}
use Rattle.fts_model.specs.declared.operation.Op.{Op}
use Rattle.fts_model.specs.declared.operation.Stamped.{Stamped}
use Rattle.fts_model.specs.Documents.{DocumentValue}
use Rattle.fts_model.specs.Operations.{strikes_later, survives}
use Rattle.fts_segment.specs.Contents.{where_set}
use Rattle.fts_merge.specs.Strikes.{bits_where, bits_after}

-- a conjunction is associative
pub and_moved : (a b c : Bool) → ((a && b) && c) ≡ (a && (b && c))
and_moved true b c = refl
and_moved false b c = refl

pub bits_where-again : {X : Type 0} (p q : X → Bool) (xs : List X) (bits : List Bool) →
    bits_where q xs (bits_where p xs bits) ≡ bits_where (λ x. p x && q x) xs bits
bits_where-again p q [] bits = refl
bits_where-again p q (x ∷ xs) [] = refl
bits_where-again p q (x ∷ xs) (bit ∷ bits) = ap₂ (λ b bs. b ∷ bs) (and_moved bit (p x) (q x)) (bits_where-again p q xs bits)

-- two tests that agree leave the same bits
pub bits_where-same : {X : Type 0} (p q : X → Bool) → ((x : X) → p x ≡ q x) → (xs : List X) (bits : List Bool) → bits_where p xs bits ≡ bits_where q xs bits
bits_where-same p q same [] bits = refl
bits_where-same p q same (x ∷ xs) [] = refl
bits_where-same p q same (x ∷ xs) (bit ∷ bits) = ap₂ (λ b bs. (bit && b) ∷ bs) (same x) (bits_where-same p q same xs bits)

-- a test that all pass leaves each bit
pub bits_where-all : {X : Type 0} (p : X → Bool) → ((x : X) → p x ≡ true) → (xs : List X) (bits : List Bool) → length bits ≡ length xs →
    bits_where p xs bits ≡ bits
bits_where-all p all [] [] e = refl
bits_where-all p all [] (bit ∷ bits) e = absurd (omega (arith, e))
bits_where-all p all (x ∷ xs) [] e = absurd (omega (arith, e))
bits_where-all p all (x ∷ xs) (bit ∷ bits) e =
    ap₂ (λ b bs. b ∷ bs) (ap (λ b. bit && b) (all x) ∙ and-true bit) (bits_where-all p all xs bits (omega (arith, e)))

pub length-bits_where : {X : Type 0} (p : X → Bool) (xs : List X) (bits : List Bool) → length bits ≡ length xs → length (bits_where p xs bits) ≡ length xs
length-bits_where p [] bits e = refl
length-bits_where p (x ∷ xs) [] e = absurd (omega (arith, e))
length-bits_where p (x ∷ xs) (bit ∷ bits) e = omega (arith, length-bits_where p xs bits (omega (arith, e)))

pub not_or : (a b : Bool) → not (a || b) ≡ (not a && not b)
not_or true b = refl
not_or false b = refl

survives-append : (schema : List Field) (ops more : List (Stamped Op)) (d : Stamped DocumentValue) →
    survives schema (ops ++ more) d ≡ (survives schema ops d && survives schema more d)
survives-append schema ops more d =
    ap not (list_any-append (λ op. strikes_later schema op d) ops more)
    ∙ not_or (list_any (λ op. strikes_later schema op d) ops) (list_any (λ op. strikes_later schema op d) more)

pub bits_after-append : (schema : List Field) (ops more : List (Stamped Op)) (ds : List (Stamped DocumentValue)) (bits : List Bool) →
    bits_after schema more ds (bits_after schema ops ds bits) ≡ bits_after schema (ops ++ more) ds bits
bits_after-append schema ops more ds bits =
    bits_where-again (survives schema ops) (survives schema more) ds bits
    ∙ sym (bits_where-same (survives schema (ops ++ more)) (λ d. survives schema ops d && survives schema more d) (survives-append schema ops more) ds bits)

-- the set bits that a test leaves are those that were set and pass
kept_and_left : {X : Type 0} (b c : Bool) (x : X) (xs : List X) → cond (b && c) (x ∷ xs) xs ≡ cond b (cond c (x ∷ xs) xs) xs
kept_and_left true c x xs = refl
kept_and_left false c x xs = refl

chosen_later : {X : Type 0} (b : Bool) (p : X → Bool) (x : X) (xs : List X) → cond b (cond (p x) (x ∷ filter p xs) (filter p xs)) (filter p xs)
    ≡ filter p (cond b (x ∷ xs) xs)
chosen_later true p x xs = refl
chosen_later false p x xs = refl

pub where_set-bits_where : {X : Type 0} (p : X → Bool) (xs : List X) (bits : List Bool) → where_set xs (bits_where p xs bits) ≡ filter p (where_set xs bits)
where_set-bits_where p [] bits = refl
where_set-bits_where p (x ∷ xs) [] = refl
where_set-bits_where p (x ∷ xs) (bit ∷ bits) =
    ap (λ ys. cond (bit && p x) (x ∷ ys) ys) (where_set-bits_where p xs bits)
    ∙ kept_and_left bit (p x) x (filter p (where_set xs bits))
    ∙ chosen_later bit p x (where_set xs bits)
