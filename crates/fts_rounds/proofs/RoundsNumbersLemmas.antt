-- Lists of numbers, how often each occurs, and lists of numbers that rise.
use Rattle.std.proofs.Common.{◌≡◌, ℕ, ◌+◌, ◌<◌, ◌≤◌, List, [], ◌∷◌, ◌++◌, length, All, refl, ap, ◌∙◌, length-append, arith}
use Rattle.std.proofs.lemmas.List.Elements.{All-nil, All-cons}
use Rattle.fts_model.specs.declared.operation.Op.{Op}
use Rattle.fts_model.specs.declared.operation.Stamped.{Stamped}
use Rattle.fts_base.specs.Totals.{times}
use Rattle.fts_model.specs.Operations.{stamps_of}
use Rattle.fts_rounds.specs.Rounds.{AllAbove, AllBelow, Rises}
use Rattle.fts_model.proofs.StampLemmas.{stamps_of-push}

pub AllBelow-more : (n m : ℕ) (xs : List ℕ) → n ≤ m → AllBelow n xs → AllBelow m xs
AllBelow-more n m [] le b = tt
AllBelow-more n m (x ∷ xs) le b = let here = b.0 in (omega arith, AllBelow-more n m xs le b.1)

pub AllBelow-append : (n : ℕ) (xs ys : List ℕ) → AllBelow n xs → AllBelow n ys → AllBelow n (xs ++ ys)
AllBelow-append n [] ys a b = b
AllBelow-append n (x ∷ xs) ys a b = (a.0, AllBelow-append n xs ys a.1 b)

AllAbove-push : (n m : ℕ) (xs : List ℕ) → n < m → AllAbove n xs → AllAbove n (xs ++ m ∷ [])
AllAbove-push n m [] lt a = (lt, tt)
AllAbove-push n m (x ∷ xs) lt a = (a.0, AllAbove-push n m xs lt a.1)

pub Rises-push : (n : ℕ) (xs : List ℕ) → AllBelow n xs → Rises xs → Rises (xs ++ n ∷ [])
Rises-push n [] b r = (tt, tt)
Rises-push n (x ∷ xs) b r = (AllAbove-push x n xs b.0 r.0, Rises-push n xs b.1 r.1)

-- an empty list followed by a rising one rises
pub Rises-after_none : (xs ys : List ℕ) → length xs ≤ 0 → Rises ys → Rises (xs ++ ys)
Rises-after_none [] ys none r = r
Rises-after_none (x ∷ xs) ys none r = absurd (omega arith)

pub times-none : (x : ℕ) (xs : List ℕ) → length xs ≡ 0 → times x xs ≡ 0
times-none x [] e = refl
times-none x (y ∷ xs) e = absurd (omega arith)

pub All-from_below : (n : ℕ) (xs : List (Stamped Op)) → AllBelow n (stamps_of xs) → All (λ s. s.stamp < n) xs
All-from_below n [] b = All-nil (λ s. s.stamp < n)
All-from_below n (x ∷ xs) b = All-cons (λ s. s.stamp < n) x xs b.0 (All-from_below n xs b.1)

-- one more operation has its stamp after the others', whatever it is
pub stamps_of-pushed : (ops mid ops' : List (Stamped Op)) (op : Stamped Op) → mid ≡ ops → ops' ≡ mid ++ op ∷ [] →
    (stamps_of ops' ≡ stamps_of ops ++ op.stamp ∷ []) × (length ops' ≡ length ops + 1)
stamps_of-pushed ops mid ops' op kept pushed =
    let items : ops' ≡ ops ++ op ∷ [] = pushed ∙ ap (λ l. l ++ op ∷ []) kept in
    (stamps_of-push ops ops' op items, ap length items ∙ length-append ops (op ∷ []))
