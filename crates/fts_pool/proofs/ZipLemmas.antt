-- Results that are those of the jobs, one by one.
use Rattle.std.proofs.Common.{◌≡◌, ◌+◌, ◌<◌, ℕ, zero, suc, List, [], ◌∷◌, ◌++◌, length, map, take, subst, arith}
use Rattle.std.specs.List.{AllZip, HoldsAt}

module _ {S O : Type 0} (gives : S → O → Type 0) where
  next : (slots : List S) (outs : List O) (n : ℕ) (out : O) → n < length slots → AllZip gives (take n slots) outs → HoldsAt (λ s. gives s out) slots n →
      AllZip gives (take (suc n) slots) (outs ++ out ∷ [])
  next [] outs n out lt are is = absurd (omega arith)
  next (s ∷ ss) [] zero out lt are is = (is s, tt)
  next (s ∷ ss) (o ∷ os) zero out lt are is = absurd are
  next (s ∷ ss) [] (suc n) out lt are is = absurd are
  next (s ∷ ss) (o ∷ os) (suc n) out lt are is = (are.0, next ss os n out (omega arith) are.1 (λ d. is d))

  -- one more result is that of the next job
  pub zip_more : (slots : List S) (outs : List O) (n : ℕ) (out : O) → n < length slots → AllZip gives (take n slots) outs → HoldsAt (λ s. gives s out) slots n →
      AllZip gives (take (n + 1) slots) (outs ++ out ∷ [])
  zip_more slots outs n out lt are is =
      let one : suc n ≡ n + 1 = omega arith in
      subst (λ m. AllZip gives (take m slots) (outs ++ out ∷ [])) one (next slots outs n out lt are is)

module _ {S J O : Type 0} (job : S → J) (gives : J → O → Type 0) where
  of_slots : (slots : List S) (outs : List O) → AllZip (λ s o. gives (job s) o) slots outs → AllZip gives (map job slots) outs
  of_slots [] [] are = tt
  of_slots [] (o ∷ os) are = absurd are
  of_slots (s ∷ ss) [] are = absurd are
  of_slots (s ∷ ss) (o ∷ os) are = (are.0, of_slots ss os are.1)

  -- the results of the slots are those of the jobs in them
  pub of_jobs : (slots : List S) (outs : List O) (jobs : List J) → AllZip (λ s o. gives (job s) o) slots outs → map job slots ≡ jobs → AllZip gives jobs outs
  of_jobs slots outs jobs are is = subst (λ js. AllZip gives js outs) is (of_slots slots outs are)
