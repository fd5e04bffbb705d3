-- The numbers of a range that pass a test.
use Rattle.std.proofs.Common.{◌≡◌, ℕ, zero, suc, ◌+◌, Bool, List, [], ◌∷◌, ◌++◌, drop, ap, subst, ◌∙◌, arith}
use Rattle.std.specs.List.{filter, range_with_len}
use Rattle.std.proofs.lemmas.List.Elements.{filter-append}
use Rattle.fts_pack.specs.Documents.{Rises}
use Rattle.fts_postings.specs.Windows.{passing}
use Rattle.fts_postings.proofs.SetLemmas.{Rises-filter}

pub range-append : (a m n : ℕ) → range_with_len a (m + n) ≡ range_with_len a m ++ range_with_len (a + m) n
range-append a zero n =
    let e : 0 + n ≡ n = omega arith in
    let f : a ≡ a + 0 = omega arith in
    ap (range_with_len a) e ∙ ap (λ b. range_with_len b n) f
range-append a (suc m) n =
    let e : suc m + n ≡ suc (m + n) = omega arith in
    let f : a + 1 + m ≡ a + suc m = omega arith in
    ap (range_with_len a) e ∙ ap (λ xs. a ∷ xs) (range-append (a + 1) m n ∙ ap (λ b. range_with_len (a + 1) m ++ range_with_len b n) f)

pub passing-append : (p : ℕ → Bool) (a m n : ℕ) → passing p a (m + n) ≡ passing p a m ++ passing p (a + m) n
passing-append p a m n = ap (filter p) (range-append a m n) ∙ filter-append p (range_with_len a m) (range_with_len (a + m) n)

Rises-range : (a n : ℕ) → Rises a (range_with_len a n)
Rises-range a zero = tt
Rises-range a (suc n) = (omega arith, subst (λ b. Rises b (range_with_len (a + 1) n)) (let e : a + 1 ≡ suc a = omega arith in e) (Rises-range (a + 1) n))

pub Rises-passing : (p : ℕ → Bool) (a n : ℕ) → Rises a (passing p a n)
Rises-passing p a n = Rises-filter a p (range_with_len a n) (Rises-range a n)

pub Rises-drop : (k from : ℕ) (xs : List ℕ) → Rises from xs → (next : ℕ) × Rises next (drop k xs)
Rises-drop zero from xs h = (from, h)
Rises-drop (suc k) from [] h = (from, tt)
Rises-drop (suc k) from (x ∷ xs) h = Rises-drop k (suc x) xs h.1
