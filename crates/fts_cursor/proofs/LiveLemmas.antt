-- Those of some documents that are live, at the front of what they lay in.
use Rattle.std.proofs.Common.{◌≡◌, ℕ, zero, suc, ◌+◌, ◌<◌, ◌≤◌, Bool, cond, List, [], ◌∷◌, ◌++◌, length, take, drop, sym, ap, ap₂, ◌∙◌}
use Rattle.std.proofs.Common.{arith}
use Rattle.std.specs.List.{filter}
use Rattle.std.proofs.Math.Seq.{drop-append_seam, take-append_seam}
use Rattle.std.proofs.lemmas.List.{length-append, take-append-drop}
use Rattle.std.proofs.lemmas.List.Elements.{filter-append}
use Rattle.fts_postings.specs.Sets.{FirstPasses}
use Rattle.fts_postings.specs.Takes.{Takes}
use Rattle.fts_postings.proofs.CostLemmas.{length-filter-le}
use Rattle.fts_postings.proofs.TakesLemmas.{Taken, Taken-some}

-- the live ones among the next documents were taken
pub Taken-live : (p : ℕ → Bool) (whole next front out : List ℕ) (n kept : ℕ) → front ≡ take n whole → filter p next ≡ filter p (drop n whole) →
    take kept out ≡ filter p front → kept ≡ length (filter p front) → Taken (filter p whole) (filter p next) out kept
Taken-live p whole next front out n kept front_is next_is written size =
    let taken = filter p front in
    let left = filter p (drop n whole) in
    let split : filter p whole ≡ taken ++ left = sym (ap (filter p) (take-append-drop n whole)) ∙ filter-append p (take n whole) (drop n whole)
    ∙ ap (λ xs. filter p xs ++ left) (sym front_is) in
    record {
      left_is = next_is ∙ sym (ap₂ (λ k xs. drop k xs) size split ∙ drop-append_seam taken left);
      front = written ∙ sym (ap₂ (λ k xs. take k xs) size split ∙ take-append_seam taken left);
      within = omega (arith, size, ap length split, length-append taken left);
    }

pub first_kept : (p : ℕ → Bool) (n : ℕ) (xs : List ℕ) → FirstPasses p xs → 0 < n → 0 < length xs → 0 < length (filter p (take n xs))
first_kept p zero xs passes some there = absurd (omega (arith, some))
first_kept p (suc n) [] passes some there = absurd (omega (arith, there))
first_kept p (suc n) (x ∷ xs) passes some there =
    let rest = filter p (take n xs) in
    let one : length (cond (p x) (x ∷ rest) rest) ≡ suc (length rest) = ap (λ b. length (cond b (x ∷ rest) rest)) passes in
    omega (arith, one)

-- those that pass of what was taken, of which the first is one
pub Takes-live : (p : ℕ → Bool) (whole mid next out docs : List ℕ) (n kept : ℕ) → FirstPasses p whole → Takes whole mid out n →
    filter p next ≡ filter p mid → take kept docs ≡ filter p (take n out) → kept ≡ length (filter p (take n out)) → kept ≤ n →
    Takes (filter p whole) (filter p next) docs kept
Takes-live p whole mid next out docs n kept passes t same written size few =
    let taken = Taken-live p whole next (take n out) docs n kept t.taken (same ∙ ap (filter p) t.left_is) written size in
    Taken-some (filter p whole) (filter p next) docs kept taken (omega (arith, few, t.few))
    (λ some.
    let there : 0 < length whole = omega (arith, some, length-filter-le p whole) in
    omega (arith, first_kept p n whole passes (t.some there) there, size, ap (λ xs. length (filter p xs)) t.taken))

-- as many of some documents are live as of the first and of the others
pub live_split : (p : ℕ → Bool) (n : ℕ) (xs : List ℕ) → length (filter p (take n xs)) + length (filter p (drop n xs)) ≡ length (filter p xs)
live_split p n xs =
    let split : filter p xs ≡ filter p (take n xs) ++ filter p (drop n xs) =
    sym (ap (filter p) (take-append-drop n xs)) ∙ filter-append p (take n xs) (drop n xs) in
    omega (arith, ap length split, length-append (filter p (take n xs)) (filter p (drop n xs)))
