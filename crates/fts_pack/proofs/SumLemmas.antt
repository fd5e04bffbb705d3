-- Prefix sums of four lanes.
use Rattle.std.proofs.Common.{◌≡◌, ℕ, zero, suc, ◌+◌, ◌-◌, ◌*◌, ◌/◌, ◌%◌, ◌^◌, ◌<◌, ◌≤◌, List, [], ◌∷◌, ◌++◌, length, get_or, take, drop, map, sum, refl, sym}
use Rattle.std.proofs.Common.{ap, ◌∙◌, subst, ap₂, All, mod-eq_of_lt, length-drop, inl, inr, arith, lit<}
use Rattle.std.specs.Simd.Lanes.{zip2}
use Rattle.std.proofs.lemmas.Grind.{same_number_lists}
use Rattle.std.proofs.lemmas.Nat.{div-add-mod'}
use Rattle.std.proofs.Math.Nat.{mul-add-mod_self_right}
use Rattle.std.proofs.Math.Seq.{take-add}
use Rattle.std.proofs.lemmas.Bool.{cases_lt}
use Rattle.std.proofs.lemmas.List.{get_or-take, get_or-drop, get_or-map, length-map, length-take-le, take-take}
use Rattle.std.proofs.lemmas.List.Sums.{sum_by-cons, sum_by-append}
use Rattle.fts_pack.specs.Documents.{documents_at}
use Rattle.fts_pack.proofs.DocumentsLemmas.{length-documents_at}
use Rattle.fts_pack.proofs.VectorLemmas.{below_four, four_lanes}

pub sum-cons : (x : ℕ) (xs : List ℕ) → sum (x ∷ xs) ≡ x + sum xs
sum-cons x xs = sum_by-cons (λ y. y) x xs

pub document_is : (next : ℕ) (gaps : List ℕ) (i : ℕ) → i < length gaps → get_or (documents_at next gaps) i 0 ≡ next + sum (take (i + 1) gaps) + i
document_is next [] i h = absurd (omega arith)
document_is next (gap ∷ gaps) zero h = omega arith
document_is next (gap ∷ gaps) (suc i) h =
    let e : suc i + 1 ≡ suc (i + 1) = omega arith in
    let more : sum (take (suc i + 1) (gap ∷ gaps)) ≡ gap + sum (take (i + 1) gaps) = ap (λ n. sum (take n (gap ∷ gaps))) e ∙ sum-cons gap (take (i + 1) gaps) in
    document_is (suc (next + gap)) gaps i (omega arith) ∙ omega (arith, more)

add_mod : (m a b c : ℕ) → (a + (b + c) % m) % m ≡ (a + b + c) % m
add_mod m a b c =
    let parted : b + c ≡ (b + c) / m * m + (b + c) % m = sym (div-add-mod' (b + c) m) in
    let whole : a + b + c ≡ (b + c) / m * m + (a + (b + c) % m) = omega (arith, parted) in
    sym (ap (λ n. n % m) whole ∙ mul-add-mod_self_right ((b + c) / m) m (a + (b + c) % m))

abbrev pub AreDocuments : List ℕ → List ℕ → Type 0
AreDocuments from sums = (lane : ℕ) → lane < 4 → get_or (zip2 (λ x y. (x + y) % 2 ^ 32) from (zip2 (λ x y. (x + y) % 2 ^ 32) sums (1 ∷ 2 ∷ 3 ∷ 4 ∷ []))) lane 0
    ≡ (get_or from lane 0 + get_or sums lane 0 + (lane + 1)) % 2 ^ 32

pub four_documents : (from : List ℕ) → length from ≡ 4 → (sums : List ℕ) → length sums ≡ 4 → AreDocuments from sums
four_documents =
    four_lanes (λ from. (sums : List ℕ) → length sums ≡ 4 → AreDocuments from sums) (λ a b c d.
    four_lanes (AreDocuments (a ∷ b ∷ c ∷ d ∷ [])) (λ e f g h.
    below_four _ (add_mod (2 ^ 32) a e 1) (add_mod (2 ^ 32) b f 2) (add_mod (2 ^ 32) c g 3) (add_mod (2 ^ 32) d h 4)))

sum-append : (xs ys : List ℕ) → sum (xs ++ ys) ≡ sum xs + sum ys
sum-append xs ys = sum_by-append (λ x. x) xs ys

pub sum-take-add : (n k : ℕ) (xs : List ℕ) → sum (take (n + k) xs) ≡ sum (take n xs) + sum (take k (drop n xs))
sum-take-add n k xs = ap sum (take-add n k xs) ∙ sum-append (take n xs) (take k (drop n xs))

-- the documents that are written, after the document `last`
pub record IsSummed (last : ℕ) (gaps : List ℕ) (at : ℕ) (out from : List ℕ) : Type 0 where
  pub written : (i : ℕ) → i < at → get_or out i 0 ≡ (last + sum (take (i + 1) gaps) + (i + 1)) % 2 ^ 32
  pub kept : (i : ℕ) → at ≤ i → i < 128 → get_or out i 0 ≡ get_or gaps i 0
  pub reached : (lane : ℕ) → lane < 4 → get_or from lane 0 ≡ (last + sum (take at gaps) + at) % 2 ^ 32
  pub long : length out ≡ 128

-- four gaps as they were loaded
loaded_is : (gaps out loaded : List ℕ) (at : ℕ) → length gaps ≡ 128 → at + 4 ≤ 128 → length loaded ≡ 4 →
    ((i : ℕ) → at ≤ i → i < 128 → get_or out i 0 ≡ get_or gaps i 0) → ((lane : ℕ) → lane < 4 → get_or loaded lane 0 ≡ get_or out (at + lane) 0) →
    loaded ≡ take 4 (drop at gaps)
loaded_is gaps out loaded at long room four kept is =
    let rest : length (drop at gaps) ≡ 128 - at = length-drop at gaps ∙ ap (λ n. n - at) long in
    let size : length (take 4 (drop at gaps)) ≡ 4 = length-take-le 4 (drop at gaps) (omega arith) in
    same_number_lists loaded (take 4 (drop at gaps)) (four ∙ sym size) (λ k inside.
    let near : k < 4 = subst (λ n. k < n) four inside in
    is k near ∙ kept (at + k) (omega arith) (omega arith) ∙ sym (get_or-take 4 (drop at gaps) k 0 near ∙ get_or-drop at gaps k 0))

sum_loaded : (gaps loaded : List ℕ) (at lane : ℕ) → loaded ≡ take 4 (drop at gaps) → lane < 4 → sum (take at gaps) + sum (take (lane + 1) loaded)
    ≡ sum (take (at + lane + 1) gaps)
sum_loaded gaps loaded at lane e small =
    let same : take (lane + 1) loaded ≡ take (lane + 1) (drop at gaps) =
    ap (λ xs. take (lane + 1) xs) e ∙ take-take (lane + 1) 4 (drop at gaps) (omega arith) in
    let count : at + (lane + 1) ≡ at + lane + 1 = omega arith in
    ap (λ xs. sum (take at gaps) + sum xs) same ∙ sym (sum-take-add at (lane + 1) gaps) ∙ ap (λ n. sum (take n gaps)) count

three : (m a b c d e : ℕ) → (((a + b + c) % m) + (d % m) + e) % m ≡ (a + b + c + d + e) % m
three m a b c d e =
    let s = a + b + c in
    let one : s ≡ s / m * m + s % m = sym (div-add-mod' s m) in
    let two : d ≡ d / m * m + d % m = sym (div-add-mod' d m) in
    let whole : s + d + e ≡ (s / m + d / m) * m + (s % m + d % m + e) = omega (arith, one, two) in
    sym (ap (λ n. n % m) whole ∙ mul-add-mod_self_right (s / m + d / m) m (s % m + d % m + e))

-- four more documents are written
pub summed_more : (last : ℕ) (gaps : List ℕ) (at : ℕ) (out out' from from' loaded sums added : List ℕ) → length gaps ≡ 128 → at + 4 ≤ 128 → length loaded ≡ 4 →
    length out' ≡ 128 → IsSummed last gaps at out from
    → ((lane : ℕ) → lane < 4 → get_or loaded lane 0 ≡ get_or out (at + lane) 0)
    → ((lane : ℕ) → lane < 4 → get_or sums lane 0 ≡ sum (take (lane + 1) loaded) % 2 ^ 32)
    → ((lane : ℕ) → lane < 4 → get_or added lane 0 ≡ (get_or from lane 0 + get_or sums lane 0 + (lane + 1)) % 2 ^ 32)
    → ((i : ℕ) → i < at → get_or out' i 0 ≡ get_or out i 0)
    → ((lane : ℕ) → lane < 4 → get_or out' (at + lane) 0 ≡ get_or added lane 0)
    → ((i : ℕ) → at + 4 ≤ i → i < 128 → get_or out' i 0 ≡ get_or out i 0)
    → ((lane : ℕ) → lane < 4 → get_or from' lane 0 ≡ get_or added 3 0)
    → (at' : ℕ) → at' ≡ at + 4 → IsSummed last gaps at' out' from'
summed_more last gaps at out out' from from' loaded sums added long room four long' h is sums_are added_is before there behind from_is at' at_is =
    let e = loaded_is gaps out loaded at long room four h.kept is in
    let reach : (lane : ℕ) → lane < 4 → get_or added lane 0 ≡ (last + sum (take (at + lane + 1) gaps) + (at + lane + 1)) % 2 ^ 32 = λ lane small.
    added_is lane small
    ∙ ap₂ (λ x y. (x + y + (lane + 1)) % 2 ^ 32) (h.reached lane small) (sums_are lane small)
    ∙ three (2 ^ 32) last (sum (take at gaps)) at (sum (take (lane + 1) loaded)) (lane + 1)
    ∙ ap (λ n. n % 2 ^ 32) (let s = sum_loaded gaps loaded at lane e small in
    let total : last + sum (take at gaps) + at + sum (take (lane + 1) loaded) + (lane + 1) ≡ last + sum (take (at + lane + 1) gaps) + (at + lane + 1) =
    omega (arith, s) in total) in
    record {
      written = λ i inside. elim (cases_lt i at) [
        | inl low ↦ before i low ∙ h.written i low
        | inr high ↦ (
            let back : at + (i - at) ≡ i = omega arith in
            let small : i - at < 4 = omega (arith, at_is, inside) in
            ap (λ n. get_or out' n 0) (sym back)
            ∙ there (i - at) small ∙ reach (i - at) small
            ∙ ap (λ n. (last + sum (take (n + 1) gaps) + (n + 1)) % 2 ^ 32) back
            )
      ];
      kept = λ i past inside. behind i (omega (arith, at_is, past)) inside ∙ h.kept i (omega (arith, at_is, past)) inside;
      reached = λ lane small.
          from_is lane small ∙ reach 3 (omega arith)
          ∙ ap (λ n. (last + sum (take n gaps) + n) % 2 ^ 32) (omega (arith, at_is));
      long = long';
    }

-- the document after the one before `next` is `next`
behind_last : (m next last s i : ℕ) → last ≡ (next + (m - 1)) % m → 0 < m → (last + s + (i + 1)) % m ≡ (next + s + i) % m
behind_last m next last s i last_is some =
    let q = (next + (m - 1)) / m in
    let parted : next + (m - 1) ≡ q * m + last = sym (div-add-mod' (next + (m - 1)) m) ∙ ap (λ n. q * m + n) (sym last_is) in
    let whole : 1 * m + (next + s + i) ≡ q * m + (last + s + (i + 1)) = omega (arith, parted) in
    sym (mul-add-mod_self_right q m (last + s + (i + 1))) ∙ ap (λ n. n % m) (sym whole) ∙ mul-add-mod_self_right 1 m (next + s + i)

pub summed_whole : (next last : ℕ) (gaps out from : List ℕ) (at : ℕ) → last ≡ (next + (2 ^ 32 - 1)) % 2 ^ 32 → length gaps ≡ 128 → at ≡ 128 →
    IsSummed last gaps at out from → out ≡ map (λ document. document % 2 ^ 32) (documents_at next gaps)
summed_whole next last gaps out from at last_is long at_is h =
    let all = documents_at next gaps in
    let size : length (map (λ document. document % 2 ^ 32) all) ≡ 128 = length-map all (λ document. document % 2 ^ 32) ∙ length-documents_at next gaps ∙ long in
    same_number_lists out (map (λ document. document % 2 ^ 32) all) (h.long ∙ sym size) (λ k inside.
    let near : k < 128 = subst (λ n. k < n) h.long inside in
    h.written k (omega (arith, at_is, near))
    ∙ behind_last (2 ^ 32) next last (sum (take (k + 1) gaps)) k last_is (lit< tt)
    ∙ ap (λ n. n % 2 ^ 32) (sym (document_is next gaps k (omega (arith, long, near))))
    ∙ sym (get_or-map (λ document. document % 2 ^ 32) all k 0 0 (omega (arith, long, near, length-documents_at next gaps))))

pub documents_kept : (next count : ℕ) (gaps : List ℕ) → All (λ document. document < 2 ^ 32) (documents_at next (take count gaps)) →
    take count (map (λ document. document % 2 ^ 32) (documents_at next gaps)) ≡ documents_at next (take count gaps)
documents_kept next zero gaps h = refl
documents_kept next (suc count) [] h = refl
documents_kept next (suc count) (gap ∷ gaps) h =
    ap₂ (λ x xs. x ∷ xs) (mod-eq_of_lt (h 0 0 (omega arith)))
    (documents_kept (suc (next + gap)) count gaps (λ k d inside. h (suc k) d (omega arith)))
