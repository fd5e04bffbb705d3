-- Rising documents, their gaps, and their blocks.
use Rattle.std.proofs.Common.{◌≡◌, ℕ, zero, suc, ◌+◌, ◌-◌, ◌*◌, ◌<◌, ◌≤◌, List, [], ◌∷◌, ◌++◌, length, get_or, take, drop, min, refl, sym, ap, ◌∙◌, subst}
use Rattle.std.proofs.Common.{arith}
use Rattle.std.specs.List.Sorted.{IsStrictlyIncreasing}
use Rattle.std.proofs.lemmas.List.{length-drop, take-append-drop, drop_more, take_all, take_min}
use Rattle.std.specs.Int.{div_ceil}
use Rattle.std.proofs.Math.Seq.{take-add}
use Rattle.fts_pack.specs.Documents.{gaps, documents_at, block_count, block_at, last_of, Rises, after}

pub documents_at-gaps : (next : ℕ) (documents : List ℕ) → Rises next documents → documents_at next (gaps next documents) ≡ documents
documents_at-gaps next [] h = refl
documents_at-gaps next (d ∷ ds) h =
    let same : next + (d - next) ≡ d = omega (arith, h.0) in
    rw same (ap (λ xs. d ∷ xs) (documents_at-gaps (suc d) ds h.1))

pub length-gaps : (next : ℕ) (documents : List ℕ) → length (gaps next documents) ≡ length documents
length-gaps next [] = refl
length-gaps next (d ∷ ds) = ap suc (length-gaps (suc d) ds)

pub length-documents_at : (next : ℕ) (numbers : List ℕ) → length (documents_at next numbers) ≡ length numbers
length-documents_at next [] = refl
length-documents_at next (g ∷ gs) = ap suc (length-documents_at (suc (next + g)) gs)

pub Rises-append : (next : ℕ) (xs ys : List ℕ) → Rises next (xs ++ ys) → Rises next xs × Rises (after next xs) ys
Rises-append next [] ys h = (tt, h)
Rises-append next (x ∷ xs) ys h =
    let tail = Rises-append (suc x) xs ys h.1 in
    ((h.0, tail.0), tail.1)

pub after-append : (next : ℕ) (xs ys : List ℕ) → after next (xs ++ ys) ≡ after (after next xs) ys
after-append next [] ys = refl
after-append next (x ∷ xs) ys = after-append (suc x) xs ys

-- the last document is the predecessor of the least that may follow
pub after_last : (next : ℕ) (xs : List ℕ) → 0 < length xs → after next xs ≡ suc (last_of xs)
after_last next [] h = absurd (omega arith)
after_last next (x ∷ []) h = refl
after_last next (x ∷ (y ∷ ys)) h =
    let here : suc (length ys) - 1 ≡ length ys = omega arith in
    let there : suc (suc (length ys)) - 1 ≡ suc (length ys) = omega arith in
    after_last (suc x) (y ∷ ys) (omega arith) ∙ ap (λ i. suc (get_or (y ∷ ys) i 0)) here ∙ ap (λ i. suc (get_or (x ∷ (y ∷ ys)) i 0)) (sym there)

Rises-from_head : (next : ℕ) (xs : List ℕ) → IsStrictlyIncreasing xs → (0 < length xs → next ≤ get_or xs 0 0) → Rises next xs
Rises-from_head next [] h head = tt
Rises-from_head next (x ∷ xs) h head = (
  head (omega arith),
  Rises-from_head (suc x) xs (λ k inside. let e : suc k + 1 ≡ suc (k + 1) = omega arith in rw e at (h (suc k) (omega (arith, inside))))
      (λ some. h 0 (omega (arith, some))),
)

pub Rises-from_increasing : (xs : List ℕ) → IsStrictlyIncreasing xs → Rises 0 xs
Rises-from_increasing xs h = Rises-from_head 0 xs h (λ some. omega arith)

-- a block of rising documents rises from the documents before it
pub Rises-block : (documents : List ℕ) (block : ℕ) → Rises 0 documents → Rises (after 0 (take (block * 128) documents)) (block_at documents block)
Rises-block documents block h =
    let front = take (block * 128) documents in
    let back = drop (block * 128) documents in
    let tail = Rises-append 0 front back (subst (Rises 0) (sym (take-append-drop (block * 128) documents)) h) in
    let piece = Rises-append (after 0 front) (take 128 back) (drop 128 back) (subst (Rises (after 0 front)) (sym (take-append-drop 128 back)) tail.1) in
    piece.0

pub take_block : (documents : List ℕ) (block : ℕ) → take ((block + 1) * 128) documents ≡ take (block * 128) documents ++ block_at documents block
take_block documents block = ap (λ n. take n documents) (omega arith) ∙ take-add (block * 128) 128 documents

-- the gap of the next number
pub record IsNextGap (rising : List ℕ) (i next number : ℕ) : Type 0 where
  pub above : next ≤ number
  pub rises : Rises (number + 1) (drop (i + 1) rising)
  pub gaps_are : gaps next (drop i rising) ≡ (number - next) ∷ gaps (number + 1) (drop (i + 1) rising)

pub next_gap : (rising : List ℕ) (i next number : ℕ) → i < length rising → number ≡ get_or rising i 0 → Rises next (drop i rising) →
    IsNextGap rising i next number
next_gap rising i next number within is rises =
    let rest = drop (i + 1) rising in
    let here : drop i rising ≡ number ∷ rest = drop_more rising i 0 within ∙ ap (λ p. p ∷ rest) (sym is) in
    let up : Rises next (number ∷ rest) = subst (Rises next) here rises in
    let one : suc number ≡ number + 1 = omega arith in
    record {
      above = up.0;
      rises = subst (λ n. Rises n rest) one up.1;
      gaps_are = ap (gaps next) here ∙ ap (λ n. (number - next) ∷ gaps n rest) one;
    }

-- a slice from a block's start to its end is the block
pub block_sliced : (documents : List ℕ) (block end : ℕ) → end ≡ min (length documents) (block * 128 + 128) →
    take (end - block * 128) (drop (block * 128) documents) ≡ block_at documents block
block_sliced documents block end end_is =
    let back = drop (block * 128) documents in
    let size : end - block * 128 ≡ min 128 (length back) = omega (arith, end_is, length-drop (block * 128) documents) in
    ap (λ n. take n back) size ∙ take_min 128 back

pub block_count-div_ceil : (count : ℕ) → div_ceil count 128 ≡ block_count count
block_count-div_ceil count = omega arith

-- the successor of the last document is the least that may follow
pub last_is : (next : ℕ) (documents : List ℕ) → 0 < length documents → suc (get_or documents (length documents - 1) 0) ≡ after next documents
last_is next documents some = sym (after_last next documents some)

-- the first block of at most 128 documents has them all
pub first_block : (documents : List ℕ) (block : ℕ) → length documents ≤ 128 → block < block_count (length documents) → block_at documents block ≡ documents
first_block documents zero few h = take_all 128 documents few
first_block documents (suc block) few h = absurd (omega (arith, few, h))

-- the documents of a list that is one block
pub one_block : (value documents : List ℕ) (block : ℕ) → value ≡ documents → length documents ≤ 128 → block < block_count (length value) →
    documents ≡ block_at value block
one_block value documents block is few inside =
    sym (first_block documents block few (subst (λ (v : List ℕ). block < block_count (length v)) is inside)) ∙ ap (λ (v : List ℕ). block_at v block) (sym is)

-- the last of rising documents is the greatest
pub within_last : (next : ℕ) (xs : List ℕ) → Rises next xs → (k : ℕ) → k < length xs → get_or xs k 0 ≤ get_or xs (length xs - 1) 0
within_last next [] h k inside = absurd (omega arith)
within_last next (x ∷ []) h zero inside = omega arith
within_last next (x ∷ []) h (suc k) inside = absurd (omega arith)
within_last next (x ∷ y ∷ ys) h k inside =
    let n = length (y ∷ ys) in
    let e : length (x ∷ y ∷ ys) - 1 ≡ suc (n - 1) = omega arith in
    let last : get_or (x ∷ y ∷ ys) (length (x ∷ y ∷ ys) - 1) 0 ≡ get_or (y ∷ ys) (n - 1) 0 = ap (λ i. get_or (x ∷ y ∷ ys) i 0) e in
    elim k as (λ j. j < length (x ∷ y ∷ ys) → get_or (x ∷ y ∷ ys) j 0 ≤ get_or (x ∷ y ∷ ys) (length (x ∷ y ∷ ys) - 1) 0) [
      | zero ↦ λ low. (let up = within_last (suc x) (y ∷ ys) h.1 0 (omega arith) in omega (arith, last, h.1.0, up))
      | suc j ↦ λ low. (let up = within_last (suc x) (y ∷ ys) h.1 j (omega (arith, low)) in omega (arith, last, up))
    ] inside
