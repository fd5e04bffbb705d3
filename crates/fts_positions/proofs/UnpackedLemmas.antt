-- Numbers that are copied block by block.
use Rattle.std.proofs.Common.{◌≡◌, ◌+◌, ◌-◌, ◌*◌, ◌/◌, ◌<◌, ◌≤◌, ℕ, List, [], ◌∷◌, ◌++◌, length, get_or, take, drop, sum, min, sym, ap, ◌∙◌, arith, inl, inr}
use Rattle.std.proofs.Common.{length-drop, append_assoc}
use Rattle.std.specs.Prelude.{slice_range}
use Rattle.std.proofs.lemmas.Bool.{cases_lt}
use Rattle.std.proofs.lemmas.Grind.{same_number_lists}
use Rattle.std.proofs.lemmas.List.{drop-drop, drop_more, get_or-drop, get_or-take, length-take-le, take_all}
use Rattle.std.proofs.lemmas.List.Sums.{sum_by_more, sum_by-take-le}
use Rattle.std.proofs.Math.Seq.{take-add}
use Rattle.fts_pack.specs.Documents.{block_at}
use Rattle.fts_pack.specs.SourceLaws.{length-block_at}
use Rattle.fts_pack.proofs.SumLemmas.{sum-take-add}

-- an opened block has the numbers from its start
pub record IsOpened (numbers : List ℕ) (index start many : ℕ) (out : List ℕ) : Type 0 where
  pub near : many ≤ 128
  pub within : start + many ≤ length numbers
  pub from : start ≤ index
  pub to : index < start + many
  pub are : (i : ℕ) → i < many → get_or out i 0 ≡ get_or numbers (start + i) 0

pub opened : (numbers : List ℕ) (index many : ℕ) (out : List ℕ) → index < length numbers → many ≡ length (block_at numbers (index / 128)) →
    take many out ≡ block_at numbers (index / 128) →
    IsOpened numbers index (index / 128 * 128) many out
opened numbers index many out inside many_is out_is =
    let block = index / 128 in
    let size = length-block_at numbers block in
    record {
      near = omega (arith, many_is, size);
      within = omega (arith, many_is, size, inside);
      from = omega arith;
      to = omega (arith, many_is, size, inside);
      are = λ i h. sym (get_or-take many out i 0 h) ∙ ap (λ xs. get_or xs i 0) out_is ∙ get_or-take 128 (drop (block * 128) numbers) i 0
          (omega (arith, many_is, size, h))
          ∙ get_or-drop (block * 128) numbers i 0;
    }

-- numbers that are copied out of a block
pub copied : (block numbers : List ℕ) (base from start count many : ℕ) → start ≡ base + from → from + count ≤ many → many ≤ length block →
    base + many ≤ length numbers →
    ((i : ℕ) → i < many → get_or block i 0 ≡ get_or numbers (base + i) 0) → slice_range block from (from + count) ≡ slice_range numbers start (start + count)
copied block numbers base from start count many start_is few long within are =
    let left : from + count - from ≡ count = omega arith in
    let right : start + count - start ≡ count = omega arith in
    let first : length (take count (drop from block)) ≡ count = length-take-le count (drop from block) (omega (arith, length-drop from block, few, long)) in
    let second : length (take count (drop start numbers)) ≡ count =
    length-take-le count (drop start numbers) (omega (arith, length-drop start numbers, few, within, start_is)) in
    ap (λ n. take n (drop from block)) left
    ∙ same_number_lists (take count (drop from block)) (take count (drop start numbers)) (first ∙ sym second) (λ k inside.
    let small : k < count = omega (arith, inside, first) in
    let at : base + (from + k) ≡ start + k = omega (arith, start_is) in
    get_or-take count (drop from block) k 0 small ∙ get_or-drop from block k 0 ∙ are (from + k) (omega (arith, small, few)) ∙ ap (λ n. get_or numbers n 0) at
    ∙ sym (get_or-take count (drop start numbers) k 0 small ∙ get_or-drop start numbers k 0))
    ∙ ap (λ n. take n (drop start numbers)) (sym right)

-- a range of numbers in two pieces
range-range : (xs : List ℕ) (a b c : ℕ) → a ≤ b → b ≤ c → slice_range xs a c ≡ slice_range xs a b ++ slice_range xs b c
range-range xs a b c ab bc =
    let sums : c - a ≡ (b - a) + (c - b) = omega (arith, ab, bc) in
    let there : a + (b - a) ≡ b = omega (arith, ab) in
    ap (λ n. take n (drop a xs)) sums ∙ take-add (b - a) (c - b) (drop a xs)
    ∙ ap (λ ys. slice_range xs a b ++ take (c - b) ys) (drop-drop (b - a) a xs ∙ ap (λ n. drop n xs) there)

-- one more piece is copied
pub copied-step : (xs out new all : List ℕ) (at next end : ℕ) → at ≤ next → next ≤ end → new ≡ out ++ slice_range xs at next →
    out ++ slice_range xs at end ≡ all → new ++ slice_range xs next end ≡ all
copied-step xs out new all at next end on within put so_far =
    ap (λ ys. ys ++ slice_range xs next end) put ∙ append_assoc out (slice_range xs at next) (slice_range xs next end)
    ∙ ap (λ ys. out ++ ys) (sym (range-range xs at next end on within)) ∙ so_far

-- an empty range has no numbers
pub range_none : {X : Type 0} (xs : List X) (at end : ℕ) → end ≤ at → slice_range xs at end ≡ []
range_none xs at end past = ap (λ n. take n (drop at xs)) (let none : end - at ≡ 0 = omega (arith, past) in none)

-- an end past the last is the last
pub range_min : {X : Type 0} (xs : List X) (start end : ℕ) → slice_range xs start (min end (length xs)) ≡ slice_range xs start end
range_min xs start end = elim (cases_lt end (length xs)) [
  | inl within ↦ ap (λ n. take (n - start) (drop start xs)) (let same : min end (length xs) ≡ end = omega (arith, within) in same)
  | inr past ↦
      take_all (min end (length xs) - start) (drop start xs) (omega (arith, past, length-drop start xs))
      ∙ sym (take_all (end - start) (drop start xs) (omega (arith, past, length-drop start xs)))
]

-- a range of one member
pub range_one : {X : Type 0} (xs : List X) (at : ℕ) (d : X) → at < length xs → slice_range xs at (at + 1) ≡ get_or xs at d ∷ []
range_one xs at d within = ap (λ n. take n (drop at xs)) (let one : at + 1 - at ≡ 1 = omega arith in one) ∙ ap (take 1) (drop_more xs at d within)

-- a range has as many numbers as it is long
pub length-range : {X : Type 0} (xs : List X) (start count : ℕ) → start + count ≤ length xs → length (slice_range xs start (start + count)) ≡ count
length-range xs start count within =
    let left : start + count - start ≡ count = omega arith in
    ap (λ n. length (take n (drop start xs))) left ∙ length-take-le count (drop start xs) (omega (arith, within, length-drop start xs))

-- the sum of the first numbers with one more
pub sum-more : (counts : List ℕ) (k : ℕ) → k < length counts → sum (take (k + 1) counts) ≡ sum (take k counts) + get_or counts k 0
sum-more counts k within = sum_by_more (λ (x : ℕ). x) counts k 0 within

pub sum-within : (counts : List ℕ) (k : ℕ) → sum (take k counts) ≤ sum counts
sum-within counts k = sum_by-take-le (λ (x : ℕ). x) counts k

-- the sum of the numbers up to an end, in two pieces
pub sum-range : (counts : List ℕ) (start end : ℕ) → start ≤ end → sum (take end counts) ≡ sum (take start counts) + sum (slice_range counts start end)
sum-range counts start end on =
    let all : end ≡ start + (end - start) = omega (arith, on) in
    ap (λ n. sum (take n counts)) all ∙ sum-take-add start (end - start) counts
