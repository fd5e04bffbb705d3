-- How many documents remain at most.
use Rattle.std.proofs.Common.{ℕ, zero, suc, ◌+◌, ◌-◌, ◌*◌, ◌<◌, ◌≤◌, Bool, true, false, ◌==◌, nat_lt, List, [], ◌∷◌, All, length, drop, ap, arith}
use Rattle.std.specs.List.{filter, flat_map, range_with_len}
use Rattle.std.proofs.lemmas.List.{length-append, length-drop}
use Rattle.std.proofs.lemmas.List.Sums.{count_by-le-length, length-filter}
use Rattle.std.proofs.lemmas.List.FromFn.{length-range_with_len}
use Rattle.std.specs.Prelude.{if◌then◌else◌}
use Rattle.fts_postings.specs.Sets.{with_all, with_one}
use Rattle.fts_postings.specs.Posting.{Posting, here, remaining_of}
use Rattle.fts_postings.specs.Windows.{passing}
use Rattle.fts_postings.proofs.PostingLemmas.{split_block}

pub length-filter-le : (p : ℕ → Bool) (xs : List ℕ) → length (filter p xs) ≤ length xs
length-filter-le p xs = omega (arith, length-filter p xs, count_by-le-length p xs)

-- the blocks from one on
behind : (blocks : List (List ℕ)) (k : ℕ) → All (λ block. (0 < length block) × (length block ≤ 128)) blocks → length (flat_map (λ block. block) (drop k blocks))
    ≤ (length blocks - k) * 128
behind [] zero sized = omega arith
behind [] (suc k) sized = omega arith
behind (b ∷ bs) zero sized =
    omega (
      arith,
      behind bs zero (λ k d inside. sized (suc k) d (omega (arith, inside))),
      (sized 0 [] (omega arith)).1,
      length-append b
          (flat_map (λ block. block) bs),
    )
behind (b ∷ bs) (suc k) sized = omega (arith, behind bs k (λ i d inside. sized (suc i) d (omega (arith, inside))))

pub posting_cost : (p : Posting) → All (λ block. (0 < length block) × (length block ≤ 128)) p.blocks →
    length (remaining_of p) ≤ (length p.blocks - p.block) * 128
posting_cost p sized =
    let rest = flat_map (λ block. block) (drop (suc p.block) p.blocks) in
    omega (
      arith,
      behind p.blocks p.block sized,
      ap length (split_block p.blocks p.block),
      length-append (here p) rest,
      length-append (drop p.at (here p)) rest,
      length-drop p.at (here p),
    )

pub scan_cost : (p : ℕ → Bool) (from n at : ℕ) → length (drop at (passing p from n)) ≤ n
scan_cost p from n at = omega (arith, length-drop at (passing p from n), length-filter-le p (range_with_len from n), length-range_with_len from n)

length-with_one : (d : ℕ) (xs : List ℕ) → length (with_one d xs) ≤ length xs + 1
length-with_one d [] = omega arith
length-with_one d (x ∷ xs) =
    elim (nat_lt d x) as (λ b. length (if b then d ∷ (x ∷ xs) else (if d == x then x ∷ xs else x ∷ with_one d xs)) ≤ suc (length xs) + 1) [
      | true ↦ omega arith
      | false ↦ elim (d == x) as (λ b. length (if b then x ∷ xs else x ∷ with_one d xs) ≤ suc (length xs) + 1) [
        | true ↦ omega arith
        | false ↦ omega (arith, length-with_one d xs)
      ]
    ]

pub length-with_all : (xs ys : List ℕ) → length (with_all xs ys) ≤ length xs + length ys
length-with_all [] ys = omega arith
length-with_all (x ∷ xs) ys = omega (arith, length-with_one x (with_all xs ys), length-with_all xs ys)
