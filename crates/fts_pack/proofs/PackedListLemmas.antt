-- The blocks of a list of documents, written and read.
use Rattle.std.proofs.Common.{◌≡◌, ℕ, zero, suc, ◌+◌, ◌-◌, ◌*◌, ◌^◌, ◌<◌, ◌≤◌, ◌≢◌, inl, inr, List, [], ◌∷◌, ◌++◌, All, length, get_or, take, drop, min, refl}
use Rattle.std.proofs.Common.{sym, ap, ap₂, ◌∙◌, subst, arith, append_assoc}
use Rattle.std.specs.List.Sorted.{IsStrictlyIncreasing}
use Rattle.std.proofs.lemmas.List.{length-append, length_push, take_all, take_at, drop-drop, drop_at, append-nil, get_or-take, get_or-drop, get_or_default}
use Rattle.std.proofs.lemmas.List.{length-take-le, length-drop, drop-append-le, take-append-le}
use Rattle.std.proofs.lemmas.Bool.{cases_lt}
use Rattle.std.proofs.Math.Seq.{take-append-add}
use Rattle.fts_pack.specs.declared.skip.Skip.{Skip}
use Rattle.fts_pack.specs.Documents.{gaps, documents_at, block_count, block_at, last_of, Rises, after}
use Rattle.fts_pack.specs.bits.Digits.{IsWidthOf}
use Rattle.fts_pack.specs.FourLanes.{words_in_lanes}
use Rattle.fts_pack.specs.BlockMeta.{numbers_at, IsWithin}
use Rattle.fts_pack.specs.PackedList.{Extends, kept_block, kept_documents, IsSkipAdded, IsKeptBlock, AreKept, IsPackedList}
use Rattle.fts_pack.proofs.LaneLemmas.{length-numbers_in_lanes, length-words_in_lanes}
use Rattle.fts_pack.proofs.PackedLemmas.{numbers_at-append, numbers_at-added, IsWithin-append, IsWithin-added}
use Rattle.fts_pack.proofs.DocumentsLemmas.{Rises-block, take_block, documents_at-gaps, length-gaps, length-documents_at, after-append, after_last}
use Rattle.fts_pack.specs.SourceLaws.{length-block_at, block_inside}

-- a block's documents do not change when words are appended
pub kept_block-append : (words more : List ℕ) (next count : ℕ) (skip : Skip) → IsKeptBlock words next count skip →
    kept_block (words ++ more) next count skip ≡ kept_block words next count skip
kept_block-append words more next count skip h =
    ap (λ xs. documents_at next (take (min 128 count) xs)) (numbers_at-append words more skip.block h.within)

IsKeptBlock-append : (words more : List ℕ) (next count : ℕ) (skip : Skip) → IsKeptBlock words next count skip → IsKeptBlock (words ++ more) next count skip
IsKeptBlock-append words more next count skip h =
    let same = kept_block-append words more next count skip h in
    let w = skip.block.width in
    let room : 4 * w ≤ length (drop skip.block.start words) = omega (arith, length-drop skip.block.start words, h.within.room) in
    record {
      some = h.some;
      within = IsWithin-append words more skip.block h.within;
      last_is = ap (after next) same ∙ h.last_is;
      width_is = subst (λ ds. IsWidthOf (gaps next ds) w) (sym same) h.width_is;
      words_are = ap (take (4 * w)) (drop-append-le skip.block.start words more (omega (arith, h.within.room)))
          ∙ take-append-le (4 * w) (drop skip.block.start words) more room ∙ h.words_are ∙ ap (λ ds. words_in_lanes w (gaps next ds)) (sym same);
    }

pub AreKept-append : (words more : List ℕ) (next count : ℕ) (skips : List Skip) → AreKept words next count skips → AreKept (words ++ more) next count skips
AreKept-append words more next count [] h = h
AreKept-append words more next count (s ∷ ss) h =
    (IsKeptBlock-append words more next count s h.0, AreKept-append words more (suc s.last) (count - 128) ss h.1)

pub kept_documents-append : (words more : List ℕ) (next count : ℕ) (skips : List Skip) → AreKept words next count skips →
    kept_documents (words ++ more) next count skips ≡ kept_documents words next count skips
kept_documents-append words more next count [] h = refl
kept_documents-append words more next count (s ∷ ss) h =
    ap₂ (λ xs ys. xs ++ ys) (kept_block-append words more next count s h.0) (kept_documents-append words more (suc s.last) (count - 128) ss h.1)

-- the least document that may follow the blocks
pub next_after : ℕ → List Skip → ℕ
next_after next [] = next
next_after next (s ∷ ss) = next_after (suc s.last) ss

-- a block is unchanged if as many of its documents are counted
kept_same : (words : List ℕ) (next a b : ℕ) (skip : Skip) → min 128 a ≡ min 128 b → 0 < b → IsKeptBlock words next a skip → IsKeptBlock words next b skip
kept_same words next a b skip same some h =
    let here : kept_block words next b skip ≡ kept_block words next a skip = ap (λ n. documents_at next (take n (numbers_at words skip.block))) (sym same) in
    record {
      some = some;
      within = h.within;
      last_is = ap (after next) here ∙ h.last_is;
      width_is = subst (λ ds. IsWidthOf (gaps next ds) skip.block.width) (sym here) h.width_is;
      words_are = h.words_are ∙ ap (λ ds. words_in_lanes skip.block.width (gaps next ds)) (sym here);
    }

pub kept_documents-push : (words : List ℕ) (next more : ℕ) (skips : List Skip) (skip : Skip) → more ≤ 128 →
    kept_documents words next (length skips * 128 + more) (skips ++ skip ∷ []) ≡ kept_documents words next (length skips * 128) skips
    ++ kept_block words (next_after next skips) more skip
unfolding next_after
kept_documents-push words next more [] skip few =
    let none : 0 * 128 + more ≡ more = omega arith in
    append-nil (kept_block words next (0 * 128 + more) skip) ∙ ap (λ n. kept_block words next n skip) none
kept_documents-push words next more (s ∷ ss) skip few =
    let full : min 128 (suc (length ss) * 128 + more) ≡ min 128 (suc (length ss) * 128) = omega arith in
    let left : suc (length ss) * 128 + more - 128 ≡ length ss * 128 + more = omega arith in
    let left' : suc (length ss) * 128 - 128 ≡ length ss * 128 = omega arith in
    ap₂ (λ n k. documents_at next (take n (numbers_at words s.block)) ++ kept_documents words (suc s.last) k (ss ++ skip ∷ [])) full left
    ∙ ap (λ ds. kept_block words next (suc (length ss) * 128) s ++ ds) (kept_documents-push words (suc s.last) more ss skip few)
    ∙ sym (append_assoc (kept_block words next (suc (length ss) * 128) s) (kept_documents words (suc s.last) (length ss * 128) ss)
    (kept_block words (next_after (suc s.last) ss) more skip))
    ∙ ap (λ k. (kept_block words next (suc (length ss) * 128) s ++ kept_documents words (suc s.last) k ss) ++ kept_block words (next_after (suc s.last) ss)
    more skip) (sym left')

pub AreKept-push : (words : List ℕ) (next more : ℕ) (skips : List Skip) (skip : Skip) → more ≤ 128 → AreKept words next (length skips * 128) skips →
    IsKeptBlock words (next_after next skips) more skip → AreKept words next (length skips * 128 + more) (skips ++ skip ∷ [])
unfolding next_after
AreKept-push words next more [] skip few h k =
    let none : 0 * 128 + more ≡ more = omega arith in
    rw none (k, omega (arith, few))
AreKept-push words next more (s ∷ ss) skip few h k =
    let full : min 128 (suc (length ss) * 128) ≡ min 128 (suc (length ss) * 128 + more) = omega arith in
    let left : suc (length ss) * 128 + more - 128 ≡ length ss * 128 + more = omega arith in
    let left' : suc (length ss) * 128 - 128 ≡ length ss * 128 = omega arith in (
      kept_same words next (suc (length ss) * 128) (suc (length ss) * 128 + more) s full (omega arith) h.0,
      rw left
          (AreKept-push words (suc s.last) more ss skip few (rw left' at h.1) k),
    )

pub next_after-kept : (words : List ℕ) (next count : ℕ) (skips : List Skip) → AreKept words next count skips →
    next_after next skips ≡ after next (kept_documents words next count skips)
unfolding next_after
next_after-kept words next count [] h = refl
next_after-kept words next count (s ∷ ss) h =
    next_after-kept words (suc s.last) (count - 128) ss h.1 ∙ ap (λ n. after n (kept_documents words (suc s.last) (count - 128) ss)) (sym h.0.last_is)
    ∙ sym (after-append next (kept_block words next count s) (kept_documents words (suc s.last) (count - 128) ss))

length-kept_block : (words : List ℕ) (next count : ℕ) (skip : Skip) → length (kept_block words next count skip) ≡ min 128 count
length-kept_block words next count skip =
    let numbers = numbers_at words skip.block in
    length-documents_at next (take (min 128 count) numbers)
    ∙ length-take-le (min 128 count) numbers (omega (arith, length-numbers_in_lanes skip.block.width (drop skip.block.start words)))

pub length-kept_documents : (words : List ℕ) (next count : ℕ) (skips : List Skip) → AreKept words next count skips →
    length (kept_documents words next count skips) ≡ count
length-kept_documents words next count [] h = sym h
length-kept_documents words next count (s ∷ ss) h =
    length-append (kept_block words next count s) (kept_documents words (suc s.last) (count - 128) ss)
    ∙ omega (arith, length-kept_block words next count s, length-kept_documents words (suc s.last) (count - 128) ss h.1)

pub length-kept_skips : (words : List ℕ) (next count : ℕ) (skips : List Skip) → AreKept words next count skips → length skips ≡ block_count count
length-kept_skips words next count [] h = omega (arith, h)
length-kept_skips words next count (s ∷ ss) h =
    let tail = length-kept_skips words (suc s.last) (count - 128) ss h.1 in
    omega (arith, tail, h.0.some)

-- the least document that a block may have
pub next_at : ℕ → List Skip → ℕ → ℕ
next_at next skips zero = next
next_at next [] (suc block) = next
next_at next (s ∷ ss) (suc block) = next_at (suc s.last) ss block

pub next_at-suc : (next block : ℕ) (skips : List Skip) (d : Skip) → block < length skips → next_at next skips (suc block) ≡ suc (get_or skips block d).last
unfolding next_at
next_at-suc next block [] d h = absurd (omega arith)
next_at-suc next zero (s ∷ ss) d h = refl
next_at-suc next (suc block) (s ∷ ss) d h = next_at-suc (suc s.last) block ss d (omega (arith, h))

nothing_kept : (words : List ℕ) (next count : ℕ) (skips : List Skip) → AreKept words next count skips → count ≡ 0 → kept_documents words next count skips ≡ []
nothing_kept words next count [] h e = refl
nothing_kept words next count (s ∷ ss) h e = absurd (omega (arith, h.0.some, e))

-- the properties of one block
pub record KeptAt (words : List ℕ) (next count : ℕ) (skips : List Skip) (block : ℕ) (skip : Skip) : Type 0 where
  pub kept : IsKeptBlock words (next_at next skips block) (count - block * 128) skip
  pub documents_are : block_at (kept_documents words next count skips) block ≡ kept_block words (next_at next skips block) (count - block * 128) skip
  pub next_is : next_at next skips block ≡ after next (take (block * 128) (kept_documents words next count skips))

pub kept_at : (words : List ℕ) (next count : ℕ) (skips : List Skip) (block : ℕ) (d : Skip) → AreKept words next count skips → block < length skips →
    KeptAt words next count skips block (get_or skips block d)
unfolding next_at
kept_at words next count [] block d h inside = absurd (omega arith)
kept_at words next count (s ∷ ss) zero d h inside =
    let here = kept_block words next count s in
    let rest = kept_documents words (suc s.last) (count - 128) ss in
    let size = length-kept_block words next count s in
    let whole : count - 0 * 128 ≡ count = omega arith in
    record {
      kept = rw whole h.0;
      documents_are = elim (cases_lt count 128) [
        | inl few ↦ ap (λ ds. take 128 (here ++ ds)) (nothing_kept words (suc s.last) (count - 128) ss h.1 (omega arith))
            ∙ take_all 128 (here ++ []) (omega (arith, size, length-append here [])) ∙ append-nil here ∙ ap (λ n. kept_block words next n s) (sym whole)
        | inr full ↦ take_at here rest 128 (omega (arith, size)) ∙ ap (λ n. kept_block words next n s) (sym whole)
      ];
      next_is = refl;
    }
kept_at words next count (s ∷ ss) (suc block) d h inside =
    let here = kept_block words next count s in
    let rest = kept_documents words (suc s.last) (count - 128) ss in
    let tail = kept_at words (suc s.last) (count - 128) ss block d h.1 (omega (arith, inside)) in
    let more : 0 < count - 128 - block * 128 = tail.kept.some in
    let size : length here ≡ 128 = omega (arith, length-kept_block words next count s, more) in
    let left : count - suc block * 128 ≡ count - 128 - block * 128 = omega arith in
    let split : suc block * 128 ≡ 128 + block * 128 = omega arith in
    record {
      kept = rw left tail.kept;
      documents_are = ap (λ n. take 128 (drop n (here ++ rest))) split
          ∙ ap (take 128) (sym (drop-drop (block * 128) 128 (here ++ rest)) ∙ ap (drop (block * 128)) (drop_at here rest 128 size)) ∙ tail.documents_are
          ∙ ap (λ n. kept_block words (next_at (suc s.last) ss block) n (get_or ss block d)) (sym left);
      next_is = tail.next_is ∙ ap (λ n. after n (take (block * 128) rest)) (sym h.0.last_is) ∙ sym (after-append next here (take (block * 128) rest))
          ∙ ap (after next) (sym (take-append-add here rest (block * 128)) ∙ ap (λ n. take n (here ++ rest)) (omega (arith, size)));
    }

-- the first blocks were added
pub record IsBuilt (documents : List ℕ) (block next : ℕ) (skips : List Skip) (words : List ℕ) : Type 0 where
  pub count : length skips ≡ block
  pub kept : AreKept words 0 (min (block * 128) (length documents)) skips
  pub documents_are : kept_documents words 0 (min (block * 128) (length documents)) skips ≡ take (block * 128) documents
  pub next_is : next ≡ after 0 (take (block * 128) documents)

pub kept_block-added : (piece before words : List ℕ) (next : ℕ) (skip : Skip) → IsSkipAdded piece next before words skip → Rises next piece →
    length piece ≤ 128 → kept_block words next (length piece) skip ≡ piece
kept_block-added piece before words next skip h rises few =
    let numbers = gaps next piece in
    let size : length numbers ≡ length piece = length-gaps next piece in
    let count : min 128 (length piece) ≡ length numbers = omega arith in
    ap (λ n. documents_at next (take n (numbers_at words skip.block))) count
    ∙ ap (documents_at next) (numbers_at-added numbers before words skip.block h.block (omega arith)) ∙ documents_at-gaps next piece rises

pub IsKeptBlock-added : (piece before words : List ℕ) (next : ℕ) (skip : Skip) → IsSkipAdded piece next before words skip → Rises next piece →
    0 < length piece → length piece ≤ 128 → IsKeptBlock words next (length piece) skip
IsKeptBlock-added piece before words next skip h rises some few =
    let here = kept_block-added piece before words next skip h rises few in
    let w = skip.block.width in
    let new = words_in_lanes w (gaps next piece) in
    record {
      some = some;
      within = IsWithin-added (gaps next piece) before words skip.block h.block;
      last_is = ap (after next) here ∙ sym h.last_is;
      width_is = subst (λ ds. IsWidthOf (gaps next ds) w) (sym here) h.block.width_is;
      words_are = ap (take (4 * w)) (ap₂ drop h.block.start h.block.words_are ∙ drop_at before new (length before) refl)
          ∙ take_all (4 * w) new (omega (arith, length-words_in_lanes w (gaps next piece)))
          ∙ ap (λ ds. words_in_lanes w (gaps next ds)) (sym here);
    }

pub IsBuilt-more : (documents : List ℕ) (block next : ℕ) (skips : List Skip) (before words : List ℕ) (skip : Skip) → IsBuilt documents block next skips before →
    Rises 0 documents → block < block_count (length documents) → IsSkipAdded (block_at documents block) next before words skip →
    IsBuilt documents (block + 1) (suc skip.last) (skips ++ skip ∷ []) words
IsBuilt-more documents block next skips before words skip h rises inside added =
    let piece = block_at documents block in
    let new = words_in_lanes skip.block.width (gaps next piece) in
    let start = block_inside (length documents) block inside in
    let size = length-block_at documents block in
    let now : min (block * 128) (length documents) ≡ length skips * 128 = omega (arith, h.count, start) in
    let then : min ((block + 1) * 128) (length documents) ≡ length skips * 128 + length piece = omega (arith, h.count, start, size) in
    let few : length piece ≤ 128 = omega (arith, size) in
    let some : 0 < length piece = omega (arith, size, start) in
    let here : Rises next piece = subst (λ n. Rises n piece) (sym h.next_is) (Rises-block documents block rises) in
    let kept : AreKept before 0 (length skips * 128) skips = subst (λ n. AreKept before 0 n skips) now h.kept in
    let kept_more : AreKept words 0 (length skips * 128) skips =
    subst (λ ws. AreKept ws 0 (length skips * 128) skips) (sym added.block.words_are) (AreKept-append before new 0 (length skips * 128) skips kept) in
    let front : kept_documents words 0 (length skips * 128) skips ≡ take (block * 128) documents =
    ap (λ ws. kept_documents ws 0 (length skips * 128) skips) added.block.words_are ∙ kept_documents-append before new 0 (length skips * 128) skips kept
    ∙ ap (λ n. kept_documents before 0 n skips) (sym now) ∙ h.documents_are in
    let next_is : next_after 0 skips ≡ next = next_after-kept words 0 (length skips * 128) skips kept_more ∙ ap (after 0) front ∙ sym h.next_is in
    let block_is : IsKeptBlock words (next_after 0 skips) (length piece) skip =
    rw next_is (IsKeptBlock-added piece before words next skip added here some few) in
    record {
      count = length_push skips skip ∙ ap (λ n. n + 1) h.count;
      kept = rw then (AreKept-push words 0 (length piece) skips skip few kept_more block_is);
      documents_are = ap (λ n. kept_documents words 0 n (skips ++ skip ∷ [])) then ∙ kept_documents-push words 0 (length piece) skips skip few
          ∙ ap₂ (λ xs n. xs ++ kept_block words n (length piece) skip) front next_is
          ∙ ap (λ xs. take (block * 128) documents ++ xs) (kept_block-added piece before words next skip added here few) ∙ sym (take_block documents block);
      next_is = added.last_is ∙ ap (λ n. after n piece) h.next_is ∙ sym (after-append 0 (take (block * 128) documents) piece)
          ∙ ap (after 0) (sym (take_block documents block));
    }

-- all blocks were added
pub kept_documents-built : (documents : List ℕ) (next : ℕ) (skips : List Skip) (words : List ℕ) →
    IsBuilt documents (block_count (length documents)) next skips words → kept_documents words 0 (length documents) skips ≡ documents
kept_documents-built documents next skips words h =
    let blocks = block_count (length documents) in
    let all : min (blocks * 128) (length documents) ≡ length documents = omega arith in
    ap (λ n. kept_documents words 0 n skips) (sym all) ∙ h.documents_are ∙ take_all (blocks * 128) documents (omega arith)

pub IsPackedList-built : (documents : List ℕ) (next : ℕ) (skips : List Skip) (words : List ℕ) →
    IsBuilt documents (block_count (length documents)) next skips words → IsStrictlyIncreasing documents → length documents < 2 ^ 64 →
    All (λ document. document < 2 ^ 32) documents → IsPackedList (length documents) skips words
IsPackedList-built documents next skips words h rises few fits =
    let blocks = block_count (length documents) in
    let all : min (blocks * 128) (length documents) ≡ length documents = omega arith in
    let same = kept_documents-built documents next skips words h in
    record {
      count_fits = few;
      kept = subst (λ n. AreKept words 0 n skips) all h.kept;
      rises = subst IsStrictlyIncreasing (sym same) rises;
      fits = subst (All (λ document. document < 2 ^ 32)) (sym same) fits;
    }

pub long_length : (value : List ℕ) (count : ℕ) (skips : List Skip) (words : List ℕ) → kept_documents words 0 count skips ≡ value →
    IsPackedList count skips words → count ≡ length value
long_length value count skips words view h = sym (length-kept_documents words 0 count skips h.kept) ∙ ap length view

pub long_blocks : (value : List ℕ) (count : ℕ) (skips : List Skip) (words : List ℕ) → kept_documents words 0 count skips ≡ value →
    IsPackedList count skips words → length skips ≡ block_count (length value)
long_blocks value count skips words view h =
    length-kept_skips words 0 count skips h.kept ∙ ap block_count (long_length value count skips words view h)

-- a block of a list, from its documents
pub record Reads (value : List ℕ) (count : ℕ) (words : List ℕ) (block : ℕ) (skip : Skip) : Type 0 where
  pub start : block * 128 < count
  pub within : IsWithin words skip.block
  pub last_is : skip.last ≡ last_of (block_at value block)
  pub width_is : IsWidthOf (gaps (after 0 (take (block * 128) value)) (block_at value block)) skip.block.width
  pub words_are : take (4 * skip.block.width) (drop skip.block.start words)
      ≡ words_in_lanes skip.block.width (gaps (after 0 (take (block * 128) value)) (block_at value block))
  pub size : min (count - block * 128) 128 ≡ length (block_at value block)
  pub documents_are : documents_at (after 0 (take (block * 128) value)) (take (min (count - block * 128) 128) (numbers_at words skip.block))
      ≡ block_at value block
  pub fits : All (λ document. document < 2 ^ 32) (block_at value block)

pub block_read : (value : List ℕ) (count : ℕ) (skips : List Skip) (words : List ℕ) (block : ℕ) (skip : Skip) → kept_documents words 0 count skips ≡ value →
    IsPackedList count skips words → block < block_count (length value) → skip ≡ get_or skips block skip → Reads value count words block skip
block_read value count skips words block skip view h inside skip_is =
    let many = long_length value count skips words view h in
    let blocks = long_blocks value count skips words view h in
    let at : KeptAt words 0 count skips block skip = rw (← skip_is) at (kept_at words 0 count skips block skip h.kept (omega (arith, blocks, inside))) in
    let first = next_at 0 skips block in
    let here = kept_block words first (count - block * 128) skip in
    let same : block_at value block ≡ here = ap (λ ds. block_at ds block) (sym view) ∙ at.documents_are in
    let next_is : first ≡ after 0 (take (block * 128) value) = at.next_is ∙ ap (λ ds. after 0 (take (block * 128) ds)) view in
    let turned : min (count - block * 128) 128 ≡ min 128 (count - block * 128) = omega arith in
    let long : length here ≡ min 128 (count - block * 128) = length-kept_block words first (count - block * 128) skip in
    let some : 0 < length here = omega (arith, long, at.kept.some) in
    let last : suc skip.last ≡ suc (last_of here) = sym at.kept.last_is ∙ after_last first here some in
    let all : All (λ document. document < 2 ^ 32) value = subst (All (λ document. document < 2 ^ 32)) view h.fits in
    let size : min (count - block * 128) 128 ≡ length (block_at value block) = turned ∙ sym long ∙ ap length (sym same) in
    record {
      start = omega (arith, at.kept.some);
      within = at.kept.within;
      last_is = (let e : skip.last ≡ last_of here = omega (arith, last) in e) ∙ ap last_of (sym same);
      width_is = subst (λ n. IsWidthOf (gaps n (block_at value block)) skip.block.width) next_is
          (subst (λ ds. IsWidthOf (gaps first ds) skip.block.width) (sym same) at.kept.width_is);
      words_are = at.kept.words_are ∙ ap₂ (λ n ds. words_in_lanes skip.block.width (gaps n ds)) next_is (sym same);
      size = size;
      documents_are = ap₂ (λ n k. documents_at n (take k (numbers_at words skip.block))) (sym next_is) turned ∙ sym same;
      fits = λ k d lt. rw (get_or-take 128 (drop (block * 128) value) k d (omega (arith, size, lt)), get_or-drop (block * 128) value k d)
          (all (block * 128 + k) d (omega (arith, many, size, lt, at.kept.some)));
    }

-- the least document of a later block is above the last of the block before
pub first_of_block : (value : List ℕ) (count : ℕ) (skips : List Skip) (words : List ℕ) (block : ℕ) (skip : Skip) → kept_documents words 0 count skips ≡ value →
    IsPackedList count skips words → block < block_count (length value) → block ≢ 0 → skip ≡ get_or skips (block - 1) skip →
    suc skip.last ≡ after 0 (take (block * 128) value)
first_of_block value count skips words block skip view h inside later skip_is =
    let blocks = long_blocks value count skips words view h in
    let at = kept_at words 0 count skips block skip h.kept (omega (arith, blocks, inside)) in
    let e : block ≡ suc (block - 1) = omega arith in
    ap (λ s. suc s.last) skip_is ∙ sym (next_at-suc 0 (block - 1) skips skip (omega (arith, blocks, inside))) ∙ ap (next_at 0 skips) (sym e) ∙ at.next_is
    ∙ ap (λ ds. after 0 (take (block * 128) ds)) view

-- the first document is at least `next`
head_at_least : (next : ℕ) (numbers : List ℕ) → 0 < length (documents_at next numbers) → next ≤ get_or (documents_at next numbers) 0 0
head_at_least next [] some = absurd (omega arith)
head_at_least next (number ∷ numbers) some = omega arith

-- the least document that a block may have fits 32 bits
pub first_fits : (value : List ℕ) (count : ℕ) (skips : List Skip) (words : List ℕ) (block : ℕ) (d : Skip) → kept_documents words 0 count skips ≡ value →
    IsPackedList count skips words → block < block_count (length value) → after 0 (take (block * 128) value) < 2 ^ 32
first_fits value count skips words block d view h inside =
    let blocks = long_blocks value count skips words view h in
    let skip = get_or skips block d in
    let r = block_read value count skips words block skip view h inside (get_or_default skips block d skip (omega (arith, blocks, inside))) in
    let first = after 0 (take (block * 128) value) in
    let numbers = take (min (count - block * 128) 128) (numbers_at words skip.block) in
    let here : documents_at first numbers ≡ block_at value block = r.documents_are in
    let some : 0 < length (documents_at first numbers) = rw here (omega (arith, r.size, r.start)) in
    let all : All (λ document. document < 2 ^ 32) (documents_at first numbers) = rw here r.fits in
    omega (arith, head_at_least first numbers some, all 0 0 some)

-- blocks do not change when words are appended
pub IsPackedList-append : (words more : List ℕ) (count : ℕ) (skips : List Skip) → IsPackedList count skips words → IsPackedList count skips (words ++ more)
IsPackedList-append words more count skips h =
    let same = kept_documents-append words more 0 count skips h.kept in
    record {
      count_fits = h.count_fits;
      kept = AreKept-append words more 0 count skips h.kept;
      rises = subst IsStrictlyIncreasing (sym same) h.rises;
      fits = subst (All (λ document. document < 2 ^ 32)) (sym same) h.fits;
    }

pub extends_same : {X : Type 0} (xs : List X) → Extends xs xs
extends_same xs = sym (append-nil xs) ∙ ap (λ ys. xs ++ ys) (sym (drop_at xs [] (length xs) refl) ∙ ap (drop (length xs)) (append-nil xs))

pub extends_more : {X : Type 0} (xs more ys : List X) → ys ≡ xs ++ more → Extends xs ys
extends_more xs more ys is = is ∙ ap (λ zs. xs ++ zs) (sym (ap (drop (length xs)) is ∙ drop_at xs more (length xs) refl))

pub extends_equal : {X : Type 0} (xs ys : List X) → ys ≡ xs → Extends xs ys
extends_equal xs ys is = extends_more xs [] ys (is ∙ sym (append-nil xs))

-- what was appended, after something more was
pub extends_on : {X : Type 0} (xs ys more zs : List X) → Extends xs ys → zs ≡ ys ++ more →
    (drop (length xs) zs ≡ drop (length xs) ys ++ more) × Extends xs zs
extends_on xs ys more zs h is =
    let new = drop (length xs) ys in
    let whole : zs ≡ xs ++ (new ++ more) = is ∙ ap (λ ls. ls ++ more) h ∙ append_assoc xs new more in
    (ap (drop (length xs)) whole ∙ drop_at xs (new ++ more) (length xs) refl, extends_more xs (new ++ more) zs whole)

-- no block was added yet
pub nothing_built : (documents : List ℕ) (skips : List Skip) (words : List ℕ) → IsBuilt documents 0 0 (drop (length skips) skips) words
nothing_built documents skips words =
    let none : drop (length skips) skips ≡ [] = ap (drop (length skips)) (sym (append-nil skips)) ∙ drop_at skips [] (length skips) refl in
    subst (λ ss. IsBuilt documents 0 0 ss words) (sym none) (record { count = refl; kept = omega arith; documents_are = refl; next_is = refl })
