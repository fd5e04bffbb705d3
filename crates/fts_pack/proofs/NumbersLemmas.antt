-- The blocks of a list of numbers, written and read.
use Rattle.std.proofs.Common.{◌≡◌, ℕ, ◌+◌, ◌-◌, ◌*◌, ◌/◌, ◌%◌, ◌^◌, ◌<◌, ◌≤◌, inl, inr, List, [], ◌∷◌, ◌++◌, All, length, get_or, take, drop, min, sym}
use Rattle.std.proofs.Common.{ap, ◌∙◌, subst, arith}
use Rattle.std.proofs.lemmas.List.{length_push, get_or-take, get_or-drop, get_or_append_left, get_or_read, length-take-le}
use Rattle.std.proofs.lemmas.List.FromFn.{length-map-range_with_len, get_or-map-range_with_len}
use Rattle.std.proofs.lemmas.Bool.{cases_lt}
use Rattle.std.proofs.Math.Seq.{get_or-append_seam}
use Rattle.std.proofs.lemmas.Grind.{same_number_lists}
use Rattle.fts_pack.specs.declared.block_meta.BlockMeta.{BlockMeta}
use Rattle.fts_pack.specs.Documents.{block_count, block_at}
use Rattle.fts_pack.specs.FourLanes.{words_in_lanes}
use Rattle.fts_pack.specs.BlockMeta.{numbers_at, IsWithin, IsAdded}
use Rattle.fts_pack.specs.PackedNumbers.{no_block, number_kept, numbers_kept, AreKept}
use Rattle.fts_pack.specs.SourceLaws.{length-block_at, block_inside}
use Rattle.fts_pack.proofs.LaneLemmas.{length-numbers_in_lanes}
use Rattle.fts_pack.proofs.PackedLemmas.{length-added, IsWithin-added, numbers_at-append, numbers_at-added}

pub length-numbers_kept : (count : ℕ) (blocks : List BlockMeta) (words : List ℕ) → length (numbers_kept count blocks words) ≡ count
unfolding numbers_kept
length-numbers_kept count blocks words = length-map-range_with_len (number_kept blocks words) 0 count

pub get_or-numbers_kept : (count : ℕ) (blocks : List BlockMeta) (words : List ℕ) (i : ℕ) → i < count →
    get_or (numbers_kept count blocks words) i 0 ≡ number_kept blocks words i
unfolding numbers_kept
get_or-numbers_kept count blocks words i inside = get_or-map-range_with_len (number_kept blocks words) 0 count i i 0 inside (omega arith)

-- the first blocks were added
pub record AreBuilt (numbers : List ℕ) (block : ℕ) (blocks : List BlockMeta) (words : List ℕ) : Type 0 where
  pub count : length blocks ≡ block
  pub within : All (IsWithin words) blocks
  pub same : (i : ℕ) → i < block * 128 → i < length numbers → number_kept blocks words i ≡ get_or numbers i 0

pub AreBuilt-more : (numbers : List ℕ) (block : ℕ) (blocks : List BlockMeta) (before words : List ℕ) (added : BlockMeta) → AreBuilt numbers block blocks before →
    block < block_count (length numbers) →
    IsAdded (block_at numbers block) before words added → AreBuilt numbers (block + 1) (blocks ++ added ∷ []) words
AreBuilt-more numbers block blocks before words added h inside new =
    let piece = block_at numbers block in
    let size = length-block_at numbers block in
    let start = block_inside (length numbers) block inside in
    let few : length piece ≤ 128 = omega (arith, size) in
    let more = words_in_lanes added.width piece in
    let long = length-added piece before words added new in
    let all = blocks ++ added ∷ [] in
    let count : length all ≡ block + 1 = length_push blocks added ∙ ap (λ n. n + 1) h.count in
    record {
      count = count;
      within = λ i d near. elim (cases_lt i (length blocks)) [
        | inl old ↦
            let w = h.within i d old in
            subst (IsWithin words) (sym (get_or_append_left blocks (added ∷ []) d i old)) (record { narrow = w.narrow; room = omega (arith, long, w.room) })
        | inr last ↦
            let place : i ≡ length blocks = omega (arith, count, h.count) in
            subst (IsWithin words) (sym (ap (λ k. get_or all k d) place ∙ get_or-append_seam blocks added [] d)) (IsWithin-added piece before words added new)
      ];
      same = λ i near there. elim (cases_lt i (block * 128)) [
        | inl old ↦
            let place : i / 128 < length blocks = omega (arith, h.count) in
            let b = get_or blocks (i / 128) no_block in
            ap (λ b. get_or (numbers_at words b) (i % 128) 0) (get_or_append_left blocks (added ∷ []) no_block (i / 128) place)
            ∙ ap (λ ws. get_or (numbers_at ws b) (i % 128) 0) new.words_are
            ∙ ap (λ ns. get_or ns (i % 128) 0) (numbers_at-append before more b (h.within (i / 128) no_block place))
            ∙ h.same i old there
        | inr here ↦
            let place : i / 128 ≡ length blocks = omega (arith, h.count) in
            let at : i ≡ block * 128 + i % 128 = omega (arith, h.count) in
            let within : i % 128 < length piece = omega (arith, size) in
            ap (λ b. get_or (numbers_at words b) (i % 128) 0) (ap (λ k. get_or all k no_block) place ∙ get_or-append_seam blocks added [] no_block)
            ∙ sym (get_or-take (length piece) (numbers_at words added) (i % 128) 0 within)
            ∙ ap (λ ns. get_or ns (i % 128) 0) (numbers_at-added piece before words added new few)
            ∙ get_or-take 128 (drop (block * 128) numbers) (i % 128) 0 (omega arith)
            ∙ get_or-drop (block * 128) numbers (i % 128) 0
            ∙ ap (λ n. get_or numbers n 0) (sym at)
      ];
    }

-- all blocks were added
pub numbers_kept-built : (numbers : List ℕ) (blocks : List BlockMeta) (words : List ℕ) → AreBuilt numbers (block_count (length numbers)) blocks words →
    numbers_kept (length numbers) blocks words ≡ numbers
numbers_kept-built numbers blocks words h =
    let size = length-numbers_kept (length numbers) blocks words in
    same_number_lists (numbers_kept (length numbers) blocks words) numbers size (λ i near.
    let inside : i < length numbers = omega (arith, size) in
    get_or-numbers_kept (length numbers) blocks words i inside ∙ h.same i (omega arith) inside)

-- a block of a list, from its numbers
pub record Reads (value : List ℕ) (count : ℕ) (words : List ℕ) (number : ℕ) (block : BlockMeta) : Type 0 where
  pub start : number * 128 < count
  pub narrow : block.width ≤ 32
  pub room : block.start + 4 * block.width ≤ length words
  pub size : min (count - number * 128) 128 ≡ length (block_at value number)
  pub numbers_are : take (min (count - number * 128) 128) (numbers_at words block) ≡ block_at value number

pub block_read : (value : List ℕ) (count : ℕ) (blocks : List BlockMeta) (words : List ℕ) (number : ℕ) (block : BlockMeta) → numbers_kept count blocks words ≡ value →
    AreKept count blocks words → number < block_count (length value) →
    block ≡ get_or blocks number block → Reads value count words number block
block_read value count blocks words number block view h inside block_is =
    let long : length value ≡ count = ap length (sym view) ∙ length-numbers_kept count blocks words in
    let near : number < length blocks = omega (arith, h.many) in
    let start : number * 128 < count = omega (arith, block_inside (length value) number inside) in
    let here : get_or blocks number no_block ≡ block = sym (get_or_read blocks number block near block_is no_block) in
    let w = subst (IsWithin words) here (h.within number no_block near) in
    let piece = block_at value number in
    let some = min (count - number * 128) 128 in
    let size : some ≡ length piece = omega (arith, length-block_at value number) in
    let taken : length (take some (numbers_at words block)) ≡ some =
    length-take-le some (numbers_at words block) (omega (arith, length-numbers_in_lanes block.width (drop block.start words))) in
    record {
      start = start;
      narrow = w.narrow;
      room = w.room;
      size = size;
      numbers_are = same_number_lists (take some (numbers_at words block)) piece (taken ∙ size) (λ k below.
          let small : k < some = omega (arith, taken) in
          let place : (number * 128 + k) / 128 ≡ number = omega arith in
          let at : (number * 128 + k) % 128 ≡ k = omega arith in
          get_or-take some (numbers_at words block) k 0 small
          ∙ ap (λ b. get_or (numbers_at words b) k 0) (sym here ∙ ap (λ n. get_or blocks n no_block) (sym place))
          ∙ ap (λ n. get_or (numbers_at words (get_or blocks ((number * 128 + k) / 128) no_block)) n 0) (sym at)
          ∙ sym (get_or-numbers_kept count blocks words (number * 128 + k) (omega arith))
          ∙ ap (λ ns. get_or ns (number * 128 + k) 0) view
          ∙ sym (get_or-take 128 (drop (number * 128) value) k 0 (omega arith) ∙ get_or-drop (number * 128) value k 0));
    }

-- there is a block for each 128 numbers
pub blocks_kept : (value : List ℕ) (count : ℕ) (blocks : List BlockMeta) (words : List ℕ) → numbers_kept count blocks words ≡ value → AreKept count blocks words →
    length blocks ≡ block_count (length value)
blocks_kept value count blocks words view h =
    h.many ∙ ap block_count (sym (length-numbers_kept count blocks words) ∙ ap length view)

pub block_near : (value : List ℕ) (count : ℕ) (blocks : List BlockMeta) (words : List ℕ) (index : ℕ) → numbers_kept count blocks words ≡ value →
    AreKept count blocks words → index < length value → index / 128 < length blocks
block_near value count blocks words index view h inside = omega (arith, blocks_kept value count blocks words view h)

-- a number, from its block
pub record ReadsOne (value words : List ℕ) (index : ℕ) (block : BlockMeta) : Type 0 where
  pub within : IsWithin words block
  pub number_is : get_or (numbers_at words block) (index % 128) 0 ≡ get_or value index 0

pub number_read : (value : List ℕ) (count : ℕ) (blocks : List BlockMeta) (words : List ℕ) (index : ℕ) (block : BlockMeta) → numbers_kept count blocks words ≡ value →
    AreKept count blocks words → index < length value →
    block ≡ get_or blocks (index / 128) block → ReadsOne value words index block
number_read value count blocks words index block view h inside block_is =
    let long : length value ≡ count = ap length (sym view) ∙ length-numbers_kept count blocks words in
    let near = block_near value count blocks words index view h inside in
    let here : get_or blocks (index / 128) no_block ≡ block = sym (get_or_read blocks (index / 128) block near block_is no_block) in
    record {
      within = subst (IsWithin words) here (h.within (index / 128) no_block near);
      number_is = ap (λ b. get_or (numbers_at words b) (index % 128) 0) (sym here) ∙ sym (get_or-numbers_kept count blocks words index (omega arith))
          ∙ ap (λ ns. get_or ns index 0) view;
    }

-- all blocks were added, and there are fewer than 2 ^ 64 numbers
pub AreKept-built : (numbers : List ℕ) (blocks : List BlockMeta) (words : List ℕ) → AreBuilt numbers (block_count (length numbers)) blocks words →
    length numbers < 2 ^ 64 → AreKept (length numbers) blocks words
AreKept-built numbers blocks words h few = record { few = few; many = h.count; within = h.within }
