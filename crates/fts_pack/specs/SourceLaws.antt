-- The laws of `Blocks`, for the blocks of rising documents.
use Rattle.std.specs.Prelude.{◌≡◌, ℕ, zero, suc, ◌-◌, ◌*◌, ◌<◌, ◌≤◌, List, [], ◌∷◌, ◌++◌, All, length, map, take, drop}
use Rattle.std.specs.Prelude.{min, refl}
use Rattle.std.specs.List.{flat_map, range_with_len}
use Rattle.std.specs.List.Sorted.{IsStrictlyIncreasing}
use Rattle.std.proofs.Common.{get_or, subst, sym, ap, ap₂, ◌∙◌, arith, add-one}
use Rattle.std.proofs.lemmas.List.{length-take, length-drop, take_all, append-nil}
use Rattle.std.proofs.lemmas.List.FromFn.{length-map-range_with_len, get_or-map-range_with_len, map-range_with_len_more}
use Rattle.std.proofs.lemmas.Grind.{flat_map-append}
use Rattle.std.proofs.Math.Seq.{take-add}
use Rattle.fts_pack.specs.Documents.{block_count, block_at, blocks_of}

-- the length of each block
pub length-block_at : (documents : List ℕ) (block : ℕ)
    → length (block_at documents block) ≡ min 128 (length documents - block * 128)
length-block_at documents block =
    length-take 128 (drop (block * 128) documents) ∙ ap (min 128) (length-drop (block * 128) documents)

pub length-blocks_of : (documents : List ℕ) → length (blocks_of documents) ≡ block_count (length documents)
length-blocks_of documents = length-map-range_with_len (block_at documents) 0 (block_count (length documents))

pub get_or-blocks_of : (documents : List ℕ) (block : ℕ) (d : List ℕ) → block < block_count (length documents)
    → get_or (blocks_of documents) block d ≡ block_at documents block
get_or-blocks_of documents block d inside =
    get_or-map-range_with_len (block_at documents) 0 (block_count (length documents)) block block d inside (omega arith)

-- a block within the count begins within the documents
pub block_inside : (count block : ℕ) → block < block_count count → block * 128 < count
block_inside count block inside = omega (arith, inside)

pub blocks_sized : (documents : List ℕ) → All (λ block. (0 < length block) × (length block ≤ 128)) (blocks_of documents)
blocks_sized documents = λ k d inside.
    let within : k < block_count (length documents) = omega (arith, inside, length-blocks_of documents) in
    let size = length-block_at documents k in
    let start = block_inside (length documents) k within in
    rw (get_or-blocks_of documents k d within) (omega (arith, size, start), omega (arith, size, start))

-- the first blocks, concatenated, are the first documents
joined_blocks : (documents : List ℕ) (count : ℕ)
    → flat_map (λ block. block) (map (block_at documents) (range_with_len 0 count)) ≡ take (count * 128) documents
joined_blocks documents zero = refl
joined_blocks documents (suc count) =
    let before = map (block_at documents) (range_with_len 0 count) in
    let more : map (block_at documents) (range_with_len 0 (suc count)) ≡ before ++ block_at documents count ∷ [] =
    ap (λ n. map (block_at documents) (range_with_len 0 n)) (sym (add-one count))
    ∙ map-range_with_len_more (block_at documents) 0 count count (omega arith) in
    ap (flat_map (λ block. block)) more ∙ flat_map-append (λ block. block) before (block_at documents count ∷ [])
    ∙ ap₂ (λ xs ys. xs ++ ys) (joined_blocks documents count) (append-nil (block_at documents count))
    ∙ sym (take-add (count * 128) 128 documents) ∙ ap (λ n. take n documents) (omega arith)

pub blocks_joined : (documents : List ℕ) → flat_map (λ block. block) (blocks_of documents) ≡ documents
blocks_joined documents =
    joined_blocks documents (block_count (length documents))
    ∙ take_all (block_count (length documents) * 128) documents (omega arith)

-- the concatenated blocks rise strictly
pub blocks_rise : (documents : List ℕ) → IsStrictlyIncreasing documents
    → IsStrictlyIncreasing (flat_map (λ block. block) (blocks_of documents))
blocks_rise documents rises = subst IsStrictlyIncreasing (sym (blocks_joined documents)) rises
