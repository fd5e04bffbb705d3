-- What a list says of itself has at most one proof, so that a struct may hold it.
use Rattle.std.specs.Prelude.{◌≡◌, ℕ, suc, ◌+◌, ◌-◌, ◌*◌, ◌^◌, ◌<◌, ◌≤◌, ◌==◌, Bool, false, List, [], ◌∷◌, All}
use Rattle.std.specs.Prelude.{drop, length, slice_index_or, take}
use Rattle.std.specs.List.{list_any}
use Rattle.std.specs.List.Sorted.{IsStrictlyIncreasing}
use Rattle.std.specs.Coded.{×_prop}
use Rattle.std.proofs.Props.{props}
use Rattle.fts_pack.specs.bits.Digits.{IsWidthOf}
use Rattle.fts_pack.specs.declared.block_meta.BlockMeta.{BlockMeta}
use Rattle.fts_pack.specs.declared.skip.Skip.{Skip}
use Rattle.fts_pack.specs.BlockMeta.{IsWithin}
use Rattle.fts_pack.specs.Documents.{after, gaps}
use Rattle.fts_pack.specs.FourLanes.{words_in_lanes}
use Rattle.fts_pack.specs.ListBits.{AreBitsOf}
use Rattle.fts_pack.specs.PackedList.{AreKept, IsKeptBlock, IsPackedList, kept_block, kept_documents}

IsWidthOf-prop : (numbers : List ℕ) (width : ℕ) → IsProp (IsWidthOf numbers width)
IsWidthOf-prop numbers width x y =
    let holds : IsProp (All (λ n. n < 2 ^ width) numbers) = hlevel props in
    let least : IsProp ((other : ℕ) → All (λ n. n < 2 ^ other) numbers → width ≤ other) = hlevel props in
    λ i. record { holds = holds x.holds y.holds i; least = least x.least y.least i }

IsWithin-prop : (words : List ℕ) (block : BlockMeta) → IsProp (IsWithin words block)
IsWithin-prop words block x y =
    let narrow : IsProp (block.width ≤ 32) = hlevel props in
    let room : IsProp (block.start + 4 * block.width ≤ length words) = hlevel props in
    λ i. record { narrow = narrow x.narrow y.narrow i; room = room x.room y.room i }

IsKeptBlock-prop : (words : List ℕ) (next count : ℕ) (skip : Skip) → IsProp (IsKeptBlock words next count skip)
IsKeptBlock-prop words next count skip x y =
    let documents = kept_block words next count skip in
    let width = skip.block.width in
    let some : IsProp (0 < count) = hlevel props in
    let within : IsProp (IsWithin words skip.block) = IsWithin-prop words skip.block in
    let last_is : IsProp (after next documents ≡ suc skip.last) = hlevel props in
    let width_is : IsProp (IsWidthOf (gaps next documents) width) = IsWidthOf-prop (gaps next documents) width in
    let lanes = words_in_lanes width (gaps next documents) in
    let words_are : IsProp (take (4 * width) (drop skip.block.start words) ≡ lanes) = hlevel props in
    λ i. record {
      some = some x.some y.some i;
      within = within x.within y.within i;
      last_is = last_is x.last_is y.last_is i;
      width_is = width_is x.width_is y.width_is i;
      words_are = words_are x.words_are y.words_are i;
    }

AreKept-prop : (words : List ℕ) (next count : ℕ) (skips : List Skip) → IsProp (AreKept words next count skips)
AreKept-prop words next count [] = hlevel props
AreKept-prop words next count (skip ∷ skips) =
    ×_prop (IsKeptBlock-prop words next count skip) (AreKept-prop words (suc skip.last) (count - 128) skips)

pub IsPackedList-prop : (count : ℕ) (skips : List Skip) (words : List ℕ) → IsProp (IsPackedList count skips words)
IsPackedList-prop count skips words x y =
    let documents = kept_documents words 0 count skips in
    let count_fits : IsProp (count < 2 ^ 64) = hlevel props in
    let kept : IsProp (AreKept words 0 count skips) = AreKept-prop words 0 count skips in
    let rises : IsProp (IsStrictlyIncreasing documents) = hlevel props in
    let fits : IsProp (All (λ document. document < 2 ^ 32) documents) = hlevel props in
    λ i. record {
      count_fits = count_fits x.count_fits y.count_fits i;
      kept = kept x.kept y.kept i;
      rises = rises x.rises y.rises i;
      fits = fits x.fits y.fits i;
    }

pub AreBitsOf-prop : (documents : List ℕ) (bits : List Bool) → IsProp (AreBitsOf documents bits)
AreBitsOf-prop documents bits x y =
    let tells : IsProp ((d : ℕ) → slice_index_or bits d false ≡ list_any (λ n. n == d) documents) = hlevel props in
    let few : IsProp (length bits ≤ 2 ^ 32) = hlevel props in
    λ i. record { tells = tells x.tells y.tells i; few = few x.few y.few i }
