-- Lists of documents that are stored side by side.
use Rattle.std.specs.Prelude.{ℕ, ◌+◌, ◌-◌, ◌<◌, ◌≤◌, nat_le, List, [], ◌∷◌, None, IfSome, drop, length, take}
use Rattle.std.specs.Prelude.{slice_index_or, if◌then◌else◌}
use Rattle.std.specs.List.Sorted.{IsStrictlyIncreasing}
use Rattle.fts_pack.specs.declared.list_entry.ListEntry.{ListEntry}
use Rattle.fts_pack.specs.declared.long_entry.LongEntry.{LongEntry}
use Rattle.fts_pack.specs.declared.skip.Skip.{Skip}
use Rattle.fts_pack.specs.ListBits.{AreBitsOf}
use Rattle.fts_pack.specs.Documents.{block_count}
use Rattle.fts_pack.specs.PackedList.{IsPackedList, kept_documents}

-- the plain documents of short lists, the entries of long ones, and the blocks of these with their words
pub record Buffers : Type 0 where
  pub plain : List ℕ
  pub long : List LongEntry
  pub blocks : List Skip
  pub words : List ℕ

-- an entry that does not exist
abbrev pub no_long : LongEntry
no_long = record { first = 0; bits = None }

-- the entry of a long list
abbrev pub long_at : Buffers → ℕ → LongEntry
long_at b place = slice_index_or b.long place no_long

-- the blocks of `count` documents from a first block
abbrev pub blocks_from : Buffers → ℕ → ℕ → List Skip
blocks_from b count first = take (block_count count) (drop first b.blocks)

-- the documents of a long list
abbrev pub packed_at : Buffers → ℕ → ℕ → List ℕ
packed_at b count place = kept_documents b.words 0 count (blocks_from b count (long_at b place).first)

-- the documents of a short list
abbrev pub plain_at : Buffers → ℕ → ℕ → List ℕ
plain_at b count place = take count (drop place b.plain)

-- the documents of `count` at a place: up to 64 are plain
abbrev pub documents_at_place : Buffers → ℕ → ℕ → List ℕ
documents_at_place b count place = if nat_le count 64 then plain_at b count place else packed_at b count place

-- the documents of the lists, if there are `before` documents in the lists before them
abbrev pub lists_in : Buffers → ℕ → List ListEntry → List (List ℕ)
lists_in b before [] = []
lists_in b before (entry ∷ entries) =
    documents_at_place b (entry.end - before) entry.place ∷ lists_in b entry.end entries

-- a short list is within the plain documents, and rises
pub record IsPlainAt (b : Buffers) (count place : ℕ) : Type 0 where
  pub room : place + count ≤ length b.plain
  pub rises : IsStrictlyIncreasing (plain_at b count place)

-- a long list has its blocks, and bits of its documents if it has bits
pub record IsPackedAt (b : Buffers) (count place : ℕ) : Type 0 where
  pub near : place < length b.long
  pub room : (long_at b place).first + block_count count ≤ length b.blocks
  pub is : IsPackedList count (blocks_from b count (long_at b place).first) b.words
  pub bits : IfSome (long_at b place).bits (AreBitsOf (packed_at b count place))

-- a list is stored
pub record IsStored (b : Buffers) (count place : ℕ) : Type 0 where
  pub short : count ≤ 64 → IsPlainAt b count place
  pub long : 64 < count → IsPackedAt b count place

-- each list is stored, and ends after the one before it
abbrev pub AreStored : Buffers → ℕ → List ListEntry → Type 0
AreStored b before [] = Unit {0}
AreStored b before (entry ∷ entries) =
    (before ≤ entry.end) × IsStored b (entry.end - before) entry.place × AreStored b entry.end entries
