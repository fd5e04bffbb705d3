-- The documents of a list by the way it is stored.
use Rattle.std.specs.Prelude.{ℕ, ◌<◌, ◌≤◌, List, IfSome, length}
use Rattle.std.specs.Coded.{le_prop}
use Rattle.std.proofs.Props.{props}
use Rattle.fts_pack.specs.declared.packed_list.PackedList.{PackedList}
use Rattle.fts_pack.specs.declared.stored_list.StoredList.{StoredList}
use Rattle.fts_pack.specs.declared.stored_list.StoredList.TheVariants.{Plain, Packed}
use Rattle.fts_pack.specs.ListBits.{AreBitsOf}
use Rattle.fts_pack.specs.ListProps.{AreBitsOf-prop}
use Rattle.fts_pack.specs.PackedList.{kept_documents}

-- the documents of a list in blocks
abbrev pub documents_packed : PackedList → List ℕ
documents_packed list = kept_documents list.words.now 0 list.count list.skips.now

-- the documents of a list
abbrev pub documents_stored : StoredList → List ℕ
documents_stored (Plain documents) = documents.now
documents_stored (Packed list bits) = documents_packed list

-- up to 64 documents are plain, and bits are those of the documents
abbrev pub IsStoredAsSaid : StoredList → Type 0
IsStoredAsSaid (Plain documents) = length documents.now ≤ 64
IsStoredAsSaid (Packed list bits) =
    (64 < length (documents_packed list)) × IfSome bits (λ b. AreBitsOf (documents_packed list) b.now)

pub IsStoredAsSaid-prop : (list : StoredList) → IsProp (IsStoredAsSaid list)
IsStoredAsSaid-prop (Plain documents) = le_prop
IsStoredAsSaid-prop (Packed list bits) = hlevel (AreBitsOf-prop, props)
