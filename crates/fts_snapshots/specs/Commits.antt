-- The effect of a commit on segments.
use Rattle.std.specs.Prelude.{ℕ, ◌+◌, nat_lt, ◌^◌, Bool, true, false, Option, Some, None, List, []}
use Rattle.std.specs.Prelude.{◌∷◌, ◌++◌, length, map, filter, if◌then◌else◌}
use Rattle.std.specs.List.{list_any}
use Rattle.fts_model.specs.declared.schema.Field.{Field}
use Rattle.fts_model.specs.declared.operation.Op.{Op}
use Rattle.fts_model.specs.declared.operation.Op.TheVariants.{Add, Delete, DeleteAll}
use Rattle.fts_model.specs.declared.operation.Stamped.{Stamped}
use Rattle.fts_base.specs.declared.refusal.Refusal.{Refusal}
use Rattle.fts_base.specs.declared.refusal.Refusal.TheVariants.{StampsUsedUp, OtherSchema}
use Rattle.fts_model.specs.Documents.{DocumentValue}
use Rattle.fts_model.specs.Operations.{op_fits, survives, added}
use Rattle.fts_merge.specs.Strikes.{bits_after}
use Rattle.fts_snapshots.specs.Entries.{EntryValue, has_live}
use Rattle.fts_model.specs.declared.cut.Cut.{Cut}
use Rattle.fts_snapshots.specs.Cuts.{groups_of}

-- the refusal of the first operation that doesn't fit the schema, if there is one
abbrev pub misfit : List Field → List (Stamped Op) → Option Refusal
misfit schema [] = None
misfit schema (op ∷ ops) = if op_fits schema op.value then misfit schema ops else Some (OtherSchema op.stamp)

-- whether an operation is a delete: all but adds are
abbrev pub deletes : Op → Bool
deletes (Add document) = false
deletes (Delete term) = true
deletes DeleteAll = true

-- whether a batch has a delete
abbrev pub has_delete : List (Stamped Op) → Bool
has_delete batch = list_any (λ op. deletes op.value) batch

-- the segments that a batch may change: all if it has a delete, and otherwise none
abbrev pub struck_by : List (Stamped Op) → List EntryValue → List EntryValue
struck_by batch entries = if has_delete batch then entries else []

-- the segments that a batch can't change: all others
abbrev pub spared_by : List (Stamped Op) → List EntryValue → List EntryValue
spared_by batch entries = if has_delete batch then [] else entries

-- a segment after the deletes of operations are applied to it
abbrev pub struck : List (Stamped Op) → EntryValue → EntryValue
struck ops entry = record {
  id = entry.id;
  segment = entry.segment;
  live = bits_after entry.segment.schema ops entry.segment.documents entry.live;
}

-- a new segment of these documents after the deletes of operations are applied to it
abbrev pub fresh : List Field → List (Stamped Op) → ℕ → List (Stamped DocumentValue) → EntryValue
fresh schema ops id documents = record {
  id = id;
  segment = record { schema = schema; documents = documents };
  live = map (survives schema ops) documents;
}

-- new segments, numbered from `id`
abbrev pub fresh_from : List Field → List (Stamped Op) → ℕ → List (List (Stamped DocumentValue)) → List EntryValue
fresh_from schema ops id [] = []
fresh_from schema ops id (documents ∷ groups) = fresh schema ops id documents ∷ fresh_from schema ops (id + 1) groups

-- the segments after a batch, including those without a live document: the existing ones, and new ones of the adds
abbrev pub all_after : Cut → List Field → List (Stamped Op) → ℕ → List EntryValue → List EntryValue
all_after cut schema batch id entries =
    map (struck batch) entries ++ fresh_from schema batch id (groups_of cut (added batch))

-- the segments that a commit leaves: those that have a live document
abbrev pub committed : Cut → List Field → List (Stamped Op) → ℕ → List EntryValue → List EntryValue
committed cut schema batch id entries = filter has_live (all_after cut schema batch id entries)

-- the number of new segments that a batch makes, including those without a live document
abbrev pub new_segments : Cut → List (Stamped Op) → ℕ
new_segments cut batch = length (groups_of cut (added batch))

-- the refusal if the number after the last one is `next`: there is one if the last would be 2^62 or more
abbrev pub numbers_fault : ℕ → Option Refusal
numbers_fault next = if nat_lt (2 ^ 62) next then Some StampsUsedUp else None
