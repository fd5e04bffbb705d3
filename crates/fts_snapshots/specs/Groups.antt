-- The builders of a commit's new segments.
use Rattle.std.specs.Prelude.{◌≡◌, ℕ, false, List, All, map}
use Rattle.std.specs.List.{enumerate_from}
use Rattle.fts_model.specs.Documents.{DocumentValue}
use Rattle.fts_model.specs.declared.operation.Op.{Op}
use Rattle.fts_model.specs.declared.operation.Stamped.{Stamped}
use Rattle.fts_model.specs.declared.schema.Field.{Field}
use Rattle.fts_segment.specs.Segments.{BuilderValue}
use Rattle.fts_snapshots.specs.Commits.{fresh}
use Rattle.fts_snapshots.specs.Entries.{EntryValue}

-- the documents of each builder
abbrev pub documents_in : List BuilderValue → List (List (Stamped DocumentValue))
documents_in builders = map (λ builder. builder.segment.documents) builders

-- builders of this schema, none of which is for merging
abbrev pub AreOf : List Field → List BuilderValue → Type 0
AreOf schema builders = All (λ builder. (builder.segment.schema ≡ schema) × (builder.merging ≡ false)) builders

-- the new segment of a builder after the deletes of operations are applied to it
abbrev pub built : List (Stamped Op) → ℕ → BuilderValue → EntryValue
built ops id builder = fresh builder.segment.schema ops id builder.segment.documents

-- the new segments of builders, numbered from `id`
abbrev pub built_from : List (Stamped Op) → ℕ → List BuilderValue → List EntryValue
built_from ops id builders = map (λ b. built ops b.0 b.1) (enumerate_from id builders)
