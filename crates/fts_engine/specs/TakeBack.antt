-- Operations that are taken back.
use Rattle.std.specs.Prelude.{ℕ, take}
use Rattle.fts_engine.specs.Indexes.{Index}

-- an index with the first of its uncommitted operations, this many at most; the others are taken back
abbrev pub keep_first : ℕ → Index → Index
keep_first count i = record {
  schema = i.schema;
  documents = i.documents;
  commit_stamp = i.commit_stamp;
  uncommitted = take count i.uncommitted;
}
