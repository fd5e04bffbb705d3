-- An index, carried as what is found in it and the uncommitted operations.
use Rattle.std.specs.Prelude.{ℕ, ◌+◌, List, [], ◌∷◌, ◌++◌, length}
use Rattle.fts_model.specs.declared.schema.Field.{Field}
use Rattle.fts_model.specs.declared.operation.Op.{Op}
use Rattle.fts_model.specs.declared.operation.Stamped.{Stamped}
use Rattle.fts_model.specs.Documents.{DocumentValue}
use Rattle.fts_model.specs.Operations.{alive, adds}
use Rattle.fts_engine.specs.Carriers.{Carrier}

-- an index: its schema, the documents alive at the last commit, the stamp of that commit, and the operations since
pub record Index : Type 0 where
  pub schema : List Field
  pub documents : List (Stamped DocumentValue)
  pub commit_stamp : ℕ
  pub uncommitted : List (Stamped Op)

-- the stamp that the next operation or commit has
abbrev pub stamp_after : Index → ℕ
stamp_after i = i.commit_stamp + length i.uncommitted + 1

-- an index carried as itself: a commit leaves what is alive after what was there and the operations since
abbrev pub indexes : Carrier Index
indexes = record {
  opened = λ schema. record { schema = schema; documents = []; commit_stamp = 0; uncommitted = [] };
  submitted = λ op i. record {
    schema = i.schema;
    documents = i.documents;
    commit_stamp = i.commit_stamp;
    uncommitted = i.uncommitted ++ record { stamp = stamp_after i; value = op } ∷ [];
  };
  committed = λ i. record {
    schema = i.schema;
    documents = alive i.schema (adds i.documents ++ i.uncommitted);
    commit_stamp = stamp_after i;
    uncommitted = [];
  };
  rolled_back = λ i. record {
    schema = i.schema;
    documents = i.documents;
    commit_stamp = i.commit_stamp;
    uncommitted = [];
  };
  schema = λ i. i.schema;
  documents = λ i. i.documents;
  commit_stamp = λ i. i.commit_stamp;
  uncommitted = λ i. length i.uncommitted;
}
