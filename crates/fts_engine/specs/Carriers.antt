-- An index as a script carries it from line to line, whatever carries it.
use Rattle.std.specs.Prelude.{ℕ, List}
use Rattle.fts_model.specs.declared.schema.Field.{Field}
use Rattle.fts_model.specs.declared.operation.Op.{Op}
use Rattle.fts_model.specs.declared.operation.Stamped.{Stamped}
use Rattle.fts_model.specs.Documents.{DocumentValue}

-- what carries an index: what opens and changes it, and what can be read of it
pub record Carrier (S : Type 0) : Type 0 where
  -- a new index: the opening commit has stamp 0 and no document
  pub opened : List Field → S
  -- one more operation is uncommitted
  pub submitted : Op → S → S
  -- the uncommitted operations are committed
  pub committed : S → S
  -- the uncommitted operations are given up
  pub rolled_back : S → S
  pub schema : S → List Field
  -- the documents alive at the last commit, with their stamps
  pub documents : S → List (Stamped DocumentValue)
  -- the stamp of the last commit
  pub commit_stamp : S → ℕ
  -- how many operations are uncommitted
  pub uncommitted : S → ℕ
