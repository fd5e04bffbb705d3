-- The invariant of the loop of `commits::batch_jobs::strikers`.
use Rattle.std.proofs.Common.{◌≡◌, ◌≤◌, List, take}
use Rattle.fts_model.specs.declared.schema.Field.{Field}
use Rattle.fts_model.specs.declared.operation.Stamped.{Stamped}
use Rattle.fts_model.specs.Documents.{DocumentValue}
use Rattle.fts_model.specs.Operations.{survives}
use Rattle.fts_snapshots.proofs.commits.batch_jobs.strikers.Given as goal

abbrev pub invariant-loop-i : goal.invariant-loop-i
invariant-loop-i l = record {
  within : l.end ≤ l.i;
  same : (schema : List Field) (document : Stamped DocumentValue) → survives schema (take l.end l.batch) document ≡ survives schema (take l.i l.batch) document;
}
