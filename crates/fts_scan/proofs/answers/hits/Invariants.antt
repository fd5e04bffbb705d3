use Rattle.std.proofs.Common.{◌≡◌, take}
use Rattle.fts_model.specs.QueryValues.{query_value}
use Rattle.fts_model.specs.Queries.{hits}
use Rattle.fts_scan.proofs.answers.hits.Given as goal

abbrev pub invariant-loop-document : goal.invariant-loop-document
invariant-loop-document l = l.hits.items ≡ hits l.schema (query_value l.query) (take l.document-index l.documents)
