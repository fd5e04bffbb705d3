use Rattle.fts_model.specs.QueryValues.{query_value}
use Rattle.fts_query.proofs.SyntaxLemmas.{told, told_query}
use Rattle.fts_query.proofs.syntax.syntax_at.Goals as goal

pub returns-in-Ok : goal.returns-in-Ok
returns-in-Ok c = told_query c.in_ok-schema.schema c.args.text.now (query_value c.in-Ok.field-0) c.in-Ok.ensures.reads

pub returns : goal.returns
returns c = told c.in_ok-schema.schema c.args.text.now c.in-Err.refusal c.in-Err.ensures.refused c.in-Err.ensures.byte c.byte_in.result c.byte_in.ensures
