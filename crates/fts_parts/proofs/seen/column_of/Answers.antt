use Rattle.fts_parts.proofs.FitLemmas.{column_is}
use Rattle.fts_parts.proofs.seen.column_of.Goals as goal

pub returns : goal.returns
returns c = column_is c.args.segment.now c.args.field c.column.result.now c.column.ensures.numbers c.column.ensures.ordinals
