use Rattle.fts_parts.proofs.FitLemmas.{ordered_number}
use Rattle.fts_parts.proofs.ranks.numbers_of.Goals as goal

pub column-requires : goal.column-requires
column-requires c = ordered_number c.args.segment.now.schema c.args.field c.requires
