-- Several, which aren't all terms.
use Rattle.std.proofs.Common.{not, ap, ◌∙◌, arith}
use Rattle.fts_cursor.proofs.OpensLemmas.{mixed_one, mixed_some}
use Rattle.fts_cursor.proofs.told.are_mixed.Goals as goal

pub returns-then-queries-lt2 : goal.returns-then-queries-lt2
returns-then-queries-lt2 c = mixed_one c.args.queries.now (omega (arith, c.if-queries-lt2.true))

pub returns : goal.returns
returns c = ap not c.are_terms.ensures ∙ mixed_some c.args.queries.now (omega (arith, c.if-queries-lt2.false))
