use Rattle.std.proofs.Common.{sym, ◌∙◌}
use Rattle.fts_query.proofs.MeaningsLemmas.{whole_is}
use Rattle.fts_query.proofs.number.unsigned.Goals as goal

pub returns : goal.returns
returns c = whole_is c.args.text.now c.loop-rest.rest.now c.loop-rest.value c.in_default.len_below c.loop-rest.invariant.0 c.loop-rest.invariant.1
    (sym c.is_empty.ensures ∙ c.if-is_empty.false) c.loop-rest.invariant.2
