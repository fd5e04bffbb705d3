use Rattle.std.proofs.Common.{length, ap, sym, ◌∙◌, arith}
use Rattle.fts_query.proofs.MeaningsLemmas.{no_default, defaults}
use Rattle.fts_query.proofs.meaning.literal_anywhere.Goals as goal

pub returns-then-not-has_default : goal.returns-then-not-has_default
returns-then-not-has_default c = sym (no_default c.args.schema.now c.args.text.now cc)

pub returns : goal.returns
returns c = c.into_node.ensures ∙ defaults c.args.schema.now c.args.text.now c.loop-i.i _ (sym c.has_default.ensures ∙ c.if-not-has_default.false)
    (omega (arith, c.loop-i-test.false, ap length c.fields-field-items.ensures.fields)) c.loop-i.invariant
