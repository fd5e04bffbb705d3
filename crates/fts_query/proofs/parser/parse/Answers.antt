use Rattle.std.proofs.Common.{sym, ◌∙◌}
use Rattle.fts_query.specs.Outcomes.{IsFit}
use Rattle.fts_query.proofs.AnswersLemmas.{answered, refused, fitted}
use Rattle.fts_query.proofs.parser.parse.Goals as goal

pub returns-clause-reads : goal.returns-clause-reads
returns-clause-reads c =
    let fit : IsFit c.args.text.now = record { short = c.if-text-gt-LONGEST.false; shallow = sym c.is_too_deep.ensures ∙ c.if-is_too_deep.false } in
    answered c.args.schema.now c.args.text.now fit c.outcome_of.result c.outcome_of.ensures.is

pub returns-clause-refused : goal.returns-clause-refused
returns-clause-refused c =
    let fit : IsFit c.args.text.now = record { short = c.if-text-gt-LONGEST.false; shallow = sym c.is_too_deep.ensures ∙ c.if-is_too_deep.false } in
    refused c.args.schema.now c.args.text.now fit c.outcome_of.result c.outcome_of.ensures.is

pub returns-clause-fits : goal.returns-clause-fits
returns-clause-fits c =
    let fit : IsFit c.args.text.now = record { short = c.if-text-gt-LONGEST.false; shallow = sym c.is_too_deep.ensures ∙ c.if-is_too_deep.false } in
    fitted c.args.schema.now c.args.text.now fit c.outcome_of.result c.outcome_of.ensures.is
