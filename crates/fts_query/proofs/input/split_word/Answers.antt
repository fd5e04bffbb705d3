use Rattle.std.proofs.Common.{ap, ◌∙◌}
use Rattle.std.specs.Str.{chars}
use Rattle.fts_query.proofs.ReadingLemmas.{word_split}
use Rattle.fts_query.proofs.input.split_word.Goals as goal

pub split_at-requires : goal.split_at-requires
split_at-requires c = (word_split c.args.text.now c.skip_while-rest.result.now c.utf8.text c.skip_while-rest.utf8 c.skip_while-rest.ensures.chars).0

pub returns-clause-word : goal.returns-clause-word
returns-clause-word c =
    c.split_at.ensures.front ∙ (word_split c.args.text.now c.skip_while-rest.result.now c.utf8.text c.skip_while-rest.utf8 c.skip_while-rest.ensures.chars).1

pub returns-clause-rest : goal.returns-clause-rest
returns-clause-rest c =
    ap chars (c.split_at.ensures.back ∙ (word_split c.args.text.now c.skip_while-rest.result.now c.utf8.text c.skip_while-rest.utf8
    c.skip_while-rest.ensures.chars).2) ∙ c.skip_while-rest.ensures.chars
