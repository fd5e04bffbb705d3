use Rattle.fts_query.specs.Answers.{answer}
use Rattle.fts_query.proofs.AnswersLemmas.{answer_reads}
use Rattle.fts_query.proofs.laws.each_text_has_an_outcome.Goals as goal

pub returns-clause-outcome : goal.returns-clause-outcome
returns-clause-outcome c = λ schema text. (answer schema text, answer_reads schema text)

pub returns-clause-answer : goal.returns-clause-answer
returns-clause-answer c = answer_reads
