use Rattle.fts_query.proofs.ReadingLemmas.{chars-cons}
use Rattle.fts_query.proofs.input.split_first.Goals as goal

pub returns-clause-chars : goal.returns-clause-chars
returns-clause-chars c = chars-cons c.args.text.now c.as_str.result.now c.chars-rest.result.rest.now c.next.new.self.rest.now c.in_ok-first.first c.utf8.text
    c.chars-rest.ensures.rest c.as_str.ensures c.in_ok-first.ensures.steps.0
