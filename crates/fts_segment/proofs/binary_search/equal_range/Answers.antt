-- A name at an index isn't before itself, and isn't after itself.
use Rattle.std.proofs.Common.{sym, arith}
use Rattle.fts_segment.proofs.FindLemmas.{up_to-found}
use Rattle.fts_segment.proofs.KeywordIndexLemmas.{number_of_text}
use Rattle.fts_segment.proofs.binary_search.equal_range.Goals as goal

pub overflow_add-result : goal.overflow_add-result
overflow_add-result c = omega (arith, c.in-Ok.ensures.room)

pub returns-in-Ok-clause-before : goal.returns-in-Ok-clause-before
returns-in-Ok-clause-before c = number_of_text c.args.names.now c.in-Ok.place c.args.text.now c.requires c.in-Ok.ensures.found

pub returns-in-Ok-clause-up_to : goal.returns-in-Ok-clause-up_to
returns-in-Ok-clause-up_to c = sym (up_to-found c.args.names.now c.args.text.now c.in-Ok.place c.requires c.in-Ok.ensures.found)
