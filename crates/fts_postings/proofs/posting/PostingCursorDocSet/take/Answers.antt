-- What is left of a block is a stretch from the front on.
use Rattle.fts_postings.proofs.TakesLemmas.{Takes-stretch}
use Rattle.fts_postings.proofs.posting.PostingCursorDocSet.take.Goals as goal

pub returns-clause-taken : goal.returns-clause-taken
returns-clause-taken g c = Takes-stretch _ _ c.args.out.now c.take_block.new.out c.take_block.result c.take_block.ensures.taken
