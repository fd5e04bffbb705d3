use Rattle.std.proofs.Common.{◌≡◌, length, arith}
use Rattle.fts_model.specs.Answers.{answer_of}
use Rattle.fts_parts.specs.Collected.{hits_at}
use Rattle.fts_parts.proofs.CollectLemmas.{fits-top}
use Rattle.fts_parts.proofs.PartsLemmas.{same_answer}
use Rattle.fts_parts.proofs.HitsLemmas.{length-hits_at}
use Rattle.fts_parts.proofs.seen.told.Goals as goal

pub top_told-requires-clause-fits : goal.top_told-requires-clause-fits
top_told-requires-clause-fits c = fits-top c.args.segment.now.schema c.args.request.now c.requires.fits

pub returns-clause-answer : goal.returns-clause-answer
returns-clause-answer c = λ docs seen are.
    let segment = c.args.segment.now in
    let count : c.args.seen.count ≡ length (hits_at segment docs) = omega (arith, seen.count, are.few, length-hits_at segment docs are.within) in
    same_answer _ (answer_of c.args.request.now (hits_at segment docs)) count (c.in_ok-groups.ensures docs seen.groups are.few)
    (c.in_ok-top.ensures docs seen.top are)
