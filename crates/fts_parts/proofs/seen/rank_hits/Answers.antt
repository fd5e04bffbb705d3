use Rattle.std.proofs.Common.{◌+◌}
use Rattle.std.proofs.lemmas.Result.{on_err_weaker, on_ok_weaker}
use Rattle.fts_parts.proofs.CollectLemmas.{ranked-last, ranked-more}
use Rattle.fts_parts.proofs.seen.rank_hits.Goals as goal

pub returns-in-Some-clause-ok : goal.returns-in-Some-clause-ok
returns-in-Some-clause-ok c =
    on_ok_weaker c.offer.result
    (λ more. ranked-more c.args.segment.now c.args.wanted c.in-Some.top c.numbers_of.result.now c.args.docs.now c.args.top_k.now c.offer.new.top_k
    c.in-Some.is c.numbers_of.ensures more)
    c.offer.ensures.ok

pub returns-in-Some-clause-err : goal.returns-in-Some-clause-err
returns-in-Some-clause-err c =
    on_err_weaker c.offer.result
    (λ last. ranked-last c.args.segment.now c.args.wanted c.in-Some.top c.numbers_of.result.now c.args.docs.now c.args.top_k.now c.offer.new.top_k
    c.in-Some.is c.numbers_of.ensures (last.place + 1) last.offered)
    c.offer.ensures.err
