use Rattle.fts_parts.proofs.CollectLemmas.{ranked-within}
use Rattle.fts_collect.proofs.collector.part_of.Goals as goal

pub told-requires-clause-within : goal.told-requires-clause-within
told-requires-clause-within c =
    ranked-within c.args.segment.now c.args.request.now.top c.args.cursor.now.remaining c.see_hits.new.seen.top_k c.requires.hits.within
    c.in_ok-see_hits.ensures.seen.top
