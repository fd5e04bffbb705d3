use Rattle.fts_collect.proofs.WalkedLemmas.{fits-others, seen-beside}
use Rattle.fts_collect.proofs.collector.see_beside.Goals as goal

pub see_all-requires-clause-fits : goal.see_all-requires-clause-fits
see_all-requires-clause-fits c = fits-others c.args.segment.now.schema c.args.request.now c.requires.fits

pub see_all-requires-clause-none : goal.see_all-requires-clause-none
see_all-requires-clause-none c =
    record { count = c.requires.none.count; places = c.requires.none.places; groups = c.requires.none.groups; top = tt }

pub returns-clause-seen : goal.returns-clause-seen
returns-clause-seen c =
    seen-beside c.args.segment.now c.args.request.now c.args.top c.args.cursor.now.remaining c.see_all.new.seen c.args.top_k c.requires.top
    c.in_ok-see_all.ensures.seen c.requires.ranked
