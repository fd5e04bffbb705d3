-- The live documents, of which the hits are kept.
use Rattle.std.proofs.Common.{ap, sym, ◌∙◌}
use Rattle.std.specs.List.{filter}
use Rattle.fts_postings.specs.Sets.{has}
use Rattle.fts_cursor.specs.Hits.{is_live}
use Rattle.fts_cursor.proofs.HitsLemmas.{hits_of}
use Rattle.fts_cursor.proofs.TestsLemmas.{told_hits}
use Rattle.fts_cursor.proofs.hit_sets.hit_set.Goals as goal

pub returns-then-branch : goal.returns-then-branch
returns-then-branch c =
    let live = c.args.live.now in
    let hits = has (hits_of c.args.segment.now c.args.query.now) in
    c.in_ok-keep_hits.ensures c.if-branch.true
    ∙ ap (filter hits) (c.in_ok-with.ensures.kept ∙ ap (filter (is_live live)) c.every-hits.ensures)
    ∙ told_hits c.args.segment.now c.args.query.now live c.docs.result (c.requires.bits ∙ sym c.docs.ensures.len)
