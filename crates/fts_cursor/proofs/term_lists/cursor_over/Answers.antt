-- The source has the documents of the list.
use Rattle.std.proofs.Common.{◌<◌, ap, ◌∙◌, arith}
use Rattle.fts_pack.specs.ListRef.{listed}
use Rattle.fts_pack.specs.Documents.{blocks_of}
use Rattle.fts_cursor.proofs.BoolHits.{one_or_none}
use Rattle.fts_cursor.proofs.LeadingLemmas.{one_where, one_where_some}
use Rattle.fts_postings.proofs.PostingLemmas.{posting_new}
use Rattle.fts_cursor.proofs.term_lists.cursor_over.Goals as goal

pub returns : goal.returns
returns c =
    let documents = listed c.args.list in
    let blocks = c.new.ensures.blocks ∙ ap blocks_of c.source.ensures.documents in
    let once : c.new.result.opened < 2 = one_or_none _ c.new.result.opened c.new.ensures.opened in
    record {
      blocks = blocks;
      remaining = posting_new c.new.result documents blocks c.new.ensures.first.0 c.new.ensures.first.1;
      opened = omega (arith, once, c.new.ensures.counted, c.source.ensures.unopened);
      enters = one_where_some c.new.result.opened documents (c.new.ensures.opened ∙ ap one_where (ap blocks_of c.source.ensures.documents));
      tied = omega (arith, c.new.ensures.counted, c.source.ensures.unopened);
    }
