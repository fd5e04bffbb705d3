-- One cursor more.
use Rattle.fts_pack.specs.ListRef.{listed}
use Rattle.fts_pack.specs.declared.list_ref.ListRef.{ListRef}
use Rattle.fts_cursor.specs.Leading.{IsOver}
use Rattle.fts_postings.specs.Posting.{Posting}
use Rattle.fts_cursor.proofs.BoolHits.{paired_more}
use Rattle.fts_cursor.proofs.term_lists.cursors_over.Goals as goal

pub loop-list-preserved : goal.loop-list-preserved
loop-list-preserved c =
    rw c.in_ok-push.ensures.items (paired_more (λ (p : Posting) (l : ListRef). IsOver p (listed l)) c.loop-list.cursors.items c.args.lists.now
    c.loop-list.list-index c.cursor_over.result c.list-item.result c.loop-list.invariant c.loop-list-test.true c.list-item.is c.cursor_over.ensures)
