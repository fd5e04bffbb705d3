-- The cursor was made over the list of the member.
use Rattle.std.proofs.Common.{subst}
use Rattle.fts_cursor.specs.Builds.{IsCursorOf}
use Rattle.fts_cursor.specs.Leading.{IsOver}
use Rattle.fts_cursor.proofs.BoolHits.{paired_more}
use Rattle.fts_cursor.proofs.query_tree.cursors_of.Goals as goal

pub loop-member-preserved : goal.loop-member-preserved
loop-member-preserved c =
    rw c.in_ok-push.ensures.items (paired_more IsCursorOf c.loop-member.cursors.items c.args.members.now c.loop-member.member-index c.cursor_over.result
    c.member-item.result c.loop-member.invariant c.loop-member-test.true c.member-item.is
    (subst (IsOver c.cursor_over.result) c.postings.ensures c.cursor_over.ensures))
