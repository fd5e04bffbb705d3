-- The list of the text as a term is that of the member.
use Rattle.std.proofs.Common.{refl, ◌∙◌}
use Rattle.fts_cursor.specs.Builds.{IsMemberFor}
use Rattle.fts_cursor.proofs.BoolHits.{more_paired}
use Rattle.fts_cursor.proofs.query_tree.members_of.Goals as goal

pub loop-offset-preserved : goal.loop-offset-preserved
loop-offset-preserved c =
    let found = rw c.in-Some.is at c.in_ok-find_text.ensures in
    rw c.in_ok-push-in-Some.ensures.items (more_paired (IsMemberFor c.args.segment.now c.args.field) c.args.pattern.now c.loop-offset.members.items
    c.loop-offset.offset-index c.loop-offset-item.result
    (record { list = c.in-Some.list; positions = c.positions.result; offset = c.loop-offset-item.result.0 }) c.loop-offset.invariant c.loop-offset-test.true
    c.loop-offset-item.is
    (record { offset = refl; documents = found.0; positions_are = c.positions.ensures ∙ found.1 }))
