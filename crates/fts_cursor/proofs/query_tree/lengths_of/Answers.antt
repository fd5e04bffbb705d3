-- As many documents have the term of the member as its list has.
use Rattle.std.proofs.Common.{◌≡◌, ℕ, length, ap, ◌∙◌}
use Rattle.fts_segment.specs.ListIds.{documents_in}
use Rattle.fts_cursor.specs.declared.phrase.Member.{Member}
use Rattle.fts_cursor.proofs.BoolHits.{paired_more}
use Rattle.fts_cursor.proofs.query_tree.lengths_of.Goals as goal

pub loop-member-preserved : goal.loop-member-preserved
loop-member-preserved c =
    rw c.in_ok-push.ensures.items (paired_more (λ (count : ℕ) (m : Member). count ≡ length (documents_in m.list)) c.loop-member.lengths.items c.args.members.now
    c.loop-member.member-index c.len.result c.member-item.result c.loop-member.invariant c.loop-member-test.true c.member-item.is
    (c.len.ensures ∙ ap length c.postings.ensures))
