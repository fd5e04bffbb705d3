use Rattle.std.proofs.Common.{arith}
use Rattle.fts_index.proofs.publications.publisher.Publisher.publish_again.Goals as goal

pub add-requires-clause-follows : goal.add-requires-clause-follows
add-requires-clause-follows g c =
    record { schema = c.requires.schema; stamp = omega (arith, c.commit_stamp-stamp.ensures.stamp); content = λ same. c.requires.content }
