use Rattle.std.proofs.Common.{arith}
use Rattle.fts_index.proofs.publications.publisher.Publisher.publish.Goals as goal

pub add-requires-clause-follows : goal.add-requires-clause-follows
add-requires-clause-follows g c = record { schema = c.requires.schema; stamp = omega arith; content = λ same. absurd (omega (arith, same)) }
