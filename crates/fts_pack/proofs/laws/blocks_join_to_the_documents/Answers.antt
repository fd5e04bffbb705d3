use Rattle.fts_pack.specs.SourceLaws.{blocks_joined}
use Rattle.fts_pack.proofs.laws.blocks_join_to_the_documents.Goals as goal

pub returns : goal.returns
returns c = blocks_joined c.args.documents.now
