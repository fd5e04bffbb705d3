use Rattle.std.proofs.Common.{sym, ◌∙◌}
use Rattle.fts_pack.specs.SourceLaws.{length-blocks_of}
use Rattle.fts_pack.proofs.list_source.ListSourceBlocks.blocks.Goals as goal

pub returns : goal.returns
returns c = c.blocks-2.ensures ∙ sym (length-blocks_of _)
