use Rattle.std.proofs.Common.{[], ap, sym, ◌∙◌, arith}
use Rattle.fts_pack.specs.ListSource.{documents_in}
use Rattle.fts_pack.specs.Documents.{last_of}
use Rattle.fts_pack.specs.SourceLaws.{length-blocks_of, get_or-blocks_of}
use Rattle.fts_pack.proofs.list_source.ListSourceBlocks.last.Goals as goal

pub last-requires : goal.last-requires
last-requires c = omega (arith, c.requires, length-blocks_of (documents_in c.args.self.now))

pub returns : goal.returns
returns c =
    c.last.ensures ∙ ap last_of
    (sym (get_or-blocks_of (documents_in c.args.self.now) c.args.block [] (omega (arith, c.requires, length-blocks_of (documents_in c.args.self.now)))))
