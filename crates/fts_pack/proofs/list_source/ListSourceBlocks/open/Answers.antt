use Rattle.std.proofs.Common.{[], ap, sym, ◌∙◌, arith, length}
use Rattle.fts_pack.specs.ListSource.{documents_in}
use Rattle.fts_pack.specs.SourceLaws.{length-blocks_of, get_or-blocks_of}
use Rattle.fts_pack.proofs.list_source.ListSourceBlocks.open.Goals as goal

pub open-requires : goal.open-requires
open-requires c = omega (arith, c.requires, length-blocks_of (documents_in c.args.self.now))

pub returns-clause-count : goal.returns-clause-count
returns-clause-count c =
    c.open.ensures.count ∙ ap length
    (sym (get_or-blocks_of (documents_in c.args.self.now) c.args.block [] (omega (arith, c.requires, length-blocks_of (documents_in c.args.self.now)))))

pub returns-clause-documents : goal.returns-clause-documents
returns-clause-documents c =
    c.open.ensures.documents
    ∙ sym (get_or-blocks_of (documents_in c.args.self.now) c.args.block [] (omega (arith, c.requires, length-blocks_of (documents_in c.args.self.now))))
