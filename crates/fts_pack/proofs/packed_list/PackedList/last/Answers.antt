use Rattle.std.proofs.Common.{arith, refl}
use Rattle.fts_pack.specs.StoredList.{documents_packed}
use Rattle.fts_pack.proofs.PackedListLemmas.{block_read, long_blocks}
use Rattle.fts_pack.proofs.packed_list.PackedList.last.Goals as goal

pub skip_at-requires : goal.skip_at-requires
skip_at-requires c =
    omega (
      arith,
      c.requires,
      long_blocks (documents_packed c.args.self) c.args.self.count c.args.self.skips.now c.args.self.words.now
          refl c.args.self.is,
    )

pub returns : goal.returns
returns c =
    let reads = block_read (documents_packed c.args.self) c.args.self.count c.args.self.skips.now c.args.self.words.now c.args.block c.skip_at.result
    refl c.args.self.is c.requires c.skip_at.ensures in
    reads.last_is
