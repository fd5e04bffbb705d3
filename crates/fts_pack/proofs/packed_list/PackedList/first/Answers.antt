use Rattle.std.proofs.Common.{◌∙◌, arith, add-one, refl}
use Rattle.fts_pack.specs.StoredList.{documents_packed}
use Rattle.fts_pack.proofs.PackedListLemmas.{first_of_block, first_fits, long_blocks}
use Rattle.fts_pack.proofs.packed_list.PackedList.first.Goals as goal

pub skip_at-requires : goal.skip_at-requires
skip_at-requires c =
    omega (
      arith,
      c.requires,
      long_blocks (documents_packed c.args.self) c.args.self.count c.args.self.skips.now c.args.self.words.now
          refl c.args.self.is,
    )

pub overflow_add-result : goal.overflow_add-result
overflow_add-result c =
    let list = c.args.self in
    let first = first_of_block (documents_packed c.args.self) list.count list.skips.now list.words.now c.args.block c.skip_at.result refl c.args.self.is
    c.requires c.if-block-eq0.false c.skip_at.ensures in
    omega (
      arith,
      first,
      first_fits (documents_packed c.args.self) list.count list.skips.now list.words.now c.args.block c.skip_at.result refl c.args.self.is
          c.requires,
    )

pub returns-else-block-eq0 : goal.returns-else-block-eq0
returns-else-block-eq0 c =
    let list = c.args.self in
    add-one c.skip_at.result.last ∙ first_of_block (documents_packed c.args.self) list.count list.skips.now list.words.now c.args.block c.skip_at.result refl
    c.args.self.is c.requires c.if-block-eq0.false c.skip_at.ensures
