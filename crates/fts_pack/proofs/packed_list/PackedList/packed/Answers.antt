use Rattle.std.proofs.Common.{◌*◌, ◌∙◌, take, ap, arith, refl}
use Rattle.fts_pack.specs.StoredList.{documents_packed}
use Rattle.fts_pack.proofs.PackedListLemmas.{block_read, long_blocks}
use Rattle.fts_pack.proofs.packed_list.PackedList.packed.Goals as goal

pub skip_at-skip-requires : goal.skip_at-skip-requires
skip_at-skip-requires c = let list = c.args.self in
    omega (arith, c.requires, long_blocks (documents_packed c.args.self) list.count list.skips.now list.words.now refl c.args.self.is)

pub split_at-requires : goal.split_at-requires
split_at-requires c = let list = c.args.self in
    let r = block_read (documents_packed c.args.self) list.count list.skips.now list.words.now c.args.block c.skip_at-skip.result refl c.args.self.is c.requires
    c.skip_at-skip.ensures in
    omega (arith, r.within.room)

pub split_at-requires-2 : goal.split_at-requires-2
split_at-requires-2 c = let list = c.args.self in
    let r = block_read (documents_packed c.args.self) list.count list.skips.now list.words.now c.args.block c.skip_at-skip.result refl c.args.self.is c.requires
    c.skip_at-skip.ensures in
    omega (arith, r.within.room, c.split_at.ensures.back_len)

pub returns-clause-width : goal.returns-clause-width
returns-clause-width c = let list = c.args.self in
    (block_read (documents_packed c.args.self) list.count list.skips.now list.words.now c.args.block c.skip_at-skip.result refl c.args.self.is c.requires
    c.skip_at-skip.ensures).width_is

pub returns-clause-words : goal.returns-clause-words
returns-clause-words c = let list = c.args.self in
    let r = block_read (documents_packed c.args.self) list.count list.skips.now list.words.now c.args.block c.skip_at-skip.result refl c.args.self.is c.requires
    c.skip_at-skip.ensures in
    c.split_at-2.ensures.front ∙ ap (take (4 * c.skip_at-skip.result.block.width)) c.split_at.ensures.back ∙ r.words_are

pub returns-clause-last : goal.returns-clause-last
returns-clause-last c = let list = c.args.self in
    (block_read (documents_packed c.args.self) list.count list.skips.now list.words.now c.args.block c.skip_at-skip.result refl c.args.self.is c.requires
    c.skip_at-skip.ensures).last_is
