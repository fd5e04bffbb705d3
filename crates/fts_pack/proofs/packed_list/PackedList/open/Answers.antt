use Rattle.std.proofs.Common.{◌≡◌, ◌∙◌, take, drop, refl, ap, ap₂, arith}
use Rattle.fts_pack.specs.Documents.{block_at, documents_at}
use Rattle.fts_pack.specs.FourLanes.{numbers_in_lanes}
use Rattle.fts_pack.specs.StoredList.{documents_packed}
use Rattle.fts_pack.proofs.SumLemmas.{documents_kept}
use Rattle.fts_pack.proofs.PackedListLemmas.{block_read, long_blocks}
use Rattle.fts_pack.proofs.packed_list.PackedList.open.Goals as goal

pub skip_at-start-requires : goal.skip_at-start-requires
skip_at-start-requires c = let l = c.args.self in
    omega (arith, c.requires, long_blocks (documents_packed l) l.count l.skips.now l.words.now refl l.is)

pub split_at-requires : goal.split_at-requires
split_at-requires c = let l = c.args.self in
    let r = block_read (documents_packed l) l.count l.skips.now l.words.now c.args.block c.skip_at-start.result refl l.is c.requires c.skip_at-start.ensures in
    omega (arith, r.within.room)

pub unpack-requires : goal.unpack-requires
unpack-requires c = let l = c.args.self in
    let r = block_read (documents_packed l) l.count l.skips.now l.words.now c.args.block c.skip_at-start.result refl l.is c.requires c.skip_at-start.ensures in
    record {
      narrow = r.within.narrow;
      room = omega (arith, r.within.room, c.split_at.ensures.back_len);
    }

pub overflow_mul-block : goal.overflow_mul-block
overflow_mul-block c = let l = c.args.self in
    let r = block_read (documents_packed l) l.count l.skips.now l.words.now c.args.block c.skip_at-start.result refl l.is c.requires c.skip_at-start.ensures in
    omega (arith, r.start, l.is.count_fits)

pub overflow_sub-self : goal.overflow_sub-self
overflow_sub-self c = let l = c.args.self in
    let r = block_read (documents_packed l) l.count l.skips.now l.words.now c.args.block c.skip_at-start.result refl l.is c.requires c.skip_at-start.ensures in
    omega (arith, r.start)

pub returns-clause-count : goal.returns-clause-count
returns-clause-count c = let l = c.args.self in
    let r = block_read (documents_packed l) l.count l.skips.now l.words.now c.args.block c.skip_at-start.result refl l.is c.requires c.skip_at-start.ensures in
    c.min.ensures ∙ r.size

pub returns-clause-documents : goal.returns-clause-documents
returns-clause-documents c = let l = c.args.self in
    let r = block_read (documents_packed l) l.count l.skips.now l.words.now c.args.block c.skip_at-start.result refl l.is c.requires c.skip_at-start.ensures in
    let skip = c.skip_at-start.result in
    let words : c.split_at.result.1.now ≡ drop skip.block.start l.words.now =
    c.split_at.ensures.back in
    let numbers : c.unpack.new.out ≡ numbers_in_lanes skip.block.width (drop skip.block.start l.words.now) =
    c.unpack.ensures ∙ ap (numbers_in_lanes skip.block.width) words in
    let here : documents_at c.first.result (take c.min.result c.unpack.new.out) ≡ block_at (documents_packed l) c.args.block =
    ap₂ documents_at c.first.ensures (ap₂ take c.min.ensures numbers) ∙ r.documents_are in
    ap (take c.min.result) c.add_up.ensures ∙ documents_kept c.first.result c.min.result c.unpack.new.out (rw here r.fits) ∙ here
