use Rattle.std.proofs.Common.{◌≡◌, ◌<◌, ◌-◌, [], IfSome, ◌∙◌, sym, ap, ap₂, subst, length, get_or, take, drop, arith}
use Rattle.fts_pack.specs.ListBits.{AreBitsOf}
use Rattle.fts_pack.specs.Documents.{block_count}
use Rattle.fts_pack.specs.PackedList.{IsPackedList, kept_documents}
use Rattle.fts_pack.specs.Lists.{blocks_from}
use Rattle.fts_pack.specs.StoredList.{documents_packed}
use Rattle.fts_pack.proofs.DocumentsLemmas.{block_count-div_ceil}
use Rattle.fts_pack.proofs.PackedListLemmas.{length-kept_documents}
use Rattle.fts_pack.proofs.ListsLemmas.{buffers, bits_borrowed, length-lists_in, list_read, long_read, place-plain}
use Rattle.fts_pack.proofs.lists.Lists.stored.Goals as goal

pub index-requires : goal.index-requires
index-requires c = let n = c.self.inside in
    omega (arith, c.requires, n.entries.ok.0, ap length c.self.view_is, length-lists_in (buffers n) 0 n.entries.items)

pub overflow_sub-count : goal.overflow_sub-count
overflow_sub-count c = let n = c.self.inside in
    (list_read (buffers n) n.entries.items c.args.self.now c.args.number c.start-before.result c.index.result.now c.self.invariant c.self.view_is c.requires
    c.start-before.ensures c.index.ensures).0

pub split_at-requires : goal.split_at-requires
split_at-requires c = let n = c.self.inside in
    let r = list_read (buffers n) n.entries.items c.args.self.now c.args.number c.start-before.result c.index.result.now c.self.invariant c.self.view_is
    c.requires c.start-before.ensures c.index.ensures in
    let plain = r.1.is.short c.if-count-le-MOST_PLAIN.true in
    omega (arith, plain.room, ap length c.deref.ensures.value)

pub split_at-requires-then-count-le-MOST_PLAIN : goal.split_at-requires-then-count-le-MOST_PLAIN
split_at-requires-then-count-le-MOST_PLAIN c = let n = c.self.inside in
    let r = list_read (buffers n) n.entries.items c.args.self.now c.args.number c.start-before.result c.index.result.now c.self.invariant c.self.view_is
    c.requires c.start-before.ensures c.index.ensures in
    let plain = r.1.is.short c.if-count-le-MOST_PLAIN.true in
    omega (arith, plain.room, ap length c.deref.ensures.value, c.split_at.ensures.back_len)

pub returns-then-count-le-MOST_PLAIN-clause-documents : goal.returns-then-count-le-MOST_PLAIN-clause-documents
returns-then-count-le-MOST_PLAIN-clause-documents c = let n = c.self.inside in
    let e = c.index.result.now in
    let count = e.end - c.start-before.result in
    let r = list_read (buffers n) n.entries.items c.args.self.now c.args.number c.start-before.result e c.self.invariant c.self.view_is c.requires
    c.start-before.ensures c.index.ensures in
    c.split_at-then-count-le-MOST_PLAIN.ensures.front ∙ ap (take count) (c.split_at.ensures.back ∙ ap (drop e.place) c.deref.ensures.value)
    ∙ sym (place-plain (buffers n) count e.place c.if-count-le-MOST_PLAIN.true) ∙ sym r.1.documents_are

pub index-long-requires : goal.index-long-requires
index-long-requires c = let n = c.self.inside in
    let e = c.index.result.now in
    let r = list_read (buffers n) n.entries.items c.args.self.now c.args.number c.start-before.result e c.self.invariant c.self.view_is c.requires
    c.start-before.ensures c.index.ensures in
    let many : 64 < e.end - c.start-before.result = omega (arith, c.if-count-le-MOST_PLAIN.false) in
    let packed = r.1.is.long many in
    omega (arith, packed.near, n.long.ok.0)

pub split_at-requires-2 : goal.split_at-requires-2
split_at-requires-2 c = let n = c.self.inside in
    let e = c.index.result.now in
    let count = e.end - c.start-before.result in
    let r = list_read (buffers n) n.entries.items c.args.self.now c.args.number c.start-before.result e c.self.invariant c.self.view_is c.requires
    c.start-before.ensures c.index.ensures in
    let many : 64 < count = omega (arith, c.if-count-le-MOST_PLAIN.false) in
    let l = long_read (buffers n) c.args.self.now c.args.number count e.place c.index-long.result.now r.1 many c.index-long.ensures in
    omega (arith, l.1.room, ap length c.deref-2.ensures.value)

pub split_at-requires-3 : goal.split_at-requires-3
split_at-requires-3 c = let n = c.self.inside in
    let e = c.index.result.now in
    let count = e.end - c.start-before.result in
    let r = list_read (buffers n) n.entries.items c.args.self.now c.args.number c.start-before.result e c.self.invariant c.self.view_is c.requires
    c.start-before.ensures c.index.ensures in
    let many : 64 < count = omega (arith, c.if-count-le-MOST_PLAIN.false) in
    let l = long_read (buffers n) c.args.self.now c.args.number count e.place c.index-long.result.now r.1 many c.index-long.ensures in
    let blocks : c.div_ceil.result ≡ block_count count = omega (arith, c.div_ceil.ensures, block_count-div_ceil count) in
    omega (arith, l.1.room, blocks, c.split_at-2.ensures.back_len, ap length c.deref-2.ensures.value)

pub new-requires : goal.new-requires
new-requires c = let n = c.self.inside in
    let b = buffers n in
    let e = c.index.result.now in
    let count = e.end - c.start-before.result in
    let long = c.index-long.result.now in
    let r = list_read b n.entries.items c.args.self.now c.args.number c.start-before.result e c.self.invariant c.self.view_is c.requires
    c.start-before.ensures c.index.ensures in
    let many : 64 < count = omega (arith, c.if-count-le-MOST_PLAIN.false) in
    let l = long_read b c.args.self.now c.args.number count e.place long r.1 many c.index-long.ensures in
    let size : c.div_ceil.result ≡ block_count count = omega (arith, c.div_ceil.ensures, block_count-div_ceil count) in
    let blocks : c.split_at-3.result.0.now ≡ blocks_from b count long.first =
    c.split_at-3.ensures.front ∙ ap₂ take size (c.split_at-2.ensures.back ∙ ap (drop long.first) c.deref-2.ensures.value) in
    subst (IsPackedList count c.split_at-3.result.0.now) (sym c.deref-3.ensures.value)
    (subst (λ bs. IsPackedList count bs b.words) (sym blocks) l.1.is)

pub returns-clause-documents : goal.returns-clause-documents
returns-clause-documents c = let n = c.self.inside in
    let b = buffers n in
    let e = c.index.result.now in
    let count = e.end - c.start-before.result in
    let long = c.index-long.result.now in
    let r = list_read b n.entries.items c.args.self.now c.args.number c.start-before.result e c.self.invariant c.self.view_is c.requires
    c.start-before.ensures c.index.ensures in
    let many : 64 < count = omega (arith, c.if-count-le-MOST_PLAIN.false) in
    let l = long_read b c.args.self.now c.args.number count e.place long r.1 many c.index-long.ensures in
    let size : c.div_ceil.result ≡ block_count count = omega (arith, c.div_ceil.ensures, block_count-div_ceil count) in
    let blocks : c.split_at-3.result.0.now ≡ blocks_from b count long.first =
    c.split_at-3.ensures.front ∙ ap₂ take size (c.split_at-2.ensures.back ∙ ap (drop long.first) c.deref-2.ensures.value) in
    c.new.ensures ∙ ap₂ (λ ws bs. kept_documents ws 0 count bs) c.deref-3.ensures.value blocks ∙ l.1.documents_are

pub returns-clause-form : goal.returns-clause-form
returns-clause-form c = let n = c.self.inside in
    let b = buffers n in
    let e = c.index.result.now in
    let count = e.end - c.start-before.result in
    let long = c.index-long.result.now in
    let r = list_read b n.entries.items c.args.self.now c.args.number c.start-before.result e c.self.invariant c.self.view_is c.requires
    c.start-before.ensures c.index.ensures in
    let many : 64 < count = omega (arith, c.if-count-le-MOST_PLAIN.false) in
    let l = long_read b c.args.self.now c.args.number count e.place long r.1 many c.index-long.ensures in
    let size : c.div_ceil.result ≡ block_count count = omega (arith, c.div_ceil.ensures, block_count-div_ceil count) in
    let blocks : c.split_at-3.result.0.now ≡ blocks_from b count long.first =
    c.split_at-3.ensures.front ∙ ap₂ take size (c.split_at-2.ensures.back ∙ ap (drop long.first) c.deref-2.ensures.value) in
    let kept : documents_packed c.new.result ≡ kept_documents b.words 0 count (blocks_from b count long.first) =
    c.new.ensures ∙ ap₂ (λ ws bs. kept_documents ws 0 count bs) c.deref-3.ensures.value blocks in
    let documents = get_or c.args.self.now c.args.number [] in
    let bits : IfSome c.as_ref.result (λ bs. AreBitsOf documents bs.now) =
    bits_borrowed c.as_ref.result long.bits documents c.as_ref.ensures.value l.1.bits in (
      omega (arith, many, ap length kept, length-kept_documents b.words 0 count (blocks_from b count long.first) l.1.is.kept),
      subst (λ ds. IfSome c.as_ref.result (λ bs. AreBitsOf ds bs.now)) (sym (kept ∙ l.1.documents_are)) bits,
    )
