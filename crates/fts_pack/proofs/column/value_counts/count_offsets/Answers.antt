use Rattle.std.proofs.Common.{◌<◌, ◌∙◌, arith, length, get_or, map, subst, sym, slice_get, take}
use Rattle.std.proofs.lemmas.List.{get_or-take, length-take-le, take-map}
use Rattle.fts_pack.specs.column.OffsetArray.{number_at}
use Rattle.fts_pack.proofs.CountsLemmas.{AreCounted-same, every_number}
use Rattle.fts_pack.proofs.column.value_counts.count_offsets.Goals as goal

pub count_all-requires : goal.count_all-requires
count_all-requires g c = λ doc inside.
    let lanes = c.args.lanes.now in
    let len = c.len.result in
    let near : doc < len = omega (arith, inside, length-take-le len lanes (omega (arith, c.requires.enough, c.len.ensures))) in
    subst (λ xs. get_or xs doc 0 < length c.args.counts.now) (take-map g.L.OffsetInt.value len lanes)
    (rw (get_or-take len (map g.L.OffsetInt.value lanes) doc 0 near) (c.requires.within doc (omega (arith, near, c.len.ensures))))

pub returns-then-is_all_set : goal.returns-then-is_all_set
returns-then-is_all_set g c =
    let value = g.L.OffsetInt.value in
    let present = c.args.present.now in
    let lanes = c.args.lanes.now in
    let len = c.len.result in
    AreCounted-same (slice_get (map value (take len lanes))) (number_at present (map value lanes)) c.args.docs.now c.args.counts.now c.count_all.new.counts
    (λ doc. every_number value present lanes len doc c.len.ensures (sym c.is_all_set.ensures ∙ c.if-is_all_set.true)
    (omega (arith, c.requires.enough, c.len.ensures)))
    c.count_all.ensures
