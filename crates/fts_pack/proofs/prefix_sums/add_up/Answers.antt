use Rattle.std.proofs.Common.{◌+◌, ◌*◌, ◌%◌, ◌^◌, refl, arith}
use Rattle.fts_pack.proofs.SumLemmas.{summed_more, summed_whole}
use Rattle.fts_pack.proofs.prefix_sums.add_up.Goals as goal

pub loop-row-preserved : goal.loop-row-preserved
loop-row-preserved c =
    summed_more ((c.args.next + 4294967295) % 2 ^ 32) c.args.out.now (4 * c.loop-row.row) c.loop-row.out c.write.new.out c.loop-row.last c.last_of-last.result
    c.load.result c.sums_of.result c.documents-four.result c.told-out (omega arith) (omega arith) c.write.array_long c.loop-row.invariant
    c.load.ensures c.sums_of.ensures c.documents-four.ensures c.write.ensures.before c.write.ensures.there c.write.ensures.behind c.last_of-last.ensures
    (4 * (c.loop-row.row + 1)) (omega arith)

pub returns : goal.returns
returns c =
    summed_whole c.args.next ((c.args.next + 4294967295) % 2 ^ 32) c.args.out.now c.loop-row.out c.loop-row.last (4 * c.loop-row.row) refl c.told-out
    (omega arith) c.loop-row.invariant
