use Rattle.std.proofs.Common.{◌≡◌, ◌≤◌, arith, length, take}
use Rattle.std.proofs.lemmas.List.{length-take-le, take_rest}
use Rattle.fts_pack.proofs.ListsLemmas.{on_err}
use Rattle.fts_parts.proofs.RanksLemmas.{Offers-part, OffersLast-part}
use Rattle.fts_parts.proofs.ranks.Ranking.offer_by_blocks.Goals as goal

pub loop-left-preserved : goal.loop-left-preserved
loop-left-preserved c =
    let left = c.loop-left.left in
    let docs = c.args.docs.now in
    let size : length (take left docs) ≡ left = length-take-le left docs c.loop-left.invariant.within in
    let up : c.block_start-start.result ≤ left = omega (arith, size, c.block_start-start.ensures.start) in
    record {
      kept =
          Offers-part c.args.self.now docs c.block_start-start.result left c.args.top_k.now c.loop-left.top_k _ up c.loop-left.invariant.within
          c.loop-left.invariant.kept
          (rw (take_rest (take left docs) c.block_start-start.result) at c.in_ok-offer_block.ensures.ok);
      within = omega (arith, up, c.loop-left.invariant.within);
    }

pub returns-in_err-offer_block-clause-err : goal.returns-in_err-offer_block-clause-err
returns-in_err-offer_block-clause-err c =
    let left = c.loop-left.left in
    let docs = c.args.docs.now in
    let size : length (take left docs) ≡ left = length-take-le left docs c.loop-left.invariant.within in
    let up : c.block_start-start.result ≤ left = omega (arith, size, c.block_start-start.ensures.start) in
    on_err c.from_residual.result _
    (OffersLast-part c.args.self.now docs c.block_start-start.result left c.args.top_k.now c.loop-left.top_k _ up c.loop-left.invariant.within
    c.loop-left.invariant.kept
    (rw (take_rest (take left docs) c.block_start-start.result) at c.in_err-offer_block.ensures.err))
