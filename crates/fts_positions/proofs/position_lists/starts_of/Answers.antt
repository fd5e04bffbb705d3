use Rattle.std.proofs.Common.{◌≡◌, ◌+◌, ◌-◌, ◌*◌, ◌++◌, ◌∷◌, [], length, get_or, take, drop, sum, ap, ◌∙◌, inl, inr, arith}
use Rattle.std.proofs.lemmas.Bool.{cases_lt}
use Rattle.std.proofs.lemmas.List.{get_or_append_left, length_push}
use Rattle.std.proofs.Math.Seq.{get_or-append_seam}
use Rattle.fts_pack.specs.Documents.{block_at}
use Rattle.fts_pack.proofs.DocumentsLemmas.{block_sliced}
use Rattle.fts_pack.proofs.SumLemmas.{sum-take-add}
use Rattle.fts_positions.proofs.UnpackedLemmas.{sum-within}
use Rattle.fts_positions.proofs.position_lists.starts_of.Goals as goal
use Rattle.fts_positions.proofs.position_lists.starts_of.Goals.{After-min-end}

-- the counts of the block
block_of : (c : After-min-end) → take (c.min-end.result - c.loop-block.block * 128) (drop (c.loop-block.block * 128) c.args.counts.now)
    ≡ block_at c.args.counts.now c.loop-block.block
block_of c = block_sliced c.args.counts.now c.loop-block.block c.min-end.result c.min-end.ensures

-- the sum of the counts up to it and in it
sum_of : (c : After-min-end) → sum (take ((c.loop-block.block + 1) * 128) c.args.counts.now)
    ≡ c.loop-block.start + sum (take (c.min-end.result - c.loop-block.block * 128) (drop (c.loop-block.block * 128) c.args.counts.now))
sum_of c =
    let counts = c.args.counts.now in
    let block = c.loop-block.block in
    let next : (block + 1) * 128 ≡ block * 128 + 128 = omega arith in
    ap (λ n. sum (take n counts)) next ∙ sum-take-add (block * 128) 128 counts
    ∙ (let same : sum (take (block * 128) counts) + sum (block_at counts block) ≡ c.loop-block.start + sum
    (take (c.min-end.result - block * 128) (drop (block * 128) counts)) = omega (arith, c.loop-block.invariant.next, ap sum (block_of c)) in same)

pub total-start-requires : goal.total-start-requires
total-start-requires c =
    let a = (goal.at.total-start-requires c).After-min-end in
    omega (arith, sum_of a, sum-within c.args.counts.now ((c.loop-block.block + 1) * 128), c.requires)

pub overflow_add-start : goal.overflow_add-start
overflow_add-start c =
    let a = (goal.at.overflow_add-start c).After-min-end in
    omega (arith, c.total-start.ensures, sum_of a, sum-within c.args.counts.now ((c.loop-block.block + 1) * 128), c.requires)

pub loop-block-preserved : goal.loop-block-preserved
loop-block-preserved c =
    let a = (goal.at.loop-block-preserved c).After-min-end in
    let l = c.loop-block in
    let long = length_push l.starts.items l.start in
    record {
      many = ap length c.in_ok-push.ensures.items ∙ (let same : length (c.loop-block.starts.items ++ c.loop-block.start ∷ []) ≡ l.block + 1 =
          omega (arith, long, l.invariant.many) in same);
      next = omega (arith, c.total-start.ensures, sum_of a);
      are = λ block below. ap (λ ss. get_or ss block 0) c.in_ok-push.ensures.items ∙ elim (cases_lt block l.block) [
        | inl old ↦ get_or_append_left l.starts.items (l.start ∷ []) 0 block (omega (arith, old, l.invariant.many)) ∙ l.invariant.are block old
        | inr last ↦
            let here : block ≡ length l.starts.items = omega (arith, below, last, l.invariant.many) in
            let this : l.block ≡ block = omega (arith, below, last) in
            ap (λ k. get_or (l.starts.items ++ l.start ∷ []) k 0) here ∙ get_or-append_seam l.starts.items l.start [] 0 ∙ l.invariant.next
            ∙ ap (λ n. sum (take (n * 128) c.args.counts.now)) this
      ];
    }
