-- The rest of the proof of `commits::groups::groups`.
use Rattle.std.proofs.Common.{◌≤◌, ◌+◌, length, take, sym, ap, ◌∙◌, arith}
use Rattle.std.proofs.lemmas.List.{length-append, length-take-le}
use Rattle.std.proofs.lemmas.List.Elements.{All-from_recursion, All-same}
use Rattle.fts_model.specs.Operations.{added, added_by}
use Rattle.fts_snapshots.specs.Cuts.{dealt_from, groups_of, place_of}
use Rattle.fts_snapshots.specs.Groups.{documents_in}
use Rattle.fts_snapshots.proofs.EntryLemmas.{added_more, length-added}
use Rattle.fts_snapshots.proofs.CutLemmas.{groups_of-append, groups_within}
use Rattle.fts_snapshots.proofs.CountLemmas.{fits_there}
use Rattle.fts_snapshots.proofs.commits.groups.groups.Goals as goal

pub put_added-requires-clause-small : goal.put_added-requires-clause-small
put_added-requires-clause-small c =
    let before = take c.loop-op.op-index c.args.ops.now in
    omega (arith, c.loop-op.invariant.counted, length-added before, length-take-le c.loop-op.op-index c.args.ops.now)

pub put_added-requires-clause-few : goal.put_added-requires-clause-few
put_added-requires-clause-few c =
    let op = c.op-item.result in
    let before = added (take c.loop-op.op-index c.args.ops.now) in
    let more = added_by op.stamp op.value in
    let after = added (take (c.loop-op.op-index + 1) c.args.ops.now) in
    let next = added_more c.args.ops.now c.loop-op.op-index op c.loop-op-test.true c.op-item.is in
    let all = groups_of-append c.args.cut before more in
    All-same (λ g. length g ≤ 65536) (dealt_from (place_of c.args.cut) c.loop-op.count (documents_in c.loop-op.groups.items) more) (groups_of c.args.cut after) (cc)
    (All-from_recursion (λ g. length g ≤ 65536) (groups_of c.args.cut after) (groups_within c.args.cut after c.requires.cut))

pub put_added-requires-clause-fits : goal.put_added-requires-clause-fits
put_added-requires-clause-fits c =
    fits_there c.args.schema.now c.args.ops.now c.loop-op.op-index c.op-item.result c.requires.fits c.loop-op-test.true c.op-item.is

pub loop-op-preserved : goal.loop-op-preserved
loop-op-preserved c =
    let cut = c.args.cut in
    let op = c.op-item.result in
    let before = added (take c.loop-op.op-index c.args.ops.now) in
    let more = added_by op.stamp op.value in
    let next = added_more c.args.ops.now c.loop-op.op-index op c.loop-op-test.true c.op-item.is in
    record {
      schema = c.in_ok-count.ensures.schema;
      dealt =
          c.in_ok-count.ensures.groups
          ∙ ap (λ n. dealt_from (place_of cut) n (documents_in c.loop-op.groups.items) more) c.loop-op.invariant.counted
          ∙ ap (λ gs. dealt_from (place_of cut) (length before) gs more) c.loop-op.invariant.dealt
          ∙ groups_of-append cut before more
          ∙ ap (groups_of cut) next;
      counted = c.in_ok-count.ensures.count ∙ ap (λ n. n + length more) c.loop-op.invariant.counted ∙ sym (length-append before more) ∙ ap length next;
    }
