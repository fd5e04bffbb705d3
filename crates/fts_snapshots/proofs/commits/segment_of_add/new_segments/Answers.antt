-- The rest of the proof of `commits::segment_of_add::new_segments`.
use Rattle.std.proofs.Common.{◌<◌, ◌+◌, length, sym, ap, ◌∙◌, arith}
use Rattle.std.proofs.lemmas.List.{take_all}
use Rattle.fts_model.specs.Operations.{added}
use Rattle.fts_snapshots.specs.Cuts.{groups_of}
use Rattle.fts_snapshots.proofs.CutLemmas.{groups_there, groups_beyond}
use Rattle.fts_snapshots.proofs.commits.segment_of_add.new_segments.Goals as goal
use Rattle.fts_snapshots.proofs.commits.segment_of_add.new_segments.Goals.{then-segment_of_add-segments, else-segment_of_add-segments}

pub loop-j-preserved : goal.loop-j-preserved
loop-j-preserved c =
    let xs = added c.args.ops.now in
    let l = c.loop-j in
    let there : l.j < length xs = omega (arith, c.loop-j-test.true, c.adds_in-j-end.ensures) in
    elim c.if-segment_of_add-segments.branch [
      | then-segment_of_add-segments w ↦ record {
        counted =
            w.segments-is
            ∙ ap (λ n. n + 1) l.invariant.counted
            ∙ sym (groups_beyond c.args.cut xs l.j there (omega (arith, w.if-segment_of_add-segments.true, c.segment_of_add.ensures, l.invariant.counted)));
        few = omega (arith, w.segments-is, l.invariant.few);
      }
      | else-segment_of_add-segments w ↦ record {
        counted =
            w.segments-is
            ∙ l.invariant.counted
            ∙ sym (groups_there c.args.cut xs l.j there (omega (arith, w.if-segment_of_add-segments.false, c.segment_of_add.ensures, l.invariant.counted)));
        few = omega (arith, w.segments-is, l.invariant.few);
      }
    ]

pub returns : goal.returns
returns c =
    let xs = added c.args.ops.now in
    c.loop-j.invariant.counted
    ∙ ap (λ ys. length (groups_of c.args.cut ys)) (take_all c.loop-j.j xs (omega (arith, c.loop-j-test.false, c.adds_in-j-end.ensures)))
