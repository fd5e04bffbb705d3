use Rattle.std.proofs.Common.{◌++◌, ap, ◌∙◌, arith}
use Rattle.std.specs.Prelude.{slice_range}
use Rattle.fts_positions.proofs.UnpackedLemmas.{copied-step}
use Rattle.fts_positions.proofs.block_reader.BlockReader.copy.Goals as goal

pub loop-at-preserved : goal.loop-at-preserved
loop-at-preserved c =
    let l = c.loop-at in
    let numbers = c.args.self.now.numbers.now in
    record {
      same = c.copy_some.ensures.same ∙ l.invariant.same;
      copied = copied-step numbers l.out.items c.copy_some.new.out.items (c.args.out.now.items ++ slice_range numbers c.args.start c.args.end) l.at
          c.in_ok-at.at c.args.end (omega (arith, c.in_ok-at.ensures.on)) c.in_ok-at.ensures.within
          (c.in_ok-at.ensures.copied ∙ ap (λ ns. l.out.items ++ slice_range ns l.at c.in_ok-at.at) l.invariant.same) l.invariant.copied;
    }
