use Rattle.std.proofs.Common.{length, ap, arith}
use Rattle.fts_base.proofs.PiecesLemmas.{length-pieces}
use Rattle.fts_segment.proofs.names.Names.len.Goals as goal

pub returns : goal.returns
returns c = let n = c.self.inside in
    let same = ap length c.self.view_is in
    let long = length-pieces 0 n.bytes.items n.ends.items in grind (arith, same, long, c.len.ensures)
