use Rattle.std.proofs.Common.{length, ap, arith, string_bytes}
use Rattle.fts_base.proofs.PiecesLemmas.{length-pieces}
use Rattle.fts_model.proofs.texts.Joined.len.Goals as goal

pub returns : goal.returns
returns c =
    let t = c.self.inside in
    let same = ap length c.self.view_is in
    let long = length-pieces 0 (string_bytes t.bytes) t.ends.items in
    grind (arith, same, long, c.len.ensures)
