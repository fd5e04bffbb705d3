use Rattle.std.proofs.Common.{ap, length, arith}
use Rattle.fts_pack.proofs.ListsLemmas.{buffers, length-lists_in}
use Rattle.fts_pack.proofs.lists.Lists.len.Goals as goal

pub returns : goal.returns
returns c = let n = c.self.inside in
    omega (arith, c.len.ensures, n.entries.ok.0, ap length c.self.view_is, length-lists_in (buffers n) 0 n.entries.items)
