use Rattle.std.proofs.Common.{ap, length, arith}
use Rattle.fts_pack.proofs.ListsLemmas.{buffers, length-lists_in, start_read}
use Rattle.fts_pack.proofs.lists.Lists.start.Goals as goal

pub index-requires : goal.index-requires
index-requires c = let n = c.self.inside in
    omega (arith, c.requires, n.entries.ok.0, ap length c.self.view_is, length-lists_in (buffers n) 0 n.entries.items)

pub returns-else-number-eq0 : goal.returns-else-number-eq0
returns-else-number-eq0 c = let n = c.self.inside in
    start_read (buffers n) n.entries.items c.args.self.now c.args.number c.index.result.now c.self.invariant c.self.view_is c.if-number-eq0.false c.requires
    c.index.ensures
