use Rattle.std.proofs.Common.{subst, sym}
use Rattle.std.specs.List.Sorted.{IsStrictlyIncreasing}
use Rattle.fts_pack.proofs.ListsLemmas.{buffers, list_rises}
use Rattle.fts_pack.proofs.lists.Lists.get.Goals as goal

pub new-requires-clause-rises : goal.new-requires-clause-rises
new-requires-clause-rises c = let n = c.self.inside in
    subst IsStrictlyIncreasing (sym c.stored.ensures.documents)
    (list_rises (buffers n) n.entries.items c.args.self.now c.args.number (record { end = 0; place = 0 }) c.self.invariant c.self.view_is c.requires)
