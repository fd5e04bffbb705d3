-- Those marked are some of those of the window.
use Rattle.std.proofs.Common.{suc, ◌-◌, arith}
use Rattle.fts_postings.specs.Windows.{is_found}
use Rattle.fts_postings.proofs.CostLemmas.{scan_cost}
use Rattle.fts_postings.proofs.window.Window.cost.Goals as goal

pub returns : goal.returns
returns c =
    let w = c.args.self.now in
    omega (arith, scan_cost (is_found w.base w.words) w.from (suc w.last - w.from) 0)
