use Rattle.std.proofs.Common.{subst, sym}
use Rattle.fts_cli.specs.RunOptions.{AreInRange}
use Rattle.fts_cli.proofs.RangeLemmas.{in_range}
use Rattle.fts_cli.proofs.args.args.Goals as goal

pub options-requires : goal.options-requires
options-requires c =
    let parsed = c.in-Ok.ensures in
    subst AreInRange (sym parsed.2) (in_range parsed.0 _ parsed.1)
