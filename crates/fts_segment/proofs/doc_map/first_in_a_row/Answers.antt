use Rattle.std.proofs.Common.{sym, ◌∙◌}
use Rattle.fts_segment.proofs.MovingLemmas.{AreInARow-renumbered}
use Rattle.fts_segment.proofs.doc_map.first_in_a_row.Goals as goal

pub returns-then-is_all_set : goal.returns-then-is_all_set
returns-then-is_all_set c = AreInARow-renumbered c.args.first c.args.live.now (sym c.is_all_set.ensures ∙ c.if-is_all_set.true) c.requires
