use Rattle.std.proofs.Common.{length}
use Rattle.fts_parts.proofs.groups.+merged_groups.Given as goal

abbrev pub decreases-merged_groups : goal.decreases-merged_groups
decreases-merged_groups l = length l.parts.now
