use Rattle.std.proofs.Common.{length}
use Rattle.fts_segment.proofs.dictionary_merge.+merge_dictionaries.Given as goal

abbrev pub decreases-merge_dictionaries : goal.decreases-merge_dictionaries
decreases-merge_dictionaries l = length l.sources.now
