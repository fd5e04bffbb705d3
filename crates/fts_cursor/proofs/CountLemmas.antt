-- How many numbers of a column are between two.
use Rattle.std.proofs.Common.{◌≡◌, ℕ, Option, None, List, length, arith}
use Rattle.fts_pack.specs.column.Column.{is_within}
use Rattle.fts_segment.specs.Between.{count_between}
use Rattle.fts_postings.specs.Windows.{passing}
use Rattle.fts_sets.specs.Leaves.{has_within}
use Rattle.fts_sets.proofs.SetLemmas.{count-from}

-- as many documents have a number of these as there are such numbers
pub count-within : (low high : ℕ) (column : List (Option ℕ)) → length (passing (has_within low high column) 0 (length column)) ≡ count_between low high column
count-within low high column = count-from None (is_within low high) column 0 (length column) (omega arith)
