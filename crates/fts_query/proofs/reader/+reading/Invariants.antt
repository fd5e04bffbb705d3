use Rattle.std.proofs.Common.{ℕ, ◌+◌, ◌*◌, ◌≤◌, length}
use Rattle.fts_query.specs.declared.reader.Level.{Level}
use Rattle.fts_query.specs.Gathering.{gathered_of}
use Rattle.fts_query.specs.Sequences.{part_seen}
use Rattle.fts_query.proofs.SequencesLemmas.{Goes, total_of}
use Rattle.fts_query.specs.declared.reader.Level.TheVariants as levels
use Rattle.fts_query.proofs.reader.+reading.Given as goal

-- the number of levels from a factor to a level
abbrev height : Level → ℕ
height levels.Conjunction = 1
height levels.Disjunction = 4
height levels.List = 7

abbrev pub decreases-unit_at : goal.decreases-unit_at
decreases-unit_at l = 20 * l.depth

abbrev pub decreases-factor_at : goal.decreases-factor_at
decreases-factor_at l = 20 * l.depth + 1

abbrev pub decreases-item_at : goal.decreases-item_at
decreases-item_at l = 20 * l.depth + 1 + height l.level

abbrev pub decreases-node_at : goal.decreases-node_at
decreases-node_at l = 20 * l.depth + 2 + height l.level

abbrev pub decreases-sequence_at : goal.decreases-sequence_at
decreases-sequence_at l = 20 * l.depth + 3 + height l.level

abbrev pub decreases-list_at : goal.decreases-list_at
decreases-list_at l = 20 * l.depth + 11

abbrev pub decreases-group_at : goal.decreases-group_at
decreases-group_at l = 20 * l.depth + 12

abbrev pub invariant-node_at-loop-next : goal.invariant-node_at-loop-next
invariant-node_at-loop-next l = (n : ℕ) → length l.fn.text ≤ n →
    Goes l.schema l.depth l.level (gathered_of l.clauses) l.rest (total_of l.schema l.depth l.level n (part_seen l.fn.first) l.fn.text)

abbrev pub decreases-node_at-loop-next : goal.decreases-node_at-loop-next
decreases-node_at-loop-next l = length l.rest
