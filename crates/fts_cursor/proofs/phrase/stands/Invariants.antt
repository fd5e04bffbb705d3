-- The positions of the first term that are left decide.
use Rattle.std.proofs.Common.{◌≡◌, ℕ, Some, length}
use Rattle.std.specs.List.{list_all, list_any, slice_get}
use Rattle.fts_positions.specs.PositionsLeft.{positions_left}
use Rattle.fts_postings.specs.Conjoined.{common_of}
use Rattle.fts_cursor.specs.Phrases.{is_behind}
use Rattle.fts_cursor.proofs.phrase.stands.Given as goal

abbrev pub invariant-loop-position : goal.invariant-loop-position
invariant-loop-position l = record {
  left : (doc : ℕ) → slice_get (common_of l.terms) 0 ≡ Some doc →
      list_any (λ p. list_all (is_behind l.fn.first.offset p doc) l.fn.others) (positions_left l.positions)
      ≡ list_any (λ p. list_all (is_behind l.fn.first.offset p doc) l.fn.others) (positions_left l.initial.positions);
  others : l.others ≡ l.fn.others;
}

abbrev pub decreases-loop-position : goal.decreases-loop-position
decreases-loop-position l = length (positions_left l.positions)
