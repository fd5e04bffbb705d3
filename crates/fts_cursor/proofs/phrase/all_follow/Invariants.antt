-- The members that are left decide.
use Rattle.std.proofs.Common.{◌≡◌, ℕ, Some, drop}
use Rattle.std.specs.List.{list_all, slice_get}
use Rattle.fts_postings.specs.Conjoined.{common_of}
use Rattle.fts_cursor.specs.Phrases.{is_behind}
use Rattle.fts_cursor.proofs.phrase.all_follow.Given as goal

abbrev pub invariant-loop-k : goal.invariant-loop-k
invariant-loop-k l = record {
  follow : (doc : ℕ) → slice_get (common_of l.terms) 0 ≡ Some doc →
      list_all (is_behind l.offset l.position doc) (drop l.k l.initial.others) ≡ list_all (is_behind l.offset l.position doc) l.initial.others;
  same : l.others ≡ l.initial.others;
}
