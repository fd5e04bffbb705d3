-- The documents in which the phrase stands stay.
use Rattle.std.proofs.Common.{◌≡◌, ◌∷◌, length}
use Rattle.std.specs.List.{filter}
use Rattle.fts_postings.specs.Conjoined.{AllFollow, common_of}
use Rattle.fts_cursor.specs.Phrases.{phrase_at}
use Rattle.fts_cursor.proofs.phrase.settle.Given as goal

abbrev pub invariant-loop-doc : goal.invariant-loop-doc
invariant-loop-doc l = record {
  same : filter (phrase_at (l.initial.first ∷ l.initial.others)) (common_of l.terms) ≡ filter (phrase_at (l.initial.first ∷ l.initial.others))
      (common_of l.initial.terms);
  follows : AllFollow l.initial.terms l.terms;
  first : l.first ≡ l.initial.first;
  others : l.others ≡ l.initial.others;
}

abbrev pub decreases-loop-doc : goal.decreases-loop-doc
decreases-loop-doc l = length (common_of l.terms)
