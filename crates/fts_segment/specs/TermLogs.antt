-- Occurrences as the log stores them: terms by their ids.
use Rattle.std.specs.Prelude.{◌<◌, ℕ, List, [], length, map, slice_index, slice_index_or, All}
use Rattle.fts_segment.specs.declared.term_log.Occurrence.{Occurrence}
use Rattle.fts_segment.specs.Occurrences.{OccurrenceValue}

-- an occurrence with the name of its term in place of the id
abbrev pub occurrence_value : List (List ℕ) → Occurrence → OccurrenceValue
occurrence_value names occurrence =
    record { term = slice_index_or names occurrence.term []; doc = occurrence.doc; position = occurrence.position }

abbrev pub occurrence_values : List (List ℕ) → List Occurrence → List OccurrenceValue
occurrence_values names log = map (occurrence_value names) log

-- each occurrence is of a term that has a name
abbrev pub AreNamed : List (List ℕ) → List Occurrence → Type 0
AreNamed names log = All (λ occurrence. occurrence.term < length names) log

-- an occurrence with another id for its term, which is at the index of the old one
abbrev pub by_ordinal : List ℕ → Occurrence → Occurrence
by_ordinal ordinals occurrence = record {
  term = slice_index ordinals occurrence.term;
  doc = occurrence.doc;
  position = occurrence.position;
}
