-- The positions of a term, posting by posting.
use Rattle.std.specs.Prelude.{ℕ, ◌==◌, Option, List, [], ◌∷◌, ◌++◌, map, filter, cond}
use Rattle.fts_segment.specs.declared.term_groups.DocPosition.{DocPosition}
use Rattle.fts_model.specs.declared.schema.Kind.{Kind}
use Rattle.fts_model.specs.declared.value.FieldValue.{FieldValue}
use Rattle.fts_model.specs.declared.value.FieldValue.TheVariants as values
use Rattle.fts_segment.specs.Occurrences.{OccurrenceValue, is_term, tokens_of, holds}
use Rattle.fts_segment.specs.Segments.{positions_among}

-- the positions of places, one list for each document, if `list` has the earlier positions in document `doc`
abbrev pub position_lists_from : ℕ → List ℕ → List DocPosition → List (List ℕ)
position_lists_from doc list [] = list ∷ []
position_lists_from doc list (p ∷ ps) = cond (p.doc == doc)
    (position_lists_from doc (list ++ p.position ∷ []) ps) (list ∷ position_lists_from p.doc (p.position ∷ []) ps)

-- the positions of places, one list for each document
abbrev pub position_lists_of : List DocPosition → List (List ℕ)
position_lists_of [] = []
position_lists_of (p ∷ ps) = position_lists_from p.doc (p.position ∷ []) ps

-- the place of an occurrence: its document and its position
abbrev pub place_of : OccurrenceValue → DocPosition
place_of o = record { doc = o.doc; position = o.position }

-- the places of the occurrences of a term
abbrev pub places_with : List ℕ → List OccurrenceValue → List DocPosition
places_with term os = map place_of (filter (is_term term) os)

-- the positions of a term, one list for each document that has it
abbrev pub position_lists_with : List ℕ → List OccurrenceValue → List (List ℕ)
position_lists_with term os = position_lists_of (places_with term os)

-- the positions of a text in each of the values that have it as a token; a number or a list of texts as a term has none
abbrev pub value_position_lists : Kind → FieldValue → List (Option FieldValue) → List (List ℕ)
value_position_lists kind (values.Text text) vs =
    map (λ v. positions_among text (tokens_of kind v)) (filter (holds kind (values.Text text)) vs)
value_position_lists kind (values.Texts texts) vs = []
value_position_lists kind (values.Number n) vs = []
