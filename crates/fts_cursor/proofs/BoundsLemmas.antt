-- What the column of a field keeps, for both kinds of fields.
use Rattle.std.proofs.Common.{◌≡◌, ℕ, Bool, true, false, List, [], Option, length, refl, ap, ◌∙◌}
use Rattle.std.specs.Prelude.{if◌then◌else◌}
use Rattle.std.specs.Option.{option_map_or}
use Rattle.std.proofs.lemmas.List.{length-map}
use Rattle.fts_model.specs.Queries.{is_number_field, is_ordered_field}
use Rattle.fts_model.specs.Operations.{kind_at}
use Rattle.fts_model.specs.Schemas.{is_ordered}
use Rattle.fts_segment.specs.Keywords.{ordinals_of}
use Rattle.fts_segment.specs.Occurrences.{values_in}
use Rattle.fts_segment.specs.Segments.{SegmentValue, column, ordinals}
use Rattle.fts_cursor.specs.Ranges.{values_of}
use Rattle.fts_cursor.proofs.RangeLemmas.{kind_of}

of_two : (P : List (Option ℕ) → Type 0) (b : Bool) (xs ys : List (Option ℕ)) (first : b ≡ true → P xs) (second : b ≡ false → P ys) → P (if b then xs else ys)
of_two P true xs ys first second = first refl
of_two P false xs ys first second = second refl

-- what holds of numbers and of ordinals
pub by_kind : (P : List (Option ℕ) → Type 0) (segment : SegmentValue) (field : ℕ) → (is_number_field segment.schema field ≡ true → P (column segment field)) →
    (is_number_field segment.schema field ≡ false → P (ordinals segment field)) → P (values_of segment field)
by_kind P segment field = of_two P (is_number_field segment.schema field) (column segment field) (ordinals segment field)

-- there is one for each document
pub length-values : (segment : SegmentValue) (field : ℕ) → is_ordered_field segment.schema field ≡ true →
    length (values_of segment field) ≡ length segment.documents
length-values segment field ordered =
    let vs = values_in field segment.documents in
    let kind = kind_of (kind_at segment.schema field) is_ordered ordered in
    by_kind (λ xs. length xs ≡ length segment.documents) segment field (λ _. length-map segment.documents _)
    (λ _. ap (λ o. length (option_map_or (λ k. ordinals_of k vs) o [])) kind.1 ∙ length-map vs _ ∙ length-map segment.documents _)
