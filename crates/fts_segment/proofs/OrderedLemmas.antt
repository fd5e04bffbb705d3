-- The sorted numbers of a field, from its index.
use Rattle.std.proofs.Common.{◌≡◌, ◌≤◌, ℕ, true, false, cond, List, Option, Some, None, length, sym, ap, ap₂, subst, ◌∙◌, arith}
use Rattle.std.specs.Prelude.{slice_get, option_map}
use Rattle.std.specs.Borrow.{Bor}
use Rattle.std.specs.Option.{option_map_or}
use Rattle.fts_model.specs.declared.schema.Kind.{Kind}
use Rattle.fts_model.specs.declared.schema.Kind.TheVariants as kinds
use Rattle.fts_model.specs.declared.value.FieldValue.{FieldValue}
use Rattle.fts_model.specs.Queries.{is_number_field}
use Rattle.fts_model.specs.Schemas.{holds_numbers}
use Rattle.fts_segment.specs.declared.keyword_index.KeywordIndex.{KeywordIndex}
use Rattle.fts_segment.specs.declared.number_index.NumberIndex.{NumberIndex}
use Rattle.fts_segment.specs.declared.sorted_column.SortedColumn.{SortedColumn}
use Rattle.fts_segment.specs.Between.{IsCut, NumberColumn}
use Rattle.fts_segment.specs.FieldIndexes.{AreKeywords, AreNumbers}
use Rattle.fts_segment.specs.Keywords.{ordinals_of}
use Rattle.fts_segment.specs.Numbers.{IsNumberIndex, numbers_of}
use Rattle.fts_segment.specs.Occurrences.{values_in}
use Rattle.fts_segment.specs.SortedColumns.{IsOrdered, column_in, column_of, different, numbers_in}
use Rattle.fts_segment.specs.Segments.{SegmentValue, column, ordinals}
use Rattle.fts_segment.proofs.BetweenLemmas.{IsNumberIndex-keywords, numbers_count}
use Rattle.fts_segment.proofs.FieldLemmas.{numbers_of-values, ordinals_of-values}

-- the sorted ordinals of a keyword field
pub IsOrdered-keywords : (kind : Kind) (vs : List (Option FieldValue)) (index : KeywordIndex) (o : SortedColumn) → AreKeywords kind vs index →
    o.column.now ≡ index.ordinals → o.numbers ≡ None → o.lists.now ≡ index.dictionary.lists →
    IsOrdered (column_of kind vs) o
IsOrdered-keywords kind vs index o are column_is none lists_are =
    let P : Kind → Type 0 = λ kind. AreKeywords kind vs index → IsOrdered (column_of kind vs) o in
    let Q : Option (Bor (List ℕ)) → List (List ℕ) → Type 0 = λ ns ls. IsNumberIndex (ordinals_of kinds.Keyword vs) (different ns (length ls)) ls in
    subst P (sym are.kind_is) (λ (are : AreKeywords kinds.Keyword vs index). record {
      column_is = column_is ∙ are.ordinals;
      index_is = subst (λ ns. Q ns o.lists.now) (sym none) (subst (Q None) (sym lists_are) (IsNumberIndex-keywords vs index.dictionary are.terms));
    }) are

pub IsOrdered-numbers : (kind : Kind) (vs : List (Option FieldValue)) (index : NumberIndex) (o : SortedColumn) (numbers : Bor (List ℕ)) → AreNumbers kind vs index →
    o.column.now ≡ index.column → o.numbers ≡ Some numbers → numbers.now ≡ index.numbers.items → o.lists.now ≡ index.lists →
    IsOrdered (column_of kind vs) o
IsOrdered-numbers kind vs index o numbers are column_is some numbers_are lists_are =
    let which = ap (λ b. cond b (numbers_of kind vs) (ordinals_of kind vs)) are.kind_is in
    let Q : List ℕ → List (List ℕ) → Type 0 = IsNumberIndex (numbers_of kind vs) in
    let R : Option (Bor (List ℕ)) → Type 0 = λ ns. Q (different ns (length o.lists.now)) o.lists.now in
    subst (λ column. IsOrdered column o) (sym which) (record {
      column_is = column_is ∙ are.column_is;
      index_is = subst R (sym some) (subst (λ ns. Q ns o.lists.now) (sym numbers_are) (subst (Q index.numbers.items) (sym lists_are) are.index_is));
    })

-- a cut of the numbers is one of the lists
pub cut_inside : (column : NumberColumn) (o : SortedColumn) (bound place : ℕ) → IsOrdered column o → IsCut (numbers_in o) bound place → place ≤ length o.lists.now
cut_inside column o bound place are cut = omega (arith, cut.within, numbers_count column (numbers_in o) o.lists.now are.index_is)

-- the column of a field is that of its values
pub column_of-values : (segment : SegmentValue) (f : ℕ) (kind : Kind) → option_map (λ f. f.kind) (slice_get segment.schema f) ≡ Some kind →
    column_of kind (values_in f segment.documents) ≡ column_in segment f
column_of-values segment f kind here =
    ap₂ (λ ns os. cond (holds_numbers kind) ns os) (numbers_of-values segment f kind here) (ordinals_of-values segment f kind here)
    ∙ ap (λ o. cond (option_map_or holds_numbers o false) (column segment f) (ordinals segment f)) (sym here)

pub column_in-number : (segment : SegmentValue) (f : ℕ) → is_number_field segment.schema f ≡ true → column_in segment f ≡ column segment f
column_in-number segment f number = ap (λ b. cond b (column segment f) (ordinals segment f)) number

pub column_in-keyword : (segment : SegmentValue) (f : ℕ) → is_number_field segment.schema f ≡ false → column_in segment f ≡ ordinals segment f
column_in-keyword segment f keyword = ap (λ b. cond b (column segment f) (ordinals segment f)) keyword
