-- A range over the ordinals of a keyword field is one over the documents.
use Rattle.std.proofs.Common.{◌≡◌, ◌^◌, ◌<◌, ◌&&◌, ℕ, All, Bool, true, false, nat_le, Option, Some, None, IfSome, List, [], length, get_or, map, Contains}
use Rattle.std.proofs.Common.{unwrap_or, option_map, refl, sym, ap, ap₂, ◌∙◌, arith}
use Rattle.std.specs.List.{slice_get}
use Rattle.std.specs.Option.{option_map_or}
use Rattle.std.specs.declared.ops.Bound.{Bound}
use Rattle.std.specs.declared.ops.Bound.TheVariants.{Included, Excluded, Unbounded}
use Rattle.std.proofs.lemmas.Bool.{false≢true, le-leb}
use Rattle.std.proofs.lemmas.List.{get_or-map, length-map}
use Rattle.std.proofs.lemmas.Option.{get_or_from_slice_get, slice_get-map, slice_get_within, unwrap_or-slice_get}
use Rattle.std.proofs.Math.Bool.{and-false}
use Rattle.fts_model.specs.declared.operation.Stamped.{Stamped}
use Rattle.fts_model.specs.declared.schema.Kind.TheVariants as kinds
use Rattle.fts_model.specs.declared.value.FieldValue.{FieldValue}
use Rattle.fts_model.specs.declared.value.FieldValue.TheVariants as values
use Rattle.fts_model.specs.Documents.{DocumentValue, IsDocument, fits, is_of_kind, value_in_field}
use Rattle.fts_model.specs.Operations.{kind_at}
use Rattle.fts_model.specs.Queries.{admits_from, admits_to, is_bound_of}
use Rattle.fts_segment.specs.Keywords.{before, keyword_of, texts_of}
use Rattle.fts_segment.specs.Occurrences.{values_in}
use Rattle.fts_segment.specs.Segments.{SegmentValue, keywords, numbers_where, ordinals}
use Rattle.fts_segment.proofs.KeywordIndexLemmas.{text_among}
use Rattle.fts_segment.proofs.KeywordsLemmas.{from_excluded, from_included, to_excluded, to_included}
use Rattle.fts_segment.proofs.OccurrencesLemmas.{map-map}
use Rattle.fts_postings.specs.Windows.{passing}
use Rattle.fts_cursor.specs.Ranges.{IsLastOrdinal, ordinal_from, ordinal_to}
use Rattle.fts_pack.specs.column.Column.{is_within}
use Rattle.fts_sets.specs.Leaves.{has_within}
use Rattle.fts_cursor.proofs.FitLemmas.{are_of_kind, of_kind_at}
use Rattle.fts_cursor.proofs.HitsLemmas.{numbers_are, passing_are, test_at}
use Rattle.fts_cursor.proofs.RangeLemmas.{admits, small_of}

-- a bound admits a text that is among texts where it admits its ordinal
from_text : (ts : List (List ℕ)) (bound : Bound FieldValue) (t : List ℕ) → is_bound_of kinds.Keyword bound ≡ true → Contains ts t →
    nat_le (ordinal_from ts bound) (before ts t) ≡ admits_from bound (values.Text t)
from_text ts (Included (values.Text b)) t ok h = from_included ts b t h
from_text ts (Excluded (values.Text b)) t ok h = from_excluded ts b t h
from_text ts (Included (values.Number n)) t ok h = absurd (false≢true ok)
from_text ts (Included (values.Texts us)) t ok h = absurd (false≢true ok)
from_text ts (Excluded (values.Number n)) t ok h = absurd (false≢true ok)
from_text ts (Excluded (values.Texts us)) t ok h = absurd (false≢true ok)
from_text ts Unbounded t ok h = le-leb 0 (before ts t) (omega arith)

to_text : (ts : List (List ℕ)) (bound : Bound FieldValue) (t : List ℕ) → is_bound_of kinds.Keyword bound ≡ true → Contains ts t →
    ordinal_to ts bound (before ts t) ≡ admits_to bound (values.Text t)
to_text ts (Included (values.Text b)) t ok h = to_included ts b t h
to_text ts (Excluded (values.Text b)) t ok h = to_excluded ts b t h
to_text ts (Included (values.Number n)) t ok h = absurd (false≢true ok)
to_text ts (Included (values.Texts us)) t ok h = absurd (false≢true ok)
to_text ts (Excluded (values.Number n)) t ok h = absurd (false≢true ok)
to_text ts (Excluded (values.Texts us)) t ok h = absurd (false≢true ok)
to_text ts Unbounded t ok h = refl

-- what a range over documents is to the ordinals of a keyword field
pub record Ranked (segment : SegmentValue) (field : ℕ) (lower upper : Bound FieldValue) : Type 0 where
  pub keyword : kind_at segment.schema field ≡ Some kinds.Keyword
  pub low : is_bound_of kinds.Keyword lower ≡ true
  pub high : is_bound_of kinds.Keyword upper ≡ true
  pub documents : All (λ d. IsDocument d.value) segment.documents
  pub fitting : All (λ d. fits segment.schema d.value ≡ true) segment.documents
  pub small : (d x : ℕ) → get_or (ordinals segment field) d None ≡ Some x → x < 2 ^ 64

-- the ordinals that the bounds admit
abbrev ordinal_admits : List (List ℕ) → Bound FieldValue → Option ℕ → ℕ → Bool
ordinal_admits ts lower last x = nat_le (ordinal_from ts lower) x && option_map_or (λ high. nat_le x high) last false

abbrev Hit : Bound FieldValue → Bound FieldValue → ℕ → Stamped DocumentValue → Bool
Hit lower upper field e = option_map_or (admits lower upper) (value_in_field e.value field) false

module _ (segment : SegmentValue) (field : ℕ) (lower upper : Bound FieldValue) (last : Option ℕ) (h : Ranked segment field lower upper)
    (is_last : IsLastOrdinal (keywords segment field) upper last) where
  abbrev texts : List (List ℕ)
  texts = texts_of kinds.Keyword (values_in field segment.documents)

  abbrev ordinal : Option FieldValue → Option ℕ
  ordinal o = option_map (before texts) (keyword_of kinds.Keyword o)

  same_texts : keywords segment field ≡ texts
  same_texts = ap (λ k. option_map_or (λ kind. texts_of kind (values_in field segment.documents)) k []) h.keyword

  same_ordinals : ordinals segment field ≡ map (λ (e : Stamped DocumentValue). ordinal (value_in_field e.value field)) segment.documents
  same_ordinals = ap (λ k. option_map_or (λ kind. map (λ v. option_map (before (texts_of kind (values_in field segment.documents))) (keyword_of kind v))
      (values_in field segment.documents)) k []) h.keyword
      ∙ sym (map-map ordinal (λ (e : Stamped DocumentValue). value_in_field e.value field) segment.documents)

  by_value : (o : Option FieldValue) → Contains (values_in field segment.documents) o → IfSome (ordinal o) (λ x. x < 2 ^ 64) →
      IfSome o (λ v. is_of_kind kinds.Keyword v ≡ true) →
      option_map_or (admits lower upper) o false ≡ option_map_or (ordinal_admits texts lower last) (ordinal o) false
  by_value None there small is = refl
  by_value (Some (values.Texts us)) there small is = absurd (false≢true is)
  by_value (Some (values.Number n)) there small is = absurd (false≢true is)
  by_value (Some (values.Text t)) there small is =
      let among : Contains texts t = text_among (values_in field segment.documents) t there in
      sym (ap₂ (λ a b. a && b) (from_text texts lower t h.low among)
      (is_last (before texts t) small ∙ ap (λ ts. ordinal_to ts upper (before texts t)) same_texts ∙ to_text texts upper t h.high among))

  by_document : (s : Option (Stamped DocumentValue)) →
      ((e : Stamped DocumentValue) → s ≡ Some e → Contains (values_in field segment.documents) (value_in_field e.value field)
      × IfSome (ordinal (value_in_field e.value field)) (λ x. x < 2 ^ 64)) →
      ((e : Stamped DocumentValue) → s ≡ Some e → IfSome (value_in_field e.value field) (λ v. is_of_kind kinds.Keyword v ≡ true)) →
      option_map_or (Hit lower upper field) s false ≡ option_map_or (ordinal_admits texts lower last)
      (unwrap_or (option_map (λ (e : Stamped DocumentValue). ordinal (value_in_field e.value field)) s) None) false
  by_document None known are = refl
  by_document (Some e) known are = let k = known e refl in by_value (value_in_field e.value field) k.0 k.1 (are e refl)

  -- whether a document is a hit is what its ordinal says of it
  ordinal_hit : (d : ℕ) → test_at (Hit lower upper field) segment.documents d ≡ option_map_or (ordinal_admits texts lower last)
      (get_or (ordinals segment field) d None) false
  ordinal_hit d =
      let value : Stamped DocumentValue → Option FieldValue = λ e. value_in_field e.value field in
      let rank : Stamped DocumentValue → Option ℕ = λ e. ordinal (value_in_field e.value field) in
      let known : (e : Stamped DocumentValue) → slice_get segment.documents d ≡ Some e → Contains (values_in field segment.documents) (value e)
      × IfSome (rank e) (λ x. x < 2 ^ 64) = λ e there.
      let inside = slice_get_within segment.documents d e there in
      let here : get_or segment.documents d e ≡ e = get_or_from_slice_get segment.documents d e e there in
      let shown : get_or (ordinals segment field) d None ≡ rank e =
      ap (λ os. get_or os d None) same_ordinals ∙ get_or-map rank segment.documents d e None inside ∙ ap rank here in (
        (d, omega (arith, length-map segment.documents value, inside), get_or-map value segment.documents d e (value e) inside ∙ ap value here),
        small_of (rank e) (λ x is. h.small d x (shown ∙ is)),
      ) in
      by_document (slice_get segment.documents d) known
      (of_kind_at kinds.Keyword field segment.documents (are_of_kind segment field kinds.Keyword h.documents h.fitting h.keyword) d)
      ∙ ap (λ o. option_map_or (ordinal_admits texts lower last) o false)
      (ap (λ o. unwrap_or o None) (sym (slice_get-map rank segment.documents d)) ∙ unwrap_or-slice_get (map rank segment.documents) d None
      ∙ ap (λ os. get_or os d None) (sym same_ordinals))

  by_within : (high : ℕ) → last ≡ Some high → (o : Option ℕ) → is_within (ordinal_from (keywords segment field) lower) high o
      ≡ option_map_or (ordinal_admits texts lower last) o false
  by_within high is None = refl
  by_within high is (Some x) = ap₂ (λ ts l. nat_le (ordinal_from ts lower) x && option_map_or (λ high. nat_le x high) l false) same_texts (sym is)

  none_within : last ≡ None → (o : Option ℕ) → option_map_or (ordinal_admits texts lower last) o false ≡ false
  none_within is None = refl
  none_within is (Some x) = ap (λ l. nat_le (ordinal_from texts lower) x && option_map_or (λ high. nat_le x high) l false) is
      ∙ and-false (nat_le (ordinal_from texts lower) x)

  pub keyword_hits : (high : ℕ) → last ≡ Some high →
      passing (has_within (ordinal_from (keywords segment field) lower) high (ordinals segment field)) 0 (length segment.documents)
      ≡ numbers_where (Hit lower upper field) 0 segment.documents
  keyword_hits high is =
      passing_are (Hit lower upper field) segment.documents (has_within (ordinal_from (keywords segment field) lower) high (ordinals segment field))
      (λ d inside. by_within high is (get_or (ordinals segment field) d None) ∙ sym (ordinal_hit d))

  pub no_keyword : last ≡ None → [] ≡ numbers_where (Hit lower upper field) 0 segment.documents
  no_keyword is = numbers_are (Hit lower upper field) segment.documents [] tt
      (λ d. sym (ordinal_hit d ∙ none_within is (get_or (ordinals segment field) d None)))
