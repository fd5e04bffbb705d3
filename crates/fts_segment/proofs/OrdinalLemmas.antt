-- From an ordinal back to a text: a document of the text's list has it.
use Rattle.std.proofs.Common.{◌≡◌, ◌-◌, ◌<◌, ℕ, true, List, [], Option, Some, None, length, get_or, sym, ap, subst, ◌∙◌, arith, Contains, MatchOption}
use Rattle.std.specs.Prelude.{slice_get, option_map}
use Rattle.std.proofs.lemmas.List.{get_or-take, get_or_default, length-map}
use Rattle.std.proofs.lemmas.Option.{slice_get_within, slice_get-get_or, slice_get-map}
use Rattle.std.proofs.lemmas.Slice.Eq.{bytes_eq-Decides}
use Rattle.fts_model.specs.declared.schema.Kind.TheVariants as kinds
use Rattle.fts_model.specs.declared.value.FieldValue.{FieldValue}
use Rattle.fts_model.specs.declared.value.FieldValue.TheVariants as values
use Rattle.fts_model.specs.declared.operation.Stamped.{Stamped}
use Rattle.fts_model.specs.Documents.{DocumentValue, value_in_field}
use Rattle.fts_pack.specs.Documents.{block_at, blocks_of, last_of}
use Rattle.fts_pack.specs.SourceLaws.{length-block_at, get_or-blocks_of}
use Rattle.fts_segment.specs.declared.dictionary.Dictionary.{Dictionary}
use Rattle.fts_segment.specs.FieldIndexes.{AreTerms, HasKeywordAt}
use Rattle.fts_segment.specs.Keywords.{texts_of}
use Rattle.fts_segment.specs.Occurrences.{docs_with, holds, occurrences, values_in}
use Rattle.fts_segment.specs.Segments.{numbers_where}
use Rattle.fts_segment.proofs.FieldLemmas.{text_found}
use Rattle.fts_segment.proofs.HoldingLemmas.{numbers_where-holds}
use Rattle.fts_segment.proofs.KeywordIndexLemmas.{terms_are_texts}

-- the last document of the first block of a list is in the list
pub last_of_first : (documents : List ℕ) → 0 < length documents → Contains documents (last_of (get_or (blocks_of documents) 0 []))
last_of_first documents some =
    let block = block_at documents 0 in
    let n = length block - 1 in
    let long = length-block_at documents 0 in
    let early : n < 128 = omega (arith, long, some) in
    let within : n < length documents = omega (arith, long, some) in
    let first = get_or-blocks_of documents 0 [] (omega (arith, some)) in
    let is : get_or documents n 0 ≡ last_of (get_or (blocks_of documents) 0 []) = sym (get_or-take 128 documents n 0 early) ∙ ap last_of (sym first) in
    (n, within, get_or_default documents n (last_of (get_or (blocks_of documents) 0 [])) 0 within ∙ is)

-- there are as many lists as texts
pub lists_count : (vs : List (Option FieldValue)) (dictionary : Dictionary) → AreTerms kinds.Keyword vs dictionary →
    length dictionary.lists ≡ length dictionary.names
lists_count vs dictionary are = ap length are.dictionary_is.listed ∙ length-map dictionary.names (λ q. docs_with q (occurrences kinds.Keyword 0 vs))

-- a value that has a text as its term is that text
pub holds_text : (text : List ℕ) (v : Option FieldValue) → holds kinds.Keyword (values.Text text) v ≡ true → v ≡ Some (values.Text text)
holds_text text None h = cc
holds_text text (Some (values.Text t)) h = ap (λ x. Some (values.Text x)) ((bytes_eq-Decides t text).0 h)
holds_text text (Some (values.Number n)) h = cc
holds_text text (Some (values.Texts ts)) h = cc

-- a document that is picked from the list of an ordinal has its text, and none is picked if there is no such text
pub keyword_there : (vs : List (Option FieldValue)) (dictionary : Dictionary) (ordinal : ℕ) (list : List ℕ) (o : Option ℕ) →
    AreTerms kinds.Keyword vs dictionary →
    ordinal < length dictionary.lists → list ≡ get_or dictionary.lists ordinal [] → MatchOption o (list ≡ []) (Contains list) →
    MatchOption o (slice_get (texts_of kinds.Keyword vs) ordinal ≡ None) (λ doc. HasKeywordAt vs ordinal doc)
keyword_there vs dictionary ordinal list None are inside found none =
    let within : ordinal < length dictionary.names = omega (arith, inside, lists_count vs dictionary are) in
    let is = text_found (get_or dictionary.names ordinal []) ordinal are (slice_get-get_or dictionary.names ordinal [] within) in
    absurd (is.1 (sym found ∙ none))
keyword_there vs dictionary ordinal list (Some doc) are inside found at =
    let names = dictionary.names in
    let within : ordinal < length names = omega (arith, inside, lists_count vs dictionary are) in
    let text = get_or names ordinal [] in
    let named : slice_get names ordinal ≡ Some text = slice_get-get_or names ordinal [] within in
    let is = text_found text ordinal are named in
    let member : Contains (numbers_where (holds kinds.Keyword (values.Text text)) 0 vs) doc =
    subst (λ ds. Contains ds doc) (found ∙ is.0) at in
    let held = numbers_where-holds (holds kinds.Keyword (values.Text text)) 0 vs doc member in
    let number : doc ≡ held.0 = omega (arith, held.1) in
    record {
      text = text;
      is = ap (λ ts. slice_get ts ordinal) (sym (terms_are_texts vs dictionary are)) ∙ named;
      has = ap (slice_get vs) number ∙ held.3 ∙ ap Some (holds_text text held.2 held.4);
    }

-- the document that is picked exists
pub document_within : (field : ℕ) (documents : List (Stamped DocumentValue)) (ordinal doc : ℕ) → HasKeywordAt (values_in field documents) ordinal doc →
    doc < length documents
document_within field documents ordinal doc h =
    omega (
      arith,
      slice_get_within (values_in field documents) doc (Some (values.Text h.text)) h.has,
      length-map documents
          (λ (d : Stamped DocumentValue). value_in_field d.value field),
    )

-- the picked document's value in the field is the text
text_there : (field : ℕ) (text : List ℕ) (d : DocumentValue) (o : Option (Stamped DocumentValue)) → option_map (λ d. value_in_field d.value field) o
    ≡ Some (Some (values.Text text)) →
    option_map (λ d. d.value) o ≡ Some d → value_in_field d field ≡ Some (values.Text text)
text_there field text d None has is = cc
text_there field text d (Some x) has is =
    let here : value_in_field x.value field ≡ Some (values.Text text) = cc in
    let same : x.value ≡ d = cc in
    ap (λ y. value_in_field y field) (sym same) ∙ here

pub document_text : (field : ℕ) (documents : List (Stamped DocumentValue)) (ordinal doc : ℕ) (d : DocumentValue)
    (h : HasKeywordAt (values_in field documents) ordinal doc) →
    option_map (λ d. d.value) (slice_get documents doc) ≡ Some d → value_in_field d field ≡ Some (values.Text h.text)
document_text field documents ordinal doc d h is =
    text_there field h.text d (slice_get documents doc) (sym (slice_get-map (λ (d : Stamped DocumentValue). value_in_field d.value field) documents doc)
    ∙ h.has) is
