-- The dictionary of a keyword field has the distinct texts of its documents, in order.
use Rattle.std.proofs.lemmas.Bool.{lt-ltb}
use Rattle.std.proofs.lemmas.Option.{slice_get_within, get_or_from_slice_get}
use Rattle.std.proofs.lemmas.Slice.Eq.{bytes_eq-Decides}
use Rattle.std.proofs.Common.{◌≡◌, ◌+◌, ℕ, zero, suc, Bool, true, false, List, [], ◌∷◌, Option, Some, None, length, map, Contains, refl}
use Rattle.std.proofs.Common.{sym, ap, subst, ◌∙◌, ⊎_elim, arith}
use Rattle.std.specs.Prelude.{slice_get, nat_lt}
use Rattle.fts_model.specs.declared.schema.Kind.TheVariants as kinds
use Rattle.fts_model.specs.declared.value.FieldValue.{FieldValue}
use Rattle.fts_model.specs.declared.value.FieldValue.TheVariants as values
use Rattle.fts_segment.specs.declared.dictionary.Dictionary.{Dictionary}
use Rattle.fts_segment.specs.FieldIndexes.{AreTerms}
use Rattle.fts_segment.specs.Keywords.{keyword_of, texts_in, texts_of, in_order, before}
use Rattle.fts_segment.specs.Occurrences.{OccurrenceValue, occurrences, occurrence_at, docs_of, is_term}
use Rattle.fts_segment.specs.Dictionaries.{IsDictionaryOf, occurs}
use Rattle.fts_segment.specs.Sorted.{Ascends}
use Rattle.fts_segment.proofs.HoldingLemmas.{docs_of-cons}
use Rattle.fts_segment.proofs.KeywordsLemmas.{here, there, either, none, same_texts, climbs_by_place, in_order-climbs, in_order-has, in_order-only, before-at}

abbrev texts : List (Option FieldValue) → List (List ℕ)
texts vs = texts_in (map (keyword_of kinds.Keyword) vs)

some_counted : (n : ℕ) (ns : List ℕ) → nat_lt 0 (length (n ∷ ns)) ≡ true
some_counted n ns = lt-ltb 0 (suc (length ns)) (omega arith)

-- a text that occurs is the text of a value
occurring : (doc : ℕ) (vs : List (Option FieldValue)) (q : List ℕ) → occurs (occurrences kinds.Keyword doc vs) q ≡ true → Contains (texts vs) q
occurring doc [] q h = cc
occurring doc (None ∷ vs) q h = occurring (doc + 1) vs q h
occurring doc (Some (values.Number n) ∷ vs) q h = occurring (doc + 1) vs q h
occurring doc (Some (values.Texts ts) ∷ vs) q h = occurring (doc + 1) vs q h
occurring doc (Some (values.Text t) ∷ vs) q h = by (is_term q (occurrence_at doc (0, t))) refl (occurring (doc + 1) vs q)
  where
    os : List OccurrenceValue
    os = occurrences kinds.Keyword (doc + 1) vs

    by : (b : Bool) → is_term q (occurrence_at doc (0, t)) ≡ b → (occurs os q ≡ true → Contains (texts vs) q) → Contains (t ∷ texts vs) q
    by true is later = subst (Contains (t ∷ texts vs)) ((bytes_eq-Decides t q).0 is) (here t (texts vs))
    by false is later = there t q (texts vs) (later (sym (ap (λ ns. nat_lt 0 (length ns)) (docs_of-cons q (occurrence_at doc (0, t)) os false is)) ∙ h))

-- the text of a value occurs
occurs_there : (doc : ℕ) (vs : List (Option FieldValue)) (q : List ℕ) → Contains (texts vs) q → occurs (occurrences kinds.Keyword doc vs) q ≡ true
occurs_there doc [] q h = absurd (none q h)
occurs_there doc (None ∷ vs) q h = occurs_there (doc + 1) vs q h
occurs_there doc (Some (values.Number n) ∷ vs) q h = occurs_there (doc + 1) vs q h
occurs_there doc (Some (values.Texts ts) ∷ vs) q h = occurs_there (doc + 1) vs q h
occurs_there doc (Some (values.Text t) ∷ vs) q h = by (is_term q (occurrence_at doc (0, t))) refl (occurs_there (doc + 1) vs q)
  where
    os : List OccurrenceValue
    os = occurrences kinds.Keyword (doc + 1) vs

    by : (b : Bool) → is_term q (occurrence_at doc (0, t)) ≡ b → (Contains (texts vs) q → occurs os q ≡ true) → occurs (occurrence_at doc (0, t) ∷ os) q ≡ true
    by true is later = ap (λ ns. nat_lt 0 (length ns)) (docs_of-cons q (occurrence_at doc (0, t)) os true is) ∙ some_counted doc (docs_of q os)
    by false is later = ap (λ ns. nat_lt 0 (length ns)) (docs_of-cons q (occurrence_at doc (0, t)) os false is)
        ∙ later (⊎_elim (λ same. let clash : true ≡ false = sym ((bytes_eq-Decides t q).1 same) ∙ is in cc) (λ behind. behind) (either t q (texts vs) h))

pub names_are_texts : (vs : List (Option FieldValue)) (names lists positions : List (List ℕ)) →
    IsDictionaryOf (occurrences kinds.Keyword 0 vs) names lists positions → names ≡ texts_of kinds.Keyword vs
names_are_texts vs names lists positions index =
    same_texts names (in_order (texts vs)) (climbs_by_place names index.ascends) (in_order-climbs (texts vs))
    (λ q h. in_order-has (texts vs) q (occurring 0 vs q (subst (λ k. occurs (occurrences kinds.Keyword 0 vs) k ≡ true) h.2 (index.occur h.0 q h.1))))
    (λ q h. index.whole q (occurs_there 0 vs q (in_order-only (texts vs) q h)))

pub terms_are_texts : (vs : List (Option FieldValue)) (dictionary : Dictionary) → AreTerms kinds.Keyword vs dictionary →
    dictionary.names ≡ texts_of kinds.Keyword vs
terms_are_texts vs dictionary terms = names_are_texts vs dictionary.names dictionary.lists dictionary.positions terms.dictionary_is

-- the text of a value is among the texts
pub text_among : (vs : List (Option FieldValue)) (t : List ℕ) → Contains vs (Some (values.Text t)) → Contains (texts_of kinds.Keyword vs) t
text_among vs t h = in_order-has (texts vs) t (there_is vs h)
  where
    there_is : (vs : List (Option FieldValue)) → Contains vs (Some (values.Text t)) → Contains (texts vs) t
    there_is [] (k, less, is) = absurd (omega (arith, less))
    there_is (v ∷ vs) (zero, less, is) = subst (λ v. Contains (texts (v ∷ vs)) t) (sym is) (here t (texts vs))
    there_is (None ∷ vs) (suc k, less, is) = there_is vs (k, omega (arith, less), is)
    there_is (Some (values.Number n) ∷ vs) (suc k, less, is) = there_is vs (k, omega (arith, less), is)
    there_is (Some (values.Texts ts) ∷ vs) (suc k, less, is) = there_is vs (k, omega (arith, less), is)
    there_is (Some (values.Text s) ∷ vs) (suc k, less, is) = there s t (texts vs) (there_is vs (k, omega (arith, less), is))

-- a text at an index has as many texts before it
pub number_of_text : (names : List (List ℕ)) (i : ℕ) (t : List ℕ) → Ascends names → slice_get names i ≡ Some t → i ≡ before names t
number_of_text names i t up found =
    sym (before-at names i (climbs_by_place names up) (slice_get_within names i t found)) ∙ ap (before names) (get_or_from_slice_get names i t [] found)
