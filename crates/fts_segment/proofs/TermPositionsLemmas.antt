-- The lists of positions of terms, which follow each other.
use Rattle.std.proofs.Common.{◌≡◌, ◌+◌, ◌-◌, ◌<◌, ◌≤◌, ℕ, zero, suc, List, [], ◌∷◌, ◌++◌, Some, flat_map, map, length, get_or, take, drop, sum, refl, sym, ap}
use Rattle.std.proofs.Common.{Option, ap₂, ◌∙◌, arith}
use Rattle.std.specs.Prelude.{slice_get}
use Rattle.std.proofs.lemmas.List.{drop_at, drop_more, drop-drop, get_or-map, length-append, length-map, take_at}
use Rattle.std.proofs.lemmas.Option.{get_or_from_slice_get, slice_get_within}
use Rattle.fts_model.specs.declared.schema.Kind.{Kind}
use Rattle.fts_model.specs.declared.value.FieldValue.{FieldValue}
use Rattle.fts_model.specs.declared.value.FieldValue.TheVariants as values
use Rattle.fts_pack.proofs.SumLemmas.{sum-cons}
use Rattle.fts_segment.specs.declared.dictionary.Dictionary.{Dictionary}
use Rattle.fts_segment.specs.FieldIndexes.{AreTerms}
use Rattle.fts_segment.specs.Occurrences.{docs_with, occurrences}
use Rattle.fts_segment.specs.Positions.{position_lists_with, value_position_lists}
use Rattle.fts_segment.specs.Postings.{documents_before, term_positions}
use Rattle.fts_segment.proofs.PositionsLemmas.{position_lists_with-occurrences}
use Rattle.fts_segment.proofs.PostingsLemmas.{paired-occurrences}
use Rattle.fts_positions.proofs.UnpackedLemmas.{sum-more, sum-within}

-- the documents of one more term
pub documents_before-more : (lists : List (List ℕ)) (i : ℕ) → i < length lists → documents_before lists (i + 1) ≡ documents_before lists i
    + length (get_or lists i [])
documents_before-more lists i within =
    let counts = map length lists in
    sum-more counts i (omega (arith, within, length-map lists length))
    ∙ ap (λ n. sum (take i counts) + n) (get_or-map length lists i [] 0 within)

-- they are some of all
pub documents-within : (lists : List (List ℕ)) (i : ℕ) → i < length lists → documents_before lists i + length (get_or lists i []) ≤ sum (map length lists)
documents-within lists i within = omega (arith, documents_before-more lists i within, sum-within (map length lists) (i + 1))

-- there are as many lists of positions as documents
pub lengths-flat : (f : List ℕ → List (List ℕ)) (g : List ℕ → List ℕ) → ((q : List ℕ) → length (g q) ≡ length (f q)) → (names : List (List ℕ)) →
    sum (map length (map g names)) ≡ length (flat_map f names)
lengths-flat f g paired [] = refl
lengths-flat f g paired (q ∷ names) =
    omega (
      arith,
      sum-cons (length (g q)) (map length (map g names)),
      paired q,
      lengths-flat f g paired names,
      length-append (f q) (flat_map f names),
    )

-- the lists of positions from a term on
drop-flat : (f : List ℕ → List (List ℕ)) (g : List ℕ → List ℕ) → ((q : List ℕ) → length (g q) ≡ length (f q)) → (names : List (List ℕ)) (i : ℕ) →
    drop (documents_before (map g names) i) (flat_map f names) ≡ flat_map f (drop i names)
drop-flat f g paired names zero = refl
drop-flat f g paired [] (suc i) = refl
drop-flat f g paired (q ∷ names) (suc i) =
    let rest = flat_map f names in
    let before = documents_before (map g names) i in
    ap (λ n. drop n (f q ++ rest)) (sum-cons (length (g q)) (take i (map length (map g names)))) ∙ sym (drop-drop before (length (g q)) (f q ++ rest))
    ∙ ap (drop before) (drop_at (f q) rest (length (g q)) (sym (paired q))) ∙ drop-flat f g paired names i

-- the lists of positions of a term
term_positions-flat : (f : List ℕ → List (List ℕ)) (g : List ℕ → List ℕ) → ((q : List ℕ) → length (g q) ≡ length (f q)) → (names : List (List ℕ)) (i : ℕ) →
    i < length names →
    term_positions (map g names) (flat_map f names) i ≡ f (get_or names i [])
term_positions-flat f g paired names i within =
    let q = get_or names i [] in
    let lists = map g names in
    let before = documents_before lists i in
    let here : length (get_or lists i []) ≡ length (f q) = ap length (get_or-map g names i [] [] within) ∙ paired q in
    let count : documents_before lists (i + 1) - before ≡ length (f q) =
    omega (arith, documents_before-more lists i (omega (arith, within, length-map names g)), here) in
    ap₂ (λ n (ls : List (List ℕ)). take n ls) count (drop-flat f g paired names i ∙ ap (flat_map f) (drop_more names i [] within))
    ∙ take_at (f q) (flat_map f (drop (i + 1) names)) (length (f q)) refl

-- a term has the positions that its documents have
pub position_lists_found : {kind : Kind} {vs : List (Option FieldValue)} {dictionary : Dictionary} (text : List ℕ) (i : ℕ) → AreTerms kind vs dictionary →
    slice_get dictionary.names i ≡ Some text →
    term_positions dictionary.lists dictionary.positions i ≡ value_position_lists kind (values.Text text) vs
position_lists_found {kind} {vs} {dictionary} text i a found =
    let os = occurrences kind 0 vs in
    let f : List ℕ → List (List ℕ) = λ q. position_lists_with q os in
    ap₂ (λ ls ps. term_positions ls ps i) a.dictionary_is.listed a.dictionary_is.positioned
    ∙ term_positions-flat f (λ q. docs_with q os) (λ q. paired-occurrences q kind 0 vs) dictionary.names i (slice_get_within dictionary.names i text found)
    ∙ ap f (get_or_from_slice_get dictionary.names i text [] found) ∙ position_lists_with-occurrences text kind 0 vs
