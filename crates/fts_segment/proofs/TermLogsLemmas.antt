-- The occurrences of a log, as terms get ids, and as they get new ones.
use Rattle.std.proofs.Common.{◌≡◌, ℕ, suc, ◌<◌, List, [], ◌∷◌, ◌++◌, Some, map, length, get_or, refl, ◌∙◌, ap, ap₂, arith, length-append}
use Rattle.std.specs.Prelude.{slice_get}
use Rattle.std.proofs.lemmas.List.{map-append, get_or_append_left}
use Rattle.std.proofs.lemmas.List.Elements.{All-cons, All-nil, All-tail}
use Rattle.std.proofs.lemmas.Option.{get_or_from_slice_get, slice_get-get_or, slice_get_within}
use Rattle.fts_segment.specs.declared.term_log.Occurrence.{Occurrence}
use Rattle.fts_segment.specs.Occurrences.{OccurrenceValue}
use Rattle.fts_segment.specs.TermLogs.{occurrence_value, occurrence_values, AreNamed, by_ordinal}

-- an occurrence with the bytes of its term
at_occurrence : Occurrence → List ℕ → OccurrenceValue
at_occurrence e t = record { term = t; doc = e.doc; position = e.position }

pub occurrence_values-more : (names more : List (List ℕ)) (es : List Occurrence) → AreNamed names es →
    occurrence_values (names ++ more) es ≡ occurrence_values names es
unfolding at_occurrence
occurrence_values-more names more [] named = refl
occurrence_values-more names more (e ∷ es) named =
    let first : e.term < length names = named 0 e (omega arith) in
    let head : occurrence_value (names ++ more) e ≡ occurrence_value names e = ap (at_occurrence e) (get_or_append_left names more [] e.term first) in
    ap (λ (o : OccurrenceValue). o ∷ occurrence_values (names ++ more) es) head
    ∙ ap (λ (os : List OccurrenceValue). occurrence_value names e ∷ os) (occurrence_values-more names more es (λ k d h. named (suc k) d (omega arith)))

pub AreNamed-more : (names more : List (List ℕ)) (es : List Occurrence) → AreNamed names es → AreNamed (names ++ more) es
AreNamed-more names more es named k d h = omega (arith, named k d h, length-append names more)

-- one more occurrence
pub occurrence_values-push : (names : List (List ℕ)) (es : List Occurrence) (e : Occurrence) (term : List ℕ) → slice_get names e.term ≡ Some term →
    occurrence_values names (es ++ e ∷ []) ≡ occurrence_values names es ++ record { term = term; doc = e.doc; position = e.position } ∷ []
unfolding at_occurrence
occurrence_values-push names es e term known =
    map-append (occurrence_value names) es (e ∷ []) ∙ ap (λ (t : List ℕ). occurrence_values names es ++ at_occurrence e t ∷ [])
    (get_or_from_slice_get names e.term term [] known)

-- each id has an index at which its name is among others
abbrev pub Stand : List (List ℕ) → List (List ℕ) → List ℕ → Type 0
Stand names others ordinals = (n : ℕ) → n < length names → slice_get others (get_or ordinals n 0) ≡ slice_get names n

stands : (names others : List (List ℕ)) (ordinals : List ℕ) (n : ℕ) → Stand names others ordinals → n < length names →
    slice_get others (get_or ordinals n 0) ≡ Some (get_or names n [])
stands names others ordinals n stand within = stand n within ∙ slice_get-get_or names n [] within

-- the occurrences are unchanged if each id is replaced by such an index
pub occurrence_values-by_ordinal : (names others : List (List ℕ)) (ordinals : List ℕ) (es : List Occurrence) → Stand names others ordinals → AreNamed names es →
    occurrence_values others (map (by_ordinal ordinals) es) ≡ occurrence_values names es
unfolding at_occurrence
occurrence_values-by_ordinal names others ordinals [] stand named = refl
occurrence_values-by_ordinal names others ordinals (e ∷ es) stand named =
    let name : get_or others (get_or ordinals e.term 0) [] ≡ get_or names e.term [] =
    get_or_from_slice_get others (get_or ordinals e.term 0) (get_or names e.term []) [] (stands names others ordinals e.term stand (named 0 e (omega arith))) in
    ap₂ (λ (t : List ℕ) (os : List OccurrenceValue). at_occurrence e t ∷ os) name
    (occurrence_values-by_ordinal names others ordinals es stand (All-tail (λ (x : Occurrence). x.term < length names) e es named))

pub AreNamed-by_ordinal : (names others : List (List ℕ)) (ordinals : List ℕ) (es : List Occurrence) → Stand names others ordinals → AreNamed names es →
    AreNamed others (map (by_ordinal ordinals) es)
AreNamed-by_ordinal names others ordinals [] stand named = All-nil (λ (x : Occurrence). x.term < length others)
AreNamed-by_ordinal names others ordinals (e ∷ es) stand named =
    All-cons (λ (x : Occurrence). x.term < length others) (by_ordinal ordinals e) (map (by_ordinal ordinals) es)
    (slice_get_within others (get_or ordinals e.term 0) (get_or names e.term []) (stands names others ordinals e.term stand (named 0 e (omega arith))))
    (AreNamed-by_ordinal names others ordinals es stand (All-tail (λ (x : Occurrence). x.term < length names) e es named))
