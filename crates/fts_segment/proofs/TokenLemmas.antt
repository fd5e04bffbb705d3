-- The tokens of a value: their number, and that their positions rise.
use Rattle.std.proofs.Common.{◌≡◌, ◌+◌, ◌<◌, ◌≤◌, ℕ, suc, Bool, true, false, cond, List, [], ◌∷◌, ◌++◌, Option, Some, None, map, filter, length, refl, sym, ap}
use Rattle.std.proofs.Common.{subst, ◌∙◌, arith}
use Rattle.std.specs.Prelude.{nat_eq, nat_lt}
use Rattle.std.specs.List.{enumerate_from}
use Rattle.std.specs.Str.{IsUtf8, chars}
use Rattle.std.proofs.lemmas.Bool.{eqb-true}
use Rattle.std.proofs.lemmas.List.{length-map, map-append}
use Rattle.std.proofs.lemmas.List.Sums.{length-filter, count_by-le-length}
use Rattle.fts_text.specs.Tokens.{Span, following, tokens_from, tokens_of_texts, kept, spans, chars_of, byte_len}
use Rattle.fts_text.specs.Characters.{fold_chars}
use Rattle.fts_text.specs.Places.{places_from, token_at}
use Rattle.fts_text.proofs.StretchLemmas.{length-places, tokens-places}
use Rattle.fts_model.specs.declared.schema.Kind.{Kind}
use Rattle.fts_model.specs.declared.schema.Kind.TheVariants as kinds
use Rattle.fts_model.specs.declared.value.FieldValue.{FieldValue}
use Rattle.fts_model.specs.declared.value.FieldValue.TheVariants as values
use Rattle.fts_pack.specs.Documents.{Rises}
use Rattle.fts_segment.specs.Occurrences.{is_token, tokens_of, value_tokens, HasFewTokens}
use Rattle.fts_segment.specs.Segments.{positions_among}
use Rattle.fts_positions.specs.PositionLists.{IsPositionList}
use Rattle.fts_segment.proofs.OccurrencesLemmas.{map-map}

-- a text has no more tokens than bytes
pub few_tokens : (first : ℕ) (text : List ℕ) → IsUtf8 text → length (tokens_from first text) ≤ length text
few_tokens first text utf8 =
    let same : length (places_from first text) ≡ length (tokens_from first text) = sym (length-map (places_from first text) (token_at text))
    ∙ ap length (tokens-places first text utf8) in
    omega (arith, same, length-places first text utf8)

Rises-later : (a b : ℕ) (xs : List ℕ) → a ≤ b → Rises b xs → Rises a xs
Rises-later a b [] lower h = tt
Rises-later a b (x ∷ xs) lower h = (omega (arith, h.0), h.1)

Rises-filter : {X : Type 0} (f : X → ℕ) (p : X → Bool) (next : ℕ) (xs : List X) → Rises next (map f xs) → Rises next (map f (filter p xs))
Rises-filter f p next [] h = tt
Rises-filter f p next (x ∷ xs) h =
    let rest = Rises-filter f p (suc (f x)) xs h.1 in
    elim (p x) as (λ b. Rises next (map f (cond b (x ∷ filter p xs) (filter p xs)))) [
      | true ↦ (h.0, rest)
      | false ↦ Rises-later next (suc (f x)) (map f (filter p xs)) (omega (arith, h.0)) rest
    ]

Rises-enumerate : {X : Type 0} (next : ℕ) (xs : List X) → Rises next (map (λ x. x.0) (enumerate_from next xs))
Rises-enumerate next [] = tt
Rises-enumerate next (x ∷ xs) =
    let one : next + 1 ≡ suc next = omega arith in
    (omega arith, subst (λ n. Rises n (map (λ x. x.0) (enumerate_from (next + 1) xs))) one (Rises-enumerate (next + 1) xs))

-- all numbers are below a bound
abbrev Below : ℕ → List ℕ → Type 0
Below most [] = Unit {0}
Below most (x ∷ xs) = (x < most) × Below most xs

Below-filter : {X : Type 0} (f : X → ℕ) (p : X → Bool) (most : ℕ) (xs : List X) → Below most (map f xs) → Below most (map f (filter p xs))
Below-filter f p most [] h = tt
Below-filter f p most (x ∷ xs) h =
    elim (p x) as (λ b. Below most (map f (cond b (x ∷ filter p xs) (filter p xs)))) [
      | true ↦ (h.0, Below-filter f p most xs h.1)
      | false ↦ Below-filter f p most xs h.1
    ]

Below-enumerate : {X : Type 0} (next most : ℕ) (xs : List X) → next + length xs ≤ most → Below most (map (λ x. x.0) (enumerate_from next xs))
Below-enumerate next most [] h = tt
Below-enumerate next most (x ∷ xs) h = (omega (arith, h), Below-enumerate (next + 1) most xs (omega (arith, h)))

-- rising numbers, followed by others that rise from a greater number, rise
Rises-append : (a b : ℕ) (xs ys : List ℕ) → a ≤ b → Below b xs → Rises a xs → Rises b ys → Rises a (xs ++ ys)
Rises-append a b [] ys le below h g = Rises-later a b ys le g
Rises-append a b (x ∷ xs) ys le below h g = (h.0, Rises-append (suc x) b xs ys (omega (arith, below.0)) below.1 h.1 g)

-- the numbers of tokens are those of the spans that are tokens
numbers_kept : (first : ℕ) (text : List ℕ) → map (λ t. t.0) (tokens_from first text) ≡ map (λ r. r.0) (kept first (spans 0 (chars text)))
unfolding tokens_from
numbers_kept first text =
    let position : ℕ × List ℕ → ℕ = λ t. t.0 in
    let token : ℕ × Span → ℕ × List ℕ = λ r. (r.0, fold_chars (chars_of r.1)) in
    sym (map-map position token (kept first (spans 0 (chars text))))

Rises-tokens : (first : ℕ) (text : List ℕ) → Rises first (map (λ t. t.0) (tokens_from first text))
unfolding kept
Rises-tokens first text =
    let rs = spans 0 (chars text) in
    let number : ℕ × Span → ℕ = λ r. r.0 in
    subst (Rises first) (sym (numbers_kept first text)) (Rises-filter number (λ r. nat_lt (byte_len r.1) 40) first (enumerate_from first rs)
    (Rises-enumerate first rs))

-- the next text's first number is past the spans of this one
following-past : (first : ℕ) (text : List ℕ) → first + length (spans 0 (chars text)) ≤ following first text
unfolding following
following-past first text =
    let n = length (spans 0 (chars text)) in
    elim (nat_eq (first + n) first) as (λ b. nat_eq (first + n) first ≡ b → first + n ≤ cond b first (first + n + 1)) [
      | true ↦ λ e. omega (arith, eqb-true (first + n) first e)
      | false ↦ λ e. omega arith
    ] refl

Below-tokens : (first : ℕ) (text : List ℕ) → Below (following first text) (map (λ t. t.0) (tokens_from first text))
unfolding kept
Below-tokens first text =
    let rs = spans 0 (chars text) in
    let number : ℕ × Span → ℕ = λ r. r.0 in
    subst (Below (following first text)) (sym (numbers_kept first text))
    (Below-filter number (λ r. nat_lt (byte_len r.1) 40) (following first text) (enumerate_from first rs)
    (Below-enumerate first (following first text) rs (following-past first text)))

Rises-texts : (first : ℕ) (texts : List (List ℕ)) → Rises first (map (λ t. t.0) (tokens_of_texts first texts))
Rises-texts first [] = tt
Rises-texts first (text ∷ texts) =
    let position : ℕ × List ℕ → ℕ = λ t. t.0 in
    let next = following first text in
    subst (Rises first) (sym (map-append position (tokens_from first text) (tokens_of_texts next texts)))
    (Rises-append first next (map position (tokens_from first text)) (map position (tokens_of_texts next texts)) (omega (arith, following-past first text))
    (Below-tokens first text) (Rises-tokens first text) (Rises-texts next texts))

Rises-value : (kind : Kind) (value : FieldValue) → Rises 0 (map (λ t. t.0) (value_tokens kind value))
Rises-value kinds.Text (values.Text text) = Rises-tokens 0 text
Rises-value kinds.Text (values.Texts texts) = Rises-texts 0 texts
Rises-value kinds.Keyword (values.Texts texts) = tt
Rises-value kinds.U64 (values.Texts texts) = tt
Rises-value kinds.I64 (values.Texts texts) = tt
Rises-value kinds.Keyword (values.Text text) = (omega arith, tt)
Rises-value kinds.U64 (values.Text text) = tt
Rises-value kinds.I64 (values.Text text) = tt
Rises-value kinds.Text (values.Number n) = tt
Rises-value kinds.Keyword (values.Number n) = tt
Rises-value kinds.U64 (values.Number n) = tt
Rises-value kinds.I64 (values.Number n) = tt

Rises-tokens_of : (kind : Kind) (value : Option FieldValue) → Rises 0 (map (λ t. t.0) (tokens_of kind value))
Rises-tokens_of kind None = tt
Rises-tokens_of kind (Some value) = Rises-value kind value

-- the positions of a term in a value are a position list
pub IsPositionList-tokens : (q : List ℕ) (kind : Kind) (value : Option FieldValue) → HasFewTokens kind value →
    IsPositionList (positions_among q (tokens_of kind value))
IsPositionList-tokens q kind value few =
    let position : ℕ × List ℕ → ℕ = λ t. t.0 in
    let ts = tokens_of kind value in
    record {
      rises = Rises-filter position (is_token q) 0 ts (Rises-tokens_of kind value);
      few = omega (arith, length-map (filter (is_token q) ts) position, length-filter (is_token q) ts, count_by-le-length (is_token q) ts);
    }
