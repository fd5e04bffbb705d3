-- The places that an iterator has not reached, one after another.
use Rattle.std.proofs.Common.{◌≡◌, ◌<◌, ◌≤◌, ◌-◌, ◌+◌, ℕ, Bool, true, false, cond, nat_lt, List, [], ◌∷◌, map, length, Some, None, refl, sym, ap, ◌∙◌, inl, inr}
use Rattle.std.proofs.Common.{arith}
use Rattle.std.specs.Prelude.{nat_eq}
use Rattle.std.proofs.lemmas.Bool.{cases_Bool, eq-eqb, eqb-true}
use Rattle.std.proofs.lemmas.Bool.Decides.{nat_tests}
use Rattle.fts_text.specs.declared.tokenizer.Token.{Token}
use Rattle.fts_text.specs.declared.tokenizer.Tokens.{Tokens}
use Rattle.fts_text.specs.Tokens.{Span, behind_spans, kept, byte_len}
use Rattle.fts_text.specs.Places.{following_left, place_of, places_left, spans_left, YieldsSpan}

-- a span is short enough for a token
abbrev is_kept : ℕ × Span → Bool
is_kept r = nat_lt (byte_len r.1) 40

-- the numbered spans that are tokens, by whether the first is one
kept-cons : (n : ℕ) (span : Span) (rs : List Span) → kept n (span ∷ rs) ≡ cond (is_kept (n, span)) ((n, span) ∷ kept (n + 1) rs) (kept (n + 1) rs)
unfolding kept
kept-cons n span rs = refl

-- the places of spans, by whether the first span is a token
map-cond : (b : Bool) (r : ℕ × Span) (rs : List (ℕ × Span)) → map place_of (cond b (r ∷ rs) rs) ≡ cond b (place_of r ∷ map place_of rs) (map place_of rs)
map-cond true r rs = refl
map-cond false r rs = refl

-- the places with one more span in front, by whether the span is a token
places_left-cons : (s t : Tokens) (token : Token) (b : Bool) (h : YieldsSpan s (Some token) t) → is_kept (s.next_position, h.0) ≡ b →
    places_left s ≡ cond b (token ∷ places_left t) (places_left t)
unfolding places_left
places_left-cons s t token b h test =
    ap (λ rs. map place_of (kept s.next_position rs)) h.1
    ∙ ap (map place_of) (kept-cons s.next_position h.0 (spans_left t))
    ∙ map-cond (is_kept (s.next_position, h.0)) (s.next_position, h.0) (kept (s.next_position + 1) (spans_left t))
    ∙ ap (λ c. cond c (place_of (s.next_position, h.0) ∷ map place_of (kept (s.next_position + 1) (spans_left t)))
    (map place_of (kept (s.next_position + 1) (spans_left t)))) test
    ∙ ap (λ u. cond b (u ∷ map place_of (kept (s.next_position + 1) (spans_left t))) (map place_of (kept (s.next_position + 1) (spans_left t)))) (sym h.2)
    ∙ ap (λ n. cond b (token ∷ map place_of (kept n (spans_left t))) (map place_of (kept n (spans_left t)))) (sym h.3)

-- a place is as long as its span
byte_len-of_place : (n : ℕ) (span : Span) (token : Token) → token ≡ place_of (n, span) → token.end - token.start ≡ byte_len span
byte_len-of_place n span token e =
    let starts = ap (λ u. u.start) e in
    let ends = ap (λ u. u.end) e in
    omega arith

-- a span that is short enough gives the next place
pub places_left-kept : (s t : Tokens) (token : Token) → YieldsSpan s (Some token) t → token.end - token.start < 40 → places_left s ≡ token ∷ places_left t
places_left-kept s t token h short =
    let bytes = byte_len-of_place s.next_position h.0 token h.2 in
    let test : is_kept (s.next_position, h.0) ≡ true = grind (arith, nat_tests) in
    places_left-cons s t token true h test

-- a span that is too long gives no place
pub places_left-dropped : (s t : Tokens) (token : Token) → YieldsSpan s (Some token) t → 40 ≤ token.end - token.start → places_left s ≡ places_left t
places_left-dropped s t token h long =
    let bytes = byte_len-of_place s.next_position h.0 token h.2 in
    let test : is_kept (s.next_position, h.0) ≡ false = grind (arith, nat_tests) in
    places_left-cons s t token false h test

-- if no span is left, no place is left
pub places_left-none : (s : Tokens) → spans_left s ≡ [] → places_left s ≡ []
unfolding places_left kept
places_left-none s h = ap (λ rs. map place_of (kept s.next_position rs)) h

-- a step to the next span leaves the next text's first number
pub following_left-next : (s t : Tokens) (token : Token) → YieldsSpan s (Some token) t → following_left t ≡ following_left s
unfolding following_left
following_left-next s t token h =
    let counts : t.next_position + length (spans_left t) ≡ s.next_position + length (spans_left s) = omega (arith, h.3, ap length h.1) in
    ap (λ n. behind_spans t.first n) counts ∙ ap (λ f. behind_spans f (s.next_position + length (spans_left s))) h.5

-- a step past the last span leaves the next text's first number
pub following_left-none : (s t : Tokens) → YieldsSpan s None t → following_left t ≡ following_left s
unfolding following_left
following_left-none s t h =
    ap (λ spans. behind_spans t.first (t.next_position + length spans)) (h.1 ∙ sym h.0)
    ∙ ap (λ n. behind_spans t.first (n + length (spans_left s))) h.2 ∙ ap (λ f. behind_spans f (s.next_position + length (spans_left s))) h.3

-- if no span is left, the next text's first number follows from the iterator's two numbers
pub following_left-end : (s : Tokens) → spans_left s ≡ [] → following_left s ≡ behind_spans s.first s.next_position
unfolding following_left
following_left-end s h = ap (λ spans. behind_spans s.first (s.next_position + length spans)) h ∙ ap (behind_spans s.first) (omega arith)

-- the next text's first number is `first` if there was no span
pub behind-same : (first next : ℕ) → next ≡ first → behind_spans first next ≡ first
behind-same first next same = ap (λ b. cond b first (next + 1)) (eq-eqb next first same)

pub behind-other : (first next : ℕ) → (next ≡ first → ⊥) → behind_spans first next ≡ next + 1
behind-other first next other =
    elim (cases_Bool (nat_eq next first)) [
      | inl equal ↦ absurd (other (eqb-true next first equal))
      | inr differ ↦ ap (λ b. cond b first (next + 1)) differ
    ]
