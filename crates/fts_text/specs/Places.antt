-- The places of the tokens of a text.
use Rattle.std.specs.Prelude.{◌≡◌, ℕ, ◌+◌, ◌<◌, ◌≤◌, Option, MatchOption, List, [], ◌∷◌, length, map, slice_range}
use Rattle.std.specs.Iterator.{YieldsFirst}
use Rattle.std.specs.Str.{chars, IsCharBoundary}
use Rattle.fts_text.specs.declared.tokenizer.Token.{Token}
use Rattle.fts_text.specs.declared.tokenizer.Tokens.{Tokens}
use Rattle.fts_text.specs.Characters.{folded}
use Rattle.fts_text.specs.Tokens.{Span, behind_spans, spans, kept, byte_len}

-- the byte at which a span begins
abbrev pub start_of : Span → ℕ
start_of [] = 0
start_of (p ∷ ps) = p.0

-- the place of a numbered span
abbrev pub place_of : ℕ × Span → Token
place_of r = record { position = r.0; start = start_of r.1; end = start_of r.1 + byte_len r.1 }

-- the places of the tokens of a text whose spans are numbered from `first`
unfoldable pub places_from : ℕ → List ℕ → List Token
places_from first text = map place_of (kept first (spans 0 (chars text)))

-- the places of the tokens of a text
abbrev pub places : List ℕ → List Token
places text = places_from 0 text

-- a place is in a text: it has at least one byte, and begins and ends between characters
pub record IsPlaceIn (text : List ℕ) (token : Token) : Type 0 where
  pub nonempty : token.start < token.end
  pub within : token.end ≤ length text
  pub begins : IsCharBoundary text token.start
  pub ends : IsCharBoundary text token.end

-- a place is in a text whose spans are numbered from `first`, and its number is at most `first` plus the byte at which
-- it begins
pub record IsPlaceFrom (first : ℕ) (text : List ℕ) (token : Token) : Type 0 where
  pub place : IsPlaceIn text token
  pub numbered : token.position ≤ first + token.start

-- the token at a place: its number, and the folding of its bytes
abbrev pub token_at : List ℕ → Token → ℕ × List ℕ
token_at text token = (token.position, folded (slice_range text token.start token.end))

-- the spans that an iterator has not reached
abbrev pub spans_left : Tokens → List Span
spans_left s = spans s.at (chars s.rest.now)

-- the places of the tokens that an iterator has not reached
unfoldable pub places_left : Tokens → List Token
places_left s = map place_of (kept s.next_position (spans_left s))

-- the number of the first span of the text after the one that an iterator reads
unfoldable pub following_left : Tokens → ℕ
following_left s = behind_spans s.first (s.next_position + length (spans_left s))

-- an iterator gives the place of the first span that it has not reached, or none if none is left
abbrev pub YieldsSpan : Tokens → Option Token → Tokens → Type 0
YieldsSpan s r t = MatchOption r
    ((spans_left s ≡ []) × (spans_left t ≡ []) × (t.next_position ≡ s.next_position) × (t.first ≡ s.first))
    (λ token. (span : Span) × (spans_left s ≡ span ∷ spans_left t) × (token ≡ place_of (s.next_position, span))
    × (t.next_position ≡ s.next_position + 1) × (length t.rest.now < length s.rest.now) × (t.first ≡ s.first))

-- an iterator gives the first place that it has not reached, or none if none is left; the number of the next text's
-- first span stays the same
abbrev pub YieldsPlace : Tokens → Option Token → Tokens → Type 0
YieldsPlace s r t = YieldsFirst places_left s r t × (following_left t ≡ following_left s)
