-- The spans and the tokens of a text.
use Rattle.std.specs.Prelude.{ℕ, ◌+◌, not, nat_eq, nat_lt, if◌then◌else◌, List, [], ◌∷◌, ◌++◌, length, map, filter}
use Rattle.std.specs.Prelude.{encode_utf8_all}
use Rattle.std.specs.List.{slice_split, enumerate_from}
use Rattle.std.specs.Char.{len_utf8}
use Rattle.std.specs.Str.{chars}
use Rattle.fts_text.specs.Characters.{is_alphanumeric, fold_chars}

-- a sequence of characters, each with the byte at which it begins
abbrev pub Span : Type 0
Span = List (ℕ × ℕ)

-- characters with the bytes at which they begin, the first at byte `at`
abbrev pub char_indices : ℕ → List ℕ → Span
char_indices at [] = []
char_indices at (c ∷ cs) = (at, c) ∷ char_indices (at + len_utf8 c) cs

-- the characters of a span, and the number of bytes that they take
abbrev pub chars_of : Span → List ℕ
chars_of span = map (λ p. p.1) span

abbrev pub byte_len : Span → ℕ
byte_len span = length (encode_utf8_all (chars_of span))

-- the maximal spans of alphanumeric characters of a text whose first character begins at byte `at`
unfoldable pub spans : ℕ → List ℕ → List Span
spans at cs =
    filter (λ span. nat_lt 0 (length span)) (slice_split (λ p. not (is_alphanumeric p.1)) (char_indices at cs))

-- the spans of fewer than 40 bytes, each with its number; all spans are numbered, from `first`
unfoldable pub kept : ℕ → List Span → List (ℕ × Span)
kept first rs = filter (λ r. nat_lt (byte_len r.1) 40) (enumerate_from first rs)

-- the tokens of a text whose spans are numbered from `first`: each span of fewer than 40 bytes, folded, with its number
unfoldable pub tokens_from : ℕ → List ℕ → List (ℕ × List ℕ)
tokens_from first text = map (λ r. (r.0, fold_chars (chars_of r.1))) (kept first (spans 0 (chars text)))

-- the tokens of a text
abbrev pub tokens : List ℕ → List (ℕ × List ℕ)
tokens text = tokens_from 0 text

-- the number of the first span of the next text, if this text's spans are numbered from `first` to below `next`: two
-- above the last number, or `first` if there is no span
abbrev pub behind_spans : ℕ → ℕ → ℕ
behind_spans first next = if nat_eq next first then first else next + 1

-- the number of the first span of the next text: two above the last span of this one, or this one's first number if it
-- has no span
unfoldable pub following : ℕ → List ℕ → ℕ
following first text = behind_spans first (first + length (spans 0 (chars text)))

-- the tokens of several texts, if the spans of the first text are numbered from `first`
abbrev pub tokens_of_texts : ℕ → List (List ℕ) → List (ℕ × List ℕ)
tokens_of_texts first [] = []
tokens_of_texts first (text ∷ texts) = tokens_from first text ++ tokens_of_texts (following first text) texts
