-- The spans of a text, one after another.
use Rattle.std.proofs.Common.{◌≡◌, ◌<◌, ℕ, ◌+◌, Bool, true, false, not, cond, nat_lt, List, [], ◌∷◌, length, drop, filter, refl, sym, ap, ◌∙◌, arith, add-zero}
use Rattle.std.proofs.Common.{add_assoc}
use Rattle.std.specs.Bool.{beq}
use Rattle.std.specs.Char.{len_utf8}
use Rattle.std.specs.List.{slice_split, onto_first}
use Rattle.std.specs.Str.{encode_utf8_all, chars, IsUtf8}
use Rattle.std.proofs.lemmas.Bool.Decides.{nat_tests}
use Rattle.std.proofs.lemmas.Str.{len_utf8_bounds}
use Rattle.fts_text.specs.Characters.{is_alphanumeric, front_len}
use Rattle.fts_text.specs.Tokens.{Span, char_indices, chars_of, byte_len, spans}
use Rattle.fts_text.specs.Places.{start_of, place_of}
use Rattle.fts_text.specs.declared.tokenizer.Token.{Token}
use Rattle.fts_text.proofs.FrontLemmas.{front, after, length-front, chars-drop-front_len}

-- a character that separates spans
abbrev pub separates : ℕ × ℕ → Bool
separates p = not (is_alphanumeric p.1)

-- a span has a character
abbrev pub is_nonempty : Span → Bool
is_nonempty span = nat_lt 0 (length span)

-- the parts between separators, with the empty ones
abbrev pub parts : ℕ → List ℕ → List Span
parts at cs = slice_split separates (char_indices at cs)

-- the characters of indexed characters are the characters
pub chars_of-char_indices : (at : ℕ) (cs : List ℕ) → chars_of (char_indices at cs) ≡ cs
chars_of-char_indices at [] = refl
chars_of-char_indices at (c ∷ cs) = ap (λ l. c ∷ l) (chars_of-char_indices (at + len_utf8 c) cs)

-- an empty text has no span
pub spans-nil : (at : ℕ) → spans at [] ≡ []
unfolding spans
spans-nil at = refl

-- the spans of a text, by whether its first character is alphanumeric
spans-gap-at : (at c : ℕ) (cs : List ℕ) (b : Bool) → is_alphanumeric c ≡ b
    → spans (at + len_utf8 c) cs ≡ spans (at + len_utf8 c + front_len false cs) (after false cs)
    → spans at (c ∷ cs) ≡ spans (at + cond (beq b false) (len_utf8 c + front_len false cs) 0) (cond (beq b false) (after false cs) (c ∷ cs))
unfolding spans
spans-gap-at at c cs true is ih = ap (λ n. spans n (c ∷ cs)) (sym (add-zero at))
spans-gap-at at c cs false is ih =
    ap (λ b. filter is_nonempty (cond (not b) ([] ∷ parts (at + len_utf8 c) cs) (onto_first (at, c) (parts (at + len_utf8 c) cs)))) is
    ∙ ih
    ∙ ap (λ n. spans n (after false cs)) (add_assoc at (len_utf8 c) (front_len false cs))

-- a gap at the front contributes no span
pub spans-gap : (at : ℕ) (cs : List ℕ) → spans at cs ≡ spans (at + front_len false cs) (after false cs)
spans-gap at [] = ap (λ n. spans n []) (sym (add-zero at))
spans-gap at (c ∷ cs) = spans-gap-at at c cs (is_alphanumeric c) refl (spans-gap (at + len_utf8 c) cs)

-- the first part is the front, and the others have the spans of the rest
abbrev pub BeginsWithFront : ℕ → List ℕ → Type 0
BeginsWithFront at cs = (tail : List Span) × (parts at cs ≡ char_indices at (front true cs) ∷ tail)
    × (filter is_nonempty tail ≡ spans (at + front_len true cs) (after true cs))

-- the parts begin with the characters before the first separator, by whether the first character is one
parts-front-at : (at c : ℕ) (cs : List ℕ) (b : Bool) → is_alphanumeric c ≡ b → BeginsWithFront (at + len_utf8 c) cs
    → (tail : List Span) × (parts at (c ∷ cs) ≡ char_indices at (cond (beq b true) (c ∷ front true cs) []) ∷ tail)
    × (filter is_nonempty tail ≡ spans (at + cond (beq b true) (len_utf8 c + front_len true cs) 0) (cond (beq b true) (after true cs) (c ∷ cs)))
unfolding spans
parts-front-at at c cs true is ih = (
  ih.0,
  ap (λ b. cond (not b) ([] ∷ parts (at + len_utf8 c) cs) (onto_first (at, c) (parts (at + len_utf8 c) cs))) is ∙ ap (onto_first (at, c)) ih.1,
  ih.2 ∙ ap (λ n. spans n (after true cs)) (add_assoc at (len_utf8 c) (front_len true cs)),
)
parts-front-at at c cs false is ih = (
  parts (at + len_utf8 c) cs,
  ap (λ b. cond (not b) ([] ∷ parts (at + len_utf8 c) cs) (onto_first (at, c) (parts (at + len_utf8 c) cs))) is,
  sym (ap (λ b. filter is_nonempty (cond (not b) ([] ∷ parts (at + len_utf8 c) cs) (onto_first (at, c) (parts (at + len_utf8 c) cs)))) is)
      ∙ ap (λ n. spans n (c ∷ cs)) (sym (add-zero at)),
)

-- the parts begin with the characters before the first separator
pub parts-front : (at : ℕ) (cs : List ℕ) → BeginsWithFront at cs
unfolding spans
parts-front at [] = ([], refl, refl)
parts-front at (c ∷ cs) = parts-front-at at c cs (is_alphanumeric c) refl (parts-front (at + len_utf8 c) cs)

-- a first part with at least one byte passes the filter
filter-first : (at : ℕ) (ds : List ℕ) (tail : List Span) → 0 < length (encode_utf8_all ds) →
    filter is_nonempty (char_indices at ds ∷ tail) ≡ char_indices at ds ∷ filter is_nonempty tail
filter-first at [] tail some = absurd (omega arith)
filter-first at (d ∷ ds) tail some =
    let yes : is_nonempty (char_indices at (d ∷ ds)) ≡ true = grind (arith, nat_tests) in
    ap (λ b. cond b (char_indices at (d ∷ ds) ∷ filter is_nonempty tail) (filter is_nonempty tail)) yes

-- a front that is not empty is the first span
pub spans-front : (at : ℕ) (cs : List ℕ) → 0 < front_len true cs →
    spans at cs ≡ char_indices at (front true cs) ∷ spans (at + front_len true cs) (after true cs)
unfolding spans
spans-front at cs some =
    let begins = parts-front at cs in
    let long = length-front true cs in
    ap (filter is_nonempty) begins.1
    ∙ filter-first at (front true cs) begins.0 (omega arith)
    ∙ ap (λ rs. char_indices at (front true cs) ∷ rs) begins.2

-- after a gap there is a span, or the end of the text
after-gap-at : (c : ℕ) (cs : List ℕ) (b : Bool) → is_alphanumeric c ≡ b → (front_len true (after false cs) ≡ 0 → after false cs ≡ [])
    → front_len true (cond (beq b false) (after false cs) (c ∷ cs)) ≡ 0 → cond (beq b false) (after false cs) (c ∷ cs) ≡ []
after-gap-at c cs true is ih none =
    let some = ap (λ b. cond (beq b true) (len_utf8 c + front_len true cs) 0) is in
    absurd (omega (arith, len_utf8_bounds c))
after-gap-at c cs false is ih none = ih none

-- if no span follows a gap, the text ends there
pub after-gap : (cs : List ℕ) → front_len true (after false cs) ≡ 0 → after false cs ≡ []
after-gap [] none = refl
after-gap (c ∷ cs) none = after-gap-at c cs (is_alphanumeric c) refl (after-gap cs) none

-- the characters of the bytes after a front are those after the front
chars-rest : (a : Bool) (bs rest : List ℕ) (n : ℕ) → IsUtf8 bs → n ≡ front_len a (chars bs) → rest ≡ drop n bs → chars rest ≡ after a (chars bs)
chars-rest a bs rest n text long cut =
    ap chars cut ∙ ap (λ k. chars (drop k bs)) long ∙ chars-drop-front_len a bs text

-- the spans of a text are those after the gap at its front
spans-past_gap : (at gap : ℕ) (bs mid : List ℕ) → IsUtf8 bs → gap ≡ front_len false (chars bs) → mid ≡ drop gap bs →
    spans at (chars bs) ≡ spans (at + gap) (chars mid)
spans-past_gap at gap bs mid text long cut =
    spans-gap at (chars bs)
    ∙ ap (λ k. spans (at + k) (after false (chars bs))) (sym long)
    ∙ ap (spans (at + gap)) (sym (chars-rest false bs mid gap text long cut))

-- the spans of a text are its first span and those of the rest
pub spans-step : (at gap len : ℕ) (bs mid rest : List ℕ) → IsUtf8 bs → gap ≡ front_len false (chars bs) → mid ≡ drop gap bs → IsUtf8 mid →
    len ≡ front_len true (chars mid) → rest ≡ drop len mid → 0 < len
    → spans at (chars bs) ≡ char_indices (at + gap) (front true (chars mid)) ∷ spans (at + gap + len) (chars rest)
spans-step at gap len bs mid rest text gap_is mid_is mid_text len_is rest_is some =
    spans-past_gap at gap bs mid text gap_is mid_is
    ∙ spans-front (at + gap) (chars mid) (omega arith)
    ∙ ap (λ k. char_indices (at + gap) (front true (chars mid)) ∷ spans (at + gap + k) (after true (chars mid))) (sym len_is)
    ∙ ap (λ cs. char_indices (at + gap) (front true (chars mid)) ∷ spans (at + gap + len) cs) (sym (chars-rest true mid rest len mid_text len_is rest_is))

-- a text that is one gap has no span
pub spans-end : (at gap len : ℕ) (bs mid rest : List ℕ) → IsUtf8 bs → gap ≡ front_len false (chars bs) → mid ≡ drop gap bs → IsUtf8 mid →
    len ≡ front_len true (chars mid) → rest ≡ drop len mid → len ≡ 0
    → (spans at (chars bs) ≡ []) × (spans (at + gap + len) (chars rest) ≡ [])
spans-end at gap len bs mid rest text gap_is mid_is mid_text len_is rest_is none =
    let mid_chars = chars-rest false bs mid gap text gap_is mid_is in
    let empty : after false (chars bs) ≡ [] = after-gap (chars bs) (ap (front_len true) (sym mid_chars) ∙ sym len_is ∙ none) in
    let mid_empty : chars mid ≡ [] = mid_chars ∙ empty in (
      spans-past_gap at gap bs mid text gap_is mid_is ∙ ap (spans (at + gap)) mid_empty ∙ spans-nil (at + gap),
      ap (spans (at + gap + len)) (chars-rest true mid rest len mid_text len_is rest_is ∙ ap (after true) mid_empty) ∙ spans-nil (at + gap + len),
    )

-- a span begins at the index of its first character
pub start_of-char_indices : (at : ℕ) (ds : List ℕ) → 0 < length (encode_utf8_all ds) → start_of (char_indices at ds) ≡ at
start_of-char_indices at [] some = absurd (omega arith)
start_of-char_indices at (d ∷ ds) some = refl

-- a span is as long as its characters
pub byte_len-char_indices : (at : ℕ) (ds : List ℕ) → byte_len (char_indices at ds) ≡ length (encode_utf8_all ds)
byte_len-char_indices at ds = ap (λ l. length (encode_utf8_all l)) (chars_of-char_indices at ds)

-- the place of a span that is a front
pub place_of-front : (n at len : ℕ) (cs : List ℕ) → len ≡ front_len true cs → 0 < len →
    (let token : Token = record { position = n; start = at; end = at + len } in token) ≡ place_of (n, char_indices at (front true cs))
place_of-front n at len cs long some =
    let bytes = byte_len-char_indices at (front true cs) ∙ length-front true cs in
    let starts : at ≡ start_of (char_indices at (front true cs)) = sym (start_of-char_indices at (front true cs) (omega (arith, length-front true cs))) in
    let ends : at + len ≡ start_of (char_indices at (front true cs)) + byte_len (char_indices at (front true cs)) = omega arith in
    λ i. record { position = n; start = starts i; end = ends i }
