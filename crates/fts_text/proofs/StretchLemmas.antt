-- Each span is in its text.
use Rattle.std.proofs.Common.{◌≡◌, ◌<◌, ◌≤◌, ◌-◌, ℕ, zero, suc, ◌+◌, Bool, true, false, cond, ◌&&◌, List, [], ◌∷◌, ◌++◌, length, take, drop, map, filter, refl}
use Rattle.std.proofs.Common.{sym, ap, subst, ◌∙◌, arith, inl, inr, not, nat_eq, nat_lt, length-append, append_assoc}
use Rattle.std.proofs.Math.Seq.{take-append_seam, drop-append_seam}
use Rattle.std.proofs.lemmas.Bool.{and_parts, cases_lt}
use Rattle.std.proofs.lemmas.List.{length-map}
use Rattle.std.proofs.lemmas.List.Elements.{All-from_recursion}
use Rattle.std.proofs.lemmas.List.FromFn.{length-enumerate_from}
use Rattle.std.proofs.lemmas.Str.{encodes-append, encodes-chars, chars-encodes, scalars-chars, length-le-encodes, IsCharBoundary-at_seam}
use Rattle.std.specs.Bool.{beq}
use Rattle.std.specs.Char.{len_utf8}
use Rattle.std.specs.List.{All, AllByRecursion, enumerate_from, slice_range, onto_first}
use Rattle.std.specs.Str.{chars, IsUtf8, IsCharBoundary}
use Rattle.std.proofs.lemmas.Simd.{map-map}
use Rattle.std.proofs.lemmas.List.Sums.{length-filter, count_by-le-length}
use lib.Utf8.{encodes, scalar, scalars}
use Rattle.fts_text.specs.Characters.{is_alphanumeric, front_len, fold_chars, folded}
use Rattle.fts_text.specs.Tokens.{Span, behind_spans, char_indices, chars_of, byte_len, following, spans, kept, tokens_from}
use Rattle.fts_text.specs.Places.{places_from, IsPlaceFrom, start_of, place_of, IsPlaceIn, token_at}
use Rattle.fts_text.specs.declared.tokenizer.Token.{Token}
use Rattle.fts_text.proofs.FrontLemmas.{front, after, length-front}
use Rattle.fts_text.proofs.SpanLemmas.{is_nonempty, parts, chars_of-char_indices, byte_len-char_indices, start_of-char_indices, spans-gap, spans-front}
use Rattle.fts_text.proofs.SpanLemmas.{spans-nil, after-gap}

-- the front and the characters after it join to the text, by whether the first character is of the class
front-after-at : (a b : Bool) (c : ℕ) (cs : List ℕ) → cs ≡ front a cs ++ after a cs → c ∷ cs ≡ cond b (c ∷ front a cs) [] ++ cond b (after a cs) (c ∷ cs)
front-after-at a true c cs h = ap (λ l. c ∷ l) h
front-after-at a false c cs h = refl

-- characters are their front and what is after it
front-after : (a : Bool) (cs : List ℕ) → cs ≡ front a cs ++ after a cs
front-after a [] = refl
front-after a (c ∷ cs) = front-after-at a (beq (is_alphanumeric c) a) c cs (front-after a cs)

-- a numbered span is the characters `here`, which come after `before`
pub record Stands (n at : ℕ) (cs : List ℕ) (r : ℕ × Span) : Type 0 where
  pub before : List ℕ
  pub here : List ℕ
  pub behind : List ℕ
  pub whole : cs ≡ before ++ (here ++ behind)
  pub span : r.1 ≡ char_indices (at + length (encodes before)) here
  pub some : 0 < length (encodes here)
  pub numbered : r.0 ≤ n + length (encodes before)

-- the bytes of two joined lists of characters are as many as those of both
length-encodes-append : (xs ys : List ℕ) → length (encodes (xs ++ ys)) ≡ length (encodes xs) + length (encodes ys)
length-encodes-append xs ys = ap length (encodes-append xs ys) ∙ length-append (encodes xs) (encodes ys)

-- a span of the rest of a text is a span of the text
Stands-later : (n at : ℕ) (cs xs rest : List ℕ) (r : ℕ × Span) → cs ≡ xs ++ rest → 0 < length (encodes xs) → Stands (n + 1) (at + length (encodes xs)) rest r →
    Stands n at cs r
Stands-later n at cs xs rest r whole some s =
    let bytes = length-encodes-append xs s.before in
    let place : at + length (encodes xs) + length (encodes s.before) ≡ at + length (encodes (xs ++ s.before)) = omega arith in
    record {
      before = xs ++ s.before;
      here = s.here;
      behind = s.behind;
      whole = whole ∙ ap (λ l. xs ++ l) s.whole ∙ sym (append_assoc xs s.before (s.here ++ s.behind));
      span = s.span ∙ ap (λ k. char_indices k s.here) place;
      some = s.some;
      numbered = omega (arith, s.numbered);
    }

-- a property that follows from one of all members holds of all members
AllByRecursion-weaker : {X : Type 0} (P Q : X → Type 0) (xs : List X) → ((x : X) → P x → Q x) → AllByRecursion P xs → AllByRecursion Q xs
AllByRecursion-weaker P Q [] h all = tt
AllByRecursion-weaker P Q (x ∷ xs) h all = (h x all.0, AllByRecursion-weaker P Q xs h all.1)

-- characters that take a byte are not an empty list
length-some : (xs : List ℕ) → 0 < length (encodes xs) → 0 < length xs
length-some [] some = absurd (omega arith)
length-some (x ∷ xs) some = omega arith

-- each span is in a text of at most `fuel` characters
Stands-all : (fuel n at : ℕ) (cs : List ℕ) → length cs ≤ fuel → AllByRecursion (Stands n at cs) (enumerate_from n (spans at cs))
Stands-all zero n at [] few = let P : List Span → Type 0 = λ rs. AllByRecursion (Stands n at []) (enumerate_from n rs) in subst P (sym (spans-nil at)) tt
Stands-all zero n at (c ∷ cs) few = absurd (omega arith)
Stands-all (suc fuel) n at cs few =
    let P : List Span → Type 0 = λ rs. AllByRecursion (Stands n at cs) (enumerate_from n rs) in
    let gap = front false cs in
    let mid = after false cs in
    let word = front true mid in
    let rest = after true mid in
    let gap_bytes = length-front false cs in
    let word_bytes = length-front true mid in
    let split : cs ≡ (gap ++ word) ++ rest = front-after false cs ∙ ap (λ l. gap ++ l) (front-after true mid) ∙ sym (append_assoc gap word rest) in
    elim (cases_lt 0 (front_len true mid)) [
      | inl some ↦
          let both = length-encodes-append gap word in
          let few_more = length-some word (omega arith) in
          let long = ap length split ∙ length-append (gap ++ word) rest in
          let longer = length-append gap word in
          let step : spans at cs ≡ char_indices (at + front_len false cs) word ∷ spans (at + front_len false cs + front_len true mid) rest =
          spans-gap at cs ∙ spans-front (at + front_len false cs) mid some in
          let begins : at + front_len false cs ≡ at + length (encodes gap) = omega arith in
          let ends : at + front_len false cs + front_len true mid ≡ at + length (encodes (gap ++ word)) = omega arith in
          let first : Stands n at cs (n, char_indices (at + front_len false cs) word) = record {
            before = gap;
            here = word;
            behind = rest;
            whole = split ∙ append_assoc gap word rest;
            span = ap (λ k. char_indices k word) begins;
            some = omega arith;
            numbered = omega arith;
          } in
          let Q : ℕ → Type 0 = λ k. AllByRecursion (Stands (n + 1) k rest) (enumerate_from (n + 1) (spans k rest)) in
          let others : AllByRecursion (Stands (n + 1) (at + length (encodes (gap ++ word))) rest)
          (enumerate_from (n + 1) (spans (at + length (encodes (gap ++ word))) rest)) =
          Stands-all fuel (n + 1) (at + length (encodes (gap ++ word))) rest (omega arith) in
          let later = AllByRecursion-weaker (Stands (n + 1) (at + length (encodes (gap ++ word))) rest) (Stands n at cs) _
          (λ r s. Stands-later n at cs (gap ++ word) rest r split (omega arith) s) others in
          let tail : AllByRecursion (Stands n at cs) (enumerate_from (n + 1) (spans (at + front_len false cs + front_len true mid) rest)) = let R : ℕ → Type 0 =
          λ k. AllByRecursion (Stands n at cs) (enumerate_from (n + 1) (spans k rest)) in subst R (sym ends) later in
          subst P (sym step) (first, tail)
      | inr none ↦
          let empty = after-gap cs (omega arith) in
          subst P (sym (spans-gap at cs ∙ ap (spans (at + front_len false cs)) empty ∙ spans-nil (at + front_len false cs))) tt
    ]

-- a property of all members holds of those that a filter leaves
AllByRecursion-filter : {X : Type 0} (P : X → Type 0) (test : X → Bool) (xs : List X) → AllByRecursion P xs → AllByRecursion P (filter test xs)
AllByRecursion-filter P test [] all = tt
AllByRecursion-filter P test (x ∷ xs) all =
    let rest = AllByRecursion-filter P test xs all.1 in
    elim (test x) as (λ b. AllByRecursion P (cond b (x ∷ filter test xs) (filter test xs))) [ true ↦ (all.0, rest) | false ↦ rest ]

-- a property of all members gives one of all their images
AllByRecursion-map : {X Y : Type 0} (P : X → Type 0) (Q : Y → Type 0) (f : X → Y) (xs : List X) → ((x : X) → P x → Q (f x)) → AllByRecursion P xs →
    AllByRecursion Q (map f xs)
AllByRecursion-map P Q f [] h all = tt
AllByRecursion-map P Q f (x ∷ xs) h all = (h x all.0, AllByRecursion-map P Q f xs h all.1)

-- two functions that agree on a list's members map it to the same list
map-same : {X Y : Type 0} (P : X → Type 0) (f g : X → Y) (xs : List X) → ((x : X) → P x → f x ≡ g x) → AllByRecursion P xs → map f xs ≡ map g xs
map-same P f g [] h all = refl
map-same P f g (x ∷ xs) h all = λ i. h x all.0 i ∷ map-same P f g xs h all.1 i

-- each span that is a token is in its text
Stands-kept : (first : ℕ) (cs : List ℕ) → AllByRecursion (Stands first 0 cs) (kept first (spans 0 cs))
unfolding kept
Stands-kept first cs = AllByRecursion-filter (Stands first 0 cs) _ (enumerate_from first (spans 0 cs)) (Stands-all (length cs) first 0 cs (omega arith))

-- if joined lists are of characters, each list is
scalars-both : (xs ys : List ℕ) → scalars (xs ++ ys) ≡ true → (scalars xs ≡ true) × (scalars ys ≡ true)
scalars-both [] ys all = (refl, all)
scalars-both (x ∷ xs) ys all =
    let parts = and_parts (scalar x) (scalars (xs ++ ys)) all in
    let rest = scalars-both xs ys parts.1 in
    (ap (λ b. b && scalars xs) parts.0 ∙ rest.0, rest.1)

-- a span is in a text, as bytes
record StandsInBytes (first : ℕ) (text : List ℕ) (r : ℕ × Span) : Type 0 where
  before : List ℕ
  here : List ℕ
  behind : List ℕ
  whole : text ≡ encodes before ++ (encodes here ++ encodes behind)
  here_text : scalars here ≡ true
  rest_text : IsUtf8 (encodes here ++ encodes behind)
  behind_text : IsUtf8 (encodes behind)
  starts : start_of r.1 ≡ length (encodes before)
  bytes : byte_len r.1 ≡ length (encodes here)
  spelled : chars_of r.1 ≡ here
  some : 0 < length (encodes here)
  numbered : r.0 ≤ first + length (encodes before)

-- a span of a text's characters is in its bytes
StandsInBytes-from : (first : ℕ) (text : List ℕ) → IsUtf8 text → (r : ℕ × Span) → Stands first 0 (chars text) r → StandsInBytes first text r
StandsInBytes-from first text utf8 r s =
    let all : scalars (s.before ++ (s.here ++ s.behind)) ≡ true = ap scalars (sym s.whole) ∙ scalars-chars text utf8 in
    let rest = (scalars-both s.before (s.here ++ s.behind) all).1 in
    let parts = scalars-both s.here s.behind rest in
    let place = 0 + length (encodes s.before) in
    let at : start_of r.1 ≡ place = ap start_of s.span ∙ start_of-char_indices place s.here s.some in
    record {
      before = s.before;
      here = s.here;
      behind = s.behind;
      whole = sym (encodes-chars text utf8) ∙ ap encodes s.whole ∙ encodes-append s.before (s.here ++ s.behind)
          ∙ ap (λ l. encodes s.before ++ l) (encodes-append s.here s.behind);
      here_text = parts.0;
      rest_text = (s.here ++ s.behind, (rest, encodes-append s.here s.behind));
      behind_text = (s.behind, (parts.1, refl));
      starts = omega arith;
      bytes = ap byte_len s.span ∙ byte_len-char_indices place s.here;
      spelled = ap chars_of s.span ∙ chars_of-char_indices place s.here;
      some = s.some;
      numbered = omega (arith, s.numbered);
    }

-- the place of a span that is in a text is in the text
IsPlaceFrom-from : (first : ℕ) (text : List ℕ) (r : ℕ × Span) → StandsInBytes first text r → IsPlaceFrom first text (place_of r)
IsPlaceFrom-from first text r s =
    let here = encodes s.here in
    let behind = encodes s.behind in
    let long = ap length s.whole ∙ length-append (encodes s.before) (here ++ behind) in
    let longer = length-append here behind in
    let two = length-append (encodes s.before) here in
    let P : ℕ → Type 0 = IsCharBoundary text in
    let last : length (encodes s.before ++ here) ≡ start_of r.1 + byte_len r.1 = omega (arith, s.starts, s.bytes) in
    record {
      place = record {
        nonempty = omega (arith, s.bytes, s.some);
        within = omega (arith, s.starts, s.bytes);
        begins = subst P (sym s.starts) (IsCharBoundary-at_seam text (encodes s.before) (here ++ behind) s.whole s.rest_text);
        ends = subst P last (IsCharBoundary-at_seam text (encodes s.before ++ here) behind (s.whole ∙ sym (append_assoc (encodes s.before) here behind))
            s.behind_text);
      };
      numbered = omega (arith, s.starts, s.numbered);
    }

-- a part between two others is the range between them
slice_range-seam : (text before here behind : List ℕ) (a b : ℕ) → text ≡ before ++ (here ++ behind) → a ≡ length before → b ≡ a + length here →
    slice_range text a b ≡ here
slice_range-seam text before here behind a b whole starts ends =
    let long : b - a ≡ length here = omega arith in
    ap (λ n. take n (drop a text)) long
    ∙ ap (λ n. take (length here) (drop n text)) starts
    ∙ ap (λ l. take (length here) (drop (length before) l)) whole
    ∙ ap (take (length here)) (drop-append_seam before (here ++ behind))
    ∙ take-append_seam here behind

-- the token at a span's place is the span, folded
token_at-from : (first : ℕ) (text : List ℕ) (r : ℕ × Span) → StandsInBytes first text r → token_at text (place_of r) ≡ (r.0, fold_chars (chars_of r.1))
unfolding folded
token_at-from first text r s =
    let ends : start_of r.1 + byte_len r.1 ≡ start_of r.1 + length (encodes s.here) = omega (arith, s.bytes) in
    let bytes = slice_range-seam text (encodes s.before) (encodes s.here) (encodes s.behind) (start_of r.1) (start_of r.1 + byte_len r.1) s.whole s.starts
    ends in
    let spelled = ap chars bytes ∙ chars-encodes s.here s.here_text ∙ sym s.spelled in
    ap (λ cs. (r.0, fold_chars cs)) spelled

-- the spans that are tokens are in the text's bytes
StandsInBytes-all : (first : ℕ) (text : List ℕ) → IsUtf8 text → AllByRecursion (StandsInBytes first text) (kept first (spans 0 (chars text)))
StandsInBytes-all first text utf8 =
    AllByRecursion-weaker (Stands first 0 (chars text)) (StandsInBytes first text) (kept first (spans 0 (chars text))) (StandsInBytes-from first text utf8)
    (Stands-kept first (chars text))

-- each place of a text is in it
pub All-IsPlaceFrom : (first : ℕ) (text : List ℕ) → IsUtf8 text → All (IsPlaceFrom first text) (places_from first text)
unfolding places_from
All-IsPlaceFrom first text utf8 =
    All-from_recursion (IsPlaceFrom first text) (places_from first text)
    (AllByRecursion-map (StandsInBytes first text) (IsPlaceFrom first text) place_of (kept first (spans 0 (chars text))) (IsPlaceFrom-from first text)
    (StandsInBytes-all first text utf8))

pub All-IsPlaceIn : (first : ℕ) (text : List ℕ) → IsUtf8 text → All (IsPlaceIn text) (places_from first text)
All-IsPlaceIn first text utf8 = λ k d lt. (All-IsPlaceFrom first text utf8 k d lt).place

-- the tokens of a text are those at its places
pub tokens-places : (first : ℕ) (text : List ℕ) → IsUtf8 text → map (token_at text) (places_from first text) ≡ tokens_from first text
unfolding places_from tokens_from
tokens-places first text utf8 =
    map-map (token_at text) place_of (kept first (spans 0 (chars text)))
    ∙ map-same (StandsInBytes first text) (λ r. token_at text (place_of r)) (λ r. (r.0, fold_chars (chars_of r.1))) (kept first (spans 0 (chars text)))
    (token_at-from first text) (StandsInBytes-all first text utf8)

-- a list with an optional first member is no shorter, and at most one longer
length-cond : {X : Type 0} (b : Bool) (x : X) (xs : List X) → (length xs ≤ length (cond b (x ∷ xs) xs)) × (length (cond b (x ∷ xs) xs) ≤ length xs + 1)
length-cond true x xs = (omega arith, omega arith)
length-cond false x xs = (omega arith, omega arith)

-- one more character adds at most one part
length-onto_first : (p : ℕ × ℕ) (ps : List Span) → length (filter is_nonempty (onto_first p ps)) ≤ length (filter is_nonempty ps) + 1
length-onto_first p [] = omega (arith, length-cond (is_nonempty (p ∷ [])) (p ∷ []) [])
length-onto_first p (first ∷ rest) =
    let with = length-cond (is_nonempty (p ∷ first)) (p ∷ first) (filter is_nonempty rest) in
    let without = length-cond (is_nonempty first) first (filter is_nonempty rest) in
    omega (arith, with.1, without.0)

-- a text has no more spans than characters
length-spans : (at : ℕ) (cs : List ℕ) → length (spans at cs) ≤ length cs
unfolding spans
length-spans at [] = omega arith
length-spans at (c ∷ cs) =
    let rest = length-spans (at + len_utf8 c) cs in
    let first = length-onto_first (at, c) (parts (at + len_utf8 c) cs) in
    elim (is_alphanumeric c) as
    (λ b. length (filter is_nonempty (cond (not b) ([] ∷ parts (at + len_utf8 c) cs) (onto_first (at, c) (parts (at + len_utf8 c) cs)))) ≤ length (c ∷ cs)) [
      | true ↦ omega (arith, rest, first)
      | false ↦ omega (arith, rest)
    ]

-- a text has no more tokens than bytes
pub length-places : (first : ℕ) (text : List ℕ) → IsUtf8 text → length (places_from first text) ≤ length text
unfolding places_from kept
length-places first text utf8 =
    let numbered = enumerate_from first (spans 0 (chars text)) in
    let short = λ (r : ℕ × Span). nat_lt (byte_len r.1) 40 in
    let bytes = length-le-encodes (chars text) in
    let same = ap length (encodes-chars text utf8) in
    let of_spans = length-spans 0 (chars text) in
    let of_numbered = length-enumerate_from first (spans 0 (chars text)) in
    let of_kept : length (filter short numbered) ≤ length numbered = omega (arith, length-filter short numbered, count_by-le-length short numbered) in
    let of_places = length-map (filter short numbered) place_of in
    omega arith

-- the next text's first number is at most one above this text's first number plus its bytes
behind-le : (first n : ℕ) → behind_spans first (first + n) ≤ first + n + 1
behind-le first n =
    elim (nat_eq (first + n) first) as (λ b. cond b first (first + n + 1) ≤ first + n + 1) [ true ↦ omega arith | false ↦ omega arith ]

pub following-le : (first : ℕ) (text : List ℕ) → IsUtf8 text → following first text ≤ first + length text + 1
unfolding following
following-le first text utf8 =
    let bytes = length-le-encodes (chars text) in
    let same = ap length (encodes-chars text utf8) in
    omega (arith, behind-le first (length (spans 0 (chars text))), length-spans 0 (chars text), bytes, same)

-- the next place is in the text, and so are those after it
pub IsPlaceIn-first : (text : List ℕ) (token : Token) (left rest : List Token) → left ≡ token ∷ rest → All (IsPlaceIn text) left →
    IsPlaceIn text token × All (IsPlaceIn text) rest
IsPlaceIn-first text token left rest first all =
    let P : List Token → Type 0 = All (IsPlaceIn text) in
    let each = subst P first all in
    (each 0 token (omega arith), λ k d lt. each (suc k) d (omega arith))
