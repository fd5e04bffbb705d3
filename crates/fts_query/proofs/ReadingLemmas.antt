-- The front of a text: white space, words, quoted texts, units.
use Rattle.std.proofs.Common.{take-append-drop, ◌≡◌, ℕ, Bool, true, false, not, ◌||◌, ◌⊎◌, cond, List, [], ◌∷◌, ◌++◌, codes, Option, Some, None, refl, sym, ap}
use Rattle.std.proofs.Common.{◌∙◌, arith, inl, inr, zero, suc, ◌+◌, ◌-◌, ◌*◌, ◌≤◌, length, take, drop, subst, length-append, append_assoc, Ok}
use Rattle.std.specs.Prelude.{◌==◌, take_while}
use Rattle.std.specs.List.{list_all, prefix_len}
use Rattle.std.proofs.lemmas.List.Sums.{take_while-cons}
use Rattle.std.specs.Str.{encode_utf8_all, bytes_eq, chars, chars_after, continuation_len, lead_bits, IsUtf8, IsCharBoundary}
use Rattle.std.proofs.lemmas.Bool.{and_parts, and_from, or_cases, cases_Bool, eqb-true, not-true, or_parts, ne_eqb}
use Rattle.std.proofs.lemmas.Option.{same_Some}
use Rattle.std.proofs.lemmas.Slice.Eq.{bytes_eq-Decides}
use Rattle.std.proofs.lemmas.Str.{encodes_same, chars_past_char, encodes-append, encodes-chars, IsCharBoundary-at_seam}
use lib.Utf8.{encode}
use Rattle.fts_model.specs.Schemas.{is_reserved}
use Rattle.fts_query.specs.Grammar.{is_space, is_word_char, IsBlank, IsSpace, piece, quoted_text}
use Rattle.fts_query.specs.Reading.{word, begins_space, unquoted, char_onto, in_bytes, group_of, quoted_literal_of, bare_of, unit_by, unit_of, skip_while}
use Rattle.std.specs.Char.{encode_utf8}
use Rattle.std.proofs.lemmas.List.{take_at, drop_at}
use Rattle.fts_model.specs.declared.schema.Field.{Field}
use Rattle.fts_model.specs.QueryValues.{every}

-- a name in ASCII is its own spelling
abbrev pub IsPlain : List ℕ → Type 0
IsPlain name = encode_utf8_all name ≡ name

-- characters are those of a name exactly if their bytes are
pub bytes_eq-encoded : (w name : List ℕ) → IsPlain name → bytes_eq (encode_utf8_all w) name ≡ bytes_eq w name
bytes_eq-encoded w name p =
    elim (cases_Bool (bytes_eq w name)) [
      | inl e ↦
          let k : w ≡ name = (bytes_eq-Decides w name).0 e in
          let h : encode_utf8_all w ≡ name = ap encode_utf8_all k ∙ p in
          (bytes_eq-Decides (encode_utf8_all w) name).1 h ∙ sym e
      | inr e ↦ elim (cases_Bool (bytes_eq (encode_utf8_all w) name)) [
        | inl f ↦
            let h : encode_utf8_all w ≡ name = (bytes_eq-Decides (encode_utf8_all w) name).0 f in
            let k : w ≡ name = encodes_same w name (h ∙ sym p) in
            absurd (let g = (bytes_eq-Decides w name).1 k in cc)
        | inr f ↦ f ∙ sym e
      ]
    ]

-- `AND` is its own spelling
pub plain_and : IsPlain (codes "AND")
unfolding encode
plain_and = refl

-- `OR` is its own spelling
pub plain_or : IsPlain (codes "OR")
unfolding encode
plain_or = refl

-- `NOT` is its own spelling
pub plain_not : IsPlain (codes "NOT")
unfolding encode
plain_not = refl

-- `TO` is its own spelling
pub plain_to : IsPlain (codes "TO")
unfolding encode
plain_to = refl

-- a word is reserved exactly if its bytes are
pub is_reserved-encoded : (w : List ℕ) → is_reserved (encode_utf8_all w) ≡ is_reserved w
is_reserved-encoded w =
    let a = bytes_eq-encoded w (codes "AND") plain_and in
    let o = bytes_eq-encoded w (codes "OR") plain_or in
    let n = bytes_eq-encoded w (codes "NOT") plain_not in
    cc

-- the word at the front is a name
pub word_is : (s name : List ℕ) → IsPlain name → bytes_eq (word s) name ≡ true → take_while is_word_char s ≡ name
word_is s name p e = encodes_same (take_while is_word_char s) name ((bytes_eq-Decides (word s) name).0 e ∙ sym p)

-- nothing is skipped at the end
pub skip_while_end : (test : ℕ → Bool) (s : List ℕ) → s ≡ [] → skip_while test s ≡ []
unfolding skip_while
skip_while_end test s e = rw e refl

-- a character that passes is skipped
pub skip_while_more : (test : ℕ → Bool) (s t : List ℕ) (c : ℕ) → s ≡ c ∷ t → test c ≡ true → skip_while test s ≡ skip_while test t
unfolding skip_while
skip_while_more test s t c e h = let k : 1 + prefix_len test t ≡ suc (prefix_len test t) = omega arith in rw (e, h, k) refl

-- a character that doesn't pass is left
pub skip_while_stop : (test : ℕ → Bool) (s t : List ℕ) (c : ℕ) → s ≡ c ∷ t → test c ≡ false → skip_while test s ≡ s
unfolding skip_while
skip_while_stop test s t c e h = rw (e, h) refl

-- a character that passes is taken
pub take_while_more : (test : ℕ → Bool) (c : ℕ) (s : List ℕ) → test c ≡ true → take_while test (c ∷ s) ≡ c ∷ take_while test s
take_while_more test c s h = take_while-cons test c s ∙ ap (λ (b : Bool). cond b (c ∷ take_while test s) []) h

-- a character that doesn't pass isn't taken
pub take_while_stop : (test : ℕ → Bool) (c : ℕ) (s : List ℕ) → test c ≡ false → take_while test (c ∷ s) ≡ []
take_while_stop test c s h = take_while-cons test c s ∙ ap (λ (b : Bool). cond b (c ∷ take_while test s) []) h

-- whether a text may follow a word
abbrev pub stops : List ℕ → Bool
stops [] = true
stops (c ∷ s) = is_space c || c == 41

-- whether a text may follow white space
abbrev pub opens : List ℕ → Bool
opens [] = false
opens (c ∷ s) = not (is_space c || c == 41)

-- white space and `)` are no characters of a word
pub no_word_char : (c : ℕ) → (is_space c || c == 41) ≡ true → is_word_char c ≡ false
unfolding is_word_char
no_word_char c h =
    elim (or_cases (is_space c) (c == 41) h) [
      | inl e ↦ rw e refl
      | inr e ↦ let k : c ≡ 41 = eqb-true c 41 e in rw k refl
    ]

-- no word goes on if it may stop
pub word_stops : (r : List ℕ) → stops r ≡ true → (take_while is_word_char r ≡ []) × (skip_while is_word_char r ≡ r)
unfolding skip_while
word_stops [] h = (refl, refl)
word_stops (c ∷ s) h =
    let e : is_word_char c ≡ false = no_word_char c h in
    (take_while_stop is_word_char c s e, skip_while_stop is_word_char (c ∷ s) s c refl e)

-- no word goes on at the front of a text
abbrev pub WordEnds : List ℕ → Type 0
WordEnds r = (take_while is_word_char r ≡ []) × (skip_while is_word_char r ≡ r)

-- a word is read if no word goes on after it
pub word_at : (w r : List ℕ) → list_all is_word_char w ≡ true → WordEnds r → (take_while is_word_char (w ++ r) ≡ w) × (skip_while is_word_char (w ++ r) ≡ r)
unfolding skip_while
word_at [] r h e = e
word_at (c ∷ w) r h e =
    let p = and_parts (is_word_char c) (list_all is_word_char w) h in
    let q = word_at w r p.1 e in
    let t : is_word_char c ≡ true = p.0 in
    (take_while_more is_word_char c (w ++ r) t ∙ ap (λ (x : List ℕ). c ∷ x) q.0, skip_while_more is_word_char (c ∷ (w ++ r)) (w ++ r) c refl t ∙ q.1)

-- a word is read if it may stop after it
pub word-append : (w r : List ℕ) → list_all is_word_char w ≡ true → stops r ≡ true →
    (take_while is_word_char (w ++ r) ≡ w) × (skip_while is_word_char (w ++ r) ≡ r)
word-append w r h e = word_at w r h (word_stops r e)

-- the characters of a word that was read pass the test
taken : (s : List ℕ) → list_all is_word_char (take_while is_word_char s) ≡ true
taken [] = refl
taken (c ∷ s) =
    elim (cases_Bool (is_word_char c)) [
      | inl e ↦ ap (list_all is_word_char) (take_while_more is_word_char c s e) ∙ and_from (is_word_char c) (list_all is_word_char (take_while is_word_char s))
          e (taken s)
      | inr e ↦ ap (list_all is_word_char) (take_while_stop is_word_char c s e)
    ]

-- a text is the word at its front and the rest
pub word_parts : (s : List ℕ) → (s ≡ take_while is_word_char s ++ skip_while is_word_char s) × (list_all is_word_char (take_while is_word_char s) ≡ true)
unfolding skip_while
word_parts s = (sym (take-append-drop (prefix_len is_word_char s) s), taken s)

-- white space in front does not change what is left after skipping it
pub skip_while-append : (w t : List ℕ) → IsBlank w → skip_while is_space (w ++ t) ≡ skip_while is_space t
skip_while-append [] t h = refl
skip_while-append (c ∷ w) t h =
    let p = and_parts (is_space c) (list_all is_space w) h in
    skip_while_more is_space (c ∷ (w ++ t)) (w ++ t) c refl p.0 ∙ skip_while-append w t p.1

-- nothing is skipped at a text that may follow white space
pub skip_while_opens : (t : List ℕ) → opens t ≡ true → skip_while is_space t ≡ t
unfolding skip_while
skip_while_opens [] h = refl
skip_while_opens (c ∷ s) h =
    skip_while_stop is_space (c ∷ s) s c refl (or_parts (is_space c) (c == 41) (not-true _ h)).0

-- a text is white space and the rest
pub skip_while_parts : (s : List ℕ) → (w : List ℕ) × IsBlank w × (s ≡ w ++ skip_while is_space s)
unfolding skip_while
skip_while_parts [] = ([], refl, refl)
skip_while_parts (c ∷ s) =
    let q = skip_while_parts s in
    elim (cases_Bool (is_space c)) [
      | inl e ↦ (
        c ∷ q.0,
        and_from (is_space c) (list_all is_space q.0) e q.1,
        ap (λ (x : List ℕ). c ∷ x) q.2 ∙ ap (λ (x : List ℕ). (c ∷ q.0) ++ x)
            (sym (skip_while_more is_space (c ∷ s) s c refl e)),
      )
      | inr e ↦ ([], refl, sym (skip_while_stop is_space (c ∷ s) s c refl e))
    ]

-- a text that begins with white space is that white space and the rest
pub space_parts : (s : List ℕ) → begins_space s ≡ true → (w : List ℕ) × IsSpace w × (s ≡ w ++ skip_while is_space s)
unfolding skip_while
space_parts [] h = absurd cc
space_parts (c ∷ s) h =
    let q = skip_while_parts s in (
      c ∷ q.0,
      (omega arith, and_from (is_space c) (list_all is_space q.0) h q.1),
      ap (λ (x : List ℕ). c ∷ x) q.2 ∙ ap (λ (x : List ℕ). (c ∷ q.0) ++ x)
          (sym (skip_while_more is_space (c ∷ s) s c refl h)),
    )

-- a text with the `\` that was read before it
abbrev spelled : Bool → List ℕ → List ℕ
spelled true s = 92 ∷ s
spelled false s = s

-- the spelling of a character that needs no escape
pub piece_plain : (c : ℕ) → (c == 34) ≡ false → (c == 92) ≡ false → piece c ≡ c ∷ []
piece_plain c h k = rw (h, k) refl

-- the spelling of a quote or a backslash
pub piece_escaped : (c : ℕ) → (c == 34 || c == 92) ≡ true → piece c ≡ 92 ∷ c ∷ []
piece_escaped c h = rw h refl

-- a conditional that gives a value chose one of the two
pub chosen : {A : Type 0} (b : Bool) (x y z : A) → cond b x y ≡ z → ((b ≡ true) × (x ≡ z)) ⊎ ((b ≡ false) × (y ≡ z))
chosen true x y z e = inl (refl, e)
chosen false x y z e = inr (refl, e)

-- a character is put in front of the text that was read
char_onto_some : (c : ℕ) (o : Option (List ℕ × List ℕ)) (y : List ℕ × List ℕ) → char_onto c o ≡ Some y →
    (x : List ℕ × List ℕ) × (o ≡ Some x) × ((c ∷ x.0) ≡ y.0) × (x.1 ≡ y.1)
char_onto_some c None y e = absurd cc
char_onto_some c (Some x) y e =
    let h : ◌≡◌ {A = List ℕ × List ℕ} (c ∷ x.0, x.1) y = same_Some _ _ e in
    (x, refl, ap (λ (p : List ℕ × List ℕ). p.0) h, ap (λ (p : List ℕ × List ℕ). p.1) h)

-- equal parts make the same text
moved : (s a b : List ℕ) (y : List ℕ × List ℕ) → a ≡ y.0 → b ≡ y.1 → s ≡ quoted_text a ++ b → s ≡ quoted_text y.0 ++ y.1
moved s a b y e f h = rw (e, f) at h

-- a text that was read between quotes is spelled so
pub read_is_unquoted : (escaped : Bool) (s : List ℕ) (y : List ℕ × List ℕ) → unquoted escaped s ≡ Some y → spelled escaped s ≡ quoted_text y.0 ++ y.1
unfolding unquoted
read_is_unquoted true [] y e = absurd cc
read_is_unquoted false [] y e = absurd cc
read_is_unquoted true (c ∷ s) y e =
    elim (chosen (c == 34 || c == 92) _ _ _ e) [
      | inl p ↦
          let q = char_onto_some c (unquoted false s) y p.1 in
          let ih : s ≡ quoted_text q.0.0 ++ q.0.1 = read_is_unquoted false s q.0 q.1 in
          let k : piece c ≡ 92 ∷ c ∷ [] = piece_escaped c p.0 in
          let g : 92 ∷ (c ∷ s) ≡ quoted_text (c ∷ q.0.0) ++ q.0.1 = rw k (ap (λ (x : List ℕ). 92 ∷ (c ∷ x)) ih) in
          moved _ _ _ y q.2 q.3 g
      | inr p ↦ absurd (let h = p.1 in cc)
    ]
read_is_unquoted false (c ∷ s) y e =
    elim (chosen (c == 34) _ _ _ e) [
      | inl p ↦
          let k : c ≡ 34 = eqb-true c 34 p.0 in
          let h : ◌≡◌ {A = List ℕ × List ℕ} ([], s) y = same_Some _ _ p.1 in
          rw (k, ← h) refl
      | inr p ↦ elim (chosen (c == 92) _ _ _ p.1) [
        | inl q ↦
            let k : c ≡ 92 = eqb-true c 92 q.0 in
            rw k (read_is_unquoted true s y q.1)
        | inr q ↦
            let t = char_onto_some c (unquoted false s) y q.1 in
            let ih : s ≡ quoted_text t.0.0 ++ t.0.1 = read_is_unquoted false s t.0 t.1 in
            let k : piece c ≡ c ∷ [] = piece_plain c p.0 q.0 in
            let g : c ∷ s ≡ quoted_text (c ∷ t.0.0) ++ t.0.1 = rw k (ap (λ (x : List ℕ). c ∷ x) ih) in
            moved _ _ _ y t.2 t.3 g
      ]
    ]

-- a spelled text is read as the text
pub unquoted_is_read : (x r : List ℕ) → unquoted false (quoted_text x ++ r) ≡ Some (x, r)
unfolding unquoted
unquoted_is_read [] r = refl
unquoted_is_read (c ∷ x) r =
    elim (cases_Bool (c == 34 || c == 92)) [
      | inl e ↦
          let k : piece c ≡ 92 ∷ c ∷ [] = piece_escaped c e in
          rw (k, e, unquoted_is_read x r) refl
      | inr e ↦
          let p = or_parts (c == 34) (c == 92) e in
          let k : piece c ≡ c ∷ [] = piece_plain c p.0 p.1 in
          rw (k, p.0, p.1, unquoted_is_read x r) refl
    ]

-- a text has no more characters than bytes
length-chars_after : (n c : ℕ) (bs : List ℕ) → length (chars_after n c bs) ≤ length bs + 1
length-chars_after zero c [] = omega arith
length-chars_after zero c (b ∷ bs) = let h = length-chars_after (continuation_len b) (lead_bits b) bs in omega arith
length-chars_after (suc n) c [] = omega arith
length-chars_after (suc n) c (b ∷ bs) = let h = length-chars_after n (c * 64 + (b - 128)) bs in omega arith

-- a text has no more characters than bytes
pub length-chars : (bs : List ℕ) → length (chars bs) ≤ length bs
unfolding chars
length-chars [] = omega arith
length-chars (b ∷ bs) = let h = length-chars_after (continuation_len b) (lead_bits b) bs in omega arith

-- the characters of a text whose first one is split off
pub chars-cons : (text rest from to : List ℕ) (c : ℕ) → IsUtf8 text → from ≡ text → rest ≡ to → from ≡ encode_utf8 c ++ to → chars text ≡ c ∷ chars rest
chars-cons text rest from to c u e f h = chars_past_char text rest c u (sym e ∙ h ∙ ap (λ (x : List ℕ). encode_utf8 c ++ x) (sym f))

-- a text is the word at its front and the rest
pub text_parts : (text rest : List ℕ) → IsUtf8 text → IsUtf8 rest → chars rest ≡ skip_while is_word_char (chars text) → text ≡ word (chars text) ++ rest
text_parts text rest u v e =
    let p = (word_parts (chars text)).0 in
    sym (encodes-chars text u) ∙ ap encode_utf8_all p ∙ encodes-append (take_while is_word_char (chars text)) (skip_while is_word_char (chars text))
    ∙ ap (λ (x : List ℕ). word (chars text) ++ x) (ap encode_utf8_all (sym e) ∙ encodes-chars rest v)

-- a text may be cut after its word
abbrev pub WordSplit : (text rest : List ℕ) → ℕ → Type 0
WordSplit text rest n = IsCharBoundary text n × (take n text ≡ word (chars text)) × (drop n text ≡ rest)

-- a text may be cut after its word
pub word_split : (text rest : List ℕ) → IsUtf8 text → IsUtf8 rest → chars rest ≡ skip_while is_word_char (chars text) →
    WordSplit text rest (length text - length rest)
word_split text rest u v e =
    let p = text_parts text rest u v e in
    let w = word (chars text) in
    let n : length w ≡ length text - length rest = omega (arith, ap length p ∙ length-append w rest) in (
      subst (IsCharBoundary text) n (IsCharBoundary-at_seam text w rest p v),
      ap (λ (x : List ℕ). take (length text - length rest) x) p ∙ take_at w rest (length text - length rest) n,
      ap (λ (x : List ℕ). drop (length text - length rest) x) p ∙ drop_at w rest (length text - length rest) n,
    )

-- a text that was read, with an earlier front
abbrev pub with_front : List ℕ → Option (List ℕ × List ℕ) → Option (List ℕ × List ℕ)
with_front front None = None
with_front front (Some x) = Some (front ++ x.0, x.1)

-- one more character was read
pub front_more : (front : List ℕ) (c : ℕ) (o : Option (List ℕ × List ℕ)) →
    with_front front (in_bytes (char_onto c o)) ≡ with_front (front ++ encode_utf8 c) (in_bytes o)
front_more front c None = refl
front_more front c (Some x) = ap (λ (w : List ℕ). Some (w, x.1)) (sym (append_assoc front (encode_utf8 c) (encode_utf8_all x.0)))

-- no unit is read at the end
unit_at_end : (schema : List Field) (d : ℕ) → unit_of schema d [] ≡ None
unfolding unit_of unit_by
unit_at_end schema zero = refl
unit_at_end schema (suc d) = refl

-- a unit reads its inner units one nesting less deep
unit_inner : (schema : List Field) (d : ℕ) (s : List ℕ) → (d ≡ 0 → ⊥) → unit_of schema d s ≡ unit_by schema (unit_of schema (d - 1)) s
unfolding unit_of
unit_inner schema zero s h = absurd (h refl)
unit_inner schema (suc d) s h = let e : suc d - 1 ≡ d = omega arith in rw e refl

module _ (schema : List Field) (d : ℕ) (s : List ℕ) where
  -- no unit is read without a nesting left
  pub unit_none : d ≡ 0 → unit_of schema d s ≡ None
  unfolding unit_of
  unit_none e = rw e refl

  -- no unit is read from nothing
  pub unit_empty : s ≡ [] → unit_of schema d s ≡ None
  unit_empty e = ap (unit_of schema d) e ∙ unit_at_end schema d

  module _ (c : ℕ) (r : List ℕ) (open_ : d ≡ 0 → ⊥) (cons : s ≡ c ∷ r) where
    -- a unit is decided by its first character
    unit_head : unit_of schema d s ≡ unit_by schema (unit_of schema (d - 1)) (c ∷ r)
    unit_head = unit_inner schema d s open_ ∙ ap (unit_by schema (unit_of schema (d - 1))) cons

    -- a `(` begins a group
    pub unit_group : c ≡ 40 → unit_of schema d s ≡ group_of (unit_of schema (d - 1)) r
    unfolding unit_by
    unit_group e = unit_head ∙ rw e refl

    -- a `*` is the query for all documents
    pub unit_star : c ≡ 42 → unit_of schema d s ≡ Some (Ok every, r)
    unfolding unit_by
    unit_star e = unit_head ∙ rw e refl

    -- a `"` begins a quoted text
    pub unit_quote : c ≡ 34 → unit_of schema d s ≡ quoted_literal_of schema r
    unfolding unit_by
    unit_quote e = unit_head ∙ rw e refl

    -- any other character begins a bare word
    pub unit_bare : (c ≡ 40 → ⊥) → (c ≡ 42 → ⊥) → (c ≡ 34 → ⊥) → unit_of schema d s ≡ bare_of schema s
    unfolding unit_by
    unit_bare a b q =
        let k1 : (c == 40) ≡ false = ne_eqb c 40 a in
        let k2 : (c == 42) ≡ false = ne_eqb c 42 b in
        let k3 : (c == 34) ≡ false = ne_eqb c 34 q in
        unit_head ∙ rw (k1, k2, k3) (ap (bare_of schema) (sym cons))
