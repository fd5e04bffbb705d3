-- The length of the longest prefix of characters of one class.
use Rattle.std.proofs.Common.{◌≡◌, ◌≤◌, ℕ, ◌+◌, Bool, true, false, not, cond, List, [], ◌∷◌, ◌++◌, length, drop, refl, sym, ap, subst, ◌∙◌, arith}
use Rattle.std.proofs.Common.{length-append}
use Rattle.std.proofs.Math.Seq.{drop-append-add}
use Rattle.std.proofs.lemmas.Bool.{and_parts, not-false, not-true}
use Rattle.std.proofs.lemmas.Str.{chars-nil, chars-encodes, chars_past_char, encodes-chars, scalars-chars, length-encode, IsCharBoundary-from_drop}
use lib.Utf8.{encodes, scalar, scalars}
use Rattle.std.specs.Bool.{beq}
use Rattle.std.specs.Char.{encode_utf8, len_utf8}
use Rattle.std.specs.Str.{chars, IsUtf8, IsCharBoundary}
use Rattle.fts_text.specs.Characters.{is_alphanumeric, front_len}

-- an empty text has a front of no bytes
pub front_len-empty : (a : Bool) (bs : List ℕ) → length bs ≡ 0 → front_len a (chars bs) ≡ 0
front_len-empty a [] h = ap (front_len a) chars-nil
front_len-empty a (b ∷ bs) h = absurd (omega arith)

-- the first character is of the class, so the front goes on after it
pub front_len-more : (a : Bool) (bs rest : List ℕ) (c : ℕ) → IsUtf8 bs → bs ≡ encode_utf8 c ++ rest → not (beq (is_alphanumeric c) a) ≡ false →
    front_len a (chars bs) ≡ len_utf8 c + front_len a (chars rest)
front_len-more a bs rest c text begins same =
    ap (front_len a) (chars_past_char bs rest c text begins)
    ∙ ap (λ b. cond b (len_utf8 c + front_len a (chars rest)) 0) (not-false (beq (is_alphanumeric c) a) same)

-- the first character is not of the class, so the front is empty
pub front_len-stop : (a : Bool) (bs rest : List ℕ) (c : ℕ) → IsUtf8 bs → bs ≡ encode_utf8 c ++ rest → not (beq (is_alphanumeric c) a) ≡ true →
    front_len a (chars bs) ≡ 0
front_len-stop a bs rest c text begins other =
    ap (front_len a) (chars_past_char bs rest c text begins)
    ∙ ap (λ b. cond b (len_utf8 c + front_len a (chars rest)) 0) (not-true (beq (is_alphanumeric c) a) other)

-- the front: the longest prefix of characters of the class
abbrev pub front : Bool → List ℕ → List ℕ
front a [] = []
front a (c ∷ cs) = cond (beq (is_alphanumeric c) a) (c ∷ front a cs) []

-- the characters after the front
abbrev pub after : Bool → List ℕ → List ℕ
after a [] = []
after a (c ∷ cs) = cond (beq (is_alphanumeric c) a) (after a cs) (c ∷ cs)

-- the bytes of the front, by whether the first character is of the class
length-front-at : (a b : Bool) (c : ℕ) (cs : List ℕ) → length (encodes (front a cs)) ≡ front_len a cs →
    length (encodes (cond b (c ∷ front a cs) [])) ≡ cond b (len_utf8 c + front_len a cs) 0
length-front-at a true c cs h =
    let both = length-append (encode_utf8 c) (encodes (front a cs)) in
    let one = length-encode c in
    omega arith
length-front-at a false c cs h = refl

-- the front's length is the number of its characters' bytes
pub length-front : (a : Bool) (cs : List ℕ) → length (encodes (front a cs)) ≡ front_len a cs
length-front a [] = refl
length-front a (c ∷ cs) = length-front-at a (beq (is_alphanumeric c) a) c cs (length-front a cs)

-- the bytes after the front are those of the characters after it, by whether the first character is of the class
drop-front-at : (a b : Bool) (c : ℕ) (cs : List ℕ) → drop (front_len a cs) (encodes cs) ≡ encodes (after a cs) →
    drop (cond b (len_utf8 c + front_len a cs) 0) (encodes (c ∷ cs)) ≡ encodes (cond b (after a cs) (c ∷ cs))
drop-front-at a true c cs h =
    ap (λ n. drop (n + front_len a cs) (encodes (c ∷ cs))) (sym (length-encode c))
    ∙ drop-append-add (encode_utf8 c) (encodes cs) (front_len a cs)
    ∙ h
drop-front-at a false c cs h = refl

-- the bytes after the front are those of the characters after it
drop-front : (a : Bool) (cs : List ℕ) → drop (front_len a cs) (encodes cs) ≡ encodes (after a cs)
drop-front a [] = refl
drop-front a (c ∷ cs) = drop-front-at a (beq (is_alphanumeric c) a) c cs (drop-front a cs)

-- the elements after a front are characters, by whether the first character is of the class
scalars-after-at : (a b : Bool) (c : ℕ) (cs : List ℕ) → scalars (c ∷ cs) ≡ true → (scalars cs ≡ true → scalars (after a cs) ≡ true) →
    scalars (cond b (after a cs) (c ∷ cs)) ≡ true
scalars-after-at a true c cs all h = h (and_parts (scalar c) (scalars cs) all).1
scalars-after-at a false c cs all h = all

-- the elements after a front are characters
scalars-after : (a : Bool) (cs : List ℕ) → scalars cs ≡ true → scalars (after a cs) ≡ true
scalars-after a [] all = all
scalars-after a (c ∷ cs) all = scalars-after-at a (beq (is_alphanumeric c) a) c cs all (scalars-after a cs)

-- a front is no longer than the text, by whether the first character is of the class
front_len-le-at : (a b : Bool) (c : ℕ) (cs : List ℕ) → front_len a cs ≤ length (encodes cs) → cond b (len_utf8 c + front_len a cs) 0 ≤ length (encodes (c ∷ cs))
front_len-le-at a true c cs h =
    let both = length-append (encode_utf8 c) (encodes cs) in
    let one = length-encode c in
    omega arith
front_len-le-at a false c cs h = omega arith

-- a front is no longer than the characters
front_len-le-encodes : (a : Bool) (cs : List ℕ) → front_len a cs ≤ length (encodes cs)
front_len-le-encodes a [] = omega arith
front_len-le-encodes a (c ∷ cs) = front_len-le-at a (beq (is_alphanumeric c) a) c cs (front_len-le-encodes a cs)

-- a front ends within its text
pub front_len-le : (a : Bool) (bs : List ℕ) → IsUtf8 bs → front_len a (chars bs) ≤ length bs
front_len-le a bs text =
    let P : List ℕ → Type 0 = λ l. front_len a (chars bs) ≤ length l in
    subst P (encodes-chars bs text) (front_len-le-encodes a (chars bs))

-- the bytes after the front of a text are those of the characters after it
drop-front_len : (a : Bool) (bs : List ℕ) → IsUtf8 bs → drop (front_len a (chars bs)) bs ≡ encodes (after a (chars bs))
drop-front_len a bs text =
    ap (drop (front_len a (chars bs))) (sym (encodes-chars bs text)) ∙ drop-front a (chars bs)

-- the characters of the bytes after the front of a text are those after the front
pub chars-drop-front_len : (a : Bool) (bs : List ℕ) → IsUtf8 bs → chars (drop (front_len a (chars bs)) bs) ≡ after a (chars bs)
chars-drop-front_len a bs text =
    ap chars (drop-front_len a bs text) ∙ chars-encodes (after a (chars bs)) (scalars-after a (chars bs) (scalars-chars bs text))

-- a front ends between characters
pub IsCharBoundary-front_len : (a : Bool) (bs : List ℕ) → IsUtf8 bs → IsCharBoundary bs (front_len a (chars bs))
IsCharBoundary-front_len a bs text =
    let rest : IsUtf8 (drop (front_len a (chars bs)) bs) =
    (after a (chars bs), (scalars-after a (chars bs) (scalars-chars bs text), sym (drop-front_len a bs text))) in
    IsCharBoundary-from_drop bs (front_len a (chars bs)) (front_len-le a bs text) rest
