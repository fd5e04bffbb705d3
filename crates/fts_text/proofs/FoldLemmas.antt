-- Folding one character after another.
use Rattle.std.proofs.Common.{◌≡◌, ◌≤◌, ℕ, ◌+◌, List, [], ◌∷◌, ◌++◌, length, take, sym, ap, ◌∙◌, arith, append_assoc, length-append}
use Rattle.std.proofs.lemmas.List.{take-append-le, length-take}
use Rattle.std.proofs.lemmas.Str.{chars-nil, chars_past_char}
use Rattle.std.specs.Char.{encode_utf8}
use Rattle.std.specs.Str.{chars, IsUtf8}
use Rattle.unicode.specs.CaseFolding.{simple_fold}
use Rattle.fts_text.specs.Characters.{fold_chars}

-- the folding of no characters is empty
pub fold_chars-empty : (bs : List ℕ) → length bs ≡ 0 → fold_chars (chars bs) ≡ []
fold_chars-empty [] h = ap fold_chars chars-nil
fold_chars-empty (b ∷ bs) h = absurd (omega arith)

-- the folding of a text begins with that of its first character
pub fold_chars-more : (bs rest : List ℕ) (c : ℕ) → IsUtf8 bs → bs ≡ encode_utf8 c ++ rest → fold_chars (chars bs) ≡ encode_utf8 (simple_fold c)
    ++ fold_chars (chars rest)
fold_chars-more bs rest c text begins = ap fold_chars (chars_past_char bs rest c text begins)

-- the written folding and the remaining one join to the whole, after the next character
pub fold_chars-step : (bs rest out new whole : List ℕ) (c d : ℕ) → IsUtf8 bs → bs ≡ encode_utf8 c ++ rest → d ≡ simple_fold c → new ≡ out ++ encode_utf8 d →
    out ++ fold_chars (chars bs) ≡ whole → new ++ fold_chars (chars rest) ≡ whole
fold_chars-step bs rest out new whole c d text begins folds grows all =
    ap (λ l. l ++ fold_chars (chars rest)) grows
    ∙ append_assoc out (encode_utf8 d) (fold_chars (chars rest))
    ∙ ap (λ x. out ++ (encode_utf8 x ++ fold_chars (chars rest))) folds
    ∙ ap (λ l. out ++ l) (sym (fold_chars-more bs rest c text begins))
    ∙ all

-- the next character's folding fits if the whole does
pub length-fold_chars-step : (bs rest out whole : List ℕ) (c d : ℕ) → IsUtf8 bs → bs ≡ encode_utf8 c ++ rest → d ≡ simple_fold c →
    out ++ fold_chars (chars bs) ≡ whole → length out + length (encode_utf8 d) ≤ length whole
length-fold_chars-step bs rest out whole c d text begins folds all =
    let grown = fold_chars-step bs rest out (out ++ encode_utf8 d) whole c d text begins folds (λ _. out ++ encode_utf8 d) all in
    let both = length-append (out ++ encode_utf8 d) (fold_chars (chars rest)) in
    let front = length-append out (encode_utf8 d) in
    let same = ap length grown in
    omega arith

-- an append leaves the earlier bytes at the front
pub begins-step : (out more new old : List ℕ) (n : ℕ) → take n out ≡ old → n ≡ length old → new ≡ out ++ more → take n new ≡ old
begins-step out more new old n begins long grows =
    let same = ap length begins in
    let cut = length-take n out in
    ap (take n) grows ∙ take-append-le n out more (omega arith) ∙ begins
