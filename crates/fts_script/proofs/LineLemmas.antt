-- The lines of a text that is cut in two.
use Rattle.std.proofs.Common.{◌≡◌, ◌≢◌, ◌<◌, ◌≤◌, ◌+◌, ◌-◌, ℕ, zero, suc, Bool, true, false, cond, eqb, List, [], ◌∷◌, ◌++◌, length, take, get_or, refl, ap}
use Rattle.std.proofs.Common.{subst, ◌∙◌, ⊎_elim, append_assoc, arith, rules, tests, inr, None, Some, eq-eqb}
use Rattle.std.proofs.lemmas.Bool.{eqb-true}
use Rattle.std.proofs.lemmas.List.{length-append, take_more, take_all}
use Rattle.memchr.specs.Find.{IsFirstByte, is_byte}
use Rattle.std.specs.List.{onto_first}
use Rattle.fts_script.specs.session.Text.{lines_of, IsWhole, HasNoEnd}

onto_first-append : (b : ℕ) (ls ms : List (List ℕ)) → 0 < length ls → onto_first b (ls ++ ms) ≡ onto_first b ls ++ ms
onto_first-append b [] ms h = absurd (omega arith)
onto_first-append b (l ∷ ls) ms h = refl

length-onto_first : (b : ℕ) (ls : List (List ℕ)) → 0 < length (onto_first b ls)
length-onto_first b [] = omega arith
length-onto_first b (l ∷ ls) = omega arith

some_first : (t : Bool) (b : ℕ) (ls : List (List ℕ)) → 0 < length (cond t ([] ∷ ls) (onto_first b ls))
some_first true b ls = omega arith
some_first false b ls = length-onto_first b ls

some_line : (xs ys : List ℕ) → 0 < length (lines_of (xs ++ 10 ∷ ys))
some_line [] ys = omega arith
some_line (x ∷ xs) ys = some_first (eqb x 10) x (lines_of (xs ++ 10 ∷ ys))

first_of_two : (t : Bool) (b : ℕ) (ls ms : List (List ℕ)) → 0 < length ls →
    cond t ([] ∷ (ls ++ ms)) (onto_first b (ls ++ ms)) ≡ cond t ([] ∷ ls) (onto_first b ls) ++ ms
first_of_two true b ls ms h = refl
first_of_two false b ls ms h = onto_first-append b ls ms h

-- the lines up to an LF, and those after it
lines_of-cut : (xs ys : List ℕ) → lines_of (xs ++ 10 ∷ ys) ≡ lines_of (xs ++ 10 ∷ []) ++ lines_of ys
lines_of-cut [] ys = refl
lines_of-cut (x ∷ xs) ys =
    ap (λ ls. cond (eqb x 10) ([] ∷ ls) (onto_first x ls)) (lines_of-cut xs ys)
    ∙ first_of_two (eqb x 10) x (lines_of (xs ++ 10 ∷ [])) (lines_of ys) (some_line xs [])

pub lines_of-append : (done more : List ℕ) → IsWhole done → lines_of (done ++ more) ≡ lines_of done ++ lines_of more
lines_of-append done more h =
    ⊎_elim (λ e. rw e) (λ w. rw (w.1, append_assoc) (lines_of-cut w.0 more)) h

pub not_lf : (b : ℕ) → b ≢ 10 → eqb b 10 ≡ false
not_lf b h = search (rules, tests)

-- a line and its LF
pub lines_of-ended : (line : List ℕ) → HasNoEnd line → lines_of (line ++ 10 ∷ []) ≡ line ∷ []
lines_of-ended [] h = refl
lines_of-ended (b ∷ line) h =
    ap (λ t. cond t ([] ∷ lines_of (line ++ 10 ∷ [])) (onto_first b (lines_of (line ++ 10 ∷ [])))) (not_lf b h.0)
    ∙ ap (onto_first b) (lines_of-ended line h.1)

-- the last line, without one
pub lines_of-unended : (line : List ℕ) → HasNoEnd line → line ≢ [] → lines_of line ≡ line ∷ []
lines_of-unended [] h some = absurd (some refl)
lines_of-unended (b ∷ []) h some = ap (λ t. cond t ([] ∷ []) (onto_first b [])) (not_lf b h.0)
lines_of-unended (b ∷ c ∷ line) h some =
    ap (λ t. cond t ([] ∷ lines_of (c ∷ line)) (onto_first b (lines_of (c ∷ line)))) (not_lf b h.0)
    ∙ ap (onto_first b) (lines_of-unended (c ∷ line) h.1 (λ e. cc))

pub HasNoEnd-append : (xs ys : List ℕ) → HasNoEnd xs → HasNoEnd ys → HasNoEnd (xs ++ ys)
HasNoEnd-append [] ys h k = k
HasNoEnd-append (x ∷ xs) ys h k = (h.0, HasNoEnd-append xs ys h.1 k)

pub IsWhole-ended : (xs : List ℕ) → IsWhole (xs ++ 10 ∷ [])
IsWhole-ended xs = inr (xs, refl)

HasNoEnd-take : (bytes : List ℕ) (k : ℕ) → ((j : ℕ) → j < k → eqb (get_or bytes j 0) 10 ≡ true → ⊥) → HasNoEnd (take k bytes)
HasNoEnd-take bytes zero h = tt
HasNoEnd-take [] (suc k) h = tt
HasNoEnd-take (b ∷ bytes) (suc k) h =
    (λ e. h 0 (omega arith) (eq-eqb b 10 e), HasNoEnd-take bytes k (λ j below. h (suc j) (omega arith)))

-- the bytes before the first LF have none
pub HasNoEnd-before : (bytes : List ℕ) (k : ℕ) → IsFirstByte (is_byte 10) bytes (Some k) → HasNoEnd (take k bytes)
HasNoEnd-before bytes k h = HasNoEnd-take bytes k (λ j below. h.0.before j (omega arith) below)

-- a search found none
pub HasNoEnd-none : (bytes : List ℕ) → IsFirstByte (is_byte 10) bytes None → HasNoEnd bytes
HasNoEnd-none bytes h =
    subst HasNoEnd (take_all (length bytes) bytes (omega arith)) (HasNoEnd-take bytes (length bytes) (λ j below. h j (omega arith) below))

-- the bytes up to the first LF
pub take-ended : (bytes : List ℕ) (k : ℕ) → IsFirstByte (is_byte 10) bytes (Some k) → take (k + 1) bytes ≡ take k bytes ++ 10 ∷ []
take-ended bytes k h =
    take_more bytes k 0 h.0.high ∙ ap (λ b. take k bytes ++ b ∷ []) (eqb-true (get_or bytes k 0) 10 h.1)

-- a part of bytes that have none has none
pub HasNoEnd-shorter : (xs : List ℕ) (j k : ℕ) → j ≤ k → HasNoEnd (take k xs) → HasNoEnd (take j xs)
HasNoEnd-shorter xs zero k h e = tt
HasNoEnd-shorter [] (suc j) k h e = tt
HasNoEnd-shorter (x ∷ xs) (suc j) zero h e = absurd (omega (arith, h))
HasNoEnd-shorter (x ∷ xs) (suc j) (suc k) h e = (e.0, HasNoEnd-shorter xs j k (omega (arith, h)) e.1)

HasNoEnd-front : (line more : List ℕ) (k : ℕ) → k ≤ length line → HasNoEnd line → HasNoEnd (take k (line ++ more))
HasNoEnd-front line more zero h none = tt
HasNoEnd-front [] more (suc k) h none = absurd (omega (arith, h))
HasNoEnd-front (x ∷ line) more (suc k) h none = (none.0, HasNoEnd-front line more k (omega (arith, h)) none.1)

-- a line and no more than n bytes after it
pub HasNoEnd-late : (line more : List ℕ) (n : ℕ) → length more ≤ n → HasNoEnd line → HasNoEnd (take (length (line ++ more) - n) (line ++ more))
HasNoEnd-late line more n h none =
    HasNoEnd-front line more (length (line ++ more) - n) (omega (arith, h, length-append line more)) none
