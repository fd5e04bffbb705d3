-- White space before a line changes no reply.
use Rattle.std.proofs.Common.{◌≡◌, ◌<◌, ◌≤◌, ◌+◌, ◌-◌, ℕ, suc, Bool, true, false, cond, ltb, List, [], ◌∷◌, ◌++◌, length, take, drop, refl, sym, ap, subst, ◌∙◌}
use Rattle.std.proofs.Common.{take-append-drop, arith, Option, ◌&&◌}
use Rattle.std.specs.List.{prefix_len}
use Rattle.std.proofs.lemmas.Bool.{false_from_ne_true, and_parts, and_right}
use Rattle.std.proofs.lemmas.Bool.Decides.{nat_tests}
use Rattle.std.proofs.lemmas.List.{length-append, length-drop, take_all}
use Rattle.std.proofs.lemmas.List.Folds.{list_all-append}
use Rattle.std.specs.List.{onto_first}
use Rattle.fts_script.specs.session.Text.{is_white, is_blank, lines_of, HasNoEnd}
use Rattle.fts_script.specs.command.Commands.{longest, command}
use Rattle.fts_script.specs.session.Replies.{execute, execute_line, reply_on, carried_over}
use Rattle.fts_base.specs.Results.{result_and_then}
use Rattle.fts_script.specs.session.Outputs.{SessionValue, after_line, reply_to}
use Rattle.fts_engine.specs.Indexes.{Index, indexes}
use Rattle.fts_script.specs.Stops.{IsWritten}
use Rattle.fts_script.proofs.LineLemmas.{not_lf}
use Rattle.fts_script.proofs.WhiteLemmas.{json_in-blank}

-- ---- white space before a line

is_blank-blank : (white line : List ℕ) → is_blank white ≡ true → is_blank (white ++ line) ≡ is_blank line
is_blank-blank white line h = list_all-append is_white white line ∙ ap (λ v. v && is_blank line) h

command-blank : (white line : List ℕ) → is_blank white ≡ true → length (white ++ line) ≤ longest → command (white ++ line) ≡ command line
command-blank white line h short =
    let whole : ltb longest (length (white ++ line)) ≡ false = grind (arith, nat_tests) in
    let part : ltb longest (length line) ≡ false = grind (arith, nat_tests, length-append white line) in
    rw (whole, part, json_in-blank white line h) refl

execute_line-blank : (index : Option Index) (white line : List ℕ) → is_blank white ≡ true → length (white ++ line) ≤ longest →
    execute_line indexes index (white ++ line) ≡ execute_line indexes index line
execute_line-blank index white line h short = ap (result_and_then (execute indexes index)) (command-blank white line h short)

pub reply_to-blank : (s : SessionValue) (white line : List ℕ) → is_blank white ≡ true → length (white ++ line) ≤ longest →
    reply_to s (white ++ line) ≡ reply_to s line
unfolding reply_on
reply_to-blank s white line h short = rw (is_blank-blank white line h, execute_line-blank s.index white line h short) refl

pub after_line-blank : (s : SessionValue) (white line : List ℕ) → is_blank white ≡ true → length (white ++ line) ≤ longest →
    after_line s (white ++ line) ≡ after_line s line
unfolding carried_over
after_line-blank s white line h short = rw (is_blank-blank white line h, execute_line-blank s.index white line h short) refl

-- ---- the white space that a line begins with

step : (b : ℕ) (xs : List ℕ) (t : Bool) → is_white b ≡ t → is_blank (take (prefix_len is_white xs) xs) ≡ true →
    is_blank (take (cond t (1 + prefix_len is_white xs) 0) (b ∷ xs)) ≡ true
step b xs true e h =
    let more : 1 + prefix_len is_white xs ≡ suc (prefix_len is_white xs) = omega arith in
    rw more (ap (λ t. t && is_blank (take (prefix_len is_white xs) xs)) e ∙ h)
step b xs false e h = refl

-- the white space that bytes begin with
pub is_blank-front : (xs : List ℕ) → is_blank (take (prefix_len is_white xs) xs) ≡ true
is_blank-front [] = refl
is_blank-front (b ∷ xs) = step b xs (is_white b) refl (is_blank-front xs)

bare_step : (b : ℕ) (xs : List ℕ) (t : Bool) → is_white b ≡ t → (is_blank (drop (prefix_len is_white xs) xs) ≡ true → drop (prefix_len is_white xs) xs ≡ []) →
    is_blank (drop (cond t (1 + prefix_len is_white xs) 0) (b ∷ xs)) ≡ true → drop (cond t (1 + prefix_len is_white xs) 0) (b ∷ xs) ≡ []
bare_step b xs true e h =
    let more : 1 + prefix_len is_white xs ≡ suc (prefix_len is_white xs) = omega arith in rw more h
bare_step b xs false e h = λ blank. let parts = and_parts (is_white b) (is_blank xs) blank in cc

-- the rest is not blank, if there is any
bare-drop : (xs : List ℕ) → is_blank (drop (prefix_len is_white xs) xs) ≡ true → drop (prefix_len is_white xs) xs ≡ []
bare-drop [] = λ _. refl
bare-drop (b ∷ xs) = bare_step b xs (is_white b) refl (bare-drop xs)

-- ---- a line that isn't blank

pub not_blank-before : (xs ys : List ℕ) → is_blank xs ≡ false → is_blank (xs ++ ys) ≡ false
not_blank-before xs ys h = list_all-append is_white xs ys ∙ ap (λ v. v && is_blank ys) h

pub not_blank-behind : (xs ys : List ℕ) → is_blank ys ≡ false → is_blank (xs ++ ys) ≡ false
not_blank-behind xs ys h = list_all-append is_white xs ys ∙ and_right (is_blank xs) (is_blank ys) h

-- a byte follows its white space
pub not_blank-some : (piece : List ℕ) (k : ℕ) → k ≡ prefix_len is_white piece → 0 < length (take (length piece - k) (drop k piece)) → is_blank piece ≡ false
not_blank-some piece k k-is some = false_from_ne_true (is_blank piece) (λ blank.
    let parts = and_parts (is_blank (take k piece)) (is_blank (drop k piece))
    (sym (list_all-append is_white (take k piece) (drop k piece)) ∙ ap is_blank (take-append-drop k piece) ∙ blank) in
    let none : drop k piece ≡ [] = ap (λ n. drop n piece) k-is ∙ bare-drop piece (ap (λ n. is_blank (drop n piece)) (sym k-is) ∙ parts.1) in
    let nothing : length (take (length piece - k) (drop k piece)) ≡ 0 =
    ap length (take_all (length piece - k) (drop k piece) (omega (arith, length-drop k piece))) ∙ ap length none in omega (arith, some, nothing))

first_written : (b : ℕ) (ls : List (List ℕ)) → is_white b ≡ false → IsWritten (onto_first b ls)
first_written b [] h = ap (λ v. v && true) h
first_written b (line ∷ ls) h = ap (λ v. v && is_blank line) h

first_white : (b : ℕ) (ls : List (List ℕ)) → is_white b ≡ true → IsWritten ls → IsWritten (onto_first b ls)
first_white b [] h w = absurd w
first_white b (line ∷ ls) h w = ap (λ v. v && is_blank line) h ∙ w

-- a line that isn't blank is a first line that isn't blank, whatever comes after it
pub IsWritten-front : (line more : List ℕ) → HasNoEnd line → is_blank line ≡ false → IsWritten (lines_of (line ++ more))
IsWritten-front [] more none h = cc
IsWritten-front (b ∷ line) more none h =
    subst IsWritten (sym (ap (λ t. cond t ([] ∷ lines_of (line ++ more)) (onto_first b (lines_of (line ++ more)))) (not_lf b none.0)))
    (by (is_white b) refl (IsWritten-front line more none.1))
  where
    by : (t : Bool) → is_white b ≡ t → (is_blank line ≡ false → IsWritten (lines_of (line ++ more))) → IsWritten (onto_first b (lines_of (line ++ more)))
    by true e rest = first_white b (lines_of (line ++ more)) e (rest (sym (ap (λ v. v && is_blank line) e) ∙ h))
    by false e rest = first_written b (lines_of (line ++ more)) e
