-- What is stored of a line is enough for its reply, and grows with the line.
use Rattle.std.proofs.Common.{◌≡◌, ◌<◌, ◌≤◌, ◌+◌, ◌-◌, ℕ, suc, Bool, true, false, cond, ltb, List, [], ◌∷◌, ◌++◌, length, take, drop, refl, sym, ap, ◌∙◌}
use Rattle.std.proofs.Common.{append_assoc, take-append-drop, zero-add, arith, Option, Some, None, ◌&&◌}
use Rattle.std.specs.List.{prefix_len}
use Rattle.std.proofs.lemmas.Bool.Decides.{nat_tests}
use Rattle.std.proofs.lemmas.List.{length-append, length-drop, nil_from_length, take_all}
use Rattle.std.proofs.lemmas.List.Folds.{list_all-append, length-prefix_len}
use Rattle.std.proofs.lemmas.Bool.{and_parts}
use Rattle.fts_script.specs.session.Text.{is_white, is_blank}
use Rattle.fts_script.specs.command.Commands.{longest}
use Rattle.fts_script.specs.session.Replies.{reply_on, carried_over}
use Rattle.fts_script.specs.session.Outputs.{SessionValue, after_line, reply_to}
use Rattle.fts_script.specs.session.KeptLines.{KeptLine, Short, TooLong, indented, kept_line, kept_in, grown, is_blank_kept, reply_to_kept, after_kept}
use Rattle.fts_script.proofs.BlankLemmas.{is_blank-front, reply_to-blank, after_line-blank}

-- one more space, tab or CR is counted
indented-white : (w b : ℕ) (rest : List ℕ) → is_white b ≡ true → indented w (b ∷ rest) ≡ indented (w + 1) rest
indented-white w b rest h =
    let n = prefix_len is_white rest in
    let long : ltb longest (w + length (b ∷ rest)) ≡ ltb longest ((w + 1) + length rest) = ap (ltb longest) (omega arith) in
    let blank : is_blank (b ∷ rest) ≡ is_blank rest = ap (λ t. t && is_blank rest) h in
    let more : prefix_len is_white (b ∷ rest) ≡ suc n = ap (λ t. cond t (1 + n) 0) h ∙ omega arith in
    let count : w + prefix_len is_white (b ∷ rest) ≡ (w + 1) + n = omega arith in
    let left : drop (prefix_len is_white (b ∷ rest)) (b ∷ rest) ≡ drop n rest = ap (λ k. drop k (b ∷ rest)) more in
    cc

-- white space is counted, however much there is
indented-blank : (w : ℕ) (white rest : List ℕ) → is_blank white ≡ true → indented w (white ++ rest) ≡ indented (w + length white) rest
indented-blank w [] rest h = ap (λ n. indented n rest) (omega arith)
indented-blank w (b ∷ white) rest h =
    let parts = and_parts (is_white b) (is_blank white) h in
    indented-white w b (white ++ rest) parts.0 ∙ indented-blank (w + 1) white rest parts.1 ∙ ap (λ n. indented n rest) (omega arith)

-- the line is its white space and what follows it
is_blank-rest : (line : List ℕ) → is_blank (drop (prefix_len is_white line) line) ≡ is_blank line
is_blank-rest line =
    let k = prefix_len is_white line in
    ap (λ t. t && is_blank (drop k line)) (sym (is_blank-front line))
    ∙ sym (list_all-append is_white (take k line) (drop k line)) ∙ ap is_blank (take-append-drop k line)

is_blank_kept-by : (t : Bool) (w : ℕ) (line : List ℕ) →
    is_blank_kept (cond t (TooLong (is_blank line)) (Short (w + prefix_len is_white line) (drop (prefix_len is_white line) line))) ≡ is_blank line
is_blank_kept-by true w line = refl
is_blank_kept-by false w line = is_blank-rest line

pub is_blank_kept-indented : (w : ℕ) (line : List ℕ) → is_blank_kept (indented w line) ≡ is_blank line
is_blank_kept-indented w line = is_blank_kept-by (ltb longest (w + length line)) w line

-- what is stored of a line grows with it
pub grown-kept_line : (line piece : List ℕ) → grown (kept_line line) piece ≡ kept_line (line ++ piece)
grown-kept_line line piece = by (ltb longest (0 + length line)) refl
  where
    by : (t : Bool) → ltb longest (0 + length line) ≡ t →
        grown (cond t (TooLong (is_blank line)) (Short (0 + prefix_len is_white line) (drop (prefix_len is_white line) line))) piece ≡ kept_line (line ++ piece)
    by true e =
        let long : ltb longest (0 + length (line ++ piece)) ≡ true = grind (arith, nat_tests, length-append line piece) in
        ap TooLong (sym (list_all-append is_white line piece))
        ∙ sym (ap (λ t. cond t (TooLong (is_blank (line ++ piece)))
        (Short (0 + prefix_len is_white (line ++ piece)) (drop (prefix_len is_white (line ++ piece)) (line ++ piece)))) long)
    by false e =
        let n = prefix_len is_white line in
        ap (λ m. indented (0 + m) (drop n line ++ piece)) (sym (length-prefix_len is_white line))
        ∙ sym (indented-blank 0 (take n line) (drop n line ++ piece) (is_blank-front line))
        ∙ ap kept_line (sym (append_assoc (take n line) (drop n line) piece) ∙ ap (λ v. v ++ piece) (take-append-drop n line))

-- a line that is too long is refused, unless it is blank
reply_to-long : (s : SessionValue) (line : List ℕ) (blank : Bool) → ltb longest (length line) ≡ true → is_blank line ≡ blank →
    reply_to_kept s (TooLong blank) ≡ reply_to s line
unfolding reply_on
reply_to-long s line true long e = rw e refl
reply_to-long s line false long e = rw (e, long) refl

after_line-long : (s : SessionValue) (line : List ℕ) (blank : Bool) → ltb longest (length line) ≡ true → is_blank line ≡ blank →
    after_kept s (TooLong blank) ≡ after_line s line
unfolding carried_over
after_line-long s line true long e = rw e refl
after_line-long s line false long e = rw (e, long) refl

-- what is stored of a line is enough for its reply
pub reply_to_kept-kept_line : (s : SessionValue) (line : List ℕ) → reply_to_kept s (kept_line line) ≡ reply_to s line
reply_to_kept-kept_line s line = by (ltb longest (0 + length line)) refl
  where
    by : (t : Bool) → ltb longest (0 + length line) ≡ t →
        reply_to_kept s (cond t (TooLong (is_blank line)) (Short (0 + prefix_len is_white line) (drop (prefix_len is_white line) line))) ≡ reply_to s line
    by true e = reply_to-long s line (is_blank line) (sym (ap (ltb longest) (zero-add (length line))) ∙ e) refl
    by false e =
        let k = prefix_len is_white line in
        let short : length (take k line ++ drop k line) ≤ longest = grind (arith, nat_tests, ap length (take-append-drop k line)) in
        sym (reply_to-blank s (take k line) (drop k line) (is_blank-front line) short) ∙ ap (reply_to s) (take-append-drop k line)

pub after_kept-kept_line : (s : SessionValue) (line : List ℕ) → after_kept s (kept_line line) ≡ after_line s line
after_kept-kept_line s line = by (ltb longest (0 + length line)) refl
  where
    by : (t : Bool) → ltb longest (0 + length line) ≡ t →
        after_kept s (cond t (TooLong (is_blank line)) (Short (0 + prefix_len is_white line) (drop (prefix_len is_white line) line))) ≡ after_line s line
    by true e = after_line-long s line (is_blank line) (sym (ap (ltb longest) (zero-add (length line))) ∙ e) refl
    by false e =
        let k = prefix_len is_white line in
        let short : length (take k line ++ drop k line) ≤ longest = grind (arith, nat_tests, ap length (take-append-drop k line)) in
        sym (after_line-blank s (take k line) (drop k line) (is_blank-front line) short) ∙ ap (after_line s) (take-append-drop k line)

-- a line that isn't blank, by what is kept of its beginning
pub not_blank-kept : (p : KeptLine) (start piece : List ℕ) → p ≡ kept_line start → is_blank_kept (grown p piece) ≡ false → is_blank (start ++ piece) ≡ false
not_blank-kept p start piece held h =
    sym (is_blank_kept-indented 0 (start ++ piece)) ∙ ap is_blank_kept (sym (ap (λ v. grown v piece) held ∙ grown-kept_line start piece)) ∙ h

-- a line that comes in one piece
grown-nothing : (p : KeptLine) (piece : List ℕ) → p ≡ kept_line [] → grown p piece ≡ kept_line piece
grown-nothing p piece none = ap (λ v. grown v piece) none ∙ grown-kept_line [] piece

pub reply_to_kept-whole : (s : SessionValue) (p : KeptLine) (piece : List ℕ) → p ≡ kept_line [] → reply_to_kept s (grown p piece) ≡ reply_to s piece
reply_to_kept-whole s p piece none = ap (reply_to_kept s) (grown-nothing p piece none) ∙ reply_to_kept-kept_line s piece

pub after_kept-whole : (s : SessionValue) (p : KeptLine) (piece : List ℕ) → p ≡ kept_line [] → after_kept s (grown p piece) ≡ after_line s piece
after_kept-whole s p piece none = ap (after_kept s) (grown-nothing p piece none) ∙ after_kept-kept_line s piece

pub not_blank-whole : (p : KeptLine) (piece : List ℕ) → p ≡ kept_line [] → is_blank piece ≡ false → is_blank_kept (grown p piece) ≡ false
not_blank-whole p piece none h = ap is_blank_kept (grown-nothing p piece none) ∙ is_blank_kept-indented 0 piece ∙ h

-- ---- what the code reads of the stored beginning

-- ---- the fields of a partial line

-- what follows the white space doesn't begin with any
pub unindented-drop : (xs : List ℕ) → prefix_len is_white (drop (prefix_len is_white xs) xs) ≡ 0
unindented-drop [] = refl
unindented-drop (b ∷ xs) = by (is_white b) refl (unindented-drop xs)
  where
    by : (t : Bool) → is_white b ≡ t → prefix_len is_white (drop (prefix_len is_white xs) xs) ≡ 0 →
        prefix_len is_white (drop (cond t (1 + prefix_len is_white xs) 0) (b ∷ xs)) ≡ 0
    by true e h =
        let more : 1 + prefix_len is_white xs ≡ suc (prefix_len is_white xs) = omega arith in rw more h
    by false e h = ap (λ t. cond t (1 + prefix_len is_white xs) 0) e

-- nor does it with more after it
pub unindented-append : (bytes more : List ℕ) → prefix_len is_white bytes ≡ 0 → 0 < length bytes → prefix_len is_white (bytes ++ more) ≡ 0
unindented-append [] more h some = absurd (omega (arith, some))
unindented-append (b ∷ bytes) more h some = by (is_white b) refl h
  where
    by : (t : Bool) → is_white b ≡ t → cond t (1 + prefix_len is_white bytes) 0 ≡ 0 → cond t (1 + prefix_len is_white (bytes ++ more)) 0 ≡ 0
    by true e k = absurd (omega (arith, k))
    by false e k = refl

pub not_blank-unindented : (bytes : List ℕ) → prefix_len is_white bytes ≡ 0 → 0 < length bytes → is_blank bytes ≡ false
not_blank-unindented [] h some = absurd (omega (arith, some))
not_blank-unindented (b ∷ bytes) h some = by (is_white b) h
  where
    by : (t : Bool) → cond t (1 + prefix_len is_white bytes) 0 ≡ 0 → (t && is_blank bytes) ≡ false
    by true k = absurd (omega (arith, k))
    by false k = refl

indented-short : (w : ℕ) (line : List ℕ) → w + length line ≤ longest →
    indented w line ≡ Short (w + prefix_len is_white line) (drop (prefix_len is_white line) line)
indented-short w line h =
    let short : ltb longest (w + length line) ≡ false = grind (arith, nat_tests) in
    ap (λ t. cond t (TooLong (is_blank line)) (Short (w + prefix_len is_white line) (drop (prefix_len is_white line) line))) short

-- what is left of a piece behind its white space
pub rest_is : (bytes kept_bytes piece : List ℕ) (k : ℕ) → length bytes ≡ 0 → k ≡ prefix_len is_white piece →
    kept_bytes ≡ bytes ++ take (length piece - k) (drop k piece) → kept_bytes ≡ drop (prefix_len is_white piece) piece
rest_is bytes kept_bytes piece k none k-is e =
    e ∙ ap (λ v. v ++ take (length piece - k) (drop k piece)) (nil_from_length bytes none)
    ∙ take_all (length piece - k) (drop k piece) (omega (arith, length-drop k piece))
    ∙ ap (λ n. drop n piece) k-is

-- behind another byte all of a piece is kept
pub grown-behind : (t : Option Bool) (white : ℕ) (bytes after piece : List ℕ) → t ≡ None → prefix_len is_white bytes ≡ 0 → 0 < length bytes →
    after ≡ bytes ++ piece → (white + length bytes) + length piece ≤ longest → kept_in t white after ≡ grown (kept_in t white bytes) piece
grown-behind (Some blank) white bytes after piece e bare some is short = cc
grown-behind None white bytes after piece e bare some is short =
    let none = unindented-append bytes piece bare some in
    let fits : white + length (bytes ++ piece) ≤ longest = omega (arith, short, length-append bytes piece) in
    let same : Short (white + prefix_len is_white (bytes ++ piece)) (drop (prefix_len is_white (bytes ++ piece)) (bytes ++ piece))
    ≡ Short (white + 0) (bytes ++ piece) =
    ap (λ n. Short (white + n) (drop n (bytes ++ piece))) none in
    ap (Short white) is ∙ ap (λ n. Short n (bytes ++ piece)) (omega arith) ∙ sym same ∙ sym (indented-short white (bytes ++ piece) fits)

-- it isn't blank if a piece isn't, or if what was kept isn't
pub not_blank-grown : (t : Option Bool) (white : ℕ) (bytes piece : List ℕ) → t ≡ None → is_blank (bytes ++ piece) ≡ false →
    is_blank_kept (grown (kept_in t white bytes) piece) ≡ false
not_blank-grown (Some blank) white bytes piece e h = cc
not_blank-grown None white bytes piece e h = is_blank_kept-indented white (bytes ++ piece) ∙ h
