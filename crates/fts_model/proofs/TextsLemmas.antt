-- Concatenated texts, each of which ends between two characters.
use Rattle.std.proofs.Common.{◌≡◌, ℕ, suc, ◌+◌, ◌<◌, ◌≤◌, ◌&&◌, true, false, List, [], ◌∷◌, ◌++◌, length, get_or, drop, refl, sym, ap, subst, ◌∙◌, ⊎_elim}
use Rattle.std.proofs.Common.{arith, length-append}
use Rattle.std.specs.Prelude.{slice_index}
use Rattle.std.specs.Cmp.Lexicographic.{pointwise}
use Rattle.std.specs.Str.{IsCharBoundary, IsUtf8, bytes_eq}
use Rattle.std.proofs.lemmas.Bool.{cases_lt}
use Rattle.std.proofs.lemmas.List.{drop_more, get_or_append_left}
use Rattle.std.proofs.lemmas.List.Elements.{All-append, All-cons, All-nil, All-weaker}
use Rattle.std.proofs.lemmas.Str.{IsCharBoundary-at_seam, IsCharBoundary-end}
use Rattle.fts_base.specs.Pieces.{AreEnds}
use Rattle.fts_base.proofs.PiecesLemmas.{AreEnds-push}
use Rattle.fts_model.specs.Internals.Joined.{AreTextEnds}

-- a boundary between two characters stays one after a text is appended
pub boundary-append : (bytes more : List ℕ) (i : ℕ) → IsUtf8 more → IsCharBoundary bytes i → IsCharBoundary (bytes ++ more) i
boundary-append bytes more i utf8 h =
    ⊎_elim
    (λ (inside : i < length bytes).
    let same : slice_index (bytes ++ more) i ≡ slice_index bytes i = get_or_append_left bytes more 0 i inside in
    let P : ℕ → Type 0 = λ b. 128 ≤ b → 192 ≤ b in
    (omega (arith, length-append bytes more, inside), λ _. subst P (sym same) (h.1 inside)))
    (λ (past : length bytes ≤ i).
    let at : length bytes ≡ i = omega (arith, h.0, past) in
    subst (IsCharBoundary (bytes ++ more)) at (IsCharBoundary-at_seam (bytes ++ more) bytes more refl utf8))
    (cases_lt i (length bytes))

-- the ends of texts with one more text
pub AreTextEnds-push : (bytes text : List ℕ) (ends : List ℕ) (end : ℕ) → end ≡ length (bytes ++ text) → IsUtf8 text → AreTextEnds bytes ends →
    AreTextEnds (bytes ++ text) (ends ++ end ∷ [])
AreTextEnds-push bytes text ends end is utf8 h =
    let P : ℕ → Type 0 = λ n. AreEnds 0 (ends ++ n ∷ []) n in
    let Q : ℕ → Type 0 = λ n. AreEnds 0 (ends ++ n ∷ []) (length (bytes ++ text)) in
    let B : ℕ → Type 0 = IsCharBoundary (bytes ++ text) in
    record {
      are = subst Q (sym is) (AreEnds-push 0 ends (length bytes) (length (bytes ++ text)) h.are (omega (arith, length-append bytes text)));
      between = All-append B ends (end ∷ []) (All-weaker (IsCharBoundary bytes) B (λ i g. boundary-append bytes text i utf8 g) ends h.between)
          (All-cons B end [] (subst B (sym is) (IsCharBoundary-end (bytes ++ text))) (All-nil B));
    }

-- two lists are equal from an index on if the texts there are, and those after them
pub pointwise-step : (xs ys : List (List ℕ)) (n : ℕ) → n < length xs → n < length ys →
    pointwise bytes_eq (drop n xs) (drop n ys) ≡ bytes_eq (get_or xs n []) (get_or ys n []) && pointwise bytes_eq (drop (n + 1) xs) (drop (n + 1) ys)
pointwise-step xs ys n h l = ap (λ us. pointwise bytes_eq us (drop n ys)) (drop_more xs n [] h) ∙ ap (pointwise bytes_eq (get_or xs n [] ∷ drop (n + 1) xs))
    (drop_more ys n [] l)
