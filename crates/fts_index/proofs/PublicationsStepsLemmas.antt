-- The exchange that adds a publication keeps the rule of the book.
use Rattle.std.proofs.Common.{◌≡◌, ℕ, ◌+◌, ◌<◌, ◌==◌, Bool, true, false, List, [], ◌∷◌, ◌++◌, length, refl, ap, sym, subst, ◌∙◌, arith, inl, length-append}
use Rattle.std.proofs.Common.{None}
use Rattle.std.proofs.lemmas.List.{append-nil}
use Rattle.std.proofs.lemmas.Bool.Decides.{nat_tests}
use mathlib.Core.List.{IsPrefix}
use prog.Atomic.{either}
use Rattle.logbook.specs.Pages.{Cell, cell, keeps, no_nib, step, Moves, Goes}
use Rattle.fts_index.specs.declared.publications.publication.Publication.{Publication}
use Rattle.fts_index.specs.Publications.{ArePublications}
use Rattle.fts_index.specs.PublicationsHistory.{IsKept, Appends}
use Rattle.fts_index.proofs.PublicationsLemmas.{prefix_whole}

abbrev pub shown : List Publication → List Publication
shown list = []

abbrev pub moved : List Publication → List Publication → ℕ → Type 0
moved xs ys n = Unit {0}

pub append_goes : (list v : List Publication) (e : Publication) (old new behind : ℕ) → new ≡ old + 1 → length v ≡ old + 1 → ArePublications (v ++ e ∷ []) →
    length list ≡ behind + 1 → ArePublications list →
    IsPrefix v list → (b : Bool) → (behind == old) ≡ b
    → Goes IsKept shown moved 0 (v, (no_nib, None)) (λ n. either (n == old) new n) (Appends (step 0 old new e) (v, (no_nib, None))) ((behind, true) ∷ []) list
append_goes list v e old new behind more len may count legal pre true is =
    let here : behind ≡ old = grind (arith, nat_tests) in
    let same : v ≡ list = prefix_whole v list pre (omega arith) in
    let next : ArePublications (list ++ e ∷ []) = subst (λ (l : List Publication). ArePublications (l ++ e ∷ [])) same may in (
      keeps,
      e ∷ [],
      None,
      tt,
      record {
        behind = new;
        words = ap (λ (k : ℕ). (k, true) ∷ []) (rw is refl);
        count = omega (arith, length-append list (e ∷ []), count, here, more);
        legal = next;
      },
      inl (refl, refl),
      rw is (ap (λ w. w ++ e ∷ []) (sym same)),
    )
append_goes list v e old new behind more len may count legal pre false is =
    let all : list ++ [] ≡ list = append-nil list in (
      keeps,
      [],
      None,
      tt,
      record {
        behind = behind;
        words = ap (λ (k : ℕ). (k, true) ∷ []) (rw is refl);
        count = ap length all ∙ count;
        legal = subst ArePublications (sym all) legal;
      },
      inl (refl, refl),
      rw is tt,
    )

-- whatever the book is, the exchange appends the publication to all known ones, or finds that the list is longer
pub append_moves : (v : List Publication) (e : Publication) (old new : ℕ) → new ≡ old + 1 → length v ≡ old + 1 → ArePublications (v ++ e ∷ [])
    → Moves IsKept shown moved 0 (v, (no_nib, None)) (λ n. either (n == old) new n) (Appends (step 0 old new e) (v, (no_nib, None)))
append_moves v e old new more len may cs list kept pre away =
    let P : List Cell → Type 0 = λ c. (0 < length c) × ((cell c 0).1 ≡ true) × Goes IsKept shown moved 0 (v, (no_nib, None)) (λ n. either (n == old) new n)
    (Appends (step 0 old new e) (v, (no_nib, None))) c list in
    subst P (sym kept.words) (omega arith, refl, append_goes list v e old new kept.behind more len may kept.count kept.legal pre (kept.behind == old) refl)
