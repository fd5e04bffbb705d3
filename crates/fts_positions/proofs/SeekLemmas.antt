-- Positions from one on.
use Rattle.std.proofs.Common.{◌≡◌, ◌+◌, ◌<◌, ◌≤◌, ◌==◌, ◌||◌, ℕ, suc, false, List, [], ◌∷◌, refl, sym, ap, ◌∙◌, arith}
use Rattle.std.proofs.lemmas.Bool.Decides.{nat_tests}
use Rattle.std.proofs.Math.Bool.{or-false}
use Rattle.fts_pack.specs.Documents.{documents_at}
use Rattle.fts_positions.specs.PositionsLeft.{AreSameFrom, has}

below_is_other : (x y : ℕ) → y < x → (x == y) ≡ false
below_is_other x y h = grind (arith, nat_tests)

above_is_other : (x y : ℕ) → x < y → (x == y) ≡ false
above_is_other x y h = grind (arith, nat_tests)

-- no position that is decoded is below the least
has-below : (next : ℕ) (gaps : List ℕ) (position : ℕ) → position < next → has (documents_at next gaps) position ≡ false
has-below next [] position low = refl
has-below next (gap ∷ gaps) position low =
    ap (λ b. b || has (documents_at (suc (next + gap)) gaps) position) (below_is_other (next + gap) position (omega (arith, low)))
    ∙ has-below (suc (next + gap)) gaps position (omega (arith, low))

-- the first tells whether a position is there that isn't above it
pub found-first : (position first : ℕ) (gaps old : List ℕ) → position ≤ first →
    AreSameFrom position (first ∷ documents_at (first + 1) gaps) old → (first == position) ≡ has old position
found-first position first gaps old le same =
    sym (or-false (first == position))
    ∙ ap (λ b. (first == position) || b) (sym (has-below (first + 1) gaps position (omega (arith, le))))
    ∙ same position (omega arith)
