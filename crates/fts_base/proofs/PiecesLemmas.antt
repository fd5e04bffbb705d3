-- Pieces of a buffer, one after the other.
use Rattle.std.proofs.Common.{◌≡◌, ℕ, suc, zero, ◌-◌, ◌<◌, ◌≤◌, List, [], ◌∷◌, ◌++◌, length, get_or, take, drop, refl, sym, ◌∙◌, ap, arith, length-append}
use Rattle.std.proofs.Common.{length-drop}
use Rattle.std.specs.Prelude.{slice_range}
use Rattle.std.proofs.lemmas.List.{take-append-le, drop-append-le, take_all, drop_at}
use Rattle.fts_base.specs.Pieces.{pieces, AreEnds}

pub length-pieces : {X : Type 0} (start : ℕ) (bytes : List X) (ends : List ℕ) → length (pieces start bytes ends) ≡ length ends
length-pieces start bytes [] = refl
length-pieces start bytes (end ∷ ends) = ap suc (length-pieces end bytes ends)

pub get_or-pieces : {X : Type 0} (start : ℕ) (bytes : List X) (ends : List ℕ) (i : ℕ) → i < length ends →
    get_or (pieces start bytes ends) i [] ≡ slice_range bytes (get_or (start ∷ ends) i 0) (get_or ends i 0)
get_or-pieces start bytes [] i h = absurd (omega arith)
get_or-pieces start bytes (end ∷ ends) zero h = refl
get_or-pieces start bytes (end ∷ ends) (suc i) h = get_or-pieces end bytes ends i (omega arith)

-- the buffer goes on to the last end
pub ends_within : (start : ℕ) (ends : List ℕ) (len : ℕ) → AreEnds start ends len → start ≤ len
ends_within start [] len h = omega arith
ends_within start (end ∷ ends) len h = omega (arith, ends_within end ends len h.1)

-- a piece begins before it ends, and ends within the buffer
pub end_at : (start : ℕ) (ends : List ℕ) (len i : ℕ) → AreEnds start ends len → i < length ends →
    (get_or (start ∷ ends) i 0 ≤ get_or ends i 0) × (get_or ends i 0 ≤ len)
end_at start [] len i a h = absurd (omega arith)
end_at start (end ∷ ends) len zero a h = (a.0, ends_within end ends len a.1)
end_at start (end ∷ ends) len (suc i) a h = end_at end ends len i a.1 (omega arith)

pub AreEnds-push : (start : ℕ) (ends : List ℕ) (len more : ℕ) → AreEnds start ends len → len ≤ more → AreEnds start (ends ++ more ∷ []) more
AreEnds-push start [] len more h le = (omega arith, refl)
AreEnds-push start (end ∷ ends) len more h le = (h.0, AreEnds-push end ends len more h.1 le)

slice_range-append : {X : Type 0} (xs ys : List X) (a b : ℕ) → a ≤ b → b ≤ length xs → slice_range (xs ++ ys) a b ≡ slice_range xs a b
slice_range-append xs ys a b ab within =
    let short : b - a ≤ length (drop a xs) = omega (arith, length-drop a xs) in
    ap (take (b - a)) (drop-append-le a xs ys (omega arith)) ∙ take-append-le (b - a) (drop a xs) ys short

slice_range-all : {X : Type 0} (xs ys : List X) (a b : ℕ) → a ≡ length xs → b ≡ length (xs ++ ys) → slice_range (xs ++ ys) a b ≡ ys
slice_range-all xs ys a b ha hb =
    ap (take (b - a)) (drop_at xs ys a (sym ha)) ∙ take_all (b - a) ys (omega (arith, length-append xs ys))

pub pieces-push : {X : Type 0} (start : ℕ) (bytes more : List X) (ends : List ℕ) → AreEnds start ends (length bytes) →
    pieces start (bytes ++ more) (ends ++ length (bytes ++ more) ∷ []) ≡ pieces start bytes ends ++ more ∷ []
pieces-push start bytes more [] h = ap (λ p. p ∷ []) (slice_range-all bytes more start (length (bytes ++ more)) h refl)
pieces-push start bytes more (end ∷ ends) h =
    ap (λ p. p ∷ pieces end (bytes ++ more) (ends ++ length (bytes ++ more) ∷ []))
    (slice_range-append bytes more start end h.0 (ends_within end ends (length bytes) h.1))
    ∙ ap (λ ps. slice_range bytes start end ∷ ps) (pieces-push end bytes more ends h.1)

-- indexes that rise, up to the end of the buffer, are ends
pub AreEnds-from_indexes : (start : ℕ) (ends : List ℕ) (len : ℕ) → ((i : ℕ) → i < length ends → get_or (start ∷ ends) i 0 ≤ get_or ends i 0) →
    get_or (start ∷ ends) (length ends) 0 ≡ len → AreEnds start ends len
AreEnds-from_indexes start [] len up last = last
AreEnds-from_indexes start (end ∷ ends) len up last = (up 0 (omega arith), AreEnds-from_indexes end ends len (λ i h. up (suc i) (omega arith)) last)
