-- Indexes of segments, and their numbers.
use Rattle.std.proofs.Common.{◌≡◌, ◌<◌, ℕ, zero, suc, List, [], ◌∷◌, ◌++◌, length, get_or, map, All, sym, ap, arith}
use Rattle.std.specs.List.{flat_map, AllByRecursion}
use Rattle.std.proofs.lemmas.List.Elements.{All-from_recursion, recursion_from_All}
use Rattle.fts_snapshots.specs.Entries.{EntryValue}
use Rattle.fts_snapshots.specs.Infos.{id_at}

-- the number of a segment at its index
pub id_at-within : (es : List EntryValue) (k : ℕ) (e : EntryValue) → k < length es → e ≡ get_or es k e → id_at es k ≡ e.id
id_at-within [] k e l h = absurd (omega (arith, l))
id_at-within (x ∷ es) zero e l h = ap (λ (f : EntryValue). f.id) (sym h)
id_at-within (x ∷ es) (suc k) e l h = id_at-within es k e (omega (arith, l)) h

pub all_parts : {X : Type 0} (P : X → Type 0) (xs ys : List X) → AllByRecursion P (xs ++ ys) → AllByRecursion P xs × AllByRecursion P ys
all_parts P [] ys a = (tt, a)
all_parts P (x ∷ xs) ys a = let rest = all_parts P xs ys a.1 in ((a.0, rest.0), rest.1)

each_within : {V : Type 0} (f : V → List ℕ) (n : ℕ) (vs : List V) → AllByRecursion (λ i. i < n) (flat_map (λ c. c) (map f vs)) →
    AllByRecursion (λ v. All (λ i. i < n) (f v)) vs
each_within f n [] a = tt
each_within f n (v ∷ vs) a =
    let parts = all_parts (λ i. i < n) (f v) (flat_map (λ c. c) (map f vs)) a in
    (All-from_recursion (λ i. i < n) (f v) parts.0, each_within f n vs parts.1)

-- if all indexes in lists are below a bound, those of each list are
pub within_lists : {V : Type 0} (f : V → List ℕ) (n : ℕ) (vs : List V) → All (λ i. i < n) (flat_map (λ c. c) (map f vs)) → All (λ v. All (λ i. i < n) (f v)) vs
within_lists f n vs a =
    All-from_recursion (λ v. All (λ i. i < n) (f v)) vs (each_within f n vs (recursion_from_All (λ i. i < n) (flat_map (λ c. c) (map f vs)) a))
