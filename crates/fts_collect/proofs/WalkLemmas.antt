-- The hits with the best numbers, and the keys that they have.
use Rattle.std.proofs.Common.{◌≡◌, ℕ, ◌-◌, ◌^◌, ◌<◌, ◌≤◌, Bool, true, false, cond, List, [], ◌∷◌, length, filter, Option, Some, None, refl, sym, ap, ◌∙◌, arith}
use Rattle.std.proofs.Common.{IfSome}
use Rattle.std.specs.Prelude.{nat_le}
use Rattle.std.specs.Option.{option_map_or}
use Rattle.std.specs.List.{filter_map, cons_option}
use Rattle.fts_pack.specs.column.Column.{is_within}
use Rattle.fts_parts.specs.declared.top_k.Key.{Key}

-- one document more, whether it has a key and whether it passes
kept-step : (f : ℕ → Option Key) (p : Key → Bool) (d : ℕ) (o : Option Key) (b : Bool) (docs : List ℕ) (keys : List Key) → f d ≡ o →
    option_map_or p o false ≡ b → filter_map f docs ≡ filter p keys →
    filter_map f (cond b (d ∷ docs) docs) ≡ filter p (cons_option o keys)
kept-step f p d None true docs keys is passes rest = cc
kept-step f p d None false docs keys is passes rest = rest
kept-step f p d (Some key) true docs keys is passes rest =
    ap (λ o. cons_option o (filter_map f docs)) is ∙ ap (λ ks. key ∷ ks) rest ∙ sym (ap (λ c. cond c (key ∷ filter p keys) (filter p keys)) passes)
kept-step f p d (Some key) false docs keys is passes rest = rest ∙ sym (ap (λ c. cond c (key ∷ filter p keys) (filter p keys)) passes)

-- the keys of the documents that pass are those that pass of the keys of all
pub keys-kept : (f : ℕ → Option Key) (p : Key → Bool) (q : ℕ → Bool) (docs : List ℕ) → ((d : ℕ) → option_map_or p (f d) false ≡ q d) →
    filter_map f (filter q docs) ≡ filter p (filter_map f docs)
keys-kept f p q [] same = refl
keys-kept f p q (d ∷ docs) same = kept-step f p d (f d) (q d) (filter q docs) (filter_map f docs) refl (same d) (keys-kept f p q docs same)

count-step : (f : ℕ → Option Key) (p : Key → Bool) (d : ℕ) (o : Option Key) (b : Bool) (docs : List ℕ) → f d ≡ o → option_map_or p o false ≡ b →
    length (filter_map f docs) ≡ length docs →
    length (filter_map f (cond b (d ∷ docs) docs)) ≡ length (cond b (d ∷ docs) docs)
count-step f p d None true docs is passes rest = cc
count-step f p d None false docs is passes rest = rest
count-step f p d (Some key) true docs is passes rest =
    let one : length (cons_option (f d) (filter_map f docs)) ≡ length (key ∷ filter_map f docs) = ap (λ o. length (cons_option o (filter_map f docs))) is in
    omega (arith, one, rest)
count-step f p d (Some key) false docs is passes rest = rest

-- each document that passes has a key
pub keys-count : (f : ℕ → Option Key) (p : Key → Bool) (q : ℕ → Bool) (docs : List ℕ) → ((d : ℕ) → option_map_or p (f d) false ≡ q d) →
    length (filter_map f (filter q docs)) ≡ length (filter q docs)
keys-count f p q [] same = refl
keys-count f p q (d ∷ docs) same = count-step f p d (f d) (q d) (filter q docs) refl (same d) (keys-count f p q docs same)

all-step : (f : ℕ → Option Key) (d : ℕ) (b : Bool) (docs others : List ℕ) → (b ≡ false → f d ≡ None) → filter_map f docs ≡ filter_map f others →
    filter_map f (cond b (d ∷ docs) docs) ≡ cons_option (f d) (filter_map f others)
all-step f d true docs others none rest = ap (cons_option (f d)) rest
all-step f d false docs others none rest = rest ∙ sym (ap (λ o. cons_option o (filter_map f others)) (none refl))

-- where what doesn't pass has no key, those that pass have all keys
pub keys-all : (f : ℕ → Option Key) (q : ℕ → Bool) (docs : List ℕ) → ((d : ℕ) → q d ≡ false → f d ≡ None) → filter_map f (filter q docs) ≡ filter_map f docs
keys-all f q [] none = refl
keys-all f q (d ∷ docs) none = all-step f d (q d) (filter q docs) docs (none d) (keys-all f q docs none)

-- a number from the least of all on ranks within the upper bound where it lies between the two
pub ranks-rising : (least high : ℕ) (v : Option ℕ) → IfSome v (λ x. least ≤ x) → option_map_or (λ x. nat_le x high) v false ≡ is_within least high v
ranks-rising least high None above = refl
ranks-rising least high (Some x) above = grind arith

-- a number up to the greatest of all ranks within the lower bound, from the greatest down, if it is between the two
pub ranks-falling : (low greatest : ℕ) (v : Option ℕ) → low < 2 ^ 64 → greatest < 2 ^ 64 → IfSome v (λ x. x ≤ greatest) →
    option_map_or (λ x. nat_le (2 ^ 64 - 1 - x) (2 ^ 64 - 1 - low)) v false ≡ is_within low greatest v
ranks-falling low greatest None small fits below = refl
ranks-falling low greatest (Some x) small fits below = grind arith

-- between bounds that hold all numbers each number lies
pub none-outside : (low high : ℕ) (v : Option ℕ) → IfSome v (λ x. (low ≤ x) × (x ≤ high)) → is_within low high v ≡ false → v ≡ None
none-outside low high None inside out = refl
none-outside low high (Some x) inside out = let a : low ≤ x = inside.0 in let b : x ≤ high = inside.1 in grind arith
