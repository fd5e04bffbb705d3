-- The keys by which the first of many hits are picked.
use Rattle.std.specs.Prelude.{◌≡◌, ℕ, Bool, false, List, [], ◌∷◌, Option, if◌then◌else◌, length, take, fold, All}
use Rattle.std.specs.Prelude.{IfSome}
use Rattle.std.specs.Ordering.{nat_cmp, ordering_then, is_lt}
use Rattle.std.specs.declared.cmp.Ordering.{Ordering}
use Rattle.fts_parts.specs.declared.top_k.Key.{Key}

-- how two keys compare: by rank, then by stamp, then by document
abbrev pub key_cmp : Key → Key → Ordering
key_cmp a b = ordering_then (nat_cmp a.rank b.rank) (ordering_then (nat_cmp a.stamp b.stamp) (nat_cmp a.doc b.doc))

-- one key comes before another
abbrev pub key_lt : Key → Key → Bool
key_lt a b = is_lt (key_cmp a b)

-- keys in order with one more, before the first that it comes before
abbrev pub put_key : List Key → Key → List Key
put_key [] key = key ∷ []
put_key (other ∷ others) key = if key_lt key other then key ∷ other ∷ others else other ∷ put_key others key

-- the first of keys, in order
abbrev pub first_keys : ℕ → List Key → List Key
first_keys k keys = take k (fold put_key [] keys)

-- the most that is kept, and the first of the keys that were given, this many at most
pub record TopKValue : Type 0 where
  pub k : ℕ
  pub keys : List Key

-- there are as many first keys as may be, and none of them comes after this one
pub record IsBound (k : ℕ) (keys : List Key) (bound : Key) : Type 0 where
  pub full : length keys ≡ k
  pub within : All (λ key. key_lt bound key ≡ false) keys

-- a bound, if there is one, is one of the first keys
abbrev pub IsTopK : ℕ → List Key → Option Key → Type 0
IsTopK k held bound = IfSome bound (IsBound k (first_keys k held))
