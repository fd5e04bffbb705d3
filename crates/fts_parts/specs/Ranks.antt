-- How hits are ranked by their numbers in a column.
use Rattle.std.specs.Prelude.{◌≡◌, ℕ, ◌+◌, ◌-◌, ◌/◌, ◌^◌, ◌<◌, List, [], ◌∷◌, Option, None, All, drop, take, fold}
use Rattle.std.specs.Prelude.{length, option_map, slice_get, slice_index_or}
use Rattle.std.specs.List.{filter_map}
use Rattle.std.specs.Option.{option_map_or}
use Rattle.fts_model.specs.declared.schema.Kind.{Kind}
use Rattle.fts_model.specs.declared.query.Order.{Order}
use Rattle.fts_model.specs.declared.query.Order.TheVariants.{Rising, Falling}
use Rattle.fts_model.specs.declared.answer.Hit.{Hit}
use Rattle.fts_model.specs.declared.operation.Stamped.{Stamped}
use Rattle.fts_model.specs.Documents.{DocumentValue}
use Rattle.fts_parts.specs.declared.ranks.Ranking.{Ranking}
use Rattle.fts_parts.specs.declared.top_k.Key.{Key}
use Rattle.fts_parts.specs.Tallies.{number_at}
use Rattle.fts_parts.specs.Keys.{TopKValue, put_key}

-- the rank of a 64-bit number in an order, and the number of a rank
abbrev pub rank_in : Order → ℕ → ℕ
rank_in Rising x = x
rank_in Falling x = 2 ^ 64 - 1 - x

-- the best rank of the numbers of a range
abbrev pub best_rank : Order → ℕ × ℕ → ℕ
best_rank Rising range = rank_in Rising range.0
best_rank Falling range = rank_in Falling range.1

-- the stamp of the document of a number
abbrev pub stamp_at : List (Stamped DocumentValue) → ℕ → ℕ
stamp_at documents doc = option_map_or (λ d. d.stamp) (slice_get documents doc) 0

-- the document of a number
abbrev pub document_at : List (Stamped DocumentValue) → ℕ → DocumentValue
document_at documents doc = option_map_or (λ d. d.value) (slice_get documents doc) (record { schema = []; values = [] })

-- the key of a hit, if it has a number in a column
abbrev pub key_at : Order → List (Stamped DocumentValue) → List (Option ℕ) → ℕ → Option Key
key_at order documents column doc =
    option_map (λ x. record { rank = rank_in order x; stamp = stamp_at documents doc; doc = doc })
    (slice_index_or column doc None)

-- the keys of those hits that have one
abbrev pub keys_at : Order → List (Stamped DocumentValue) → List (Option ℕ) → List ℕ → List Key
keys_at order documents column docs = filter_map (key_at order documents column) docs

-- the hit of a key
abbrev pub hit_of : Kind → Order → List (Stamped DocumentValue) → Key → Hit
hit_of kind order documents key =
    record {
      stamp = key.stamp;
      value = number_at kind (rank_in order key.rank);
      document = document_at documents key.doc;
    }

-- the first keys with more
abbrev pub keep_keys : ℕ → List Key → List Key → List Key
keep_keys k keys more = fold (λ ks key. take k (put_key ks key)) keys more

-- these hits were offered: of the keys that were kept, and theirs, the first are kept
abbrev pub Offers : Ranking → List ℕ → TopKValue → TopKValue → Type 0
Offers ranking docs old new =
    let keys = keys_at ranking.order ranking.segment.now.documents ranking.column.now docs in
    new ≡ record old { keys = keep_keys old.k old.keys keys }

-- those after one of these hits were offered, and no others
pub record OffersLast (ranking : Ranking) (docs : List ℕ) (old new : TopKValue) : Type 0 where
  pub place : ℕ
  pub within : place < length docs
  pub offered : Offers ranking (drop (place + 1) docs) old new

-- these documents are of one block of 128
abbrev pub AreOfBlock : ℕ → List ℕ → Type 0
AreOfBlock block docs = All (λ doc. doc / 128 ≡ block) docs

-- no hit of a block of 128 documents is one of the first
abbrev pub IsBeyond : Ranking → ℕ → TopKValue → Type 0
IsBeyond ranking block top_k = (doc : ℕ) → doc / 128 ≡ block → Offers ranking (doc ∷ []) top_k top_k
