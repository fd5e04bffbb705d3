-- The first hits by their keys.
use Rattle.std.proofs.Common.{◌≡◌, ℕ, ◌+◌, ◌-◌, ◌^◌, ◌<◌, ◌≤◌, ◌==◌, nat_lt, Bool, true, false, cond, ⊎_elim, inl, inr, List, [], ◌∷◌, ◌++◌, length, take, map}
use Rattle.std.proofs.Common.{fold, Option, Some, None, refl, sym, ap, subst, ◌∙◌, arith, All, AllPairs, IfSome, get_or, option_map, suc, drop, drop-cons}
use Rattle.std.specs.Prelude.{slice_get, slice_index_or, option_and_then}
use Rattle.std.specs.List.{filter_map, cons_option}
use Rattle.std.specs.Option.{option_map_or}
use Rattle.std.specs.Ordering.{nat_cmp, ordering_then, is_lt, match_ordering}
use Rattle.std.specs.declared.cmp.Ordering.{Ordering}
use Rattle.std.specs.declared.cmp.Ordering.TheVariants.{Less, Equal, Greater}
use Rattle.std.proofs.lemmas.Bool.{cases_lt}
use Rattle.std.proofs.lemmas.Bool.Decides.{nat_tests}
use Rattle.std.proofs.lemmas.Option.{slice_get-get_or, slice_get_past}
use Rattle.std.proofs.lemmas.List.{drop-append-le, drop-drop, get_or-take, get_or_past, length-drop, length-map, length-take-le, take-append-drop, take-map}
use Rattle.std.proofs.lemmas.List.Elements.{filter_map-append, All-nil, All-cons, All-head, All-tail, All-take}
use Rattle.std.proofs.lemmas.List.Kept.{AllPairs-cons}
use Rattle.std.proofs.lemmas.List.Sums.{fold-append}
use Rattle.fts_pack.specs.column.BlockRanges.{block_of}
use Rattle.fts_pack.specs.column.Column.{IsRangeOf, is_within}
use Rattle.fts_pack.proofs.BlocksLemmas.{block_none, block_within}
use Rattle.fts_model.specs.declared.schema.Kind.{Kind}
use Rattle.fts_model.specs.declared.value.Number.{Number}
use Rattle.fts_model.specs.declared.query.Order.{Order}
use Rattle.fts_model.specs.declared.query.Order.TheVariants.{Rising, Falling}
use Rattle.fts_model.specs.declared.operation.Stamped.{Stamped}
use Rattle.fts_model.specs.Schemas.{holds_numbers}
use Rattle.fts_model.specs.Documents.{DocumentValue, CanHave, value_in_field}
use Rattle.fts_model.specs.Operations.{kind_at}
use Rattle.fts_model.specs.Answers.{cmp_by, comes_before, hit_in, hits_in, number_in_field, put_hit, top}
use Rattle.fts_model.proofs.Lists.{pairs_none, pairs_front, pairs_behind}
use Rattle.fts_segment.specs.Segments.{SegmentValue, column, number_of}
use Rattle.fts_parts.specs.declared.ranks.Ranking.{Ranking}
use Rattle.fts_parts.specs.declared.top_k.Key.{Key}
use Rattle.fts_parts.specs.Tallies.{number_at}
use Rattle.fts_parts.specs.Keys.{TopKValue, key_lt, put_key, first_keys}
use Rattle.fts_parts.specs.Ranks.{AreOfBlock, IsBeyond, Offers, OffersLast, best_rank, rank_in, stamp_at, document_at, key_at, keys_at, hit_of, keep_keys}
use Rattle.fts_parts.proofs.KeysLemmas.{All-put_key, take-put_key, keep-last}
use Rattle.fts_parts.proofs.NumbersLemmas.{number_at-cmp}
use Rattle.fts_parts.proofs.ValuesLemmas.{kept_at, fits_at, kept-cons, map-cons}

-- a rank of 64 bits, ranked again, is the number
rank-again : (order : Order) (x : ℕ) → x < 2 ^ 64 → rank_in order (rank_in order x) ≡ x
rank-again Rising x h = refl
rank-again Falling x h = omega (arith, h)

-- ranks have 64 bits
rank-fits : (order : Order) (x : ℕ) → x < 2 ^ 64 → rank_in order x < 2 ^ 64
rank-fits Rising x h = h
rank-fits Falling x h = omega arith

-- turned round, numbers stand the other way
turned : (x y : ℕ) → x < 2 ^ 64 → y < 2 ^ 64 → nat_cmp (2 ^ 64 - 1 - y) (2 ^ 64 - 1 - x) ≡ nat_cmp x y
turned x y h l = grind (arith, nat_tests)

-- ranks stand as the numbers that they are
rank-cmp : (kind : Kind) (order : Order) (x y : ℕ) → x < 2 ^ 64 → y < 2 ^ 64 →
    cmp_by order (number_at kind (rank_in order x)) (number_at kind (rank_in order y)) ≡ nat_cmp x y
rank-cmp kind Rising x y h l = number_at-cmp kind x y
rank-cmp kind Falling x y h l = number_at-cmp kind (2 ^ 64 - 1 - y) (2 ^ 64 - 1 - x) ∙ turned x y h l

-- a number compared with a lower one
nat_cmp-above : (x y : ℕ) → y < x → nat_cmp x y ≡ Greater
nat_cmp-above x y h = grind (arith, nat_tests)

-- a hit of a later document is before another exactly if its stamp is smaller
stamp_test : (b e : Bool) → is_lt (ordering_then (cond b Less (cond e Equal Greater)) Greater) ≡ b
stamp_test true e = refl
stamp_test false true = refl
stamp_test false false = refl

-- a key of a later document stands before another as their ranks and stamps say
later_at : (o : Ordering) (s t : ℕ) → is_lt (ordering_then o (ordering_then (nat_cmp s t) Greater)) ≡ match_ordering o true (nat_lt s t) false
later_at Less s t = refl
later_at Equal s t = stamp_test (nat_lt s t) (s == t)
later_at Greater s t = refl

-- keys of 64 bits
abbrev Fits : Key → Type 0
Fits key = key.rank < 2 ^ 64

-- the hit of a later document comes before another as its key does
before_as : (kind : Kind) (order : Order) (documents : List (Stamped DocumentValue)) (x y : Key) → Fits x → Fits y → y.doc < x.doc →
    key_lt x y ≡ comes_before order (hit_of kind order documents x) (hit_of kind order documents y)
before_as kind order documents x y h l later =
    ap (λ o. is_lt (ordering_then (nat_cmp x.rank y.rank) (ordering_then (nat_cmp x.stamp y.stamp) o))) (nat_cmp-above x.doc y.doc later)
    ∙ later_at (nat_cmp x.rank y.rank) x.stamp y.stamp
    ∙ ap (λ o. match_ordering o true (nat_lt x.stamp y.stamp) false) (sym (rank-cmp kind order x.rank y.rank h l))

-- keys that fit and are of documents before another
abbrev Earlier : ℕ → Key → Type 0
Earlier doc key = Fits key × (key.doc < doc)

-- a key put among those of documents before it is its hit put among theirs
map-put_key : (kind : Kind) (order : Order) (documents : List (Stamped DocumentValue)) (keys : List Key) (key : Key) → Fits key → All (Earlier key.doc) keys →
    map (hit_of kind order documents) (put_key keys key) ≡ put_hit order (map (hit_of kind order documents) keys) (hit_of kind order documents key)
map-put_key kind order documents [] key h early = refl
map-put_key kind order documents (other ∷ others) key h early =
    let f = hit_of kind order documents in
    let first = All-head (Earlier key.doc) other others early in
    let same = before_as kind order documents key other h first.0 first.1 in
    let rest = map-put_key kind order documents others key h (All-tail (Earlier key.doc) other others early) in
    elim (key_lt key other) as (λ b. key_lt key other ≡ b → map f (cond b (key ∷ other ∷ others) (other ∷ put_key others key)) ≡ put_hit order
    (f other ∷ map f others) (f key)) [
      | true ↦ λ e. sym (ap (λ c. cond c (f key ∷ f other ∷ map f others) (f other ∷ put_hit order (map f others) (f key))) (sym same ∙ e))
      | false ↦ λ e. ap (λ hs. f other ∷ hs) rest ∙ sym (ap (λ c. cond c (f key ∷ f other ∷ map f others) (f other ∷ put_hit order (map f others) (f key)))
          (sym same ∙ e))
    ] refl

-- keys in the order of their documents, put into order, are their hits put into order
map-fold : (kind : Kind) (order : Order) (documents : List (Stamped DocumentValue)) (done keys : List Key) → All Fits done → All Fits keys →
    All (λ a. All (λ b. a.doc < b.doc) keys) done → AllPairs (λ a b. a.doc < b.doc) keys →
    map (hit_of kind order documents) (fold put_key done keys) ≡ fold (put_hit order) (map (hit_of kind order documents) done)
    (map (hit_of kind order documents) keys)
map-fold kind order documents done [] fits more early up = refl
map-fold kind order documents done (key ∷ keys) fits more early up =
    let f = hit_of kind order documents in
    let R : Key → Key → Type 0 = λ a b. a.doc < b.doc in
    let here = All-head Fits key keys more in
    let before : All (Earlier key.doc) done = λ k d lt. (fits k d lt, All-head (λ (b : Key). (get_or done k d).doc < b.doc) key keys (early k d lt)) in
    map-fold kind order documents (put_key done key) keys (All-put_key Fits done key here fits) (All-tail Fits key keys more)
    (All-put_key (λ (a : Key). All (λ (b : Key). a.doc < b.doc) keys) done key (pairs_front R key keys up)
    (λ k d lt. All-tail (λ (b : Key). (get_or done k d).doc < b.doc) key keys (early k d lt)))
    (pairs_behind R key keys up)
    ∙ ap (λ hs. fold (put_hit order) hs (map f keys)) (map-put_key kind order documents done key here before)

-- what holds of documents holds of those of their keys
keys-all : (P : ℕ → Type 0) (order : Order) (documents : List (Stamped DocumentValue)) (numbers : List (Option ℕ)) (docs : List ℕ) → All P docs →
    All (λ (key : Key). P key.doc) (keys_at order documents numbers docs)
keys-all P order documents numbers [] ps = All-nil (λ (key : Key). P key.doc)
keys-all P order documents numbers (doc ∷ docs) ps =
    let Q : Key → Type 0 = λ key. P key.doc in
    let rest = keys-all P order documents numbers docs (All-tail P doc docs ps) in
    elim (slice_index_or numbers doc None) as
    (λ o. All Q (cons_option (option_map (λ x. record { rank = rank_in order x; stamp = stamp_at documents doc; doc = doc }) o)
    (keys_at order documents numbers docs))) [
      | None ↦ rest
      | Some x ↦ All-cons Q (record { rank = rank_in order x; stamp = stamp_at documents doc; doc = doc }) (keys_at order documents numbers docs)
          (All-head P doc docs ps) rest
    ]

-- the keys of rising documents are in their order
keys-rise : (order : Order) (documents : List (Stamped DocumentValue)) (numbers : List (Option ℕ)) (docs : List ℕ) → AllPairs (λ a b. a < b) docs →
    AllPairs (λ (a b : Key). a.doc < b.doc) (keys_at order documents numbers docs)
keys-rise order documents numbers [] up = pairs_none (λ (a b : Key). a.doc < b.doc)
keys-rise order documents numbers (doc ∷ docs) up =
    let R : Key → Key → Type 0 = λ a b. a.doc < b.doc in
    let rest = keys-rise order documents numbers docs (pairs_behind (λ a b. a < b) doc docs up) in
    let above = keys-all (λ b. doc < b) order documents numbers docs (pairs_front (λ a b. a < b) doc docs up) in
    elim (slice_index_or numbers doc None) as
    (λ o. AllPairs R (cons_option (option_map (λ x. record { rank = rank_in order x; stamp = stamp_at documents doc; doc = doc }) o)
    (keys_at order documents numbers docs))) [
      | None ↦ rest
      | Some x ↦ AllPairs-cons R (record { rank = rank_in order x; stamp = stamp_at documents doc; doc = doc })
          (keys_at order documents numbers docs) above rest
    ]

-- what holds of a field of a segment
pub record IsNumberField (segment : SegmentValue) (field : ℕ) (kind : Kind) : Type 0 where
  pub known : kind_at segment.schema field ≡ Some kind
  pub holds : holds_numbers kind ≡ true
  pub can : All (λ d. CanHave kind (value_in_field d.value field)) segment.documents

-- a key fits, if there is one
key-fits : (order : Order) (documents : List (Stamped DocumentValue)) (doc : ℕ) (rest : List Key) (o : Option ℕ) → IfSome o (λ x. x < 2 ^ 64) → All Fits rest →
    All Fits (cons_option (option_map (λ x. record { rank = rank_in order x; stamp = stamp_at documents doc; doc = doc }) o) rest)
key-fits order documents doc rest None fits ps = ps
key-fits order documents doc rest (Some x) fits ps = All-cons Fits (record { rank = rank_in order x; stamp = stamp_at documents doc; doc = doc }) rest
    (rank-fits order x fits) ps

keys-fit : (segment : SegmentValue) (field : ℕ) (kind : Kind) (order : Order) (docs : List ℕ) → IsNumberField segment field kind →
    All Fits (keys_at order segment.documents (column segment field) docs)
keys-fit segment field kind order [] is = All-nil Fits
keys-fit segment field kind order (doc ∷ docs) is =
    key-fits order segment.documents doc (keys_at order segment.documents (column segment field) docs) (slice_index_or (column segment field) doc None)
    (fits_at segment field kind doc is.known is.can) (keys-fit segment field kind order docs is)

-- the hit of a document is that of its key, if it has a number
hit_at_number : (kind : Kind) (order : Order) (documents : List (Stamped DocumentValue)) (doc : ℕ) (d : Stamped DocumentValue) (o : Option ℕ) →
    slice_get documents doc ≡ Some d → IfSome o (λ x. x < 2 ^ 64) →
    option_map (λ n. record { stamp = d.stamp; value = n; document = d.value }) (option_map (number_at kind) o)
    ≡ option_map (hit_of kind order documents) (option_map (λ x. record { rank = rank_in order x; stamp = stamp_at documents doc; doc = doc }) o)
hit_at_number kind order documents doc d None is fits = refl
hit_at_number kind order documents doc d (Some x) is fits =
    ap Some (
    ap (λ (o : Option (Stamped DocumentValue)). record {
      stamp = option_map_or (λ e. e.stamp) o 0;
      value = number_at kind x;
      document =
          option_map_or (λ e. e.value) o (record { schema = []; values = [] });
    }) (sym is)
    ∙ ap (λ y. record { stamp = stamp_at documents doc; value = number_at kind y; document = document_at documents doc }) (sym (rank-again order x fits)))

-- a column has a place for each document
length-column : (segment : SegmentValue) (field : ℕ) → length (column segment field) ≡ length segment.documents
length-column segment field =
    length-map segment.documents (λ d. option_and_then (λ kind. number_of kind (value_in_field d.value field)) (kind_at segment.schema field))

-- the hit of a document is that of its key
hit_at : (segment : SegmentValue) (field : ℕ) (kind : Kind) (order : Order) (doc : ℕ) → IsNumberField segment field kind →
    option_and_then (hit_in field) (slice_get segment.documents doc) ≡ option_map (hit_of kind order segment.documents)
    (key_at order segment.documents (column segment field) doc)
hit_at segment field kind order doc is =
    let documents = segment.documents in
    let e : Stamped DocumentValue = record { stamp = 0; value = record { schema = []; values = [] } } in
    let f = hit_of kind order documents in
    let kept = kept_at segment field kind doc is.known is.holds is.can in
    let fits = fits_at segment field kind doc is.known is.can in
    ⊎_elim
    (λ (inside : doc < length documents).
    let d = get_or documents doc e in
    let here : slice_get documents doc ≡ Some d = slice_get-get_or documents doc e inside in
    let number : number_in_field d.value field ≡ option_map (number_at kind) (slice_index_or (column segment field) doc None) =
    ap (option_and_then (λ (d : Stamped DocumentValue). number_in_field d.value field)) (sym here) ∙ kept in
    ap (option_and_then (hit_in field)) here
    ∙ ap (λ (o : Option Number). option_map (λ n. record { stamp = d.stamp; value = n; document = d.value }) o) number
    ∙ hit_at_number kind order documents doc d (slice_index_or (column segment field) doc None) here fits)
    (λ (past : length documents ≤ doc).
    ap (option_and_then (hit_in field)) (slice_get_past documents doc past)
    ∙ sym (ap (λ o. option_map f (option_map (λ x. record { rank = rank_in order x; stamp = stamp_at documents doc; doc = doc }) o))
    (get_or_past (column segment field) doc None (omega (arith, length-column segment field, past)))))
    (cases_lt doc (length documents))

-- the hits with a number are those of the keys
hits-keys : (segment : SegmentValue) (field : ℕ) (kind : Kind) (order : Order) (docs : List ℕ) → IsNumberField segment field kind →
    hits_in field (filter_map (slice_get segment.documents) docs)
    ≡ map (hit_of kind order segment.documents) (keys_at order segment.documents (column segment field) docs)
hits-keys segment field kind order [] is = refl
hits-keys segment field kind order (doc ∷ docs) is =
    let f = hit_of kind order segment.documents in
    let rest = filter_map (slice_get segment.documents) docs in
    let keys = keys_at order segment.documents (column segment field) docs in
    kept-cons (hit_in field) (slice_get segment.documents doc) rest
    ∙ ap (λ o. cons_option o (filter_map (hit_in field) rest)) (hit_at segment field kind order doc is)
    ∙ ap (cons_option (option_map f (key_at order segment.documents (column segment field) doc))) (hits-keys segment field kind order docs is)
    ∙ sym (map-cons f (key_at order segment.documents (column segment field) doc) keys)

-- the top list of hits by their rising numbers is that of the first keys
pub top-keys : (segment : SegmentValue) (field : ℕ) (kind : Kind) (k : ℕ) (order : Order) (docs : List ℕ) → IsNumberField segment field kind →
    AllPairs (λ a b. a < b) docs →
    map (hit_of kind order segment.documents) (first_keys k (keys_at order segment.documents (column segment field) docs))
    ≡ top k order field (filter_map (slice_get segment.documents) docs)
top-keys segment field kind k order docs is up =
    let f = hit_of kind order segment.documents in
    let keys = keys_at order segment.documents (column segment field) docs in
    sym (take-map f k (fold put_key [] keys))
    ∙ ap (take k) (map-fold kind order segment.documents [] keys (All-nil Fits) (keys-fit segment field kind order docs is)
    (All-nil (λ (a : Key). All (λ (b : Key). a.doc < b.doc) keys)) (keys-rise order segment.documents (column segment field) docs up))
    ∙ ap (λ hs. take k (fold (put_hit order) [] hs)) (sym (hits-keys segment field kind order docs is))

-- what holds of keys holds of them in order
All-fold : (P : Key → Type 0) (done keys : List Key) → All P done → All P keys → All P (fold put_key done keys)
All-fold P done [] ps qs = ps
All-fold P done (key ∷ keys) ps qs = All-fold P (put_key done key) keys (All-put_key P done key (All-head P key keys qs) ps) (All-tail P key keys qs)

-- what is beyond the first keys has no part in what they are with more
take-keep : (k : ℕ) (keys more : List Key) → take k (fold put_key keys more) ≡ keep_keys k (take k keys) more
take-keep k keys [] = refl
take-keep k keys (key ∷ more) = take-keep k (put_key keys key) more ∙ ap (λ ks. keep_keys k ks more) (take-put_key k keys key)

-- the first keys of documents are of these
pub first_keys-within : (segment : SegmentValue) (field k : ℕ) (order : Order) (docs : List ℕ) → All (λ doc. doc < length segment.documents) docs →
    All (λ key. key.doc < length segment.documents) (first_keys k (keys_at order segment.documents (column segment field) docs))
first_keys-within segment field k order docs within =
    let P : Key → Type 0 = λ key. key.doc < length segment.documents in
    let keys = keys_at order segment.documents (column segment field) docs in
    All-take P k (fold put_key [] keys)
    (All-fold P [] keys (All-nil P) (keys-all (λ doc. doc < length segment.documents) order segment.documents (column segment field) docs within))

-- more keys than the first are taken after them
pub keep-first : (k : ℕ) (keys more : List Key) → keep_keys k (first_keys k keys) more ≡ first_keys k (keys ++ more)
keep-first k keys more = sym (take-keep k (fold put_key [] keys) more) ∙ ap (take k) (sym (fold-append put_key [] keys more))

-- keys that come before others may be taken after them
keep-front : (k : ℕ) (keys xs ys : List Key) → keep_keys k keys (xs ++ ys) ≡ keep_keys k (keep_keys k keys ys) xs
keep-front k keys [] ys = refl
keep-front k keys (x ∷ xs) ys =
    keep-last k keys x (xs ++ ys) ∙ ap (λ ks. take k (put_key ks x)) (keep-front k keys xs ys) ∙ sym (keep-last k (keep_keys k keys ys) x xs)

-- hits may be offered after those behind them
Offers-front : (ranking : Ranking) (docs more : List ℕ) (old middle new : TopKValue) → Offers ranking more old middle → Offers ranking docs middle new →
    Offers ranking (docs ++ more) old new
Offers-front ranking docs more old middle new behind here =
    let key : ℕ → Option Key = key_at ranking.order ranking.segment.now.documents ranking.column.now in
    let offered : TopKValue → TopKValue = λ t. record { k = t.k; keys = keep_keys t.k t.keys (filter_map key docs) } in
    here ∙ ap offered behind
    ∙ ap (λ keys. record { k = old.k; keys = keys })
    (sym (ap (keep_keys old.k old.keys) (filter_map-append key docs more) ∙ keep-front old.k old.keys (filter_map key docs) (filter_map key more)))

-- those from a place on, of which those before another place are offered last
pub Offers-part : (ranking : Ranking) (docs : List ℕ) (start left : ℕ) (old middle new : TopKValue) → start ≤ left → left ≤ length docs →
    Offers ranking (drop left docs) old middle → Offers ranking (drop start (take left docs)) middle new → Offers ranking (drop start docs) old new
Offers-part ranking docs start left old middle new up within behind here =
    let P : List ℕ → Type 0 = λ ds. Offers ranking ds old new in
    let size : length (take left docs) ≡ left = length-take-le left docs within in
    let parts = ap (drop start) (sym (take-append-drop left docs)) ∙ drop-append-le start (take left docs) (drop left docs) (omega (arith, up, size)) in
    subst P (sym parts) (Offers-front ranking (drop start (take left docs)) (drop left docs) old middle new behind here)

-- a hit with no number is none of the first, and one with a number isn't if no key of its rank is
keep_none : (k : ℕ) (keys : List Key) (order : Order) (documents : List (Stamped DocumentValue)) (doc rank : ℕ) (v : Option ℕ) →
    ((key : Key) → rank ≤ key.rank → take k (put_key keys key) ≡ keys) → IfSome v (λ x. rank ≤ rank_in order x)
    → keep_keys k keys (cons_option (option_map (λ x. record { rank = rank_in order x; stamp = stamp_at documents doc; doc = doc }) v) []) ≡ keys
keep_none k keys order documents doc rank None beyond low = refl
keep_none k keys order documents doc rank (Some x) beyond low = beyond (record { rank = rank_in order x; stamp = stamp_at documents doc; doc = doc }) low

-- a number in a range ranks no better than its best
best_first : (order : Order) (range : ℕ × ℕ) (v : Option ℕ) → IfSome v (λ x. (range.0 ≤ x) × (x ≤ range.1)) →
    IfSome v (λ x. best_rank order range ≤ rank_in order x)
best_first order range None h = tt
best_first Rising range (Some x) h = h.0
best_first Falling range (Some x) h = let most : x ≤ range.1 = h.1 in omega arith

-- a block of whose values the best ranks beyond the first has none of these
pub block_beyond : (ranking : Ranking) (block : ℕ) (top_k : TopKValue) (range : ℕ × ℕ) → IsRangeOf (block_of block ranking.column.now) (Some range) →
    ((key : Key) → best_rank ranking.order range ≤ key.rank → take top_k.k (put_key top_k.keys key) ≡ top_k.keys) → IsBeyond ranking block top_k
block_beyond ranking block top_k range h beyond doc here =
    let value = slice_index_or ranking.column.now doc None in
    ap (λ keys. record { k = top_k.k; keys = keys })
    (sym (keep_none top_k.k top_k.keys ranking.order ranking.segment.now.documents doc (best_rank ranking.order range) value beyond
    (best_first ranking.order range value (block_within ranking.column.now block doc range h here))))

-- nor has a block without values
pub block_without : (ranking : Ranking) (block : ℕ) (top_k : TopKValue) → IsRangeOf (block_of block ranking.column.now) None → IsBeyond ranking block top_k
block_without ranking block top_k h doc here =
    sym (ap (λ v. record {
      k = top_k.k;
      keys = keep_keys top_k.k top_k.keys
          (cons_option (option_map (λ x. record { rank = rank_in ranking.order x; stamp = stamp_at ranking.segment.now.documents doc; doc = doc }) v) []);
    })
    (block_none ranking.column.now block doc h here))

-- hits of which none is one of the first change nothing
pub Offers-passed : (ranking : Ranking) (top_k : TopKValue) (docs : List ℕ) → All (λ doc. Offers ranking (doc ∷ []) top_k top_k) docs →
    Offers ranking docs top_k top_k
Offers-passed ranking top_k [] h = refl
Offers-passed ranking top_k (doc ∷ docs) h =
    let P : ℕ → Type 0 = λ d. Offers ranking (d ∷ []) top_k top_k in
    Offers-front ranking (doc ∷ []) docs top_k top_k top_k (Offers-passed ranking top_k docs (All-tail P doc docs h)) (All-head P doc docs h)

-- those of a block that has none of the first
pub Offers-beyond : (ranking : Ranking) (block : ℕ) (top_k : TopKValue) (docs : List ℕ) → IsBeyond ranking block top_k → AreOfBlock block docs →
    Offers ranking docs top_k top_k
Offers-beyond ranking block top_k docs beyond same = Offers-passed ranking top_k docs (λ k d inside. beyond (get_or docs k d) (same k d inside))

-- no key of a greater rank is one of the first
abbrev pub IsMost : ℕ → TopKValue → Type 0
IsMost most top_k = (key : Key) → most < key.rank → take top_k.k (put_key top_k.keys key) ≡ top_k.keys

-- a hit without a number, or whose number ranks behind that, changes nothing
pub Offers-behind : (ranking : Ranking) (most : ℕ) (top_k : TopKValue) (doc : ℕ) → IsMost most top_k →
    IfSome (slice_index_or ranking.column.now doc None) (λ x. most < rank_in ranking.order x) → Offers ranking (doc ∷ []) top_k top_k
Offers-behind ranking most top_k doc bound low =
    let value = slice_index_or ranking.column.now doc None in
    ap (λ keys. record { k = top_k.k; keys = keys })
    (sym (keep_none top_k.k top_k.keys ranking.order ranking.segment.now.documents doc (suc most) value (λ key le. bound key le) low))

-- numbers that aren't within bounds rank behind
behind_rising : (least most : ℕ) (v : Option ℕ) → IfSome v (λ x. least ≤ x) → is_within least most v ≡ false → IfSome v (λ x. most < x)
behind_rising least most None low out = tt
behind_rising least most (Some x) low out = grind arith

behind_falling : (greatest most : ℕ) (v : Option ℕ) → most < 2 ^ 64 → greatest < 2 ^ 64 → IfSome v (λ x. x ≤ greatest) →
    is_within (2 ^ 64 - 1 - most) greatest v ≡ false → IfSome v (λ x. most < 2 ^ 64 - 1 - x)
behind_falling greatest most None fits all low out = tt
behind_falling greatest most (Some x) fits all low out = grind arith

-- each number lies in the range
pub in_range : (values : List (Option ℕ)) (range : ℕ × ℕ) (doc : ℕ) → IsRangeOf values (Some range) →
    IfSome (slice_index_or values doc None) (λ x. (range.0 ≤ x) × (x ≤ range.1))
in_range values range doc h =
    let P : Option ℕ → Type 0 = λ v. IfSome v (λ x. (range.0 ≤ x) × (x ≤ range.1)) in
    elim (cases_lt doc (length values)) [
      | inl inside ↦ h.2 doc None inside
      | inr past ↦ subst P (sym (get_or_past values doc None past)) tt
    ]

pub least_in : (least greatest : ℕ) (v : Option ℕ) → IfSome v (λ x. (least ≤ x) × (x ≤ greatest)) → IfSome v (λ x. least ≤ x)
least_in least greatest None h = tt
least_in least greatest (Some x) h = h.0

pub most_in : (least greatest : ℕ) (v : Option ℕ) → IfSome v (λ x. (least ≤ x) × (x ≤ greatest)) → IfSome v (λ x. x ≤ greatest)
most_in least greatest None h = tt
most_in least greatest (Some x) h = h.1

pub Offers-rising : (ranking : Ranking) (most : ℕ) (range : ℕ × ℕ) (top_k : TopKValue) (docs : List ℕ) → ranking.order ≡ Rising →
    IsRangeOf ranking.column.now (Some range) → IsMost most top_k →
    All (λ doc. is_within range.0 most (slice_index_or ranking.column.now doc None) ≡ false) docs → Offers ranking docs top_k top_k
Offers-rising ranking most range top_k docs rising ranged bound out =
    Offers-passed ranking top_k docs (λ k d inside.
    let doc = get_or docs k d in
    let v = slice_index_or ranking.column.now doc None in
    Offers-behind ranking most top_k doc bound
    (subst (λ o. IfSome v (λ x. most < rank_in o x)) (sym rising)
    (behind_rising range.0 most v (least_in range.0 range.1 v (in_range ranking.column.now range doc ranged)) (out k d inside))))

pub Offers-falling : (ranking : Ranking) (most : ℕ) (range : ℕ × ℕ) (top_k : TopKValue) (docs : List ℕ) → ranking.order ≡ Falling → most < 2 ^ 64 →
    range.1 < 2 ^ 64 → IsRangeOf ranking.column.now (Some range) → IsMost most top_k →
    All (λ doc. is_within (2 ^ 64 - 1 - most) range.1 (slice_index_or ranking.column.now doc None) ≡ false) docs → Offers ranking docs top_k top_k
Offers-falling ranking most range top_k docs falling fits all ranged bound out =
    Offers-passed ranking top_k docs (λ k d inside.
    let doc = get_or docs k d in
    let v = slice_index_or ranking.column.now doc None in
    Offers-behind ranking most top_k doc bound
    (subst (λ o. IfSome v (λ x. most < rank_in o x)) (sym falling)
    (behind_falling range.1 most v fits all (most_in range.0 range.1 v (in_range ranking.column.now range doc ranged)) (out k d inside))))

-- where a column has no number, no hit changes anything
pub Offers-without : (ranking : Ranking) (top_k : TopKValue) (docs : List ℕ) → IsRangeOf ranking.column.now None → Offers ranking docs top_k top_k
Offers-without ranking top_k docs none =
    Offers-passed ranking top_k docs (λ k d inside.
    let doc = get_or docs k d in
    let P : Option ℕ → Type 0 =
    λ v. keep_keys top_k.k top_k.keys
    (cons_option (option_map (λ x. record { rank = rank_in ranking.order x; stamp = stamp_at ranking.segment.now.documents doc; doc = doc }) v) [])
    ≡ top_k.keys in
    let nothing : slice_index_or ranking.column.now doc None ≡ None = elim (cases_lt doc (length ranking.column.now)) [
      | inl there ↦ none doc None there
      | inr past ↦ get_or_past ranking.column.now doc None past
    ] in
    ap (λ keys. record { k = top_k.k; keys = keys }) (sym (subst P (sym nothing) refl)))

-- those before a place, of which the last that may be one of the first is offered, and the others behind it change nothing
pub Offers-step : (ranking : Ranking) (docs : List ℕ) (place left : ℕ) (old middle new : TopKValue) → place < left → left ≤ length docs →
    Offers ranking (drop left docs) old middle → Offers ranking (drop (place + 1) (take left docs)) middle middle →
    Offers ranking (get_or docs place 0 ∷ []) middle new → Offers ranking (drop place docs) old new
Offers-step ranking docs place left old middle new before within behind passed here =
    let P : List ℕ → Type 0 = λ ds. Offers ranking ds middle new in
    let first = get_or docs place 0 in
    let size : length (take left docs) ≡ left = length-take-le left docs within in
    let split : drop place (take left docs) ≡ first ∷ drop (place + 1) (take left docs) =
    drop-cons (take left docs) place 0 (omega (arith, before, size)) ∙ ap (λ d. d ∷ drop (suc place) (take left docs)) (get_or-take left docs place 0 before)
    ∙ ap (λ n. first ∷ drop n (take left docs)) (let e : suc place ≡ place + 1 = omega arith in e) in
    Offers-part ranking docs place left old middle new (omega (arith, before)) within behind
    (subst P (sym split) (Offers-front ranking (first ∷ []) (drop (place + 1) (take left docs)) middle middle new passed here))

-- those after a hit of a part were offered, and those after the part before them
pub OffersLast-part : (ranking : Ranking) (docs : List ℕ) (start left : ℕ) (old middle new : TopKValue) → start ≤ left → left ≤ length docs →
    Offers ranking (drop left docs) old middle → OffersLast ranking (drop start (take left docs)) middle new → OffersLast ranking docs old new
OffersLast-part ranking docs start left old middle new up within after last =
    let part = take left docs in
    let size : length part ≡ left = length-take-le left docs within in
    let long = length-drop start part in
    let P : List ℕ → Type 0 = λ ds. Offers ranking ds middle new in
    let Q : ℕ → Type 0 = λ n. Offers ranking (drop n docs) old new in
    let same : start + (last.place + 1) ≡ start + last.place + 1 = omega arith in
    record {
      place = start + last.place;
      within = omega (arith, up, last.within, size, long, within);
      offered =
          subst Q same
          (Offers-part ranking docs (start + (last.place + 1)) left old middle new (omega (arith, last.within, size, long)) within after
          (subst P (drop-drop (last.place + 1) start part) last.offered));
    }
