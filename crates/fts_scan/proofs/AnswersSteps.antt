-- The steps by which groups and a top list grow.
use Rattle.std.proofs.Common.{◌≡◌, ℕ, zero, suc, ◌≤◌, true, false, cond, List, [], ◌∷◌, ◌++◌, length, take, Option, Some, None, refl, ap, ◌∙◌, arith, fold}
use Rattle.std.specs.List.{filter_map, cons_option, insert}
use Rattle.std.specs.Option.{option_to_list}
use Rattle.fts_model.specs.declared.operation.Stamped.{Stamped}
use Rattle.fts_model.specs.declared.schema.Field.{Field}
use Rattle.fts_model.specs.declared.query.Order.{Order}
use Rattle.fts_model.specs.declared.answer.Hit.{Hit}
use Rattle.fts_model.specs.Documents.{DocumentValue}
use Rattle.fts_model.specs.QueryValues.{QueryValue}
use Rattle.fts_model.specs.Queries.{hits, matches}
use Rattle.fts_model.specs.Answers.{group_in, groups, groups_in, hit_in, hits_in, comes_before, put_hit, sorted_hits, top}
use Rattle.fts_scan.specs.Scans.{hits_counted, hit_place}
use Rattle.fts_scan.proofs.AnswersOrder.{group_order}
use Rattle.fts_scan.proofs.Counts.{hits_counted-fold}
use Rattle.std.proofs.lemmas.List.Elements.{filter-append}
use Rattle.std.proofs.lemmas.List.Sums.{fold-append}

-- a filtered and mapped list with one more member
filter_map-more : {X Y : Type 0} (h : X → Option Y) (xs : List X) (x : X) → filter_map h (xs ++ x ∷ []) ≡ filter_map h xs ++ option_to_list (h x)
filter_map-more h [] x = elim (h x) as (λ o. cons_option o [] ≡ option_to_list o) [ None ↦ refl | Some y ↦ refl ]
filter_map-more h (y ∷ ys) x =
    elim (h y) as (λ o. cons_option o (filter_map h (ys ++ x ∷ [])) ≡ cons_option o (filter_map h ys) ++ option_to_list (h x))
    [ None ↦ filter_map-more h ys x | Some z ↦ ap (λ zs. z ∷ zs) (filter_map-more h ys x) ]

-- the values of groups with one more hit
pub groups_in-more : (field : ℕ) (hits : List (Stamped DocumentValue)) (hit : Stamped DocumentValue) →
    groups_in field (hits ++ hit ∷ []) ≡ groups_in field hits ++ option_to_list (group_in hit.value field)
groups_in-more field hits hit = filter_map-more (λ (h : Stamped DocumentValue). group_in h.value field) hits hit

-- a hit is inserted into a list at its index
pub put_hit-insert : (order : Order) (hits : List Hit) (hit : Hit) → put_hit order hits hit ≡ insert hits (hit_place order hits hit) hit
put_hit-insert order [] hit = refl
put_hit-insert order (other ∷ others) hit =
    elim (comes_before order hit other) as (λ b. cond b (hit ∷ other ∷ others) (other ∷ put_hit order others hit) ≡ insert (other ∷ others)
    (cond b 0 (suc (hit_place order others hit))) hit)
    [ true ↦ refl | false ↦ ap (λ xs. other ∷ xs) (put_hit-insert order others hit) ]

-- a hit's index is in the list or its length
pub hit_place-le : (order : Order) (hits : List Hit) (hit : Hit) → hit_place order hits hit ≤ length hits
hit_place-le order [] hit = omega arith
hit_place-le order (other ∷ others) hit =
    elim (comes_before order hit other) as (λ b. cond b 0 (suc (hit_place order others hit)) ≤ suc (length others))
    [ true ↦ omega arith | false ↦ omega (arith, hit_place-le order others hit) ]

-- a filtered and mapped list is no longer than the list
pub length-filter_map : {X Y : Type 0} (h : X → Option Y) (xs : List X) → length (filter_map h xs) ≤ length xs
length-filter_map h [] = omega arith
length-filter_map h (x ∷ xs) =
    elim (h x) as (λ o. length (cons_option o (filter_map h xs)) ≤ suc (length xs))
    [ None ↦ omega (arith, length-filter_map h xs) | Some y ↦ omega (arith, length-filter_map h xs) ]

-- the groups count no more hits than there are
pub hits_counted-groups : (field : ℕ) (hits : List (Stamped DocumentValue)) → hits_counted (groups field hits) ≤ length hits
hits_counted-groups field hits =
    omega (arith, hits_counted-fold group_order [] (groups_in field hits), length-filter_map (λ (h : Stamped DocumentValue). group_in h.value field) hits)

-- the hits among documents with one more
pub hits-more : (schema : List Field) (query : QueryValue) (documents : List (Stamped DocumentValue)) (document : Stamped DocumentValue) →
    hits schema query (documents ++ document ∷ []) ≡ hits schema query documents ++ hits schema query (document ∷ [])
hits-more schema query documents document = filter-append (λ (d : Stamped DocumentValue). matches schema d.value query) documents (document ∷ [])

-- the first k of the first k + 1 members are the first k
take-shorter : {X : Type 0} (k : ℕ) (xs : List X) → take k xs ≡ take k (take (suc k) xs)
take-shorter zero xs = refl
take-shorter (suc k) [] = refl
take-shorter (suc k) (x ∷ xs) = ap (λ ys. x ∷ ys) (take-shorter k xs)

-- the first k with one more in front need only the first k
take-behind : {X : Type 0} (k : ℕ) (x : X) (xs : List X) → take k (x ∷ xs) ≡ take k (x ∷ take k xs)
take-behind zero x xs = refl
take-behind (suc k) x xs = ap (λ ys. x ∷ ys) (take-shorter k xs)

-- the hits past the first k do not affect the first k after one more hit is inserted
pub take-put_hit : (k : ℕ) (order : Order) (hits : List Hit) (hit : Hit) → take k (put_hit order hits hit) ≡ take k (put_hit order (take k hits) hit)
take-put_hit zero order hits hit = refl
take-put_hit (suc k) order [] hit = refl
take-put_hit (suc k) order (other ∷ others) hit =
    elim (comes_before order hit other) as (λ b. take (suc k) (cond b (hit ∷ other ∷ others) (other ∷ put_hit order others hit)) ≡ take (suc k)
    (cond b (hit ∷ other ∷ take k others) (other ∷ put_hit order (take k others) hit)))
    [ true ↦ ap (λ hs. hit ∷ hs) (take-behind k other others) | false ↦ ap (λ hs. other ∷ hs) (take-put_hit k order others hit) ]

-- a top list with one more hit
pub top-more : (k : ℕ) (order : Order) (field : ℕ) (hits : List (Stamped DocumentValue)) (hit : Stamped DocumentValue) →
    top k order field (hits ++ hit ∷ []) ≡ fold (λ hs h. take k (put_hit order hs h)) (top k order field hits) (option_to_list (hit_in field hit))
top-more k order field hits hit =
    ap (λ hs. take k (fold (put_hit order) [] hs)) (filter_map-more (hit_in field) hits hit)
    ∙ ap (take k) (fold-append (put_hit order) [] (hits_in field hits) (option_to_list (hit_in field hit)))
    ∙ elim (hit_in field hit) as (λ o. take k (fold (put_hit order) (sorted_hits order field hits) (option_to_list o))
    ≡ fold (λ hs h. take k (put_hit order hs h)) (top k order field hits) (option_to_list o))
    [ None ↦ refl | Some h ↦ take-put_hit k order (sorted_hits order field hits) h ]
