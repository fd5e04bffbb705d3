-- The documents that have a term.
use Rattle.std.proofs.Common.{◌≡◌, ◌+◌, ◌<◌, ◌≤◌, ◌||◌, ℕ, suc, Bool, true, false, cond, List, [], ◌∷◌, ◌++◌, Option, Some, Contains, ⊎_elim, map, filter}
use Rattle.std.proofs.Common.{length, refl, sym, ap, subst, ◌∙◌, arith, All, nat_eq}
use Rattle.std.specs.List.{list_any, dedup, dedup_from, AllPairs, enumerate_from}
use Rattle.std.specs.List.Sorted.{IsStrictlyIncreasing}
use Rattle.std.specs.Str.{bytes_eq}
use Rattle.std.specs.Prelude.{slice_get}
use Rattle.fts_model.proofs.Lists.{Contains-cases}
use Rattle.std.proofs.lemmas.Bool.Decides.{nat_tests}
use Rattle.std.proofs.lemmas.List.{map-append, length-map}
use Rattle.std.proofs.lemmas.List.Elements.{filter-append, All-append, All-cons, All-nil, All-map, All-filter, All-weaker, All-tail, All-head}
use Rattle.std.proofs.lemmas.List.Kept.{AllPairs-cons}
use Rattle.std.proofs.lemmas.List.FromFn.{length-enumerate_from}
use Rattle.std.proofs.lemmas.List.Sums.{count_by-le-length, length-filter}
use Rattle.fts_model.specs.declared.schema.Kind.{Kind}
use Rattle.fts_model.specs.declared.value.FieldValue.{FieldValue}
use Rattle.fts_segment.specs.Occurrences.{OccurrenceValue, occurrence_at, tokens_of, occurrences_at, occurrences, is_token, is_term, docs_of, docs_with}
use Rattle.fts_segment.specs.Segments.{numbers_where}

-- all occurrences are in one document
abbrev AreOf : ℕ → List OccurrenceValue → Type 0
AreOf doc os = All (λ o. o.doc ≡ doc) os

tokens_are_of : (doc : ℕ) (ts : List (ℕ × List ℕ)) → AreOf doc (map (occurrence_at doc) ts)
tokens_are_of doc [] = All-nil (λ (o : OccurrenceValue). o.doc ≡ doc)
tokens_are_of doc (t ∷ ts) = All-cons (λ (o : OccurrenceValue). o.doc ≡ doc) (occurrence_at doc t) (map (occurrence_at doc) ts) refl (tokens_are_of doc ts)

-- an occurrence is in a document from the first number
pub from_first : (kind : Kind) (doc : ℕ) (vs : List (Option FieldValue)) → All (λ o. doc ≤ o.doc) (occurrences kind doc vs)
from_first kind doc [] = All-nil (λ (o : OccurrenceValue). doc ≤ o.doc)
from_first kind doc (v ∷ vs) =
    All-append (λ (o : OccurrenceValue). doc ≤ o.doc) (occurrences_at kind doc v) (occurrences kind (doc + 1) vs)
    (All-weaker (λ (o : OccurrenceValue). o.doc ≡ doc) (λ (o : OccurrenceValue). doc ≤ o.doc) (λ o same. omega arith) _ (tokens_are_of doc (tokens_of kind v)))
    (All-weaker (λ (o : OccurrenceValue). doc + 1 ≤ o.doc) (λ (o : OccurrenceValue). doc ≤ o.doc) (λ o above. omega arith) _ (from_first kind (doc + 1) vs))

after_first : (q : List ℕ) (kind : Kind) (doc : ℕ) (vs : List (Option FieldValue)) → All (λ n. doc < n) (docs_of q (occurrences kind (doc + 1) vs))
after_first q kind doc vs =
    All-map (λ (n : ℕ). doc < n) (λ (o : OccurrenceValue). o.doc) (filter (is_term q) (occurrences kind (doc + 1) vs))
    (All-filter (is_term q) (λ (o : OccurrenceValue). doc < o.doc) (occurrences kind (doc + 1) vs)
    (All-weaker (λ (o : OccurrenceValue). doc + 1 ≤ o.doc) (λ (o : OccurrenceValue). doc < o.doc) (λ o above. omega arith) _ (from_first kind (doc + 1) vs)))

docs_of-append : (q : List ℕ) (os ps : List OccurrenceValue) → docs_of q (os ++ ps) ≡ docs_of q os ++ docs_of q ps
docs_of-append q os ps = ap (map (λ (o : OccurrenceValue). o.doc)) (filter-append (is_term q) os ps)
    ∙ map-append (λ (o : OccurrenceValue). o.doc) (filter (is_term q) os) (filter (is_term q) ps)

pub docs_of-cons : (q : List ℕ) (o : OccurrenceValue) (os : List OccurrenceValue) (b : Bool) → is_term q o ≡ b →
    docs_of q (o ∷ os) ≡ cond b (o.doc ∷ docs_of q os) (docs_of q os)
docs_of-cons q o os true is = ap (λ b. map (λ (o : OccurrenceValue). o.doc) (cond b (o ∷ filter (is_term q) os) (filter (is_term q) os))) is
docs_of-cons q o os false is = ap (λ b. map (λ (o : OccurrenceValue). o.doc) (cond b (o ∷ filter (is_term q) os) (filter (is_term q) os))) is

document_again : (doc n : ℕ) (xs : List ℕ) → n ≡ doc → dedup_from nat_eq doc (n ∷ xs) ≡ dedup_from nat_eq doc xs
document_again doc n xs same =
    ap (λ b. cond b (dedup_from nat_eq doc xs) (doc ∷ dedup_from nat_eq n xs)) (let is : nat_eq n doc ≡ true = grind (arith, nat_tests) in is)

document_ends : (doc : ℕ) (xs : List ℕ) → All (λ n. doc < n) xs → dedup_from nat_eq doc xs ≡ doc ∷ dedup nat_eq xs
document_ends doc [] above = refl
document_ends doc (n ∷ xs) above =
    let more : doc < n = above 0 n (omega arith) in
    ap (λ b. cond b (dedup_from nat_eq doc xs) (doc ∷ dedup_from nat_eq n xs)) (let other : nat_eq n doc ≡ false = grind (arith, nat_tests) in other)

one_document : (q : List ℕ) (doc : ℕ) (os : List OccurrenceValue) (xs : List ℕ) → AreOf doc os → All (λ n. doc < n) xs →
    dedup_from nat_eq doc (docs_of q os ++ xs) ≡ doc ∷ dedup nat_eq xs
one_document q doc [] xs of above = document_ends doc xs above
one_document q doc (o ∷ os) xs of above =
    let others = one_document q doc os xs (All-tail (λ (o : OccurrenceValue). o.doc ≡ doc) o os of) above in
    let here = All-head (λ (o : OccurrenceValue). o.doc ≡ doc) o os of in
    elim (is_term q o) as (λ b. is_term q o ≡ b → dedup_from nat_eq doc (docs_of q (o ∷ os) ++ xs) ≡ doc ∷ dedup nat_eq xs) [
      | true ↦ λ is. ap (λ ns. dedup_from nat_eq doc (ns ++ xs)) (docs_of-cons q o os true is) ∙ document_again doc o.doc (docs_of q os ++ xs) here ∙ others
      | false ↦ λ is. ap (λ ns. dedup_from nat_eq doc (ns ++ xs)) (docs_of-cons q o os false is) ∙ others
    ] refl

-- the documents of one document's occurrences, followed by others
document_first : (q : List ℕ) (doc : ℕ) (os : List OccurrenceValue) (xs : List ℕ) → AreOf doc os → All (λ n. doc < n) xs →
    dedup nat_eq (docs_of q os ++ xs) ≡ cond (list_any (is_term q) os) (doc ∷ dedup nat_eq xs) (dedup nat_eq xs)
document_first q doc [] xs of above = refl
document_first q doc (o ∷ os) xs of above =
    let rest = All-tail (λ (o : OccurrenceValue). o.doc ≡ doc) o os of in
    let here = All-head (λ (o : OccurrenceValue). o.doc ≡ doc) o os of in
    elim (is_term q o) as (λ b. is_term q o ≡ b → dedup nat_eq (docs_of q (o ∷ os) ++ xs) ≡ cond (b || list_any (is_term q) os) (doc ∷ dedup nat_eq xs)
    (dedup nat_eq xs)) [
      | true ↦ λ is. ap (λ ns. dedup nat_eq (ns ++ xs)) (docs_of-cons q o os true is) ∙ ap (λ n. dedup_from nat_eq n (docs_of q os ++ xs)) here
          ∙ one_document q doc os xs rest above
      | false ↦ λ is. ap (λ ns. dedup nat_eq (ns ++ xs)) (docs_of-cons q o os false is) ∙ document_first q doc os xs rest above
    ] refl

-- an occurrence of a term is a token that is the term
any_token : (q : List ℕ) (doc : ℕ) (ts : List (ℕ × List ℕ)) → list_any (is_term q) (map (occurrence_at doc) ts) ≡ list_any (is_token q) ts
any_token q doc [] = refl
any_token q doc (t ∷ ts) = ap (λ b. bytes_eq t.1 q || b) (any_token q doc ts)

pub numbers_where-cons : {X : Type 0} (p : X → Bool) (n : ℕ) (x : X) (xs : List X) →
    numbers_where p n (x ∷ xs) ≡ cond (p x) (n ∷ numbers_where p (n + 1) xs) (numbers_where p (n + 1) xs)
numbers_where-cons {X} p n x xs =
    elim (p x) as (λ b. map (λ (y : ℕ × X). y.0) (cond b ((n, x) ∷ filter (λ y. p y.1) (enumerate_from (n + 1) xs))
    (filter (λ y. p y.1) (enumerate_from (n + 1) xs)))
    ≡ cond b (n ∷ numbers_where p (n + 1) xs) (numbers_where p (n + 1) xs)) [ true ↦ refl | false ↦ refl ]

-- the number of an element that passes a test is the number of one
pub numbers_where-holds : {X : Type 0} (p : X → Bool) (n : ℕ) (xs : List X) (k : ℕ) → Contains (numbers_where p n xs) k →
    (i : ℕ) × (k ≡ n + i) × (x : X) × (slice_get xs i ≡ Some x) × (p x ≡ true)
numbers_where-holds p n [] k at = absurd (omega (arith, at.1))
numbers_where-holds {X} p n (x ∷ xs) k at = by (p x) refl (numbers_where-holds p (n + 1) xs k) (subst (λ ns. Contains ns k) (numbers_where-cons p n x xs) at)
  where
    Found : List X → ℕ → Type 0
    Found ys m = (i : ℕ) × (k ≡ m + i) × (y : X) × (slice_get ys i ≡ Some y) × (p y ≡ true)

    by : (b : Bool) → p x ≡ b → (Contains (numbers_where p (n + 1) xs) k → Found xs (n + 1)) →
        Contains (cond b (n ∷ numbers_where p (n + 1) xs) (numbers_where p (n + 1) xs)) k → Found (x ∷ xs) n
    by true is rest at =
        ⊎_elim (λ (same : n ≡ k). (0, omega (arith, same), x, refl, is))
        (λ (at : Contains (numbers_where p (n + 1) xs) k). let r = rest at in (suc r.0, omega (arith, r.1), r.2, r.3, r.4))
        (Contains-cases n (numbers_where p (n + 1) xs) k at)
    by false is rest at = let r = rest at in (suc r.0, omega (arith, r.1), r.2, r.3, r.4)

pub numbers_where-map : {X Y : Type 0} (p : X → Bool) (q : Y → Bool) (f : X → Y) → ((x : X) → p x ≡ q (f x)) → (n : ℕ) (xs : List X) →
    numbers_where p n xs ≡ numbers_where q n (map f xs)
numbers_where-map p q f same n [] = refl
numbers_where-map p q f same n (x ∷ xs) =
    numbers_where-cons p n x xs ∙ ap (λ ns. cond (p x) (n ∷ ns) ns) (numbers_where-map p q f same (n + 1) xs)
    ∙ ap (λ b. cond b (n ∷ numbers_where q (n + 1) (map f xs)) (numbers_where q (n + 1) (map f xs))) (same x) ∙ sym (numbers_where-cons q n (f x) (map f xs))

pub numbers_where-push : {X : Type 0} (p : X → Bool) (n : ℕ) (xs : List X) (x : X) → numbers_where p n (xs ++ x ∷ []) ≡ numbers_where p n xs
    ++ cond (p x) ((n + length xs) ∷ []) []
numbers_where-push p n [] x = numbers_where-cons p n x [] ∙ ap (λ k. cond (p x) (k ∷ []) []) (let at : n ≡ n + 0 = omega arith in at)
numbers_where-push p n (y ∷ xs) x =
    numbers_where-cons p n y (xs ++ x ∷ []) ∙ ap (λ ns. cond (p y) (n ∷ ns) ns) (numbers_where-push p (n + 1) xs x)
    ∙ ap (λ k. cond (p y) (n ∷ (numbers_where p (n + 1) xs ++ cond (p x) (k ∷ []) [])) (numbers_where p (n + 1) xs ++ cond (p x) (k ∷ []) []))
    (let at : n + 1 + length xs ≡ n + suc (length xs) = omega arith in at)
    ∙ (elim (p y) as (λ b. cond b (n ∷ (numbers_where p (n + 1) xs ++ cond (p x) ((n + suc (length xs)) ∷ []) []))
    (numbers_where p (n + 1) xs ++ cond (p x) ((n + suc (length xs)) ∷ []) [])
    ≡ cond b (n ∷ numbers_where p (n + 1) xs) (numbers_where p (n + 1) xs) ++ cond (p x) ((n + suc (length xs)) ∷ []) []) [ true ↦ refl | false ↦ refl ])
    ∙ ap (λ ns. ns ++ cond (p x) ((n + suc (length xs)) ∷ []) []) (sym (numbers_where-cons p n y xs))

pub numbers_where-same : {X : Type 0} (p q : X → Bool) (n : ℕ) (xs : List X) → All (λ x. p x ≡ q x) xs → numbers_where p n xs ≡ numbers_where q n xs
numbers_where-same p q n [] same = refl
numbers_where-same {X} p q n (x ∷ xs) same =
    numbers_where-cons p n x xs ∙ ap (λ ns. cond (p x) (n ∷ ns) ns) (numbers_where-same p q (n + 1) xs (All-tail (λ (x : X). p x ≡ q x) x xs same))
    ∙ ap (λ b. cond b (n ∷ numbers_where q (n + 1) xs) (numbers_where q (n + 1) xs)) (All-head (λ (x : X). p x ≡ q x) x xs same)
    ∙ sym (numbers_where-cons q n x xs)

pub numbers_where-none : {X : Type 0} (p : X → Bool) (n : ℕ) (xs : List X) → All (λ x. p x ≡ false) xs → numbers_where p n xs ≡ []
numbers_where-none p n [] never = refl
numbers_where-none {X} p n (x ∷ xs) never =
    numbers_where-cons p n x xs ∙ ap (λ b. cond b (n ∷ numbers_where p (n + 1) xs) (numbers_where p (n + 1) xs)) (All-head (λ (x : X). p x ≡ false) x xs never)
    ∙ numbers_where-none p (n + 1) xs (All-tail (λ (x : X). p x ≡ false) x xs never)

-- the documents of a term's occurrences, without duplicates, are those with a token that is the term
pub docs_with-occurrences : (q : List ℕ) (kind : Kind) (doc : ℕ) (vs : List (Option FieldValue)) →
    docs_with q (occurrences kind doc vs) ≡ numbers_where (λ v. list_any (is_token q) (tokens_of kind v)) doc vs
docs_with-occurrences q kind doc [] = refl
docs_with-occurrences q kind doc (v ∷ vs) =
    let rest = docs_of q (occurrences kind (doc + 1) vs) in
    let p : Option FieldValue → Bool = λ v. list_any (is_token q) (tokens_of kind v) in
    ap (dedup nat_eq) (docs_of-append q (occurrences_at kind doc v) (occurrences kind (doc + 1) vs))
    ∙ document_first q doc (occurrences_at kind doc v) rest (tokens_are_of doc (tokens_of kind v)) (after_first q kind doc vs)
    ∙ ap (λ b. cond b (doc ∷ dedup nat_eq rest) (dedup nat_eq rest)) (any_token q doc (tokens_of kind v))
    ∙ ap (λ ns. cond (p v) (doc ∷ ns) ns) (docs_with-occurrences q kind (doc + 1) vs)
    ∙ sym (numbers_where-cons p doc v vs)

numbers_from : {X : Type 0} (p : X → Bool) (n : ℕ) (xs : List X) → All (λ k. n ≤ k) (numbers_where p n xs)
numbers_from p n [] = All-nil (λ (k : ℕ). n ≤ k)
numbers_from p n (x ∷ xs) =
    let P : List ℕ → Type 0 = All (λ k. n ≤ k) in
    let rest : P (numbers_where p (n + 1) xs) = All-weaker (λ (k : ℕ). n + 1 ≤ k) (λ (k : ℕ). n ≤ k) (λ k above. omega arith) _ (numbers_from p (n + 1) xs) in
    subst P (sym (numbers_where-cons p n x xs)) (elim (p x) as (λ b. P (cond b (n ∷ numbers_where p (n + 1) xs) (numbers_where p (n + 1) xs))) [
      | true ↦ All-cons (λ (k : ℕ). n ≤ k) n (numbers_where p (n + 1) xs) (omega arith) rest
      | false ↦ rest
    ])

pub numbers_apart : {X : Type 0} (p : X → Bool) (n : ℕ) (xs : List X) → AllPairs (λ a b. a < b) (numbers_where p n xs)
numbers_apart p n [] = λ i j d lower within. absurd (omega arith)
numbers_apart p n (x ∷ xs) =
    let R : ℕ → ℕ → Type 0 = λ a b. a < b in
    let P : List ℕ → Type 0 = AllPairs R in
    let ns = numbers_where p (n + 1) xs in
    let above : All (λ k. n < k) ns = All-weaker (λ (k : ℕ). n + 1 ≤ k) (λ (k : ℕ). n < k) (λ k h. omega arith) ns (numbers_from p (n + 1) xs) in
    subst P (sym (numbers_where-cons p n x xs)) (elim (p x) as (λ b. P (cond b (n ∷ ns) ns)) [
      | true ↦ AllPairs-cons R n ns above (numbers_apart p (n + 1) xs)
      | false ↦ numbers_apart p (n + 1) xs
    ])

-- numbers of elements rise
pub numbers_rise : {X : Type 0} (p : X → Bool) (n : ℕ) (xs : List X) → IsStrictlyIncreasing (numbers_where p n xs)
numbers_rise p n xs k within = numbers_apart p n xs k (k + 1) 0 (omega arith) within

pub docs_with-rise : (q : List ℕ) (kind : Kind) (doc : ℕ) (vs : List (Option FieldValue)) → IsStrictlyIncreasing (docs_with q (occurrences kind doc vs))
docs_with-rise q kind doc vs =
    let P : List ℕ → Type 0 = IsStrictlyIncreasing in
    subst P (sym (docs_with-occurrences q kind doc vs)) (numbers_rise (λ v. list_any (is_token q) (tokens_of kind v)) doc vs)

-- no more elements pass a test than there are
pub length-numbers_where : {X : Type 0} (p : X → Bool) (first : ℕ) (xs : List X) → length (numbers_where p first xs) ≤ length xs
length-numbers_where {X} p first xs =
    let all = enumerate_from first xs in
    let q : ℕ × X → Bool = λ e. p e.1 in
    omega (arith, length-map (filter q all) (λ (e : ℕ × X). e.0), length-filter q all, count_by-le-length q all, length-enumerate_from first xs)
