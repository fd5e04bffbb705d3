-- The postings of a term, from its documents and its positions in them.
use Rattle.std.proofs.Common.{◌≡◌, ◌≢◌, ◌+◌, ◌<◌, ◌≤◌, ◌++◌, ℕ, zero, suc, Bool, true, false, cond, List, [], ◌∷◌, Option, map, length, get_or, nat_eq, nat_lt}
use Rattle.std.proofs.Common.{flat_map, refl, sym, ap, ap₂, subst, ◌∙◌, ⊎_elim, arith, All, Contains}
use Rattle.std.specs.List.{AllByRecursion, dedup, dedup_from, list_any}
use Rattle.std.specs.Str.{bytes_eq}
use Rattle.std.specs.Ordering.{nat_cmp}
use Rattle.std.specs.Cmp.Lexicographic.{slice_cmp}
use Rattle.std.specs.declared.cmp.Ordering.TheVariants.{Less}
use Rattle.std.proofs.lemmas.Bool.{lt-ltb}
use Rattle.std.proofs.lemmas.List.{drop_at, length-map, take_at}
use Rattle.std.proofs.lemmas.List.Elements.{All-head, All-tail, All-cons, All-nil}
use Rattle.std.proofs.lemmas.Slice.Eq.{bytes_eq-Decides}
use Rattle.fts_model.specs.declared.schema.Kind.{Kind}
use Rattle.fts_model.specs.declared.value.FieldValue.{FieldValue}
use Rattle.fts_segment.specs.Dictionaries.{occurs, IsDictionaryOf}
use Rattle.fts_segment.specs.Occurrences.{OccurrenceValue, occurrences, tokens_of, is_token, docs_of, docs_with}
use Rattle.fts_segment.specs.Positions.{position_lists_with}
use Rattle.fts_segment.specs.Postings.{Posting, posting_at, postings_by, postings_of, documents, position_lists}
use Rattle.fts_segment.specs.Segments.{positions_among}
use Rattle.fts_segment.specs.Sorted.{Ascends}
use Rattle.fts_segment.specs.Parts.{postings_with, found, joined, Ascend, IsBelow, IsSound, IsJoined, TermStreamValue}
use Rattle.fts_segment.proofs.HoldingLemmas.{docs_with-occurrences, numbers_where-cons}
use Rattle.fts_segment.proofs.KeywordsLemmas.{Climbs, climbs_by_place, either, none}
use Rattle.fts_segment.proofs.MovingLemmas.{postings_of-take}
use Rattle.fts_segment.proofs.PositionsLemmas.{position_lists-cons}

-- postings have the documents and the lists that they are made of
pub documents-postings_of : (docs : List ℕ) (lists : List (List ℕ)) → length docs ≡ length lists → documents (postings_of docs lists) ≡ docs
documents-postings_of [] lists e = refl
documents-postings_of (d ∷ docs) [] e = absurd (omega (arith, e))
documents-postings_of (d ∷ docs) (l ∷ lists) e = ap (λ ds. d ∷ ds) (documents-postings_of docs lists (omega (arith, e)))

pub position_lists-postings_of : (docs : List ℕ) (lists : List (List ℕ)) → length docs ≡ length lists → position_lists (postings_of docs lists) ≡ lists
position_lists-postings_of [] [] e = refl
position_lists-postings_of [] (l ∷ lists) e = absurd (omega (arith, e))
position_lists-postings_of (d ∷ docs) [] e = absurd (omega (arith, e))
position_lists-postings_of (d ∷ docs) (l ∷ lists) e = ap (λ ls. l ∷ ls) (position_lists-postings_of docs lists (omega (arith, e)))

docs-cons : (q : List ℕ) (kind : Kind) (doc : ℕ) (v : Option FieldValue) (vs : List (Option FieldValue)) →
    let rest = docs_with q (occurrences kind (doc + 1) vs) in
    docs_with q (occurrences kind doc (v ∷ vs)) ≡ cond (list_any (is_token q) (tokens_of kind v)) (doc ∷ rest) rest
docs-cons q kind doc v vs =
    let p : Option FieldValue → Bool = λ v. list_any (is_token q) (tokens_of kind v) in
    docs_with-occurrences q kind doc (v ∷ vs) ∙ numbers_where-cons p doc v vs
    ∙ ap (λ ds. cond (p v) (doc ∷ ds) ds) (sym (docs_with-occurrences q kind (doc + 1) vs))

-- the postings of a value, followed by those of later ones
pub postings-cons : (q : List ℕ) (kind : Kind) (doc : ℕ) (v : Option FieldValue) (vs : List (Option FieldValue)) → let rest =
    postings_with q (occurrences kind (doc + 1) vs) in
    postings_with q (occurrences kind doc (v ∷ vs)) ≡ cond (list_any (is_token q) (tokens_of kind v))
    (posting_at doc (positions_among q (tokens_of kind v)) ∷ rest) rest
postings-cons q kind doc v vs =
    let ds = docs_with q (occurrences kind (doc + 1) vs) in
    let ls = position_lists_with q (occurrences kind (doc + 1) vs) in
    let here = positions_among q (tokens_of kind v) in
    ap₂ postings_of (docs-cons q kind doc v vs) (position_lists-cons q kind doc v vs)
    ∙ elim (list_any (is_token q) (tokens_of kind v)) as (λ b. postings_of (cond b (doc ∷ ds) ds) (cond b (here ∷ ls) ls)
    ≡ cond b (posting_at doc here ∷ postings_of ds ls) (postings_of ds ls)) [ true ↦ refl | false ↦ refl ]

-- each document has its positions
pub paired-occurrences : (q : List ℕ) (kind : Kind) (doc : ℕ) (vs : List (Option FieldValue)) →
    length (docs_with q (occurrences kind doc vs)) ≡ length (position_lists_with q (occurrences kind doc vs))
paired-occurrences q kind doc [] = refl
paired-occurrences q kind doc (v ∷ vs) =
    let ds = docs_with q (occurrences kind (doc + 1) vs) in
    let ls = position_lists_with q (occurrences kind (doc + 1) vs) in
    let here = positions_among q (tokens_of kind v) in
    ap length (docs-cons q kind doc v vs)
    ∙ elim (list_any (is_token q) (tokens_of kind v)) as (λ b. length (cond b (doc ∷ ds) ds) ≡ length (cond b (here ∷ ls) ls)) [
      | true ↦ ap suc (paired-occurrences q kind (doc + 1) vs)
      | false ↦ paired-occurrences q kind (doc + 1) vs
    ]
    ∙ sym (ap length (position_lists-cons q kind doc v vs))

-- the documents of postings exist
pub docs-within : (q : List ℕ) (kind : Kind) (doc n : ℕ) (vs : List (Option FieldValue)) → n ≡ doc + length vs →
    All (λ d. d < n) (docs_with q (occurrences kind doc vs))
docs-within q kind doc n [] e = All-nil (λ d. d < n)
docs-within q kind doc n (v ∷ vs) e =
    let P : List ℕ → Type 0 = All (λ d. d < n) in
    let ds = docs_with q (occurrences kind (doc + 1) vs) in
    let rest : P ds = docs-within q kind (doc + 1) n vs (omega (arith, e)) in
    subst P (sym (docs-cons q kind doc v vs)) (elim (list_any (is_token q) (tokens_of kind v)) as (λ b. P (cond b (doc ∷ ds) ds)) [
      | true ↦ All-cons (λ d. d < n) doc ds (omega (arith, e)) rest
      | false ↦ rest
    ])

dedup_from-some : (d : ℕ) (ds : List ℕ) → dedup_from nat_eq d ds ≢ []
dedup_from-some d [] = λ e. let clash : d ∷ [] ≡ [] = e in cc
dedup_from-some d (x ∷ xs) = elim (nat_eq x d) as (λ b. cond b (dedup_from nat_eq d xs) (d ∷ dedup_from nat_eq x xs) ≢ []) [
  | true ↦ dedup_from-some d xs
  | false ↦ λ e. let clash : d ∷ dedup_from nat_eq x xs ≡ [] = e in cc
]

-- a term that has no posting doesn't occur
occurs-none : (q : List ℕ) (os : List OccurrenceValue) → length (docs_with q os) ≡ length (position_lists_with q os) → postings_with q os ≡ [] →
    occurs os q ≡ false
occurs-none q os paired empty = by (docs_of q os) refl
  where
    by : (ds : List ℕ) → docs_of q os ≡ ds → occurs os q ≡ false
    by [] is = ap (λ ds. nat_lt 0 (length ds)) is
    by (d ∷ ds) is = absurd (dedup_from-some d ds (ap (dedup nat_eq) (sym is) ∙ sym (documents-postings_of (docs_with q os) (position_lists_with q os) paired)
        ∙ ap documents empty))

-- a term that does not occur has no posting
postings-none : (q : List ℕ) (os : List OccurrenceValue) → (occurs os q ≡ true → ⊥) → postings_with q os ≡ []
postings-none q os never = by (docs_of q os) refl
  where
    by : (ds : List ℕ) → docs_of q os ≡ ds → postings_with q os ≡ []
    by [] is = ap (λ ds. postings_of (dedup nat_eq ds) (position_lists_with q os)) is
    by (d ∷ ds) is = absurd (never (ap (λ ds. nat_lt 0 (length ds)) is ∙ lt-ltb 0 (suc (length ds)) (omega arith)))

occurs-some : (q : List ℕ) (os : List OccurrenceValue) → postings_with q os ≢ [] → occurs os q ≡ true
occurs-some q os some = by (occurs os q) refl
  where
    by : (b : Bool) → occurs os q ≡ b → occurs os q ≡ true
    by true is = is
    by false is = absurd (some (postings-none q os (λ yes. let clash : true ≡ false = sym yes ∙ is in cc)))

-- each document that has a term has positions of it
abbrev pub ArePaired : List OccurrenceValue → Type 0
ArePaired os = (q : List ℕ) → length (docs_with q os) ≡ length (position_lists_with q os)

postings_by-map : (os : List OccurrenceValue) (names : List (List ℕ)) → ArePaired os →
    postings_by (map (λ q. docs_with q os) names) (flat_map (λ q. position_lists_with q os) names) ≡ map (λ q. postings_with q os) names
postings_by-map os [] paired = refl
postings_by-map os (q ∷ names) paired =
    let docs = docs_with q os in
    let lists = position_lists_with q os in
    let rest = flat_map (λ q. position_lists_with q os) names in
    let many : length lists ≡ length docs = sym (paired q) in
    let le : length docs ≤ length docs = omega arith in
    ap₂ (λ p ps. p ∷ ps) (sym (postings_of-take docs (length docs) (lists ++ rest) le) ∙ ap (postings_of docs) (take_at lists rest (length docs) many))
    (ap (postings_by (map (λ q. docs_with q os) names)) (drop_at lists rest (length docs) many) ∙ postings_by-map os names paired)

-- a dictionary has the postings of its terms
pub postings_by-dictionary : (os : List OccurrenceValue) (names lists positions : List (List ℕ)) → ArePaired os → IsDictionaryOf os names lists positions →
    postings_by lists positions ≡ map (λ q. postings_with q os) names
postings_by-dictionary os names lists positions paired d = ap₂ postings_by d.listed d.positioned ∙ postings_by-map os names paired

-- the postings found for a term among images of names are its image
found-map : (f : List ℕ → List Posting) (names : List (List ℕ)) (q : List ℕ) → ((Contains names q → ⊥) → f q ≡ []) → found names (map f names) q ≡ f q
found-map f [] q absent = sym (absent (none q))
found-map f (n ∷ names) q gone = elim (bytes_eq n q) as (λ b. bytes_eq n q ≡ b → cond b (f n) (found names (map f names) q) ≡ f q) [
  | true ↦ λ same. ap f ((bytes_eq-Decides n q).0 same)
  | false ↦ λ differ. found-map f names q (λ absent. gone (λ c. ⊎_elim
      (λ (same : n ≡ q). let clash : true ≡ false = sym ((bytes_eq-Decides n q).1 same) ∙ differ in absurd (let e : true ≡ false = clash in cc)) absent
      (either n q names c)))
] refl

-- the postings found in a dictionary are those of the term
pub found-dictionary : (os : List OccurrenceValue) (names lists positions : List (List ℕ)) → ArePaired os → IsDictionaryOf os names lists positions →
    (q : List ℕ) →
    found names (postings_by lists positions) q ≡ postings_with q os
found-dictionary os names lists positions paired d q =
    ap (λ ps. found names ps q) (postings_by-dictionary os names lists positions paired d)
    ∙ found-map (λ q. postings_with q os) names q (λ absent. postings-none q os (λ occurring. absent (d.whole q occurring)))

below-climbs : (t : List ℕ) (ts : List (List ℕ)) → All (λ k. slice_cmp nat_cmp t k ≡ Less) ts → IsBelow t ts
below-climbs t [] h = tt
below-climbs t (k ∷ ts) h = (All-head (λ k. slice_cmp nat_cmp t k ≡ Less) k ts h, below-climbs t ts (All-tail (λ k. slice_cmp nat_cmp t k ≡ Less) k ts h))

ascend-climbs : (ts : List (List ℕ)) → Climbs ts → Ascend ts
ascend-climbs [] h = tt
ascend-climbs (t ∷ ts) h = (below-climbs t ts h.0, ascend-climbs ts h.1)

pub sound-dictionary : (os : List OccurrenceValue) (names lists positions : List (List ℕ)) (numbers : List (Option ℕ)) → ArePaired os →
    IsDictionaryOf os names lists positions →
    IsSound (record { names = names; postings = postings_by lists positions; numbers = numbers })
sound-dictionary os names lists positions numbers paired d = record {
  ascend = ascend-climbs names (climbs_by_place names d.ascends);
  paired = sym (ap length (postings_by-dictionary os names lists positions paired d) ∙ length-map names (λ q. postings_with q os));
}

below-at : (t : List ℕ) (ts : List (List ℕ)) (i : ℕ) → IsBelow t ts → i < length ts → slice_cmp nat_cmp t (get_or ts i []) ≡ Less
below-at t [] i h within = absurd (omega (arith, within))
below-at t (k ∷ ts) zero h within = h.0
below-at t (k ∷ ts) (suc i) h within = below-at t ts i h.1 (omega (arith, within))

-- names that ascend do so by their indexes
ascends-ascend : (ts : List (List ℕ)) → Ascend ts → Ascends ts
ascends-ascend [] h i j lower within = absurd (omega (arith, within))
ascends-ascend (t ∷ ts) h zero zero lower within = absurd (omega (arith, lower))
ascends-ascend (t ∷ ts) h zero (suc j) lower within = below-at t ts j h.0 (omega (arith, within))
ascends-ascend (t ∷ ts) h (suc i) zero lower within = absurd (omega (arith, lower))
ascends-ascend (t ∷ ts) h (suc i) (suc j) lower within = ascends-ascend ts h.1 i j (omega (arith, lower)) (omega (arith, within))

flat_map-same : {X Y : Type 0} (f g : X → List Y) → ((x : X) → f x ≡ g x) → (xs : List X) → flat_map f xs ≡ flat_map g xs
flat_map-same f g same [] = refl
flat_map-same f g same (x ∷ xs) = ap₂ (λ y ys. y ++ ys) (same x) (flat_map-same f g same xs)

map-same : {X Y : Type 0} (f g : X → Y) → ((x : X) → f x ≡ g x) → (xs : List X) → map f xs ≡ map g xs
map-same f g same [] = refl
map-same f g same (x ∷ xs) = ap₂ (λ y ys. y ∷ ys) (same x) (map-same f g same xs)

all-occur : (os : List OccurrenceValue) (parts : List TermStreamValue) (names : List (List ℕ)) → ((q : List ℕ) → joined parts q ≡ postings_with q os) →
    AllByRecursion (λ q. joined parts q ≢ []) names →
    All (λ q. occurs os q ≡ true) names
all-occur os parts [] same some = All-nil (λ q. occurs os q ≡ true)
all-occur os parts (q ∷ names) same some =
    All-cons (λ q. occurs os q ≡ true) q names (occurs-some q os (λ empty. some.0 (same q ∙ empty))) (all-occur os parts names same some.1)

-- a merged dictionary is that of occurrences, if the streams have their postings
pub dictionary-joined : (kind : Kind) (vs : List (Option FieldValue)) (parts : List TermStreamValue) (names lists positions : List (List ℕ)) →
    ((q : List ℕ) → joined parts q ≡ postings_with q (occurrences kind 0 vs)) → IsJoined parts names lists positions →
    IsDictionaryOf (occurrences kind 0 vs) names lists positions
dictionary-joined kind vs parts names lists positions same j =
    let os = occurrences kind 0 vs in
    let paired : ArePaired os = λ q. paired-occurrences q kind 0 vs in
    record {
      ascends = ascends-ascend names j.ascend;
      listed = j.listed ∙ map-same (λ q. documents (joined parts q)) (λ q. docs_with q os)
          (λ q. ap documents (same q) ∙ documents-postings_of (docs_with q os) (position_lists_with q os) (paired q)) names;
      positioned = j.positioned ∙ flat_map-same (λ q. position_lists (joined parts q)) (λ q. position_lists_with q os)
          (λ q. ap position_lists (same q) ∙ position_lists-postings_of (docs_with q os) (position_lists_with q os) (paired q)) names;
      occur = all-occur os parts names same j.some;
      whole = λ q is. j.whole q (λ empty. let clash : true ≡ false = sym is ∙ occurs-none q os (paired q) (sym (same q) ∙ empty) in cc);
    }
