-- The top list, and that there is only one.
use Rattle.std.proofs.Common.{◌≡◌, ◌≢◌, ℕ, ◌<◌, ◌≤◌, ◌==◌, nat_lt, min, Bool, true, false, cond, ◌⊎◌, inl, inr, ⊎_elim, List, [], ◌∷◌, ◌++◌, length, take}
use Rattle.std.proofs.Common.{Option, Some, None, refl, sym, ap, subst, ◌∙◌, arith, append_assoc, append-nil, All, AllPairs, Contains, get_or, fold, option_map}
use Rattle.std.specs.Cmp.{IsTotalOrder}
use Rattle.std.specs.FinMap.{nat_cmp-IsAntisymmetric}
use Rattle.std.specs.List.{cons_option, list_any}
use Rattle.std.specs.Ordering.{match_ordering, nat_cmp, ordering_then, ordering_reverse}
use Rattle.std.specs.declared.cmp.Ordering.{Ordering}
use Rattle.std.specs.declared.cmp.Ordering.TheVariants.{Less, Equal, Greater}
use Rattle.std.proofs.lemmas.Bool.{cases_lt, cases_order, cases_Bool, eqb-true, eq-eqb}
use Rattle.std.proofs.lemmas.List.Folds.{Any-from_list_any, list_any-from_Any}
use Rattle.std.proofs.lemmas.Cmp.{nat_cmp_total, then_total, on_total, back_total}
use Rattle.std.proofs.lemmas.List.{length-take, get_or-take, get_or_default}
use Rattle.std.proofs.lemmas.List.Elements.{All-nil, All-cons, All-head, All-tail, All-contains_itself}
use Rattle.std.proofs.lemmas.List.Kept.{AllPairs-cons}
use Rattle.std.proofs.lemmas.List.Sorted.{IsPermutation-refl, IsPermutation-insert, IsPermutation-push_more, All-permutation, Contains-permutation}
use Rattle.std.proofs.lemmas.List.Sorted.{length_permutation}
use Rattle.std.specs.List.Sorted.{IsPermutation}
use Rattle.fts_model.specs.declared.value.Number.{Number}
use Rattle.fts_model.specs.declared.operation.Stamped.{Stamped}
use Rattle.fts_model.specs.declared.query.Order.{Order}
use Rattle.fts_model.specs.declared.query.Order.TheVariants.{Rising, Falling}
use Rattle.fts_model.specs.declared.answer.Hit.{Hit}
use Rattle.fts_model.specs.Documents.{DocumentValue}
use Rattle.fts_model.specs.Operations.{HasEachStampOnce}
use Rattle.fts_model.specs.Answers.{cmp_by, comes_before, put_hit, hits_in, sorted_hits, top, IsTop, number_in_field}
use Rattle.fts_scan.specs.Scans.{hit_place}
use Rattle.fts_scan.proofs.AnswersSteps.{put_hit-insert}
use Rattle.fts_model.proofs.Lists.{pairs_none, pairs_front, pairs_behind, Contains-cases}
use Rattle.fts_scan.proofs.AnswersNumbers.{number_total}

-- the order of numbers in a top list is total, rising or falling
order_total : (order : Order) → IsTotalOrder (cmp_by order)
order_total Rising = number_total
order_total Falling = back_total number_total

-- the order of two hits in a top list
abbrev pub rank : Order → Hit → Hit → Ordering
rank order a b = ordering_then (cmp_by order a.value b.value) (nat_cmp a.stamp b.stamp)

-- the order of hits in a top list is total
pub rank_total : (order : Order) → IsTotalOrder (rank order)
rank_total order = then_total (on_total (λ (h : Hit). h.value) (order_total order)) (on_total (λ (h : Hit). h.stamp) nat_cmp_total)

-- a hit that comes before another is less in the order
lt_of : (o : Ordering) (s t : ℕ) → match_ordering o true (nat_lt s t) false ≡ true → ordering_then o (nat_cmp s t) ≡ Less
lt_of Less s t h = refl
lt_of Equal s t h = ap (λ b. cond b Less (cond (s == t) Equal Greater)) h
lt_of Greater s t h = cc

-- an ordering that is equal or greater is not less
not_less : (b : Bool) → cond b Equal Greater ≡ Less → false ≡ true
not_less true h = cc
not_less false h = cc

-- if a test gives less, it passed
of_test : (b e : Bool) → cond b Less (cond e Equal Greater) ≡ Less → b ≡ true
of_test true e h = refl
of_test false e h = not_less e h

-- a hit that is less than another comes before it
of_lt : (o : Ordering) (s t : ℕ) → ordering_then o (nat_cmp s t) ≡ Less → match_ordering o true (nat_lt s t) false ≡ true
of_lt Less s t h = refl
of_lt Equal s t h = of_test (nat_lt s t) (s == t) h
of_lt Greater s t h = cc

-- hits that compare as equal have one stamp
of_equal : (o : Ordering) (s t : ℕ) → ordering_then o (nat_cmp s t) ≡ Equal → s ≡ t
of_equal Less s t h = cc
of_equal Equal s t h = nat_cmp-IsAntisymmetric s t h
of_equal Greater s t h = cc

-- one hit comes before another
abbrev pub Before : Order → Hit → Hit → Type 0
Before order a b = comes_before order a b ≡ true

-- two hits have different stamps
abbrev pub Apart : Hit → Hit → Type 0
Apart a b = a.stamp ≢ b.stamp

-- a hit that comes before another is less in the order
pub ranked : (order : Order) (a b : Hit) → Before order a b → rank order a b ≡ Less
ranked order a b h = lt_of (cmp_by order a.value b.value) a.stamp b.stamp h

-- a hit that is less in the order comes before the other
pub from_rank : (order : Order) (a b : Hit) → rank order a b ≡ Less → Before order a b
from_rank order a b h = of_lt (cmp_by order a.value b.value) a.stamp b.stamp h

-- coming before is transitive
pub Before-trans : (order : Order) (a b c : Hit) → Before order a b → Before order b c → Before order a c
Before-trans order a b c h l = from_rank order a c ((rank_total order).trans a b c (ranked order a b h) (ranked order b c l))

-- at most one of two hits comes before the other
pub Before-one_way : (order : Order) (a b : Hit) → Before order a b → Before order b a → ⊥
Before-one_way order a b h l =
    let here = ranked order a b h in
    let back = (rank_total order).antisymm a b ∙ ap ordering_reverse (ranked order b a l) in
    let contra : Less ≡ Greater = sym here ∙ back in cc

-- one of two hits with different stamps comes before the other if that does not, by their order
by_rank : (order : Order) (a b : Hit) (o : Ordering) → rank order a b ≡ o → Apart a b → comes_before order a b ≡ false → Before order b a
by_rank order a b Less e apart h = let yes = from_rank order a b e in cc
by_rank order a b Equal e apart h = absurd (apart (of_equal (cmp_by order a.value b.value) a.stamp b.stamp e))
by_rank order a b Greater e apart h = from_rank order b a ((rank_total order).antisymm b a ∙ ap ordering_reverse e)

-- one of two hits with different stamps comes before the other
pub Before-else : (order : Order) (a b : Hit) → Apart a b → comes_before order a b ≡ false → Before order b a
Before-else order a b apart h = by_rank order a b (rank order a b) refl apart h

-- a property of hits and of one more holds after it is inserted
pub All-put_hit : (P : Hit → Type 0) (order : Order) (hits : List Hit) (hit : Hit) → P hit → All P hits → All P (put_hit order hits hit)
All-put_hit P order [] hit p ps = All-cons P hit [] p (All-nil P)
All-put_hit P order (other ∷ others) hit p ps =
    let behind = All-put_hit P order others hit p (All-tail P other others ps) in
    elim (comes_before order hit other) as (λ b. All P (cond b (hit ∷ other ∷ others) (other ∷ put_hit order others hit))) [
      | true ↦ All-cons P hit (other ∷ others) p ps
      | false ↦ All-cons P other (put_hit order others hit) (All-head P other others ps) behind
    ]

-- hits in order stay so with one more, by whether it comes before the first
put_at : (order : Order) (other : Hit) (others : List Hit) (hit : Hit) (b : Bool) → comes_before order hit other ≡ b →
    AllPairs (Before order) (other ∷ others) → Apart other hit → AllPairs (Before order) (put_hit order others hit) →
    AllPairs (Before order) (cond b (hit ∷ other ∷ others) (other ∷ put_hit order others hit))
put_at order other others hit true e sorted apart rest =
    let front = pairs_front (Before order) other others sorted in
    AllPairs-cons (Before order) hit (other ∷ others)
    (All-cons (Before order hit) other others e (λ k d lt. Before-trans order hit other (get_or others k d) e (front k d lt))) sorted
put_at order other others hit false e sorted apart rest =
    AllPairs-cons (Before order) other (put_hit order others hit)
    (All-put_hit (Before order other) order others hit (Before-else order hit other (λ same. apart (sym same)) e)
    (pairs_front (Before order) other others sorted)) rest

-- hits in order stay so with one more
sorted-put_hit : (order : Order) (hits : List Hit) (hit : Hit) → AllPairs (Before order) hits → All (λ g. Apart g hit) hits →
    AllPairs (Before order) (put_hit order hits hit)
sorted-put_hit order [] hit sorted apart = AllPairs-cons (Before order) hit [] (All-nil (Before order hit)) (pairs_none (Before order))
sorted-put_hit order (other ∷ others) hit sorted apart =
    put_at order other others hit (comes_before order hit other) refl sorted (All-head (λ g. Apart g hit) other others apart)
    (sorted-put_hit order others hit (pairs_behind (Before order) other others sorted) (All-tail (λ g. Apart g hit) other others apart))

-- hits in order stay so with several more
pub sorted-fold : (order : Order) (done rest : List Hit) → AllPairs (Before order) done → All (λ g. All (Apart g) rest) done → AllPairs Apart rest →
    AllPairs (Before order) (fold (put_hit order) done rest)
sorted-fold order done [] sorted apart once = sorted
sorted-fold order done (hit ∷ rest) sorted apart once =
    sorted-fold order (put_hit order done hit) rest
    (sorted-put_hit order done hit sorted (λ k d lt. All-head (Apart (get_or done k d)) hit rest (apart k d lt)))
    (All-put_hit (λ g. All (Apart g) rest) order done hit (pairs_front Apart hit rest once) (λ k d lt. All-tail (Apart (get_or done k d)) hit rest
    (apart k d lt)))
    (pairs_behind Apart hit rest once)

-- a property of a stamp and of hits' stamps holds with the document of that stamp, if it has a number
All-with : (P : ℕ → Type 0) (o : Option Number) (d : Stamped DocumentValue) (rest : List Hit) → P d.stamp → All (λ (h : Hit). P h.stamp) rest →
    All (λ (h : Hit). P h.stamp) (cons_option (option_map (λ n. record { stamp = d.stamp; value = n; document = d.value }) o) rest)
All-with P None d rest p ps = ps
All-with P (Some n) d rest p ps = All-cons (λ (h : Hit). P h.stamp) (record { stamp = d.stamp; value = n; document = d.value }) rest p ps

-- the stamps of hits with a number are stamps of hits
All-hits_in : (P : ℕ → Type 0) (field : ℕ) (hits : List (Stamped DocumentValue)) → All (λ d. P d.stamp) hits → All (λ (h : Hit). P h.stamp) (hits_in field hits)
All-hits_in P field [] ps = All-nil (λ (h : Hit). P h.stamp)
All-hits_in P field (d ∷ ds) ps =
    All-with P (number_in_field d.value field) d (hits_in field ds) (All-head (λ d. P d.stamp) d ds ps)
    (All-hits_in P field ds (All-tail (λ d. P d.stamp) d ds ps))

-- no stamp occurs twice with a document of another stamp, if it has a number
once-with : (o : Option Number) (d : Stamped DocumentValue) (rest : List Hit) → All (λ (h : Hit). d.stamp ≢ h.stamp) rest → AllPairs Apart rest →
    AllPairs Apart (cons_option (option_map (λ n. record { stamp = d.stamp; value = n; document = d.value }) o) rest)
once-with None d rest apart once = once
once-with (Some n) d rest apart once = AllPairs-cons Apart (record { stamp = d.stamp; value = n; document = d.value }) rest apart once

-- no stamp occurs twice among the hits with a number
pub once-hits_in : (field : ℕ) (hits : List (Stamped DocumentValue)) → HasEachStampOnce hits → AllPairs Apart (hits_in field hits)
once-hits_in field [] h = pairs_none Apart
once-hits_in field (d ∷ ds) h =
    once-with (number_in_field d.value field) d (hits_in field ds)
    (All-hits_in (λ stamp. d.stamp ≢ stamp) field ds (pairs_front (λ x y. x.stamp ≢ y.stamp) d ds h))
    (once-hits_in field ds (pairs_behind (λ x y. x.stamp ≢ y.stamp) d ds h))

-- inserting a hit is a permutation of the hits with it in front
moved-put_hit : (order : Order) (hits : List Hit) (hit : Hit) → IsPermutation (hit ∷ hits) (put_hit order hits hit)
moved-put_hit order hits hit =
    let P : List Hit → Type 0 = IsPermutation (hit ∷ hits) in
    subst P (sym (put_hit-insert order hits hit)) (IsPermutation-insert hits (hit_place order hits hit) hit)

-- inserting several hits is a permutation of the hits with them appended
pub moved-fold : (order : Order) (before done rest : List Hit) → IsPermutation before done → IsPermutation (before ++ rest) (fold (put_hit order) done rest)
moved-fold order before done [] p =
    let P : List Hit → Type 0 = λ hs. IsPermutation hs done in subst P (sym (append-nil before)) p
moved-fold order before done (hit ∷ rest) p =
    let P : List Hit → Type 0 = λ hs. IsPermutation hs (fold (put_hit order) (put_hit order done hit) rest) in
    subst P (append_assoc before (hit ∷ []) rest)
    (moved-fold order (before ++ hit ∷ []) (put_hit order done hit) rest (IsPermutation-push_more before done (put_hit order done hit) hit p
    (moved-put_hit order done hit)))

-- a hit that is not among the first k comes after them
first_ones : (order : Order) (k : ℕ) (all : List Hit) (other : Hit) → AllPairs (Before order) all → Contains all other → ¬ Contains (take k all) other →
    All (λ member. Before order member other) (take k all)
first_ones order k all other sorted at out =
    ⊎_elim
    (λ (early : at.0 < k). absurd (out (at.0, omega (arith, length-take k all, at.1), get_or-take k all at.0 other early ∙ at.2)))
    (λ (late : k ≤ at.0). λ i d lt.
    let here : i < k = omega (arith, length-take k all, lt) in
    let within : i < length all = omega (arith, length-take k all, lt) in
    let P : Hit → Type 0 = λ member. Before order member other in
    let Q : Hit → Type 0 = Before order (get_or all i other) in
    subst P (get_or_default all i other d within ∙ sym (get_or-take k all i d here)) (subst Q at.2 (sorted i at.0 other (omega arith) at.1)))
    (cases_lt at.0 k)

-- the first k hits are a top list
pub top-IsTop : (k : ℕ) (order : Order) (field : ℕ) (hits : List (Stamped DocumentValue)) → HasEachStampOnce hits →
    IsTop k order field hits (top k order field hits)
top-IsTop k order field hits once =
    let found = hits_in field hits in
    let all = sorted_hits order field hits in
    let moved : IsPermutation found all = moved-fold order [] [] found (IsPermutation-refl []) in
    let sorted : AllPairs (Before order) all =
    sorted-fold order [] found (pairs_none (Before order)) (All-nil (λ g. All (Apart g) found)) (once-hits_in field hits once) in
    let among : All (Contains found) all = All-permutation (Contains found) found all moved (All-contains_itself found) in
    record {
      long = length-take k all ∙ ap (min k) (length_permutation found all moved);
      members = λ i d lt.
          let here : i < k = omega (arith, length-take k all, lt) in
          let within : i < length all = omega (arith, length-take k all, lt) in
          let P : Hit → Type 0 = Contains found in
          subst P (sym (get_or-take k all i d here)) (among i d within);
      ordered = λ i j d up lt.
          let early : i < k = omega (arith, length-take k all, lt) in
          let here : j < k = omega (arith, length-take k all, lt) in
          let within : j < length all = omega (arith, length-take k all, lt) in
          let P : Hit → Type 0 = λ a. Before order a (get_or (take k all) j d) in
          let Q : Hit → Type 0 = Before order (get_or all i d) in
          subst P (sym (get_or-take k all i d early)) (subst Q (sym (get_or-take k all j d here)) (sorted i j d up within));
      first = λ other at out. first_ones order k all other sorted (Contains-permutation found all other moved at) out;
    }

-- a hit is in a list, or after all of it
abbrev IsInOrBehind : Order → List Hit → Hit → Type 0
IsInOrBehind order list hit = Contains list hit ⊎ All (λ member. Before order member hit) list

-- the first member is a hit or comes before it
head_of : (order : Order) (x y : Hit) (ys : List Hit) → AllPairs (Before order) (y ∷ ys) → IsInOrBehind order (y ∷ ys) x → (y ≡ x) ⊎ Before order y x
head_of order x y ys sorted h =
    ⊎_elim
    (λ (at : Contains (y ∷ ys) x). ⊎_elim (λ (same : y ≡ x). inl same)
    (λ (later : Contains ys x). inr (let P : Hit → Type 0 = Before order y in subst P later.2 (pairs_front (Before order) y ys sorted later.0 x later.1)))
    (Contains-cases y ys x at))
    (λ (behind : All (λ member. Before order member x) (y ∷ ys)). inr (All-head (λ member. Before order member x) y ys behind))
    h

-- two top lists have the same first member
same_head : (order : Order) (x y : Hit) (xs ys : List Hit) → AllPairs (Before order) (x ∷ xs) → AllPairs (Before order) (y ∷ ys) →
    IsInOrBehind order (y ∷ ys) x → IsInOrBehind order (x ∷ xs) y → x ≡ y
same_head order x y xs ys p q h l =
    ⊎_elim (λ (same : y ≡ x). sym same)
    (λ (up : Before order y x). ⊎_elim (λ (same : x ≡ y). same) (λ (down : Before order x y). absurd (Before-one_way order x y down up))
    (head_of order y x xs p l))
    (head_of order x y ys q h)

-- a hit after the first member is in the rest of the list, or after all of it
behind_head : (order : Order) (x y : Hit) (ys : List Hit) (z : Hit) → x ≡ y → Before order x z → IsInOrBehind order (y ∷ ys) z → IsInOrBehind order ys z
behind_head order x y ys z same up h =
    ⊎_elim
    (λ (at : Contains (y ∷ ys) z). ⊎_elim
    (λ (here : y ≡ z). let P : Hit → Type 0 = Before order x in
    let self : Before order x x = subst P (sym here ∙ sym same) up in absurd (Before-one_way order x x self self))
    (λ (later : Contains ys z). inl later) (Contains-cases y ys z at))
    (λ (behind : All (λ member. Before order member z) (y ∷ ys)). inr (All-tail (λ member. Before order member z) y ys behind))
    h

-- two lists of one length are equal if each has the members of the other in it or after it
one_list : (order : Order) (xs ys : List Hit) → length xs ≡ length ys → AllPairs (Before order) xs → AllPairs (Before order) ys →
    All (IsInOrBehind order ys) xs → All (IsInOrBehind order xs) ys → xs ≡ ys
one_list order [] [] len p q h l = refl
one_list order [] (y ∷ ys) len p q h l = absurd (omega (arith, len))
one_list order (x ∷ xs) [] len p q h l = absurd (omega (arith, len))
one_list order (x ∷ xs) (y ∷ ys) len p q h l =
    let same = same_head order x y xs ys p q (All-head (IsInOrBehind order (y ∷ ys)) x xs h) (All-head (IsInOrBehind order (x ∷ xs)) y ys l) in
    let up = pairs_front (Before order) x xs p in
    let down = pairs_front (Before order) y ys q in
    let rest = one_list order xs ys (omega (arith, len)) (pairs_behind (Before order) x xs p) (pairs_behind (Before order) y ys q)
    (λ k d lt. behind_head order x y ys (get_or xs k d) same (up k d lt) (All-tail (IsInOrBehind order (y ∷ ys)) x xs h k d lt))
    (λ k d lt. behind_head order y x xs (get_or ys k d) (sym same) (down k d lt) (All-tail (IsInOrBehind order (x ∷ xs)) y ys l k d lt)) in
    ap (λ z. z ∷ xs) same ∙ ap (λ zs. y ∷ zs) rest

-- hits with one stamp are equal
same_hit : (all : List Hit) (a b : Hit) → AllPairs Apart all → Contains all a → Contains all b → a.stamp ≡ b.stamp → a ≡ b
same_hit all a b once x y e =
    ⊎_elim
    (λ (same : x.0 ≡ y.0). sym x.2 ∙ ap (λ k. get_or all k a) same ∙ get_or_default all y.0 a b y.1 ∙ y.2)
    (⊎_elim
    (λ (up : x.0 < y.0). absurd
    (once x.0 y.0 a up y.1 (ap (λ (h : Hit). h.stamp) x.2 ∙ e ∙ ap (λ (h : Hit). h.stamp) (sym y.2 ∙ get_or_default all y.0 b a y.1))))
    (λ (down : y.0 < x.0). absurd
    (once y.0 x.0 b down x.1 (ap (λ (h : Hit). h.stamp) y.2 ∙ sym e ∙ ap (λ (h : Hit). h.stamp) (sym x.2 ∙ get_or_default all x.0 a b x.1)))))
    (cases_order x.0 y.0)

-- each hit is in a top list or after it
in_or_behind : (k : ℕ) (order : Order) (field : ℕ) (hits : List (Stamped DocumentValue)) (list : List Hit) (hit : Hit) → AllPairs Apart (hits_in field hits) →
    IsTop k order field hits list → Contains (hits_in field hits) hit → IsInOrBehind order list hit
in_or_behind k order field hits list hit once is at =
    ⊎_elim
    (λ (yes : list_any (λ (h : Hit). h.stamp == hit.stamp) list ≡ true).
    let a = Any-from_list_any (λ (h : Hit). h.stamp == hit.stamp) list yes in
    let there : Contains list a.1 = (a.0, a.2, a.3) in
    let P : Hit → Type 0 = Contains (hits_in field hits) in
    let Q : Hit → Type 0 = Contains list in
    let found : Contains (hits_in field hits) a.1 = subst P a.3 (is.members a.0 a.1 a.2) in
    inl (subst Q (same_hit (hits_in field hits) a.1 hit once found at (eqb-true a.1.stamp hit.stamp a.4)) there))
    (λ (no : list_any (λ (h : Hit). h.stamp == hit.stamp) list ≡ false).
    inr (is.first hit at (λ there.
    let yes = list_any-from_Any (λ (h : Hit). h.stamp == hit.stamp) list (there.0, hit, there.1, there.2, eq-eqb hit.stamp hit.stamp refl) in
    let contra : true ≡ false = sym yes ∙ no in cc)))
    (cases_Bool (list_any (λ (h : Hit). h.stamp == hit.stamp) list))

-- only one list is the top list
pub IsTop-one : (k : ℕ) (order : Order) (field : ℕ) (hits : List (Stamped DocumentValue)) (a b : List Hit) → HasEachStampOnce hits →
    IsTop k order field hits a → IsTop k order field hits b → a ≡ b
IsTop-one k order field hits a b once p q =
    let apart = once-hits_in field hits once in
    one_list order a b (p.long ∙ sym q.long) p.ordered q.ordered
    (λ i d lt. in_or_behind k order field hits b (get_or a i d) apart q (p.members i d lt))
    (λ i d lt. in_or_behind k order field hits a (get_or b i d) apart p (q.members i d lt))
