-- The first of hits, and that they are the first of what several lists of hits begin with.
use Rattle.std.proofs.Common.{◌≡◌, ℕ, ◌-◌, ◌<◌, ◌≤◌, ◌==◌, Bool, true, false, cond, ⊎_elim, List, [], ◌∷◌, ◌++◌, length, take, fold, refl, sym, ap, subst, ◌∙◌}
use Rattle.std.proofs.Common.{arith, append_assoc, append-nil, length-append, All, AllPairs, Contains, get_or}
use Rattle.std.specs.List.{flat_map}
use Rattle.std.specs.List.Sorted.{IsPermutation, IsSortedBy}
use Rattle.std.specs.Ordering.{is_lt}
use Rattle.std.proofs.lemmas.Bool.{cases_Bool}
use Rattle.std.proofs.lemmas.List.{length-take, get_or-take, take_all, get_or_append_left, get_or-append_right}
use Rattle.std.proofs.lemmas.List.Elements.{All-nil, All-head, All-tail}
use Rattle.std.proofs.lemmas.List.Sums.{fold-append, sum_by-append, sum_by-take-le}
use Rattle.std.proofs.lemmas.List.Sorted.{IsPermutation-refl, IsPermutation-sym, IsPermutation-trans, IsPermutation-append_left, IsPermutation-append_comm}
use Rattle.std.proofs.lemmas.List.Sorted.{Contains-permutation, sum_by-IsPermutation, sorted_far, ranks_by}
use Rattle.fts_model.specs.declared.query.Order.{Order}
use Rattle.fts_model.specs.declared.answer.Hit.{Hit}
use Rattle.fts_model.specs.Answers.{comes_before, put_hit}
use Rattle.fts_model.proofs.Lists.{pairs_none, one_order}
use Rattle.fts_scan.proofs.AnswersSteps.{take-put_hit}
use Rattle.fts_scan.proofs.AnswersTop.{Before, Apart, rank_total, ranked, Before-else, Before-one_way, sorted-fold, moved-fold}
use Rattle.fts_parts.specs.Internals.Joins.{AreApart, first_of, rank}
use Rattle.fts_parts.proofs.ApartLemmas.{times, times-once, once-from_times, once-permuted}

-- the stamp of a hit
abbrev stamp_of : Hit → ℕ
stamp_of hit = hit.stamp

-- all hits in the order of a top list
abbrev pub in_order : Order → List Hit → List Hit
in_order order hits = fold (put_hit order) [] hits

-- what comes before doesn't come behind
Before-not : (order : Order) (a b : Hit) → Before order a b → comes_before order b a ≡ false
Before-not order a b h =
    ⊎_elim (λ (yes : comes_before order b a ≡ true). absurd (Before-one_way order a b h yes)) (λ (no : comes_before order b a ≡ false). no)
    (cases_Bool (comes_before order b a))

-- a hit behind all others is put last
put_hit-last : (order : Order) (hits : List Hit) (hit : Hit) → All (λ g. Before order g hit) hits → put_hit order hits hit ≡ hits ++ hit ∷ []
put_hit-last order [] hit h = refl
put_hit-last order (other ∷ others) hit h =
    let behind = Before-not order other hit (All-head (λ g. Before order g hit) other others h) in
    ap (λ b. cond b (hit ∷ other ∷ others) (other ∷ put_hit order others hit)) behind
    ∙ ap (λ hs. other ∷ hs) (put_hit-last order others hit (All-tail (λ g. Before order g hit) other others h))

-- a number without itself
none_left : (n : ℕ) → n - n ≡ 0
none_left n = omega arith

-- in a list in order, those in front come before the one behind them
front_before : (order : Order) (done : List Hit) (hit : Hit) (rest : List Hit) → AllPairs (Before order) (done ++ hit ∷ rest) →
    All (λ g. Before order g hit) done
front_before order done hit rest h = λ k d lt.
    let P : Hit → Type 0 = λ g. Before order g (get_or (done ++ hit ∷ rest) (length done) d) in
    let Q : Hit → Type 0 = Before order (get_or done k d) in
    subst Q (get_or-append_right done (hit ∷ rest) (length done) (length done) d refl (omega arith) ∙ ap (λ n. get_or (hit ∷ rest) n d)
    (none_left (length done)))
    (subst P (get_or_append_left done (hit ∷ rest) d k lt) (h k (length done) d lt (simp length-append (omega arith))))

-- a list in order, put into order hit by hit, stays
fold-ordered : (order : Order) (done rest : List Hit) → AllPairs (Before order) (done ++ rest) → fold (put_hit order) done rest ≡ done ++ rest
fold-ordered order done [] h = sym (append-nil done)
fold-ordered order done (hit ∷ rest) h =
    let P : List Hit → Type 0 = AllPairs (Before order) in
    ap (λ hs. fold (put_hit order) hs rest) (put_hit-last order done hit (front_before order done hit rest h))
    ∙ fold-ordered order (done ++ hit ∷ []) rest (subst P (sym (append_assoc done (hit ∷ []) rest)) h)
    ∙ append_assoc done (hit ∷ []) rest

-- hits are in order when they are put so
pub ordered : (order : Order) (hits : List Hit) → AreApart hits → AllPairs (Before order) (in_order order hits)
ordered order hits apart = sorted-fold order [] hits (pairs_none (Before order)) (All-nil (λ g. All (Apart g) hits)) apart

-- and they are the same hits
pub moved : (order : Order) (hits : List Hit) → IsPermutation hits (in_order order hits)
moved order hits = moved-fold order [] [] hits (IsPermutation-refl [])

-- the first of a list in order are in order
take-ordered : (order : Order) (k : ℕ) (hits : List Hit) → AllPairs (Before order) hits → AllPairs (Before order) (take k hits)
take-ordered order k hits h = λ i j d up lt.
    let here : j < k = omega (arith, length-take k hits, lt) in
    let within : j < length hits = omega (arith, length-take k hits, lt) in
    let early : i < k = omega (arith, up, here) in
    let P : Hit → Type 0 = λ a. Before order a (get_or (take k hits) j d) in
    let Q : Hit → Type 0 = Before order (get_or hits i d) in
    subst P (sym (get_or-take k hits i d early)) (subst Q (sym (get_or-take k hits j d here)) (h i j d up within))

-- the first of the first are the first
first_of-again : (k : ℕ) (order : Order) (hits : List Hit) → AreApart hits → first_of k order (first_of k order hits) ≡ first_of k order hits
first_of-again k order hits apart =
    let all = in_order order hits in
    ap (take k) (fold-ordered order [] (take k all) (take-ordered order k all (ordered order hits apart)))
    ∙ take_all k (take k all) (omega (arith, length-take k all))

-- the first hits with one more
abbrev keep : ℕ → Order → List Hit → Hit → List Hit
keep k order hits hit = take k (put_hit order hits hit)

-- what is beyond the first has no part in what they are with more
take-fold : (k : ℕ) (order : Order) (hits more : List Hit) → take k (fold (put_hit order) hits more) ≡ fold (keep k order) (take k hits) more
take-fold k order hits [] = refl
take-fold k order hits (hit ∷ more) =
    take-fold k order (put_hit order hits hit) more ∙ ap (λ hs. fold (keep k order) hs more) (take-put_hit k order hits hit)

-- the first of a list with more behind it
first_of-append : (k : ℕ) (order : Order) (hits more : List Hit) → first_of k order (hits ++ more) ≡ fold (keep k order) (first_of k order hits) more
first_of-append k order hits more = ap (take k) (fold-append (put_hit order) [] hits more) ∙ take-fold k order (in_order order hits) more

-- the first of a list stand for it
first_of-front : (k : ℕ) (order : Order) (hits more : List Hit) → AreApart hits → first_of k order (first_of k order hits ++ more)
    ≡ first_of k order (hits ++ more)
first_of-front k order hits more apart =
    first_of-append k order (first_of k order hits) more ∙ ap (λ hs. fold (keep k order) hs more) (first_of-again k order hits apart)
    ∙ sym (first_of-append k order hits more)

-- a list in order of the same hits is these in order
pub ordered-one : (order : Order) (hits list : List Hit) → AreApart hits → IsPermutation hits list → AllPairs (Before order) list → list ≡ in_order order hits
ordered-one order hits list apart is up =
    one_order (Before order) (Before-one_way order) list (in_order order hits) up (ordered order hits apart)
    (λ z at. Contains-permutation hits (in_order order hits) z (moved order hits) (Contains-permutation list hits z (IsPermutation-sym hits list is) at))
    (λ z at. Contains-permutation hits list z is
    (Contains-permutation (in_order order hits) hits z (IsPermutation-sym hits (in_order order hits) (moved order hits)) at))

-- lists of the same hits have the same first
pub first_of-members : (k : ℕ) (order : Order) (hits others : List Hit) → AreApart hits → AreApart others →
    ((z : Hit) → Contains hits z → Contains others z) → ((z : Hit) → Contains others z → Contains hits z) → first_of k order hits ≡ first_of k order others
first_of-members k order hits others apart separate there back =
    let a = in_order order hits in
    let b = in_order order others in
    ap (take k) (one_order (Before order) (Before-one_way order) a b (ordered order hits apart) (ordered order others separate)
    (λ z at. Contains-permutation others b z (moved order others) (there z (Contains-permutation a hits z (IsPermutation-sym hits a (moved order hits)) at)))
    (λ z at. Contains-permutation hits a z (moved order hits) (back z (Contains-permutation b others z (IsPermutation-sym others b (moved order others)) at))))

-- the first of hits are the first of them in another order
pub first_of-permuted : (k : ℕ) (order : Order) (hits others : List Hit) → AreApart hits → IsPermutation hits others →
    first_of k order hits ≡ first_of k order others
first_of-permuted k order hits others apart is =
    ap (take k) (ordered-one order others (in_order order hits) (once-permuted stamp_of hits others is apart)
    (IsPermutation-trans others hits (in_order order hits) (IsPermutation-sym hits others is) (moved order hits)) (ordered order hits apart))

-- no stamp stands more often among the first than among all
times-first_of : (k : ℕ) (order : Order) (hits : List Hit) (stamp : ℕ) → times stamp_of stamp (first_of k order hits) ≤ times stamp_of stamp hits
times-first_of k order hits stamp =
    omega (
      arith,
      sum_by-take-le (λ (h : Hit). cond (h.stamp == stamp) 1 0) (in_order order hits) k,
      sum_by-IsPermutation
          (λ (h : Hit). cond (h.stamp == stamp) 1 0) hits (in_order order hits) (moved order hits),
    )

-- nor among the first of several lists
times-firsts : (k : ℕ) (order : Order) (lists : List (List Hit)) (stamp : ℕ) →
    times stamp_of stamp (flat_map (first_of k order) lists) ≤ times stamp_of stamp (flat_map (λ hits. hits) lists)
times-firsts k order [] stamp = omega arith
times-firsts k order (hits ∷ lists) stamp =
    let f : Hit → ℕ = λ h. cond (h.stamp == stamp) 1 0 in
    omega (
      arith,
      sum_by-append f (first_of k order hits) (flat_map (first_of k order) lists),
      sum_by-append f hits (flat_map (λ hits. hits) lists),
      times-first_of k order hits stamp,
      times-firsts k order lists stamp,
    )

-- so the first of several lists are apart, with others in front of them
apart-firsts : (k : ℕ) (order : Order) (done : List Hit) (lists : List (List Hit)) → AreApart (done ++ flat_map (λ hits. hits) lists) →
    AreApart (done ++ flat_map (first_of k order) lists)
apart-firsts k order done lists apart =
    once-from_times stamp_of (done ++ flat_map (first_of k order) lists) (λ stamp.
    let f : Hit → ℕ = λ h. cond (h.stamp == stamp) 1 0 in
    omega (
      arith,
      sum_by-append f done (flat_map (first_of k order) lists),
      sum_by-append f done (flat_map (λ hits. hits) lists),
      times-firsts k order lists stamp,
      times-once stamp_of stamp (done ++ flat_map (λ hits. hits) lists) apart,
    ))

-- the second of three lists comes to the front
second_front : (xs ys zs : List Hit) → IsPermutation (xs ++ (ys ++ zs)) (ys ++ (xs ++ zs))
second_front xs ys zs =
    let P : List Hit → Type 0 = λ hs. IsPermutation hs (ys ++ (xs ++ zs)) in
    let Q : List Hit → Type 0 = IsPermutation ((xs ++ ys) ++ zs) in
    subst P (append_assoc xs ys zs) (subst Q (append_assoc ys xs zs) (IsPermutation-append_left zs (xs ++ ys) (ys ++ xs) (IsPermutation-append_comm xs ys)))

-- and without those behind
apart-front : (hits more : List Hit) → AreApart (hits ++ more) → AreApart hits
apart-front hits more apart =
    once-from_times stamp_of hits (λ stamp.
    omega (arith, sum_by-append (λ (h : Hit). cond (h.stamp == stamp) 1 0) hits more, times-once stamp_of stamp (hits ++ more) apart))

-- the first of the first of several lists, with others in front, are the first of all
firsts_behind : (k : ℕ) (order : Order) (done : List Hit) (lists : List (List Hit)) → AreApart (done ++ flat_map (λ hits. hits) lists) →
    first_of k order (done ++ flat_map (first_of k order) lists) ≡ first_of k order (done ++ flat_map (λ hits. hits) lists)
firsts_behind k order done [] apart = refl
firsts_behind k order done (hits ∷ lists) apart =
    let firsts = flat_map (first_of k order) lists in
    let all = flat_map (λ hits. hits) lists in
    let front = second_front done hits all in
    let behind : AreApart (hits ++ (done ++ all)) = once-permuted stamp_of (done ++ (hits ++ all)) (hits ++ (done ++ all)) front apart in
    let P : List Hit → Type 0 = AreApart in
    let again : AreApart ((hits ++ done) ++ all) = subst P (sym (append_assoc hits done all)) behind in
    first_of-permuted k order (done ++ (first_of k order hits ++ firsts)) (first_of k order hits ++ (done ++ firsts))
    (apart-firsts k order done (hits ∷ lists) apart) (second_front done (first_of k order hits) firsts)
    ∙ first_of-front k order hits (done ++ firsts) (apart-front hits (done ++ all) behind)
    ∙ ap (first_of k order) (sym (append_assoc hits done firsts))
    ∙ firsts_behind k order (hits ++ done) lists again
    ∙ ap (first_of k order) (append_assoc hits done all)
    ∙ first_of-permuted k order (hits ++ (done ++ all)) (done ++ (hits ++ all)) behind (IsPermutation-sym (done ++ (hits ++ all)) (hits ++ (done ++ all)) front)

-- the first of the first of several lists are the first of all
pub first_of-firsts : (k : ℕ) (order : Order) (lists : List (List Hit)) → AreApart (flat_map (λ hits. hits) lists) →
    first_of k order (flat_map (first_of k order) lists) ≡ first_of k order (flat_map (λ hits. hits) lists)
first_of-firsts k order lists apart = firsts_behind k order [] lists apart

-- the first of several lists are apart
pub firsts_apart : (k : ℕ) (order : Order) (lists : List (List Hit)) → AreApart (flat_map (λ hits. hits) lists) → AreApart (flat_map (first_of k order) lists)
firsts_apart k order lists apart = apart-firsts k order [] lists apart

-- hits that are sorted by their rank, none of whose stamps stands twice, are in order
pub Before-sorted : (order : Order) (hits : List Hit) → AreApart hits → IsSortedBy (λ a b. is_lt (rank order a b)) hits → AllPairs (Before order) hits
Before-sorted order hits apart sorted = λ i j d up lt.
    let a = get_or hits i d in
    let b = get_or hits j d in
    let P : Bool → Type 0 = λ t. t ≡ false in
    let late : is_lt (rank order b a) ≡ false = sorted_far (λ x y. is_lt (rank order x y)) (ranks_by (rank_total order) (λ (h : Hit). h)) hits sorted i j d
    (omega (arith, up)) lt in
    let behind : comes_before order b a ≡ false =
    ⊎_elim (λ (yes : comes_before order b a ≡ true). let ranks = ap is_lt (ranked order b a yes) in let contra : true ≡ false = sym ranks ∙ late in cc)
    (λ (no : comes_before order b a ≡ false). no) (cases_Bool (comes_before order b a)) in
    Before-else order b a (λ same. apart i j d up lt (sym same)) behind

-- the first of hits, once they are sorted
pub first_of-sorted : (k : ℕ) (order : Order) (hits list : List Hit) → AreApart hits → IsPermutation hits list →
    IsSortedBy (λ a b. is_lt (rank order a b)) list →
    take k list ≡ first_of k order hits
first_of-sorted k order hits list apart is sorted =
    ap (take k) (ordered-one order hits list apart is (Before-sorted order list (once-permuted stamp_of hits list is apart) sorted))
