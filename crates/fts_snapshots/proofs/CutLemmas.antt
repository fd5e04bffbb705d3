-- Members divided among groups: these have the members in another order, and none has too many.
use Rattle.std.proofs.Common.{◌≡◌, ◌<◌, ◌≤◌, ◌+◌, ◌*◌, ◌/◌, ◌%◌, ◌-◌, ℕ, zero, suc, List, [], ◌∷◌, ◌++◌, length, get_or, set, take, subst, refl, sym, ap, ◌∙◌}
use Rattle.std.proofs.Common.{append_assoc, arith, ⊎_elim}
use Rattle.std.specs.List.{AllByRecursion}
use Rattle.std.specs.List.Sorted.{IsPermutation}
use Rattle.std.proofs.lemmas.Bool.{cases_lt}
use Rattle.std.proofs.lemmas.Nat.{div-mul-add, mod-mul-add, mul-add-lt}
use Rattle.std.proofs.lemmas.List.{append-nil, length-append, length-take-le, take_more}
use Rattle.std.proofs.lemmas.List.Sorted.{IsPermutation-refl, IsPermutation-trans, IsPermutation-to_front, IsPermutation-append_left}
use Rattle.std.proofs.lemmas.List.Sorted.{IsPermutation-append_right}
use Rattle.fts_model.specs.declared.cut.Cut.{Cut}
use Rattle.fts_model.specs.declared.operation.Stamped.{Stamped}
use Rattle.fts_model.specs.Documents.{DocumentValue}
use Rattle.fts_model.specs.declared.cut.Cut.TheVariants.{Runs, Deal}
use Rattle.fts_segment.specs.Segments.{BuilderValue, with_document}
use Rattle.fts_snapshots.specs.Cuts.{IsCut, place_of, put_into, dealt_from, groups_of}
use Rattle.fts_snapshots.specs.Groups.{documents_in}
use Rattle.fts_snapshots.proofs.OrderLemmas.{All-joined, All-weaker_by}
use Rattle.fts_snapshots.proofs.EntryLemmas.{joined}

put_permutes : {X : Type 0} (k : ℕ) (x : X) (gs : List (List X)) → IsPermutation (joined gs ++ x ∷ []) (joined (put_into k x gs))
put_permutes k x [] = IsPermutation-refl (x ∷ [])
put_permutes zero x (g ∷ gs) =
    subst (λ ys. IsPermutation ys ((g ++ x ∷ []) ++ joined gs)) (sym (append_assoc g (joined gs) (x ∷ [])))
    (subst (λ ys. IsPermutation (g ++ (joined gs ++ x ∷ [])) ys) (sym (append_assoc g (x ∷ []) (joined gs)))
    (IsPermutation-append_right g (joined gs ++ x ∷ []) (x ∷ joined gs) (IsPermutation-to_front (joined gs) x)))
put_permutes (suc k) x (g ∷ gs) =
    subst (λ ys. IsPermutation ys (g ++ joined (put_into k x gs))) (sym (append_assoc g (joined gs) (x ∷ [])))
    (IsPermutation-append_right g (joined gs ++ x ∷ []) (joined (put_into k x gs)) (put_permutes k x gs))

dealt_permutes : {X : Type 0} (place : ℕ → ℕ) (j : ℕ) (groups : List (List X)) (xs : List X) →
    IsPermutation (joined groups ++ xs) (joined (dealt_from place j groups xs))
dealt_permutes place j groups [] = subst (λ ys. IsPermutation ys (joined groups)) (sym (append-nil (joined groups))) (IsPermutation-refl (joined groups))
dealt_permutes place j groups (x ∷ xs) =
    let put = put_into (place j) x groups in
    subst (λ ys. IsPermutation ys (joined (dealt_from place (j + 1) put xs))) (append_assoc (joined groups) (x ∷ []) xs)
    (IsPermutation-trans ((joined groups ++ x ∷ []) ++ xs) (joined put ++ xs) (joined (dealt_from place (j + 1) put xs))
    (IsPermutation-append_left xs (joined groups ++ x ∷ []) (joined put) (put_permutes (place j) x groups))
    (dealt_permutes place (j + 1) put xs))

-- the groups of a cut have its members
pub groups_permute : {X : Type 0} (cut : Cut) (xs : List X) → IsPermutation xs (joined (groups_of cut xs))
groups_permute cut xs = dealt_permutes (place_of cut) 0 [] xs

-- more members are added after others
pub dealt_from-append : {X : Type 0} (place : ℕ → ℕ) (j : ℕ) (groups : List (List X)) (xs ys : List X) →
    dealt_from place j groups (xs ++ ys) ≡ dealt_from place (j + length xs) (dealt_from place j groups xs) ys
dealt_from-append place j groups [] ys = ap (λ n. dealt_from place n groups ys) (omega arith)
dealt_from-append place j groups (x ∷ xs) ys =
    let next = put_into (place j) x groups in
    dealt_from-append place (j + 1) next xs ys ∙ ap (λ n. dealt_from place n (dealt_from place (j + 1) next xs) ys) (omega arith)

-- a member is added to the first group after others
put_behind : {X : Type 0} (x : X) (front back : List (List X)) → put_into (length front) x (front ++ back) ≡ front ++ put_into 0 x back
put_behind x [] back = refl
put_behind x (g ∷ front) back = ap (λ gs. g ∷ gs) (put_behind x front back)

-- no group has more than `most` members
abbrev pub IsWithin : {X : Type 0} → ℕ → List (List X) → Type 0
IsWithin most groups = AllByRecursion (λ group. length group ≤ most) groups

-- the group of a member if m builders take members in turn, and each group has the same capacity
abbrev place_among : ℕ → ℕ → ℕ → ℕ
place_among m most j = j / (m * most) * m + j % m

place_in : (m most before turns taken : ℕ) → turns < most → taken < m → place_among m most ((before * most + turns) * m + taken) ≡ before * m + taken
place_in m most before turns taken l k =
    let j = (before * most + turns) * m + taken in
    let same : j ≡ before * (m * most) + (turns * m + taken) = omega arith in
    let round : j / (m * most) ≡ before =
    ap (λ n. n / (m * most)) same ∙ div-mul-add before (m * most) (turns * m + taken) (mul-add-lt turns m taken most l k) in
    ap (λ n. n * m + j % m) round ∙ ap (λ n. before * m + n) (mod-mul-add (before * most + turns) m taken k)

-- groups while they are dealt to m builders: full ones, those that took a member in this turn, and those whose turn is
-- next
record IsDealt {X : Type 0} (m most before turns : ℕ) (full taken waiting : List (List X)) : Type 0 where
  pub turn : turns < most
  pub next : length taken < m
  pub full_count : length full ≡ before * m
  pub full_within : IsWithin most full
  pub taken_within : IsWithin (turns + 1) taken
  pub waiting_count : length taken + length waiting ≤ m
  pub waiting_within : IsWithin turns waiting

-- the next group in turn takes a member
record TakesNext {X : Type 0} (turns : ℕ) (x : X) (waiting : List (List X)) (first : List X) (rest : List (List X)) : Type 0 where
  pub put : put_into 0 x waiting ≡ first ∷ rest
  pub first_within : length first ≤ turns + 1
  pub count : length rest ≤ length waiting - 1
  pub rest_within : IsWithin turns rest

takes_next : {X : Type 0} (turns : ℕ) (x : X) (waiting : List (List X)) → IsWithin turns waiting →
    (first : List X) × (rest : List (List X)) × TakesNext turns x waiting first rest
takes_next turns x [] w = (x ∷ [], [], record { put = refl; first_within = omega arith; count = omega arith; rest_within = tt })
takes_next turns x (g ∷ gs) w =
    (g ++ x ∷ [], gs, record { put = refl; first_within = omega (arith, w.0, length-append g (x ∷ [])); count = omega arith; rest_within = w.1 })

-- the group that a member is added to
put_next : {X : Type 0} (m most before turns : ℕ) (full taken waiting rest : List (List X)) (first : List X) (x : X) →
    IsDealt m most before turns full taken waiting → TakesNext turns x waiting first rest →
    put_into (place_among m most ((before * most + turns) * m + length taken)) x (full ++ (taken ++ waiting)) ≡ full ++ ((taken ++ first ∷ []) ++ rest)
put_next m most before turns full taken waiting rest first x d t =
    let count : length (full ++ taken) ≡ before * m + length taken = length-append full taken ∙ ap (λ n. n + length taken) d.full_count in
    ap (λ n. put_into n x (full ++ (taken ++ waiting))) (place_in m most before turns (length taken) d.turn d.next ∙ sym count)
    ∙ ap (put_into (length (full ++ taken)) x) (sym (append_assoc full taken waiting))
    ∙ put_behind x (full ++ taken) waiting
    ∙ ap (λ gs. (full ++ taken) ++ gs) t.put
    ∙ append_assoc full taken (first ∷ rest)
    ∙ ap (λ gs. full ++ gs) (sym (append_assoc taken (first ∷ []) rest))

pub none_left : {X : Type 0} (xs : List X) → length xs ≤ 0 → xs ≡ []
none_left [] l = refl
none_left (x ∷ xs) l = absurd (omega (arith, l))

dealt_within : {X : Type 0} (m most before turns : ℕ) (full taken waiting : List (List X)) (xs : List X) → IsDealt m most before turns full taken waiting →
    IsWithin most (dealt_from (place_among m most) ((before * most + turns) * m + length taken) (full ++ (taken ++ waiting)) xs)
dealt_within m most before turns full taken waiting [] d =
    All-joined (λ g. length g ≤ most) full (taken ++ waiting) d.full_within
    (All-joined (λ g. length g ≤ most) taken waiting
    (All-weaker_by (λ g. length g ≤ turns + 1) (λ g. length g ≤ most) (λ g h. omega (arith, h, d.turn)) taken d.taken_within)
    (All-weaker_by (λ g. length g ≤ turns) (λ g. length g ≤ most) (λ g h. omega (arith, h, d.turn)) waiting d.waiting_within))
dealt_within {X} m most before turns full taken waiting (x ∷ xs) d =
    let given = takes_next turns x waiting d.waiting_within in
    let first = given.0 in
    let rest = given.1 in
    let t = given.2 in
    let now = taken ++ first ∷ [] in
    let j = (before * most + turns) * m + length taken in
    let count : length now ≡ length taken + 1 = length-append taken (first ∷ []) in
    let now_within : IsWithin (turns + 1) now = All-joined (λ g. length g ≤ turns + 1) taken (first ∷ []) d.taken_within (t.first_within, tt) in
    let Goal : List (List X) → Type 0 = λ gs. IsWithin most (dealt_from (place_among m most) (j + 1) gs xs) in
    subst Goal (sym (put_next m most before turns full taken waiting rest first x d t))
    (⊎_elim
    (λ (more : length taken + 1 < m).
    subst (λ n. IsWithin most (dealt_from (place_among m most) n (full ++ (now ++ rest)) xs)) (ap (λ n. (before * most + turns) * m + n) count ∙ omega arith)
    (dealt_within m most before turns full now rest xs (record {
      turn = d.turn;
      next = omega (arith, count, more);
      full_count = d.full_count;
      full_within = d.full_within;
      taken_within = now_within;
      waiting_count = omega (arith, count, more, t.count, d.waiting_count);
      waiting_within = t.rest_within;
    })))
    (λ (last : m ≤ length taken + 1).
    let all : length taken + 1 ≡ m = omega (arith, last, d.next) in
    let over = none_left rest (omega (arith, t.count, d.waiting_count, last)) in
    subst (λ gs. Goal (full ++ (now ++ gs))) (sym over)
    (⊎_elim
    (λ (again : turns + 1 < most).
    let index : (before * most + (turns + 1)) * m + 0 ≡ j + 1 = omega (arith, all) in
    subst (λ n. IsWithin most (dealt_from (place_among m most) n (full ++ (now ++ [])) xs)) index
    (subst (λ gs. IsWithin most (dealt_from (place_among m most) ((before * most + (turns + 1)) * m + 0) (full ++ gs) xs)) (sym (append-nil now))
    (dealt_within m most before (turns + 1) full [] now xs (record {
      turn = again;
      next = omega (arith, d.next);
      full_count = d.full_count;
      full_within = d.full_within;
      taken_within = tt;
      waiting_count = omega (arith, count, all);
      waiting_within = now_within;
    }))))
    (λ (filled : most ≤ turns + 1).
    let whole : turns + 1 ≡ most = omega (arith, filled, d.turn) in
    let index : ((before + 1) * most + 0) * m + 0 ≡ j + 1 = omega (arith, all, whole, ap (λ n. n * m) whole) in
    subst (λ n. IsWithin most (dealt_from (place_among m most) n (full ++ (now ++ [])) xs)) index
    (subst (λ gs. IsWithin most (dealt_from (place_among m most) (((before + 1) * most + 0) * m + 0) gs xs)) (append_assoc full now [])
    (dealt_within m most (before + 1) 0 (full ++ now) [] [] xs (record {
      turn = omega (arith, whole);
      next = omega (arith, d.next);
      full_count = omega (arith, length-append full now, d.full_count, count, all);
      full_within = All-joined (λ g. length g ≤ most) full now d.full_within (All-weaker_by (λ g. length g ≤ turns + 1) (λ g. length g ≤ most)
          (λ g h. omega (arith, h, whole)) now now_within);
      taken_within = tt;
      waiting_count = omega (arith, d.next);
      waiting_within = tt;
    }))))
    (cases_lt (turns + 1) most)))
    (cases_lt (length taken + 1) m))

within_capacity : {X : Type 0} (m most : ℕ) (xs : List X) → 1 ≤ m → 1 ≤ most → IsWithin most (dealt_from (place_among m most) 0 [] xs)
within_capacity m most xs l k =
    let index : (0 * most + 0) * m + 0 ≡ 0 = omega arith in
    subst (λ n. IsWithin most (dealt_from (place_among m most) n [] xs)) index
    (dealt_within m most 0 0 [] [] [] xs (record {
      turn = omega arith;
      next = omega arith;
      full_count = omega arith;
      full_within = tt;
      taken_within =
          tt;
      waiting_count = omega arith;
      waiting_within = tt;
    }))

-- no group of a cut has over 65,536 members
pub groups_within : {X : Type 0} (cut : Cut) (xs : List X) → IsCut cut → IsWithin 65536 (groups_of cut xs)
groups_within (Runs n) xs h =
    All-weaker_by (λ g. length g ≤ n) (λ g. length g ≤ 65536) (λ g l. omega (arith, l, h.1)) (groups_of (Runs n) xs) (within_capacity 1 n xs (omega arith) h.0)
groups_within (Deal m) xs h = within_capacity m 65536 xs h.0 (omega arith)

-- a document is added to an existing builder
pub put_there : (bs : List BuilderValue) (at : ℕ) (x : Stamped DocumentValue) (b : BuilderValue) → at < length bs → b ≡ get_or bs at b →
    documents_in (set bs at (record b { segment = with_document b.segment x.stamp x.value })) ≡ put_into at x (documents_in bs)
put_there [] at x b l e = absurd (omega (arith, l))
put_there (c ∷ bs) zero x b l e = ap (λ (d : BuilderValue). (d.segment.documents ++ x ∷ []) ∷ documents_in bs) e
put_there (c ∷ bs) (suc at) x b l e = ap (λ gs. c.segment.documents ∷ gs) (put_there bs at x b (omega (arith, l)) e)

-- a document is added to a new builder
pub put_beyond : (bs : List BuilderValue) (at : ℕ) (x : Stamped DocumentValue) (b : BuilderValue) → length bs ≤ at → b.segment.documents ≡ x ∷ [] →
    documents_in (bs ++ b ∷ []) ≡ put_into at x (documents_in bs)
put_beyond [] at x b l e = ap (λ g. g ∷ []) e
put_beyond (c ∷ bs) zero x b l e = absurd (omega (arith, l))
put_beyond (c ∷ bs) (suc at) x b l e = ap (λ gs. c.segment.documents ∷ gs) (put_beyond bs at x b (omega (arith, l)) e)

-- a builder has a place left, if it has one more document within the limit
pub room_there : (most : ℕ) (bs : List BuilderValue) (at : ℕ) (x : Stamped DocumentValue) (b : BuilderValue) → at < length bs → b ≡ get_or bs at b →
    IsWithin most (put_into at x (documents_in bs)) → length b.segment.documents < most
room_there most [] at x b l e w = absurd (omega (arith, l))
room_there most (c ∷ bs) zero x b l e w =
    omega (arith, w.0, length-append c.segment.documents (x ∷ []), ap (λ (d : BuilderValue). length d.segment.documents) e)
room_there most (c ∷ bs) (suc at) x b l e w = room_there most bs at x b (omega (arith, l)) e w.1

-- more adds are divided
pub groups_of-append : {X : Type 0} (cut : Cut) (xs ys : List X) → dealt_from (place_of cut) (length xs) (groups_of cut xs) ys ≡ groups_of cut (xs ++ ys)
groups_of-append cut xs ys = ap (λ n. dealt_from (place_of cut) n (groups_of cut xs) ys) (omega arith) ∙ sym (dealt_from-append (place_of cut) 0 [] xs ys)

-- no group is new if a member is added to an existing one
length-put_there : {X : Type 0} (at : ℕ) (x : X) (gs : List (List X)) → at < length gs → length (put_into at x gs) ≡ length gs
length-put_there at x [] l = absurd (omega (arith, l))
length-put_there zero x (g ∷ gs) l = omega arith
length-put_there (suc at) x (g ∷ gs) l = omega (arith, length-put_there at x gs (omega (arith, l)))

-- one group is new if a member is added beyond the existing ones
length-put_beyond : {X : Type 0} (at : ℕ) (x : X) (gs : List (List X)) → length gs ≤ at → length (put_into at x gs) ≡ length gs + 1
length-put_beyond at x [] l = omega arith
length-put_beyond zero x (g ∷ gs) l = absurd (omega (arith, l))
length-put_beyond (suc at) x (g ∷ gs) l = omega (arith, length-put_beyond at x gs (omega (arith, l)))

-- the first members of a list, and the next one
next_taken : {X : Type 0} (xs : List X) (j : ℕ) → j < length xs → (x : X) × (take (j + 1) xs ≡ take j xs ++ x ∷ [])
next_taken [] j l = absurd (omega (arith, l))
next_taken (x ∷ xs) j l = (get_or (x ∷ xs) j x, take_more (x ∷ xs) j x l)

-- the next member is added to the groups of those before it
put_taken : {X : Type 0} (cut : Cut) (xs : List X) (j : ℕ) → j < length xs →
    (x : X) × (groups_of cut (take (j + 1) xs) ≡ put_into (place_of cut j) x (groups_of cut (take j xs)))
put_taken cut xs j l =
    let next = next_taken xs j l in
    let before = take j xs in
    let count : length before ≡ j = length-take-le j xs (omega (arith, l)) in
    (next.0, ap (groups_of cut) next.1 ∙ sym (groups_of-append cut before (next.0 ∷ [])) ∙ ap (λ n. put_into (place_of cut n) next.0 (groups_of cut before)) count)

-- how many groups there are with the next member, if it is added to an existing one
pub groups_there : {X : Type 0} (cut : Cut) (xs : List X) (j : ℕ) → j < length xs → place_of cut j < length (groups_of cut (take j xs)) →
    length (groups_of cut (take (j + 1) xs)) ≡ length (groups_of cut (take j xs))
groups_there cut xs j l h =
    let put = put_taken cut xs j l in
    ap length put.1 ∙ length-put_there (place_of cut j) put.0 (groups_of cut (take j xs)) h

-- how many groups there are with the next member, if it is added to a new one
pub groups_beyond : {X : Type 0} (cut : Cut) (xs : List X) (j : ℕ) → j < length xs → length (groups_of cut (take j xs)) ≤ place_of cut j →
    length (groups_of cut (take (j + 1) xs)) ≡ length (groups_of cut (take j xs)) + 1
groups_beyond cut xs j l h =
    let put = put_taken cut xs j l in
    ap length put.1 ∙ length-put_beyond (place_of cut j) put.0 (groups_of cut (take j xs)) h
