-- A list sorted by stamps that has all submitted operations is a shuffle of the lanes.
use Rattle.std.proofs.Common.{◌≡◌, ℕ, zero, suc, ◌<◌, ◌≤◌, ◌⊎◌, inl, inr, ⊎_elim, Bool, true, false, ◌||◌, cond, ◌==◌, eq-eqb, eqb-true, List, [], ◌∷◌, filter}
use Rattle.std.proofs.Common.{length, get_or, All, Contains, IsPermutation, sym, refl, ap, ◌∙◌, subst, arith}
use Rattle.std.specs.List.{list_any}
use Rattle.std.specs.List.Sorted.{IsNonDecreasingBy}
use Rattle.std.proofs.lemmas.List.{length-map, append-nil}
use Rattle.std.proofs.lemmas.List.Elements.{All-nil, All-cons, All-head, All-contains, All-contains_itself, All-filter, filter_passes, Contains-append_left}
use Rattle.std.proofs.lemmas.List.Elements.{Contains-append_right}
use Rattle.std.proofs.lemmas.List.Sorted.{IsPermutation-map, IsPermutation-refl, IsPermutation-trans, IsPermutation-sym, Contains-permutation}
use Rattle.std.proofs.lemmas.List.Sorted.{length_permutation}
use Rattle.fts_model.specs.declared.operation.Op.{Op}
use Rattle.fts_model.specs.declared.operation.Stamped.{Stamped}
use Rattle.std.specs.List.{range_with_len}
use Rattle.std.proofs.Math.Bool.{or-true}
use Rattle.fts_base.specs.Totals.{times}
use Rattle.fts_model.specs.Operations.{stamps_of}
use Rattle.fts_rounds.specs.Rounds.{AllAbove, Held, Rises}
use Rattle.fts_rounds.specs.Shuffles.{IsShuffle, has_stamp, submissions}
use Rattle.fts_rounds.proofs.RoundsOrderLemmas.{AllFrom, Climbs, run_from_times, run-rises, times-permutation}
use Rattle.fts_rounds.proofs.RoundsMergingLemmas.{AllRise}

abbrev Listed : Type 0
Listed = List (Stamped Op)

cases_at : (x : Stamped Op) (xs : Listed) (z : Stamped Op) (k : ℕ) → k < length (x ∷ xs) → get_or (x ∷ xs) k z ≡ z → (x ≡ z) ⊎ Contains xs z
cases_at x xs z zero lt e = inl e
cases_at x xs z (suc k) lt e = inr (k, omega arith, e)

cases : (x : Stamped Op) (xs : Listed) (z : Stamped Op) → Contains (x ∷ xs) z → (x ≡ z) ⊎ Contains xs z
cases x xs z h = cases_at x xs z h.0 h.1 h.2

here : (x : Stamped Op) (xs : Listed) → Contains (x ∷ xs) x
here x xs = (0, omega arith, refl)

later : (x : Stamped Op) (xs : Listed) (z : Stamped Op) → Contains xs z → Contains (x ∷ xs) z
later x xs z h = let lt = h.1 in (suc h.0, omega arith, h.2)

nowhere : (z : Stamped Op) → Contains {X = Stamped Op} [] z → ⊥
nowhere z h = let lt = h.1 in omega arith

above_member : (n : ℕ) (xs : Listed) (z : Stamped Op) → AllAbove n (stamps_of xs) → Contains xs z → n < z.stamp
above_member n [] z a h = absurd (nowhere z h)
above_member n (x ∷ xs) z a h = ⊎_elim (λ e. subst (λ (u : Stamped Op). n < u.stamp) e a.0) (λ t. above_member n xs z a.1 t) (cases x xs z h)

-- a stamp determines the member of a rising list
one_stamp : (xs : Listed) → Rises (stamps_of xs) → (y z : Stamped Op) → Contains xs y → Contains xs z → y.stamp ≡ z.stamp → y ≡ z
one_stamp [] r y z hy hz e = absurd (nowhere y hy)
one_stamp (x ∷ xs) r y z hy hz e = ⊎_elim
    (λ ey. ⊎_elim
    (λ ez. sym ey ∙ ez)
    (λ tz. absurd (let lt = above_member x.stamp xs z r.0 tz in let s : x.stamp ≡ y.stamp = ap (λ (u : Stamped Op). u.stamp) ey in omega arith))
    (cases x xs z hz))
    (λ ty. ⊎_elim
    (λ ez. absurd (let lt = above_member x.stamp xs y r.0 ty in let s : x.stamp ≡ z.stamp = ap (λ (u : Stamped Op). u.stamp) ez in omega arith))
    (λ tz. one_stamp xs r.1 y z ty tz e)
    (cases x xs z hz))
    (cases x xs y hy)

-- two rising lists with the same members are equal
same_list : (xs ys : Listed) → Rises (stamps_of xs) → Rises (stamps_of ys) → ((z : Stamped Op) → Contains xs z → Contains ys z) →
    ((z : Stamped Op) → Contains ys z → Contains xs z) → xs ≡ ys
same_list [] [] r s f g = refl
same_list [] (y ∷ ys) r s f g = absurd (nowhere y (g y (here y ys)))
same_list (x ∷ xs) [] r s f g = absurd (nowhere x (f x (here x xs)))
same_list (x ∷ xs) (y ∷ ys) r s f g =
    let is : x ≡ y = ⊎_elim
    (λ e. sym e)
    (λ tx. ⊎_elim
    (λ e. e)
    (λ ty. absurd (let a = above_member y.stamp ys x s.0 tx in let b = above_member x.stamp xs y r.0 ty in omega arith))
    (cases x xs y (g y (here y ys))))
    (cases y ys x (f x (here x xs))) in
    let same : x.stamp ≡ y.stamp = ap (λ (u : Stamped Op). u.stamp) is in
    let rest = same_list xs ys r.1 s.1
    (λ z h. ⊎_elim (λ e. absurd (let a = above_member x.stamp xs z r.0 h in let b : y.stamp ≡ z.stamp = ap (λ (u : Stamped Op). u.stamp) e in omega arith))
    (λ t. t) (cases y ys z (f z (later x xs z h))))
    (λ z h. ⊎_elim (λ e. absurd (let a = above_member y.stamp ys z s.0 h in let b : x.stamp ≡ z.stamp = ap (λ (u : Stamped Op). u.stamp) e in omega arith))
    (λ t. t) (cases x xs z (g z (later y ys z h)))) in
    λ i. is i ∷ rest i

module _ (p : Stamped Op → Bool) where
  above_cond : (b : Bool) (n : ℕ) (x : Stamped Op) (xs : Listed) → n < x.stamp → AllAbove n (stamps_of xs) → AllAbove n (stamps_of (cond b (x ∷ xs) xs))
  above_cond true n x xs lt a = (lt, a)
  above_cond false n x xs lt a = a

  filter-above : (n : ℕ) (xs : Listed) → AllAbove n (stamps_of xs) → AllAbove n (stamps_of (filter p xs))
  filter-above n [] a = tt
  filter-above n (x ∷ xs) a = above_cond (p x) n x (filter p xs) a.0 (filter-above n xs a.1)

  rises_cond : (b : Bool) (x : Stamped Op) (xs : Listed) → AllAbove x.stamp (stamps_of xs) → Rises (stamps_of xs) → Rises (stamps_of (cond b (x ∷ xs) xs))
  rises_cond true x xs a r = (a, r)
  rises_cond false x xs a r = r

  filter-rises : (xs : Listed) → Rises (stamps_of xs) → Rises (stamps_of (filter p xs))
  filter-rises [] r = tt
  filter-rises (x ∷ xs) r = rises_cond (p x) x (filter p xs) (filter-above x.stamp xs r.0) (filter-rises xs r.1)

  kept_here : (b : Bool) (x : Stamped Op) (xs : Listed) → b ≡ true → Contains (cond b (x ∷ xs) xs) x
  kept_here true x xs is = here x xs
  kept_here false x xs is = absurd (cc)

  kept_later : (b : Bool) (x : Stamped Op) (xs : Listed) (z : Stamped Op) → Contains xs z → Contains (cond b (x ∷ xs) xs) z
  kept_later true x xs z h = later x xs z h
  kept_later false x xs z h = h

  filter-keeps : (xs : Listed) (z : Stamped Op) → Contains xs z → p z ≡ true → Contains (filter p xs) z
  filter-keeps [] z h t = h
  filter-keeps (x ∷ xs) z h t = ⊎_elim
      (λ e. subst (λ (u : Stamped Op). Contains (filter p (x ∷ xs)) u) e (kept_here (p x) x (filter p xs) (ap p e ∙ t)))
      (λ l. kept_later (p x) x (filter p xs) z (filter-keeps xs z l t))
      (cases x xs z h)

  any_here : (xs : Listed) (z : Stamped Op) → Contains xs z → p z ≡ true → list_any p xs ≡ true
  any_here [] z h t = absurd (nowhere z h)
  any_here (x ∷ xs) z h t = ⊎_elim
      (λ e. ap (λ (b : Bool). b || list_any p xs) (ap p e ∙ t))
      (λ l. ap (λ (b : Bool). p x || b) (any_here xs z l t) ∙ or-true (p x))
      (cases x xs z h)

  abbrev Found : Listed → Type 0
  Found xs = (z : Stamped Op) × Contains xs z × (p z ≡ true)

  found_at : (b : Bool) (x : Stamped Op) (xs : Listed) → p x ≡ b → (list_any p xs ≡ true → Found xs) → (b || list_any p xs) ≡ true → Found (x ∷ xs)
  found_at true x xs is rest e = (x, here x xs, is)
  found_at false x xs is rest e = let r = rest e in (r.0, later x xs r.0 r.1, r.2)

  any_found : (xs : Listed) → list_any p xs ≡ true → Found xs
  any_found [] e = absurd (cc)
  any_found (x ∷ xs) e = found_at (p x) x xs refl (any_found xs) e

-- the members of a rising list that have the stamps of a part of it are that part
part_is : (list batch : Listed) → Rises (stamps_of list) → Rises (stamps_of batch) → ((z : Stamped Op) → Contains list z → Contains batch z) →
    list ≡ filter (has_stamp list) batch
part_is list batch r s inside = same_list list (filter (has_stamp list) batch) r (filter-rises (has_stamp list) batch s)
    (λ z h. filter-keeps (has_stamp list) batch z (inside z h) (any_here (λ x. x.stamp == z.stamp) list z h (eq-eqb z.stamp z.stamp refl)))
    (λ z h.
    let at : Contains batch z =
    All-contains (Contains batch) (filter (has_stamp list) batch) z (All-filter (has_stamp list) (Contains batch) batch (All-contains_itself batch)) h in
    let passes : has_stamp list z ≡ true = All-contains (λ x. has_stamp list x ≡ true) (filter (has_stamp list) batch) z (filter_passes (has_stamp list) batch)
    h in
    let found = any_found (λ x. x.stamp == z.stamp) list passes in
    let is : found.0 ≡ z = one_stamp batch s found.0 z (inside found.0 found.1) at (eqb-true found.0.stamp z.stamp found.2) in
    subst (Contains list) is found.1)

all_parts : (batch : Listed) → Rises (stamps_of batch) → (lanes : List Held) → AllRise lanes →
    ((z : Stamped Op) → Contains (submissions lanes) z → Contains batch z) → All (λ h. h.ops ≡ filter (has_stamp h.ops) batch) lanes
all_parts batch s [] rise inside = All-nil (λ h. h.ops ≡ filter (has_stamp h.ops) batch)
all_parts batch s (h ∷ hs) rise inside = All-cons (λ h. h.ops ≡ filter (has_stamp h.ops) batch) h hs
    (part_is h.ops batch rise.0 s (λ z m. inside z (Contains-append_left h.ops (submissions hs) z m)))
    (all_parts batch s hs rise.1 (λ z m. inside z (Contains-append_right h.ops (submissions hs) z m)))

all_from : (n : ℕ) (xs : Listed) → ((j : ℕ) (d : Stamped Op) → j < length xs → n ≤ (get_or xs j d).stamp) → AllFrom n (stamps_of xs)
all_from n [] f = tt
all_from n (x ∷ xs) f = (f 0 x (omega arith), all_from n xs (λ j d lt. f (suc j) d (omega arith)))

climbs : (xs : Listed) → IsNonDecreasingBy (λ (s : Stamped Op). s.stamp) xs → Climbs (stamps_of xs)
climbs [] up = tt
climbs (x ∷ xs) up = (
  all_from x.stamp xs (λ j d lt. up 0 (suc j) d (omega arith) (omega arith)),
  climbs xs
      (λ i j d le lt. up (suc i) (suc j) d (omega arith) (omega arith)),
)

-- a list sorted by stamps with the operations of the lanes, if each stamp was drawn once
shuffled_climbing : (first : ℕ) (lanes : List Held) (merged batch : Listed) → AllRise lanes → IsPermutation (submissions lanes) merged
    → ((x : ℕ) → times x (stamps_of merged) ≡ times x (range_with_len first (length (stamps_of merged))))
    → IsPermutation merged batch → Climbs (stamps_of batch) → IsShuffle first batch lanes
shuffled_climbing first lanes merged batch rise members drawn moved up =
    let stamp : Stamped Op → ℕ = λ s. s.stamp in
    let count : length (stamps_of merged) ≡ length batch = length-map merged stamp ∙ sym (length_permutation merged batch moved) in
    let numbered : stamps_of batch ≡ range_with_len first (length batch)
    = run_from_times first (length batch) (stamps_of batch) up
    (λ x. times-permutation x (stamps_of merged) (stamps_of batch) (IsPermutation-map stamp merged batch moved)
    ∙ (drawn x ∙ ap (λ (k : ℕ). times x (range_with_len first k)) count)) in
    let each : IsPermutation (submissions lanes) batch = IsPermutation-trans (submissions lanes) merged batch members moved in
    let rises : Rises (stamps_of batch) = subst Rises (sym numbered) (run-rises first (length batch)) in
    record {
      numbered = numbered;
      each_once = each;
      in_order = all_parts batch rises lanes rise (λ z m. Contains-permutation (submissions lanes) batch z each m);
    }

-- the result of `merge` after it sorted
pub shuffled : (first : ℕ) (lanes : List Held) (merged batch : Listed) → AllRise lanes → IsPermutation (submissions lanes) merged
    → ((x : ℕ) → times x (stamps_of merged) ≡ times x (range_with_len first (length (stamps_of merged))))
    → IsPermutation merged batch → IsNonDecreasingBy (λ (s : Stamped Op). s.stamp) batch → IsShuffle first batch lanes
shuffled first lanes merged batch rise members drawn moved up = shuffled_climbing first lanes merged batch rise members drawn moved (climbs batch up)

from_above : (n : ℕ) (xs : List ℕ) → AllAbove n xs → AllFrom n xs
from_above n [] a = tt
from_above n (x ∷ xs) a = let lt = a.0 in (omega arith, from_above n xs a.1)

climbs_rising : (xs : List ℕ) → Rises xs → Climbs xs
climbs_rising [] r = tt
climbs_rising (x ∷ xs) r = (from_above x xs r.0, climbs_rising xs r.1)

-- the batch of a round of one lane: the lane's operations, unchanged
pub alone_shuffled : (first : ℕ) (h : Held) (batch : Listed) → batch ≡ h.ops → Rises (stamps_of batch)
    → ((x : ℕ) → times x (stamps_of batch) ≡ times x (range_with_len first (length (stamps_of batch)))) → IsShuffle first batch (h ∷ [])
alone_shuffled first h batch is rises drawn =
    let whole : submissions (h ∷ []) ≡ batch = append-nil h.ops ∙ sym is in
    shuffled_climbing first (h ∷ []) batch batch (subst (λ (l : Listed). Rises (stamps_of l)) is rises, tt)
    (subst (λ (l : Listed). IsPermutation l batch) (sym whole) (IsPermutation-refl batch)) drawn (IsPermutation-refl batch)
    (climbs_rising (stamps_of batch) rises)

-- the batch of a round of one lane is that lane's list
pub one_lane_is : (first : ℕ) (batch : Listed) (h : Held) → IsShuffle first batch (h ∷ []) → batch ≡ h.ops
one_lane_is first batch h s =
    let rises : Rises (stamps_of batch) = subst Rises (sym s.numbered) (run-rises first (length batch)) in
    let part : h.ops ≡ filter (has_stamp h.ops) batch = All-head (λ (u : Held). u.ops ≡ filter (has_stamp u.ops) batch) h [] s.in_order in
    let mine : Rises (stamps_of h.ops) = subst (λ (l : Listed). Rises (stamps_of l)) (sym part) (filter-rises (has_stamp h.ops) batch rises) in
    let moved : IsPermutation h.ops batch = subst (λ (l : Listed). IsPermutation l batch) (append-nil h.ops) s.each_once in
    same_list batch h.ops rises mine
    (λ z m. Contains-permutation batch h.ops z (IsPermutation-sym h.ops batch moved) m)
    (λ z m. Contains-permutation h.ops batch z moved m)
