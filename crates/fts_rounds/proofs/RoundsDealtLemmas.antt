-- The ends of the lanes that a round was opened with are this round's, each once.
use Rattle.std.proofs.Common.{◌≡◌, ℕ, zero, suc, ◌+◌, ◌<◌, ◌≤◌, List, [], ◌∷◌, map, length, get_or, All, sym, refl, ap, ◌∙◌, subst, arith}
use Rattle.std.proofs.lemmas.List.FromFn.{get_or-map-range_with_len, length-map-range_with_len}
use native.Mathlib.Decide.{ℕ_discrete}
use mathlib.Core.Logic.{dite}
use Rattle.std.specs.List.{range_with_len}
use Rattle.fts_base.specs.Totals.{times}
use Rattle.fts_rounds.specs.Rounds.{Held, IsLaneOf, Opened, SameLane, fresh, lanes_of}
use Rattle.fts_base.proofs.TotalsLemmas.{times_here, times_else}
use Rattle.fts_rounds.proofs.RoundsOrderLemmas.{times_low}

run_once : (k a n : ℕ) → times k (range_with_len a n) ≤ 1
run_once k a zero = omega arith
run_once k a (suc n) = dite (ℕ_discrete k a)
    (λ e. subst (λ (j : ℕ). times j (range_with_len a (suc n)) ≤ 1) (sym e) (let h = times_here a (range_with_len (a + 1) n) in let z = times_low a (a + 1) n
    (omega arith) in omega arith))
    (λ ne. let h = times_else k a (range_with_len (a + 1) n) ne in let r = run_once k (a + 1) n in omega arith)

numbers_is : (ends : List Held) (a n : ℕ) → length ends ≡ n → ((i : ℕ) (d : Held) → i < n → (get_or ends i d).lane ≡ a + i) → lanes_of ends ≡ range_with_len a n
numbers_is [] a zero e f = refl
numbers_is [] a (suc n) e f = absurd (omega arith)
numbers_is (x ∷ xs) a zero e f = absurd (omega arith)
numbers_is (x ∷ xs) a (suc n) e f =
    let head : x.lane ≡ a = f 0 x (omega arith) ∙ (let z : a + 0 ≡ a = omega arith in z) in
    let rest = numbers_is xs (a + 1) n (omega arith) (λ i d lt. f (suc i) d (omega arith) ∙ (let z : a + suc i ≡ (a + 1) + i = omega arith in z)) in
    λ i. head i ∷ rest i

module _ (r : Opened) (lanes ends : List Held) (n : ℕ) (dealt : lanes ≡ map (fresh r) (range_with_len 0 n)) (whole : n ≡ r.limits.lanes)
    (len : length ends ≡ length lanes)
    (same : (i : ℕ) (d : Held) → i < length lanes → SameLane (get_or lanes i d) (get_or ends i d)) where
  count : length lanes ≡ n
  count = ap length dealt ∙ length-map-range_with_len (fresh r) 0 n

  was : (i : ℕ) (d : Held) → i < n → get_or lanes i d ≡ fresh r i
  was i d lt = ap (λ (l : List Held). get_or l i d) dealt ∙ get_or-map-range_with_len (fresh r) 0 n i i d lt (omega arith)

  is : (i : ℕ) (d : Held) → i < n → SameLane (fresh r i) (get_or ends i d)
  is i d lt = let c = count in subst (λ (h : Held). SameLane h (get_or ends i d)) (was i d lt) (same i d (omega arith))

  pub all_of_round : All (IsLaneOf r) ends
  all_of_round i d lt =
      let c = count in
      let below : i < n = omega arith in
      let h = is i d below in
      let w = whole in
      let number : (get_or ends i d).lane ≡ i = h.2 in
      (h.0, h.1, omega arith)

  pub all_once : (k : ℕ) → times k (lanes_of ends) ≤ 1
  all_once k = let c = count in
      subst (λ (l : List ℕ). times k l ≤ 1) (sym (numbers_is ends 0 n (len ∙ c) (λ i d lt. (is i d lt).2 ∙ (let z : i ≡ 0 + i = omega arith in z))))
      (run_once k 0 n)
