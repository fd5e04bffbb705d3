-- Each step on a round's table maintains its rule.
use Rattle.std.proofs.Common.{◌≡◌, ℕ, zero, suc, ◌+◌, ◌*◌, ◌%◌, ◌^◌, ◌<◌, List, [], ◌∷◌, ◌++◌, length, get_or, set, sym, refl, ap, ◌∙◌, subst, ⊎_elim, arith}
use Rattle.std.proofs.Common.{length-set, get_or-set_same, length-append}
use mathlib.Core.Option.{none, some, some-injective, some-ne-none}
use lib.ListN.{get_elem?}
use Rattle.std.proofs.Math.Nat.{add-mul}
use Rattle.atomic_table.specs.Table.{State, Me, step, keeps, stepped, opening, Allows, Splits, Joins}
use Rattle.atomic_table.proofs.Lists.{at_set, at_snoc, set_again, set_else}
use Rattle.fts_rounds.specs.declared.stamps.RoundLimits.{RoundLimits}
use Rattle.fts_rounds.specs.declared.stamps.Drawn.{Drawn}
use Rattle.std.specs.List.{range_with_len}
use Rattle.fts_base.specs.Totals.{times}
use Rattle.fts_rounds.specs.RoundsDrawn.{drawn, begun, one_less, one_lane, joined, spent, lane_count, stamp_count, Fits, Kept, Draws, Looks}
use Rattle.fts_rounds.proofs.RoundsNumbersLemmas.{AllBelow-more, AllBelow-append, Rises-push, Rises-after_none, times-none}
use Rattle.fts_base.proofs.TotalsLemmas.{times-append, total-set, total-push, total-alone}
use Rattle.fts_rounds.proofs.RoundsTotalsLemmas.{count_le}
use Rattle.fts_model.proofs.Lists.{range_with_len-push}

-- a view after it drew the next stamp
fits_drawn : (t : RoundLimits) (n : ℕ) (v : Drawn) → Fits t n v → v.lanes ≡ 1 → length v.stamps < v.limits.cap → v.limits ≡ t →
    Fits t (n + 1) (drawn v.limits v.lanes (v.stamps ++ n ∷ []))
fits_drawn t n v fit one room is = record {
  limits = fit.limits;
  most = (let l = length-append v.stamps (n ∷ []) in let cap : v.limits.cap ≡ t.cap = ap (λ (u : RoundLimits). u.cap) is in let m : v.lanes * t.cap
      ≡ 1 * t.cap = ap (λ (k : ℕ). k * t.cap) one in omega arith);
  below = AllBelow-append (n + 1) v.stamps (n ∷ []) (AllBelow-more n (n + 1) v.stamps (omega arith) fit.below) (omega arith, tt);
  rises = (λ _. Rises-push n v.stamps fit.below (fit.rises one));
}

fits_later : (t : RoundLimits) (n : ℕ) (v : Drawn) → Fits t n v → Fits t (n + 1) v
fits_later t n v fit = record { limits = fit.limits; most = fit.most; below = AllBelow-more n (n + 1) v.stamps (omega arith) fit.below; rises = fit.rises }

module _ (t : RoundLimits) (s : State (Unit {0}) Drawn) (r : Kept t s) where
  -- the next stamp is below 2 ^ 62
  near : get_or s.words 0 0 < 2 ^ 62
  near = let most = count_le t (get_or s.words 0 0) s.views r.fit in let is = r.next in let small = r.small in
      let lanes : lane_count s.views * t.cap ≡ t.lanes * t.cap = ap (λ (k : ℕ). k * t.cap) r.lanes in omega arith

  keeps_drawn : (id : ℕ) (c : List (ℕ × Unit {0})) (v : Drawn) → get_elem? s.views id ≡ some v → v.lanes ≡ 1 → length v.stamps < v.limits.cap → (m : ℕ) →
      m ≡ get_or s.words 0 0 + 1
      → Kept t (stepped s 0 m id c (drawn v.limits v.lanes (v.stamps ++ get_or s.words 0 0 ∷ [])) keeps)
  keeps_drawn id c v at one room m is =
      let n : ℕ = get_or s.words 0 0 in
      let w : Drawn = drawn v.limits v.lanes (v.stamps ++ n ∷ []) in
      let fit = r.fit id v at in
      let mine : v.limits ≡ t = fit.limits (omega arith) in
      let lanes = total-set (λ u. u.lanes) s.views id v w at in
      let counts = total-set (λ u. length u.stamps) s.views id v w at in
      let longer = length-append v.stamps (n ∷ []) in
      let one_word = r.one_word in
      let word : get_or (set s.words 0 m) 0 0 ≡ m = get_or-set_same s.words 0 m 0 (omega arith) in
      let next = r.next in
      let more : stamp_count (set s.views id w) ≡ suc (stamp_count s.views) = omega arith in
      record {
        one_word = length-set s.words 0 m ∙ r.one_word;
        small = r.small;
        lanes = (let all = r.lanes in omega arith);
        next = word ∙ omega arith;
        each_once = (λ x.
            let sum = total-set (λ u. times x u.stamps) s.views id v w at in
            let split = times-append x v.stamps (n ∷ []) in
            let before = r.each_once x in
            let joins = times-append x (range_with_len t.first (stamp_count s.views)) ((t.first + stamp_count s.views) ∷ []) in
            let last : times x ((t.first + stamp_count s.views) ∷ []) ≡ times x (n ∷ []) = ap (λ (k : ℕ). times x (k ∷ [])) (sym next) in
            let grows : times x (range_with_len t.first (stamp_count (set s.views id w)))
            ≡ times x (range_with_len t.first (stamp_count s.views) ++ (t.first + stamp_count s.views) ∷ [])
            = ap (λ (k : ℕ). times x (range_with_len t.first k)) more ∙ ap (times x) (range_with_len-push t.first (stamp_count s.views)) in
            omega arith);
        fit = (λ j u here. subst (λ (k : ℕ). Fits t k u) (sym (word ∙ is)) (⊎_elim
            (λ e. subst (Fits t (n + 1)) e.1 (fits_drawn t n v fit one room mine))
            (λ e. fits_later t n u (r.fit j u e.1))
            (at_set s.views id j w u here)));
      }

  keeps_seen : (id : ℕ) (c : List (ℕ × Unit {0})) (v : Drawn) → get_elem? s.views id ≡ some v → Kept t (stepped s 0 (get_or s.words 0 0) id c v keeps)
  keeps_seen id c v at =
      let one_word = r.one_word in
      let word : get_or (set s.words 0 (get_or s.words 0 0)) 0 0 ≡ get_or s.words 0 0 = get_or-set_same s.words 0 (get_or s.words 0 0) 0 (omega arith) in
      subst (λ (l : List Drawn). Kept t record { words = set s.words 0 (get_or s.words 0 0); homes = s.homes; views = l }) (sym (set_again s.views id v at))
      record {
        one_word = length-set s.words 0 (get_or s.words 0 0) ∙ r.one_word;
        small = r.small;
        lanes = r.lanes;
        next = word ∙ r.next;
        each_once =
            r.each_once;
        fit = (λ j u here. subst (λ (k : ℕ). Fits t k u) (sym word) (r.fit j u here));
      }

  blank : Fits t (get_or s.words 0 0) spent
  blank = record { limits = (λ h. absurd (omega arith)); most = omega arith; below = tt; rises = (λ _. tt) }

  empty_from : (u : Drawn) → Fits t (get_or s.words 0 0) u → u.lanes ≡ 0 → length u.stamps ≡ 0
  empty_from u f e = let most = f.most in let none : u.lanes * t.cap ≡ 0 * t.cap = ap (λ (k : ℕ). k * t.cap) e in omega arith

  -- a seat of all lanes has as many stamps as were drawn
  count_alone : (id : ℕ) (v : Drawn) → get_elem? s.views id ≡ some v → v.limits ≡ t → v.lanes ≡ v.limits.lanes → stamp_count s.views ≡ length v.stamps
  count_alone id v at is all =
      total-alone (Fits t (get_or s.words 0 0)) (λ u. u.lanes) (λ u. length u.stamps) (λ u f e. empty_from u f e) spent blank refl s.views id v r.fit at
      (r.lanes ∙ (sym (ap (λ (u : RoundLimits). u.lanes) is) ∙ sym all))

  -- a seat of all lanes has each stamp
  has_all : (id : ℕ) (v : Drawn) → get_elem? s.views id ≡ some v → 0 < v.lanes → v.lanes ≡ v.limits.lanes → (x : ℕ) →
      times x v.stamps ≡ times x (range_with_len v.limits.first (length v.stamps))
  has_all id v at some_lane all x =
      let fit = r.fit id v at in
      let is : v.limits ≡ t = fit.limits some_lane in
      let sum = total-alone (Fits t (get_or s.words 0 0)) (λ u. u.lanes) (λ u. times x u.stamps) (λ u f e. times-none x u.stamps (empty_from u f e)) spent blank
      refl s.views id v r.fit at
      (r.lanes ∙ (sym (ap (λ (u : RoundLimits). u.lanes) is) ∙ sym all)) in
      sym sum ∙ (r.each_once x ∙ (ap (λ (k : ℕ). times x (range_with_len t.first k)) (count_alone id v at is all)
      ∙ ap (λ (u : RoundLimits). times x (range_with_len u.first (length v.stamps))) (sym is)))

-- the step of `submit` maintains the rule
pub draws : (t : RoundLimits) (slots id : ℕ) (me : Me (Unit {0}) Drawn) → me.0.lanes ≡ 1 → length me.0.stamps < me.0.limits.cap
    → Allows (Kept t) slots id me 0 (λ n. (n + 1) % 2 ^ 64) (Draws (step slots 0 1 0 none) me)
draws t slots id me one room s r _ at _ =
    let n : ℕ = get_or s.words 0 0 in
    let fit = r.fit id me.0 at in
    let mine : me.0.limits ≡ t = fit.limits (omega arith) in
    let low : me.0.limits.first ≡ t.first = ap (λ (u : RoundLimits). u.first) mine in
    let next = r.next in
    let near' = near t s r in
    let m : (n + 1) % 18446744073709551616 ≡ n + 1 = omega arith in (
      drawn me.0.limits me.0.lanes (me.0.stamps ++ n ∷ []),
      keeps,
      tt,
      keeps_drawn t s r id me.1 me.0 at one room ((n + 1) % 18446744073709551616) m,
      (refl, omega arith, fit.below, near', λ all. (let count = count_alone t s r id me.0 at mine all in omega arith)),
    )

-- the load of `gather` maintains the rule
pub looks : (t : RoundLimits) (slots id : ℕ) (me : Me (Unit {0}) Drawn) → 0 < me.0.lanes →
    Allows (Kept t) slots id me 0 (λ n. n) (Looks (step slots 0 0 0 none) me)
looks t slots id me some_lane s r _ at _ =
    let fit = r.fit id me.0 at in
    let mine : me.0.limits ≡ t = fit.limits some_lane in
    let first : me.0.limits.first ≡ t.first = ap (λ (u : RoundLimits). u.first) mine in
    let near' = near t s r in
    let next = r.next in (
      me.0,
      keeps,
      tt,
      keeps_seen t s r id me.1 me.0 at,
      (
        refl,
        λ all. record {
          small = (let count = count_alone t s r id me.0 at mine all in omega arith);
          each_once = has_all t s r id me.0 at some_lane all;
        },
      ),
    )

-- a seat without a stamp splits off a lane
pub deals : (t : RoundLimits) (id : ℕ) (v : Drawn) → 0 < v.lanes → v.stamps ≡ [] → Splits (Kept t) id v (one_less v) (one_lane v)
deals t id v some_lane empty s r at =
    let n : ℕ = get_or s.words 0 0 in
    let l : Drawn = one_less v in
    let one : Drawn = one_lane v in
    let fit = r.fit id v at in
    let mine : v.limits ≡ t = fit.limits some_lane in
    let none_yet : length v.stamps ≡ 0 = ap length empty in
    let same_count : stamp_count (set s.views id l ++ one ∷ []) ≡ stamp_count s.views
    = (let a = total-set (λ u. length u.stamps) s.views id v l at in let b = total-push (λ u. length u.stamps) (set s.views id l) one in omega arith) in
    record {
      one_word = r.one_word;
      small = r.small;
      lanes = (let a = total-set (λ u. u.lanes) s.views id v l at in let b = total-push (λ u. u.lanes) (set s.views id l) one in let all = r.lanes in
          omega arith);
      next = r.next ∙ ap (λ (k : ℕ). t.first + k) (sym same_count);
      each_once = (λ x.
          let a = total-set (λ u. times x u.stamps) s.views id v l at in
          let b = total-push (λ u. times x u.stamps) (set s.views id l) one in
          let none_of_it : times x v.stamps ≡ 0 = ap (times x) empty in
          let before = r.each_once x in
          let counts : times x (range_with_len t.first (stamp_count (set s.views id l ++ one ∷ []))) ≡ times x (range_with_len t.first (stamp_count s.views)) =
          ap (λ (k : ℕ). times x (range_with_len t.first k)) same_count in
          omega arith);
      fit = (λ j u here. ⊎_elim
          (λ old. ⊎_elim
          (λ e. subst (Fits t n) e.1 (record { limits = (λ _. mine); most = omega arith; below = tt; rises = (λ _. tt) }))
          (λ e. r.fit j u e.1)
          (at_set s.views id j l u old))
          (λ new. subst (Fits t n) new (record { limits = (λ _. mine); most = omega arith; below = tt; rises = (λ _. tt) }))
          (at_snoc (set s.views id l) one u j here));
    }

-- a seat joins another
pub collects : (t : RoundLimits) (id : ℕ) (v : Drawn) (other : ℕ) (w : Drawn) → 0 < w.lanes → Joins (Kept t) id v other w (joined v w) spent
collects t id v other w some_lane s r at apart at' =
    let n : ℕ = get_or s.words 0 0 in
    let both : Drawn = joined v w in
    let there : get_elem? s.views other ≡ some w = sym (set_else s.views id other both apart) ∙ at' in
    let mine = r.fit id v at in
    let theirs = r.fit other w there in
    let is : w.limits ≡ t = theirs.limits some_lane in
    let longer = length-append v.stamps w.stamps in
    let same_count : stamp_count (set (set s.views id both) other spent) ≡ stamp_count s.views
    = (let a = total-set (λ u. length u.stamps) s.views id v both at in let b = total-set (λ u. length u.stamps) (set s.views id both) other w spent at' in
    omega arith) in
    record {
      one_word = r.one_word;
      small = r.small;
      lanes = (let a = total-set (λ u. u.lanes) s.views id v both at in let b = total-set (λ u. u.lanes) (set s.views id both) other w spent at' in let all =
          r.lanes in omega arith);
      next = r.next ∙ ap (λ (k : ℕ). t.first + k) (sym same_count);
      each_once = (λ x.
          let a = total-set (λ u. times x u.stamps) s.views id v both at in
          let b = total-set (λ u. times x u.stamps) (set s.views id both) other w spent at' in
          let split = times-append x v.stamps w.stamps in
          let before = r.each_once x in
          let counts : times x (range_with_len t.first (stamp_count (set (set s.views id both) other spent)))
          ≡ times x (range_with_len t.first (stamp_count s.views)) = ap (λ (k : ℕ). times x (range_with_len t.first k)) same_count in
          omega arith);
      fit = (λ j u here. ⊎_elim
          (λ e. subst (Fits t n) e.1 (record { limits = (λ h. absurd (omega arith)); most = omega arith; below = tt; rises = (λ _. tt) }))
          (λ old. ⊎_elim
          (λ e. subst (Fits t n) e.1 (record {
            limits = (λ _. is);
            most = (let a = mine.most in let b = theirs.most in let m = add-mul v.lanes w.lanes t.cap in omega arith);
            below = AllBelow-append n v.stamps w.stamps mine.below theirs.below;
            rises = (λ one.
                let most = mine.most in
                let none : v.lanes * t.cap ≡ 0 * t.cap = ap (λ (k : ℕ). k * t.cap) (let z : v.lanes ≡ 0 = omega arith in z) in
                Rises-after_none v.stamps w.stamps (omega arith) (theirs.rises (omega arith)));
          }))
          (λ e. r.fit j u e.1)
          (at_set s.views id j both u old.1))
          (at_set (set s.views id both) other j spent u here));
    }

-- the table satisfies its rule at the start
pub opens : (t : RoundLimits) → t.first + t.lanes * t.cap < 2 ^ 62 → Kept t (opening (t.first ∷ []) [] (begun t))
opens t small = record {
  one_word = refl;
  small = small;
  lanes = omega arith;
  next = omega arith;
  each_once = (λ x. refl);
  fit = (λ id v at. first_alone id v at);
}
  where
    first_alone : (id : ℕ) (v : Drawn) → get_elem? (begun t ∷ []) id ≡ some v → Fits t t.first v
    first_alone zero v at =
        subst (Fits t t.first) (some-injective (begun t) v at) (record { limits = (λ _. refl); most = omega arith; below = tt; rises = (λ _. tt) })
    first_alone (suc id) v at = absurd (some-ne-none v (sym at))
