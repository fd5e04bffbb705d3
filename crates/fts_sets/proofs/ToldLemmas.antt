-- The documents of a set, and one test more.
use Rattle.std.proofs.Common.{◌≡◌, ◌&&◌, ◌||◌, ℕ, ◌≤◌, Bool, true, false, not, min, nat_lt, List, [], ◌∷◌, ◌++◌, length}
use Rattle.std.proofs.Common.{get_or, refl, sym, ap, ap₂, ◌∙◌, inl, inr, arith}
use Rattle.std.specs.Global.{Vec}
use Rattle.std.specs.List.{filter, range_with_len}
use Rattle.std.proofs.Math.Bool.{and-false, and-true, and_assoc, or-false}
use Rattle.std.proofs.lemmas.Bool.{cases_lt, le-ltb, lt-ltb}
use Rattle.std.proofs.lemmas.List.Folds.{list_all-append, list_any-append}
use Rattle.fts_pack.specs.Documents.{Rises}
use Rattle.fts_postings.specs.Sets.{has}
use Rattle.fts_postings.specs.Windows.{passing}
use Rattle.fts_postings.proofs.PassingLemmas.{Rises-passing}
use Rattle.fts_sets.specs.declared.leaf.Leaf.{Leaf}
use Rattle.fts_sets.specs.Leaves.{all_have, each_has, is_told, leaf_has, one_has, rest_has}
use Rattle.fts_sets.proofs.RowLemmas.{not_or}
use Rattle.fts_sets.proofs.SetLemmas.{every-passes, has-passing, passing-kept}

module _ (docs : ℕ) (all : List Leaf) (any : List (Vec Leaf)) (none : List Leaf) where
  pub told-past : (d : ℕ) → docs ≤ d → is_told docs all any none d ≡ false
  told-past d past = ap (λ b. ((b && all_have all d) && each_has any d) && not (one_has none d)) (le-ltb d docs past)

  -- what the set has is told
  pub told_at : (d : ℕ) → has (passing (is_told docs all any none) 0 docs) d ≡ is_told docs all any none d
  told_at d = has-passing (is_told docs all any none) docs d (told-past d)

  pub told-rises : Rises 0 (passing (is_told docs all any none) 0 docs)
  told-rises = Rises-passing (is_told docs all any none) 0 docs

  first_and_rest : (below first some others : Bool) → (((below && first) && some) && others) ≡ (first && ((below && some) && others))
  first_and_rest true first some others = and_assoc first some others
  first_and_rest false true some others = refl
  first_and_rest false false some others = refl

  -- the first tests, and the rest of them
  module _ (now : List ℕ) (is : passing (is_told docs all any none) 0 docs ≡ now) where
    pub now_parts : (d : ℕ) → has now d ≡ (all_have all d && rest_has docs any none d)
    now_parts d = ap (λ xs. has xs d) (sym is) ∙ told_at d ∙ first_and_rest (nat_lt d docs) (all_have all d) (each_has any d) (not (one_has none d))

    pub now_sufficed : (first : List Leaf) (some : List (Vec Leaf)) (others : List Leaf) → first ≡ all → some ≡ any → others ≡ none →
        ((d : ℕ) → is_told docs first some others d ≡ all_have first d) → (d : ℕ) → has now d ≡ all_have all d
    now_sufficed first some others first_is some_is others_is suffice d =
        ap (λ xs. has xs d) (sym is) ∙ told_at d
        ∙ sym (ap (λ x. is_told docs x some others d) first_is ∙ ap (λ x. is_told docs all x others d) some_is ∙ ap (λ x. is_told docs all any x d) others_is)
        ∙ suffice d ∙ ap (λ x. all_have x d) first_is

  with_one : (a b c n s : Bool) → (((a && (b && (s && true))) && c) && n) ≡ ((((a && b) && c) && n) && s)
  with_one false b c n s = refl
  with_one true false c n s = refl
  with_one true true false n s = ap (λ x. (x && false) && n) (and-true s) ∙ ap (λ x. x && n) (and-false s)
  with_one true true true false s = and-false ((s && true) && true) ∙ refl
  with_one true true true true s = and-true ((s && true) && true) ∙ and-true (s && true) ∙ and-true s

  -- a test more
  pub told-with : (l : Leaf) → passing (is_told docs (all ++ l ∷ []) any none) 0 docs ≡ filter (leaf_has l) (passing (is_told docs all any none) 0 docs)
  told-with l = passing-kept (leaf_has l) (is_told docs all any none) (is_told docs (all ++ l ∷ []) any none) docs docs (omega arith)
      (λ d. ap (λ y. ((nat_lt d docs && y) && each_has any d) && not (one_has none d)) (list_all-append (λ (x : Leaf). leaf_has x d) all (l ∷ []))
      ∙ with_one (nat_lt d docs) (all_have all d) (each_has any d) (not (one_has none d)) (leaf_has l d))
      (λ d past. ap (λ b. ((b && all_have (all ++ l ∷ []) d) && each_has any d) && not (one_has none d)) (le-ltb d docs past))

  -- a test more, before the others
  one_first : (a b c n s : Bool) → (((a && (s && b)) && c) && n) ≡ ((((a && b) && c) && n) && s)
  one_first false b c n s = refl
  one_first true b c n true = sym (and-true ((b && c) && n))
  one_first true b c n false = sym (and-false ((b && c) && n))

  pub told-first : (l : Leaf) → passing (is_told docs (l ∷ all) any none) 0 docs ≡ filter (leaf_has l) (passing (is_told docs all any none) 0 docs)
  told-first l = passing-kept (leaf_has l) (is_told docs all any none) (is_told docs (l ∷ all) any none) docs docs (omega arith)
      (λ d. one_first (nat_lt d docs) (all_have all d) (each_has any d) (not (one_has none d)) (leaf_has l d))
      (λ d past. ap (λ b. ((b && all_have (l ∷ all) d) && each_has any d) && not (one_has none d)) (le-ltb d docs past))

  below_one : (a b c n s : Bool) → ((((a && s) && b) && c) && n) ≡ ((((a && b) && c) && n) && s)
  below_one false b c n s = refl
  below_one true b c n true = sym (and-true ((b && c) && n))
  below_one true b c n false = sym (and-false ((b && c) && n))

  lesser : (d m : ℕ) → nat_lt d (min docs m) ≡ (nat_lt d docs && nat_lt d m)
  lesser d m = elim (cases_lt d docs) [
    | inl low ↦ elim (cases_lt d m) [
      | inl down ↦ lt-ltb d (min docs m) (omega (arith, low, down)) ∙ sym (ap₂ (λ a b. a && b) (lt-ltb d docs low) (lt-ltb d m down))
      | inr up ↦ le-ltb d (min docs m) (omega (arith, up)) ∙ sym (ap₂ (λ a b. a && b) (lt-ltb d docs low) (le-ltb d m up))
    ]
    | inr high ↦ le-ltb d (min docs m) (omega (arith, high)) ∙ sym (ap (λ a. a && nat_lt d m) (le-ltb d docs high))
  ]

  -- fewer documents
  pub told-below : (m : ℕ) → passing (is_told (min docs m) all any none) 0 (min docs m)
      ≡ filter (λ d. nat_lt d m) (passing (is_told docs all any none) 0 docs)
  told-below m = passing-kept (λ d. nat_lt d m) (is_told docs all any none) (is_told (min docs m) all any none) docs (min docs m) (omega arith)
      (λ d. ap (λ b. ((b && all_have all d) && each_has any d) && not (one_has none d)) (lesser d m)
      ∙ below_one (nat_lt d docs) (all_have all d) (each_has any d) (not (one_has none d)) (nat_lt d m))
      (λ d past. ap (λ b. ((b && all_have all d) && each_has any d) && not (one_has none d)) (le-ltb d (min docs m) past))

  any_one : (a b n s : Bool) → ((a && (b && (s && true))) && n) ≡ (((a && b) && n) && s)
  any_one false b n s = refl
  any_one true false n s = refl
  any_one true true true s = and-true (s && true) ∙ and-true s
  any_one true true false s = and-false (s && true)

  -- a clause more, of which one test is passed
  pub told-any : (c : Vec Leaf) → passing (is_told docs all (any ++ c ∷ []) none) 0 docs ≡ filter (one_has c.items) (passing (is_told docs all any none) 0 docs)
  told-any c = passing-kept (one_has c.items) (is_told docs all any none) (is_told docs all (any ++ c ∷ []) none) docs docs (omega arith)
      (λ d. ap (λ y. ((nat_lt d docs && all_have all d) && y) && not (one_has none d)) (list_all-append (λ (x : Vec Leaf). one_has x.items d) any (c ∷ []))
      ∙ any_one (nat_lt d docs && all_have all d) (each_has any d) (not (one_has none d)) (one_has c.items d))
      (λ d past. ap (λ b. ((b && all_have all d) && each_has (any ++ c ∷ []) d) && not (one_has none d)) (le-ltb d docs past))

  without_one : (a n s : Bool) → (a && not (n || (s || false))) ≡ ((a && not n) && not s)
  without_one false n s = refl
  without_one true true s = refl
  without_one true false s = ap not (or-false s)

  -- a test more that is failed
  pub told-without : (l : Leaf) → passing (is_told docs all any (none ++ l ∷ [])) 0 docs
      ≡ filter (λ d. not (leaf_has l d)) (passing (is_told docs all any none) 0 docs)
  told-without l = passing-kept (λ d. not (leaf_has l d)) (is_told docs all any none) (is_told docs all any (none ++ l ∷ [])) docs docs (omega arith)
      (λ d. ap (λ n. ((nat_lt d docs && all_have all d) && each_has any d) && not n) (list_any-append (λ (x : Leaf). leaf_has x d) none (l ∷ []))
      ∙ without_one ((nat_lt d docs && all_have all d) && each_has any d) (one_has none d) (leaf_has l d))
      (λ d past. ap (λ b. ((b && all_have all d) && each_has any d) && not (one_has (none ++ l ∷ []) d)) (le-ltb d docs past))

  both_pass : (a e b f c g n h : Bool) → ((((a && e) && (b && f)) && (c && g)) && (n && h)) ≡ ((((a && b) && c) && n) && (((e && f) && g) && h))
  both_pass false e b f c g n h = refl
  both_pass true false b f c g n h = sym (and-false ((b && c) && n))
  both_pass true true false f c g n h = refl
  both_pass true true true false c g n h = sym (and-false (c && n))
  both_pass true true true true false g n h = refl
  both_pass true true true true true false n h = sym (and-false n)
  both_pass true true true true true true n h = refl

  -- the tests of another set too
  pub told-both : (m : ℕ) (alls : List Leaf) (anys : List (Vec Leaf)) (nones : List Leaf) →
      passing (is_told (min docs m) (all ++ alls) (any ++ anys) (none ++ nones)) 0 (min docs m)
      ≡ filter (has (passing (is_told m alls anys nones) 0 m)) (passing (is_told docs all any none) 0 docs)
  told-both m alls anys nones =
      let test : ℕ → Bool = is_told (min docs m) (all ++ alls) (any ++ anys) (none ++ nones) in
      passing-kept (has (passing (is_told m alls anys nones) 0 m)) (is_told docs all any none) test docs (min docs m) (omega arith)
      (λ d. ap (λ b. ((b && all_have (all ++ alls) d) && each_has (any ++ anys) d) && not (one_has (none ++ nones) d)) (lesser d m)
      ∙ ap (λ b. (((nat_lt d docs && nat_lt d m) && b) && each_has (any ++ anys) d) && not (one_has (none ++ nones) d))
      (list_all-append (λ (x : Leaf). leaf_has x d) all alls)
      ∙ ap (λ b. (((nat_lt d docs && nat_lt d m) && (all_have all d && all_have alls d)) && b) && not (one_has (none ++ nones) d))
      (list_all-append (λ (x : Vec Leaf). one_has x.items d) any anys)
      ∙ ap (λ b. (((nat_lt d docs && nat_lt d m) && (all_have all d && all_have alls d)) && (each_has any d && each_has anys d)) && b)
      (ap not (list_any-append (λ (x : Leaf). leaf_has x d) none nones) ∙ sym (not_or (one_has none d) (one_has nones d)))
      ∙ both_pass (nat_lt d docs) (nat_lt d m) (all_have all d) (all_have alls d) (each_has any d) (each_has anys d) (not (one_has none d)) (not (one_has nones d))
      ∙ ap (λ b. is_told docs all any none d && b) (sym (has-passing (is_told m alls anys nones) m d
      (λ past. ap (λ b. ((b && all_have alls d) && each_has anys d) && not (one_has nones d)) (le-ltb d m past)))))
      (λ d past. ap (λ b. ((b && all_have (all ++ alls) d) && each_has (any ++ anys) d) && not (one_has (none ++ nones) d)) (le-ltb d (min docs m) past))

  -- no test
  pub told-every : all ≡ [] → any ≡ [] → none ≡ [] → passing (is_told docs all any none) 0 docs ≡ range_with_len 0 docs
  told-every a_is y_is n_is =
      ap (λ xs. passing (is_told docs xs any none) 0 docs) a_is ∙ ap (λ xs. passing (is_told docs [] xs none) 0 docs) y_is
      ∙ ap (λ xs. passing (is_told docs [] [] xs) 0 docs) n_is
      ∙ every-passes (is_told docs [] [] []) 0 docs (λ d low. ap (λ b. ((b && true) && true) && true) (lt-ltb d docs (omega (arith, low))))

-- one test alone
pub one_alone : (leaves : List Leaf) (l : Leaf) (d : ℕ) → length leaves ≡ 1 → l ≡ get_or leaves 0 l → leaf_has l d ≡ one_has leaves d
one_alone [] l d one is = absurd (omega (arith, one))
one_alone (x ∷ []) l d one is = ap (λ (y : Leaf). leaf_has y d) is ∙ sym (or-false (leaf_has x d))
one_alone (x ∷ (y ∷ ys)) l d one is = absurd (omega (arith, one))
