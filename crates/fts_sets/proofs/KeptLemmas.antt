-- Those of some documents that pass, by one test after the other.
use Rattle.std.proofs.Common.{◌≡◌, ◌&&◌, All, ℕ, ◌+◌, ◌<◌, ◌≤◌, Bool, true, false, not, nat_lt, cond, List, [], ◌∷◌, ◌++◌, length, get_or, set, take, drop, refl, sym, ap, ap₂, ◌∙◌}
use Rattle.std.proofs.Common.{inl, inr, arith}
use Rattle.std.specs.List.{filter}
use Rattle.std.proofs.lemmas.Bool.{and_parts, cases_Bool, cases_lt, false≢true, le-ltb, lt-ltb}
use Rattle.std.proofs.lemmas.Grind.{get_or_default_zero}
use Rattle.std.proofs.lemmas.List.{drop-set-lt, length-append, length-set, length-take-le, take-append-drop, take-set-le, take_more}
use Rattle.std.proofs.lemmas.List.Elements.{filter-append}
use Rattle.std.proofs.lemmas.List.Folds.{list_all-append, list_all_more}
use Rattle.std.proofs.lemmas.List.Filters.{FiltersInPlace, FiltersInPlace-more_no, FiltersInPlace-more_set}
use mir.Val.{bool_byte}
use Rattle.std.specs.Bool.{beq}
use Rattle.fts_sets.specs.Kept.{IsKept}
use Rattle.fts_sets.specs.declared.leaf.Leaf.{Leaf}
use Rattle.fts_sets.specs.Leaves.{all_have, each_has, leaf_has, one_has, rest_has}
use Rattle.std.specs.Global.{Vec}
use Rattle.fts_sets.proofs.RowLemmas.{none_more}
use Rattle.fts_sets.proofs.SetLemmas.{filter-agree, filter-and, filter-every, filter-within}

pub byte_is : (b : Bool) → bool_byte b ≡ cond {A = ℕ} b 1 0
byte_is true = refl
byte_is false = refl

pub byte_few : (b : Bool) → bool_byte b ≤ 1
byte_few true = omega arith
byte_few false = omega arith

pub keeps_none : (p : ℕ → Bool) (xs : List ℕ) → FiltersInPlace p xs xs 0 0
keeps_none p xs = record { front = refl; rest = refl; behind = omega arith; within = omega arith; long = refl }

-- one more, which is written in any case
pub keeps_more : (p : ℕ → Bool) (xs ys : List ℕ) (k i x more : ℕ) (b : Bool) → FiltersInPlace p xs ys k i → i < length ys → x ≡ get_or ys i 0 →
    b ≡ p x → more ≡ k + bool_byte b → FiltersInPlace p xs (set ys k x) more (i + 1)
keeps_more p xs ys k i x more b h inside is test adds =
    let more_is : more ≡ k + cond (p x) 1 0 = adds ∙ ap (λ n. k + n) (byte_is b) ∙ ap (λ c. k + cond c 1 0) test in
    let read : x ≡ get_or ys i x = is ∙ sym (get_or_default_zero ys i x inside) in
    elim (cases_Bool (p x)) [
      | inl live ↦
          let one : more ≡ k + 1 = more_is ∙ ap (λ b. k + cond b 1 0) live in
          rw one (FiltersInPlace-more_set h inside live read)
      | inr dead ↦
          let none : more ≡ k = more_is ∙ ap (λ b. k + cond b 1 0) dead ∙ omega arith in
          let n = FiltersInPlace-more_no h inside dead read in
          rw none (record {
            front = take-set-le k ys k x (omega arith) ∙ n.front;
            rest = drop-set-lt (i + 1) ys k x (omega (arith, h.behind)) ∙ n.rest;
            behind = n.behind;
            within = n.within;
            long = length-set ys k x ∙ n.long;
          })
    ]

-- one test after another
pub kept_both : (p q r : ℕ → Bool) → ((d : ℕ) → r d ≡ (p d && q d)) → (end : ℕ) (old mid new : List ℕ) (k n : ℕ) → IsKept p end old mid k →
    IsKept q k mid new n → IsKept r end old new n
kept_both p q r both end old mid new k n h g =
    let all : filter q (take k mid) ≡ filter r (take end old) =
    ap (filter q) h.front ∙ filter-and q p (take end old) ∙ filter-agree (λ d. p d && q d) r (take end old) (λ d. sym (both d)) in
    record { front = g.front ∙ all; size = g.size ∙ ap length all; high = omega (arith, g.high, h.high) }

-- the first of some tests, and the next
pub all_first : (leaves : List Leaf) (k : ℕ) (d : ℕ) → all_have leaves d ≡ true → all_have (take k leaves) d ≡ true
all_first leaves k d all =
    let test : Leaf → Bool = λ l. leaf_has l d in
    (and_parts (all_have (take k leaves) d) (all_have (drop k leaves) d) (sym (list_all-append test (take k leaves) (drop k leaves))
    ∙ ap (λ ls. all_have ls d) (take-append-drop k leaves) ∙ all)).0

pub all_next : (leaves : List Leaf) (i : ℕ) (one : Leaf) → i < length leaves → one ≡ get_or leaves i one →
    (d : ℕ) → all_have (take (i + 1) leaves) d ≡ (all_have (take i leaves) d && leaf_has one d)
all_next leaves i one inside is d =
    list_all_more (λ (l : Leaf). leaf_has l d) leaves i one inside ∙ ap (λ (l : Leaf). all_have (take i leaves) d && leaf_has l d) (sym is)

beq_true : (b : Bool) → beq b true ≡ b
beq_true true = refl
beq_true false = refl

beq_false : (b : Bool) → beq b false ≡ not b
beq_false true = refl
beq_false false = refl

pub all_passing : (leaves : List Leaf) (i : ℕ) (one : Leaf) → i < length leaves → one ≡ get_or leaves i one →
    (d : ℕ) → all_have (take (i + 1) leaves) d ≡ (all_have (take i leaves) d && beq (leaf_has one d) true)
all_passing leaves i one inside is d =
    all_next leaves i one inside is d ∙ ap (λ b. all_have (take i leaves) d && b) (sym (beq_true (leaf_has one d)))

-- those that pass none of the first of some tests, and not the next
pub none_next : (leaves : List Leaf) (i : ℕ) (one : Leaf) → i < length leaves → one ≡ get_or leaves i one →
    (d : ℕ) → not (one_has (take (i + 1) leaves) d) ≡ (not (one_has (take i leaves) d) && beq (leaf_has one d) false)
none_next leaves i one inside is d =
    sym (ap (λ b. not (one_has (take i leaves) d) && b) (beq_false (leaf_has one d)) ∙ none_more (λ (l : Leaf). leaf_has l d) leaves i one inside is true)

pub kept_every : (end : ℕ) (docs : List ℕ) → end ≤ length docs → IsKept (λ d. true) end docs docs end
kept_every end docs room = record {
  front = sym (filter-every (take end docs));
  size = sym (ap length (filter-every (take end docs)) ∙ length-take-le end docs room);
  high = omega arith;
}

-- the last tests, where what passed the first is below a number
pub kept_low : (docs : ℕ) (any : List (Vec Leaf)) (none : List Leaf) (end : ℕ) (old new : List ℕ) (n : ℕ) → any ≡ [] →
    All (λ d. d < docs) (take end old) → IsKept (λ d. not (one_has none d)) end old new n → IsKept (rest_has docs any none) end old new n
kept_low docs any none end old new n empty low h =
    let same : filter (λ d. not (one_has none d)) (take end old) ≡ filter (rest_has docs any none) (take end old) =
    filter-within (λ d. not (one_has none d)) (rest_has docs any none) (take end old)
    (λ k d inside.
    let doc = get_or (take end old) k d in
    sym (ap₂ (λ b xs. (b && each_has xs doc) && not (one_has none doc)) (lt-ltb doc docs (low k d inside)) empty))
    in
    record { front = h.front ∙ same; size = h.size ∙ ap length same; high = h.high }

-- what passes all of some tests is below a number, if what passes one of them is
all_at : (leaves : List Leaf) (i : ℕ) (leaf : Leaf) (d : ℕ) → i < length leaves → leaf ≡ get_or leaves i leaf → all_have leaves d ≡ true → leaf_has leaf d ≡ true
all_at leaves i leaf d inside is all =
    (and_parts (all_have (take i leaves) d) (leaf_has leaf d) (sym (all_next leaves i leaf inside is d) ∙ all_first leaves (i + 1) d all)).1

pub below_by_one : (leaves : List Leaf) (i : ℕ) (leaf : Leaf) (count : ℕ) → i < length leaves → leaf ≡ get_or leaves i leaf →
    ((d : ℕ) → count ≤ d → leaf_has leaf d ≡ false) → (d : ℕ) → all_have leaves d ≡ (nat_lt d count && all_have leaves d)
below_by_one leaves i leaf count inside is gone d = elim (cases_lt d count) [
  | inl low ↦ sym (ap (λ b. b && all_have leaves d) (lt-ltb d count low))
  | inr past ↦ elim (cases_Bool (all_have leaves d)) [
    | inl all ↦ absurd (false≢true (sym (gone d past) ∙ all_at leaves i leaf d inside is all))
    | inr other ↦ other ∙ sym (ap (λ b. b && all_have leaves d) (le-ltb d count past))
  ]
]

-- one document more is counted
pub counted_more : (p : ℕ → Bool) (docs : List ℕ) (i x count more : ℕ) (b : Bool) → i < length docs → x ≡ get_or docs i x → b ≡ p x →
    count ≡ length (filter p (take i docs)) → more ≡ count + bool_byte b → more ≡ length (filter p (take (i + 1) docs))
counted_more p docs i x count more b inside is test counted adds =
    let whole : take (i + 1) docs ≡ take i docs ++ x ∷ [] = take_more docs i x inside ∙ ap (λ d. take i docs ++ d ∷ []) (sym is) in
    let one : length (filter p (x ∷ [])) ≡ bool_byte b = elim (cases_Bool (p x)) [
      | inl passes ↦ ap (λ c. length (cond c (x ∷ []) [])) passes ∙ sym (byte_is b ∙ ap (λ c. cond {A = ℕ} c 1 0) (test ∙ passes))
      | inr fails ↦ ap (λ c. length (cond c (x ∷ []) [])) fails ∙ sym (byte_is b ∙ ap (λ c. cond {A = ℕ} c 1 0) (test ∙ fails))
    ] in
    let split : filter p (take (i + 1) docs) ≡ filter p (take i docs) ++ filter p (x ∷ []) = ap (filter p) whole ∙ filter-append p (take i docs) (x ∷ []) in
    omega (arith, counted, adds, one, ap length split, length-append (filter p (take i docs)) (filter p (x ∷ [])))
