use Rattle.std.proofs.Common.{◌+◌, [], ◌++◌, ℕ, List, take, drop, get_or, subst, sym, ap, ◌∙◌, arith}
use Rattle.std.specs.List.Sorted.{IsNonDecreasingBy, IsStrictlyIncreasing}
use Rattle.std.proofs.lemmas.List.{take_more, take_all, drop_more, drop_all, take-append-drop}
use Rattle.std.proofs.lemmas.List.Sorted.{IsNonDecreasingBy-drop}
use Rattle.fts_segment.proofs.NumberLemmas.{AreGrouped, AreGrouped-none, AreGrouped-within, AreGrouped-ended, AreGroups-all, ended_docs}
use Rattle.fts_segment.proofs.number_index.grouped.Goals.{then-not-has_number+in_ok-push-2+in_ok-push-3, else-not-has_number}
use Rattle.fts_segment.proofs.number_index.grouped.Goals as goal

pub loop-index-init : goal.loop-index-init
loop-index-init c = AreGrouped-none c.args.pairs.now c.new-numbers.result.items c.new-lists.result c.new-docs.result.items c.new-numbers.ensures.items c.new-lists.ensures
    c.new-docs.ensures.items

pub push-requires-then-not-has_number-2 : goal.push-requires-then-not-has_number-2
push-requires-then-not-has_number-2 c =
    let all = c.args.pairs.now in
    let i = c.loop-index.index in
    let p = get_or all i (0, 0) in
    let split = drop_more all i (0, 0) c.loop-index-test.true in
    let P : List (ℕ × ℕ) → Type 0 = λ rest. AreGrouped all (take i all) rest c.loop-index.numbers.items c.loop-index.lists c.loop-index.docs.items in
    let Q : List (ℕ × ℕ) → Type 0 = IsNonDecreasingBy (λ (p : ℕ × ℕ). p.0) in
    let R : List ℕ → Type 0 = IsStrictlyIncreasing in
    subst R (sym (c.deref.ensures.value ∙ c.in_ok-push.ensures.items ∙ ended_docs all (take i all) (drop (i + 1) all) p
    (ap (λ rest. take i all ++ rest) (sym split) ∙ take-append-drop i all)
    (subst Q split (IsNonDecreasingBy-drop (λ (p : ℕ × ℕ). p.0) i all c.requires.rise)) (sym c.if-not-has_number.ensures) (subst P split c.loop-index.invariant))) (c.requires.docs p.0)

pub loop-index-preserved : goal.loop-index-preserved
loop-index-preserved c =
    let all = c.args.pairs.now in
    let i = c.loop-index.index in
    let p = get_or all i (0, 0) in
    let split = drop_more all i (0, 0) c.loop-index-test.true in
    let P : List (ℕ × ℕ) → Type 0 = λ rest. AreGrouped all (take i all) rest c.loop-index.numbers.items c.loop-index.lists c.loop-index.docs.items in
    let Q : List (ℕ × ℕ) → Type 0 = IsNonDecreasingBy (λ (p : ℕ × ℕ). p.0) in
    elim c.if-not-has_number.branch [
      | then-not-has_number+in_ok-push-2+in_ok-push-3 w ↦
          rw w.numbers-is (rw w.lists-is (rw w.docs-is (rw w.in_ok-push-2.ensures.items (rw w.in_ok-push-3.ensures.ok (rw w.deref.ensures.value
          (rw c.in_ok-push.ensures.items (rw w.clear.ensures.items (rw (take_more all i (0, 0) c.loop-index-test.true)
          (AreGrouped-ended all (take i all) (drop (i + 1) all) p (ap (λ rest. take i all ++ rest) (sym split) ∙ take-append-drop i all)
          (subst Q split (IsNonDecreasingBy-drop (λ (p : ℕ × ℕ). p.0) i all c.requires.rise)) (sym w.if-not-has_number.ensures) (subst P split c.loop-index.invariant))))))))))
      | else-not-has_number w ↦
          rw w.numbers-is (rw w.lists-is (rw w.docs-is (rw c.in_ok-push.ensures.items (rw (take_more all i (0, 0) c.loop-index-test.true)
          (AreGrouped-within all (take i all) (drop (i + 1) all) p (sym w.if-not-has_number.ensures) (subst P split c.loop-index.invariant))))))
    ]

pub returns : goal.returns
returns c =
    let all = c.args.pairs.now in
    let i = c.loop-index.index in
    let P : List (ℕ × ℕ) → Type 0 = λ rest. AreGrouped all (take i all) rest c.loop-index.numbers.items c.loop-index.lists c.loop-index.docs.items in
    let Q : List (ℕ × ℕ) → Type 0 = λ done. AreGrouped all done [] c.loop-index.numbers.items c.loop-index.lists c.loop-index.docs.items in
    rw c.shrink_to_fit.ensures.items (rw c.shrink_to_fit-2.ensures
    (AreGroups-all all (subst Q (take_all i all (omega arith)) (subst P (drop_all i all (omega arith)) c.loop-index.invariant))))
