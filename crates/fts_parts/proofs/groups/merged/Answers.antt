use Rattle.std.proofs.Common.{◌≡◌, ◌∙◌, ◌++◌, ◌∷◌, [], ◌+◌, ℕ, drop, fold, sym, ap, inl, inr, arith}
use Rattle.std.specs.declared.cmp.Ordering.{Ordering}
use Rattle.std.specs.declared.cmp.Ordering.TheVariants.{Less, Equal, Greater}
use Rattle.fts_model.specs.declared.value.GroupValue.{GroupValue}
use Rattle.fts_model.specs.Answers.{group_cmp}
use Rattle.fts_parts.specs.Internals.Joins.{add_group, counts_added}
use Rattle.fts_parts.specs.Internals.Lent.{value_of}
use Rattle.fts_parts.proofs.GroupsLemmas.{merged-less, merged-equal, merged-greater, merged-end}
use Rattle.fts_parts.proofs.groups.merged.Goals as goal
use Rattle.fts_parts.proofs.groups.merged.Goals.{then-loop-i-test+else-j-back, else-loop-i-test}

-- a comparison of read values is one of the groups' own
compared : (a b : GroupValue × ℕ) (v w : GroupValue) (o found : Ordering) → v ≡ b.0 → w ≡ a.0 → found ≡ group_cmp v w → found ≡ o → group_cmp b.0 a.0 ≡ o
compared a b v w o found first second is same = ap (λ x. group_cmp x a.0) (sym first) ∙ ap (group_cmp v) (sym second) ∙ sym is ∙ same

-- a group of its own value and count is itself
again : (g new : GroupValue × ℕ) (v : GroupValue) (n : ℕ) → new ≡ (v, n) → v ≡ g.0 → n ≡ g.1 → new ≡ g
again g new v n is first second = is ∙ ap (λ (x : GroupValue). (x, n)) first ∙ ap (λ (m : ℕ). (g.0, m)) second

pub loop-i-preserved-in-Less : goal.loop-i-preserved-in-Less
loop-i-preserved-in-Less c = record {
  front_in = c.loop-i.invariant.front_in;
  back_in = omega arith;
  so_far = λ rising.
      let front = c.args.front.now in
      let back = c.args.back.now in
      let a : GroupValue × ℕ = c.index-front-i.result in
      let b : GroupValue × ℕ = c.index-back-j.result in
      let rest = fold add_group (drop c.loop-i.i front) (drop (c.loop-i.j + 1) back) in
      let less = compared a b (value_of c.value.result) (value_of c.value-in-loop-i.result) Less c.compare.result c.value.ensures c.value-in-loop-i.ensures
      c.compare.ensures c.in-Less.is in
      ap (λ xs. xs ++ rest) (c.in_ok-push-in-Less.ensures.items
      ∙ ap (λ g. c.loop-i.list.items ++ g ∷ []) (again b c.new.result (value_of c.value-in-Less.result) c.count.result c.new.ensures c.value-in-Less.ensures
      c.count.ensures))
      ∙ merged-less front back c.loop-i.list.items c.loop-i.i c.loop-i.j a b (fold add_group front back) c.loop-i-test.true c.if-j-back.true c.index-front-i.is
      c.index-back-j.is less rising (c.loop-i.invariant.so_far rising);
}

pub loop-i-preserved-in-Equal : goal.loop-i-preserved-in-Equal
loop-i-preserved-in-Equal c = record {
  front_in = omega arith;
  back_in = omega arith;
  so_far = λ rising.
      let front = c.args.front.now in
      let back = c.args.back.now in
      let a : GroupValue × ℕ = c.index-front-i.result in
      let b : GroupValue × ℕ = c.index-back-j.result in
      let rest = fold add_group (drop (c.loop-i.i + 1) front) (drop (c.loop-i.j + 1) back) in
      let equal = compared a b (value_of c.value.result) (value_of c.value-in-loop-i.result) Equal c.compare.result c.value.ensures c.value-in-loop-i.ensures
      c.compare.ensures c.in-Equal.is in
      let counts : c.saturating_add-in-Equal.result ≡ counts_added a.1 b.1 =
      c.saturating_add-in-Equal.ensures ∙ ap (λ n. counts_added n c.count-in-Equal-2.result) c.count-in-Equal.ensures
      ∙ ap (counts_added a.1) c.count-in-Equal-2.ensures in
      ap (λ xs. xs ++ rest) (c.in_ok-push-in-Equal.ensures.items
      ∙ ap (λ g. c.loop-i.list.items ++ g ∷ [])
      (again (a.0, counts_added a.1 b.1) c.new-in-Equal.result (value_of c.value-in-Equal.result) c.saturating_add-in-Equal.result c.new-in-Equal.ensures
      c.value-in-Equal.ensures counts))
      ∙ merged-equal front back c.loop-i.list.items c.loop-i.i c.loop-i.j a b (fold add_group front back) c.loop-i-test.true c.if-j-back.true c.index-front-i.is
      c.index-back-j.is equal rising (c.loop-i.invariant.so_far rising);
}

pub loop-i-preserved : goal.loop-i-preserved
loop-i-preserved c = record {
  front_in = omega arith;
  back_in = c.loop-i.invariant.back_in;
  so_far = λ rising.
      let front = c.args.front.now in
      let back = c.args.back.now in
      let a : GroupValue × ℕ = c.index-front-i.result in
      let b : GroupValue × ℕ = c.index-back-j.result in
      let rest = fold add_group (drop (c.loop-i.i + 1) front) (drop c.loop-i.j back) in
      let greater = compared a b (value_of c.value.result) (value_of c.value-in-loop-i.result) Greater c.compare.result c.value.ensures
      c.value-in-loop-i.ensures c.compare.ensures c.in-Greater.is in
      ap (λ xs. xs ++ rest) (c.in_ok-push-in-Greater.ensures.items
      ∙ ap (λ g. c.loop-i.list.items ++ g ∷ []) (again a c.new-in-Greater.result (value_of c.value-in-Greater.result) c.count-in-Greater.result
      c.new-in-Greater.ensures c.value-in-Greater.ensures c.count-in-Greater.ensures))
      ∙ merged-greater front back c.loop-i.list.items c.loop-i.i c.loop-i.j a b (fold add_group front back) c.loop-i-test.true c.if-j-back.true
      c.index-front-i.is c.index-back-j.is greater rising (c.loop-i.invariant.so_far rising);
}

pub returns : goal.returns
returns c = λ rising.
    let front = c.args.front.now in
    let back = c.args.back.now in
    let list = c.loop-i.list.items in
    c.in_ok-lend_rest-2.ensures
    ∙ ap (λ xs. xs ++ drop c.loop-i.j back) c.in_ok-lend_rest.ensures
    ∙ merged-end front back list c.loop-i.i c.loop-i.j (fold add_group front back)
    (elim c.loop-i-test.branch [ then-loop-i-test+else-j-back w ↦ inr w.if-j-back.false | else-loop-i-test w ↦ inl w.loop-i-test.false ]) rising
    (c.loop-i.invariant.so_far rising)
