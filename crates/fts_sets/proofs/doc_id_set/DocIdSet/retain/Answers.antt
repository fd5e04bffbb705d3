-- The first tests of the set, and the rest of them.
use Rattle.std.proofs.Common.{◌≡◌, [], All, List, ℕ, filter, not, take, true, sym, subst, ap₂, ◌∙◌, arith}
use Rattle.std.proofs.lemmas.Bool.{eqb-true}
use Rattle.std.proofs.lemmas.List.{nil_from_length}
use Rattle.std.proofs.lemmas.List.Elements.{filter_passes}
use Rattle.fts_postings.specs.Sets.{has}
use Rattle.fts_sets.specs.Kept.{IsKept}
use Rattle.fts_sets.specs.Leaves.{all_have, one_has, rest_has}
use Rattle.fts_sets.proofs.KeptLemmas.{kept_both, kept_low}
use Rattle.fts_sets.proofs.ToldLemmas.{now_parts}
use Rattle.fts_sets.proofs.doc_id_set.DocIdSet.retain.Goals as goal

-- what passed the first tests passes each of them
pub are_first-requires : goal.are_first-requires
are_first-requires c =
    let P : List ℕ → Type 0 = All (λ d. all_have c.deref-then-is_empty.result.now d ≡ true) in
    subst P (sym c.keep_each-passed.ensures.front)
    (subst (λ ls. All (λ d. all_have c.deref-then-is_empty.result.now d ≡ true) (filter (all_have ls) (take c.args.end c.args.docs.now)))
    (c.deref-then-is_empty.ensures.value ∙ sym c.deref.ensures.value) (filter_passes (all_have c.deref-then-is_empty.result.now) (take c.args.end c.args.docs.now)))

pub returns-then-are_first : goal.returns-then-are_first
returns-then-are_first c =
    let s = c.self.inside in
    let kept = c.keep_each-passed in
    let first = subst (λ ls. IsKept (all_have ls) c.args.end c.args.docs.now kept.new.docs kept.result) c.deref.ensures.value kept.ensures in
    let any : s.any.items ≡ [] = nil_from_length s.any.items (omega (arith, eqb-true s.any.len 0 (sym c.is_empty.ensures ∙ c.if-is_empty.true))) in
    let last = subst (λ ls. IsKept (λ d. not (one_has ls d)) kept.result kept.new.docs c.drop_each.new.docs c.drop_each.result)
    c.deref-then-are_first.ensures.value c.drop_each.ensures in
    let rest = kept_low s.docs s.any.items s.none.items kept.result kept.new.docs c.drop_each.new.docs c.drop_each.result any
    (c.are_first.ensures c.if-are_first.true) last in
    kept_both (all_have s.all.items) (rest_has s.docs s.any.items s.none.items) (has c.args.self.now)
    (now_parts s.docs s.all.items s.any.items s.none.items c.args.self.now c.self.view_is) c.args.end c.args.docs.now kept.new.docs c.drop_each.new.docs
    kept.result c.drop_each.result first rest

pub returns : goal.returns
returns c =
    let s = c.self.inside in
    let kept = c.keep_each-passed in
    let first = subst (λ ls. IsKept (all_have ls) c.args.end c.args.docs.now kept.new.docs kept.result) c.deref.ensures.value kept.ensures in
    let rest = subst (λ t. IsKept t kept.result kept.new.docs c.keep_rest.new.docs c.keep_rest.result)
    (ap₂ (λ any none. rest_has s.docs any none) c.deref-2.ensures.value c.deref-3.ensures.value) c.keep_rest.ensures in
    kept_both (all_have s.all.items) (rest_has s.docs s.any.items s.none.items) (has c.args.self.now)
    (now_parts s.docs s.all.items s.any.items s.none.items c.args.self.now c.self.view_is) c.args.end c.args.docs.now kept.new.docs c.keep_rest.new.docs
    kept.result c.keep_rest.result first rest
