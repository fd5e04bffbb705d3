-- Which of the parts leads doesn't change what they have in common.
use Rattle.std.proofs.Common.{◌≡◌, ℕ, ◌+◌, None, ◌-◌, ◌^◌, ◌<◌, ◌≤◌, All, List, [], length, min, rules, sym, ap, ap₂, subst, ◌∙◌, arith}
use Rattle.std.proofs.lemmas.Bool.{eqb-true}
use Rattle.std.proofs.lemmas.List.{nil_from_length}
use Rattle.std.proofs.lemmas.Result.{IfOk-weaker}
use Rattle.std.specs.List.Sorted.{IsStrictlyIncreasing}
use Rattle.fts_postings.specs.Sets.{common}
use Rattle.fts_postings.specs.Bounds.{most_at}
use Rattle.fts_sets.proofs.SetLemmas.{filter-every}
use Rattle.fts_cursor.specs.TreeValues.{TreeValue, all_most, remains}
use Rattle.fts_cursor.proofs.LeadingLemmas.{length_zip}
use Rattle.fts_cursor.proofs.CostLemmas.{common-led}
use Rattle.fts_cursor.proofs.MostLemmas.{all_most-led}
use Rattle.fts_cursor.proofs.query_tree.all.Goals as goal

pub remove-lead-requires : goal.remove-lead-requires
remove-lead-requires c =
    let many = length_zip (λ (cost : ℕ) (part : TreeValue). min (2 ^ 64 - 1) (length part.remaining) ≤ cost) c.in_ok-costs.costs.items c.deref.result.now
    c.in_ok-costs.ensures.bounds in
    omega (arith, many, c.deref.ensures.len, ap length c.deref-2.ensures.value, c.place_of_least.ensures.inside)

pub returns-clause-remaining : goal.returns-clause-remaining
returns-clause-remaining c = IfOk-weaker c.and.result _ _ (λ t is first rest are.
    let many = length_zip (λ (cost : ℕ) (part : TreeValue). min (2 ^ 64 - 1) (length part.remaining) ≤ cost) c.in_ok-costs.costs.items c.deref.result.now
    c.in_ok-costs.ensures.bounds in
    let inside : c.place_of_least.result < length c.args.parts.items =
    omega (arith, many, ap length c.deref.ensures.value, ap length c.deref-2.ensures.value, c.place_of_least.ensures.inside) in
    let rise = subst (λ parts. All (λ part. IsStrictlyIncreasing part.remaining) parts) c.deref.ensures.value c.in_ok-costs.ensures.rise in
    let lead_is : c.in_ok-lead.lead.value ≡ c.remove-lead.result = search rules in
    is ∙ ap₂ (λ (s : TreeValue) (others : List TreeValue). common s.remaining (remains others)) (lead_is ∙ c.remove-lead.ensures.value)
    c.remove-lead.ensures.items
    ∙ common-led c.args.parts.items c.place_of_least.result c.remove-lead.result first rest rise inside are) c.and.ensures.remaining

pub returns-clause-most : goal.returns-clause-most
returns-clause-most c = IfOk-weaker c.and.result _ _ (λ t is.
    let many = length_zip (λ (cost : ℕ) (part : TreeValue). min (2 ^ 64 - 1) (length part.remaining) ≤ cost) c.in_ok-costs.costs.items c.deref.result.now
    c.in_ok-costs.ensures.bounds in
    let inside : c.place_of_least.result < length c.args.parts.items =
    omega (arith, many, ap length c.deref.ensures.value, ap length c.deref-2.ensures.value, c.place_of_least.ensures.inside) in
    let lead_is : c.in_ok-lead.lead.value ≡ c.remove-lead.result = search rules in
    is ∙ ap₂ (λ (s : TreeValue) (others : List TreeValue). most_at s.bound None + all_most others) (lead_is ∙ c.remove-lead.ensures.value)
    c.remove-lead.ensures.items
    ∙ all_most-led c.args.parts.items c.place_of_least.result c.remove-lead.result inside) c.and.ensures.most

pub returns-then-is_empty-clause-remaining : goal.returns-then-is_empty-clause-remaining
returns-then-is_empty-clause-remaining c = λ first rest are.
    let many = length_zip (λ (cost : ℕ) (part : TreeValue). min (2 ^ 64 - 1) (length part.remaining) ≤ cost) c.in_ok-costs.costs.items c.deref.result.now
    c.in_ok-costs.ensures.bounds in
    let inside : c.place_of_least.result < length c.args.parts.items =
    omega (arith, many, ap length c.deref.ensures.value, ap length c.deref-2.ensures.value, c.place_of_least.ensures.inside) in
    let rise = subst (λ parts. All (λ part. IsStrictlyIncreasing part.remaining) parts) c.deref.ensures.value c.in_ok-costs.ensures.rise in
    let none : c.remove-lead.new.self.items ≡ [] =
    nil_from_length c.remove-lead.new.self.items (omega (arith, eqb-true c.remove-lead.new.self.len 0 (sym c.is_empty.ensures ∙ c.if-is_empty.true))) in
    sym (filter-every c.remove-lead.result.remaining)
    ∙ ap₂ (λ (s : TreeValue) (others : List TreeValue). common s.remaining (remains others)) c.remove-lead.ensures.value
    (sym none ∙ c.remove-lead.ensures.items)
    ∙ common-led c.args.parts.items c.place_of_least.result c.remove-lead.result first rest rise inside are

pub returns-then-is_empty-clause-most : goal.returns-then-is_empty-clause-most
returns-then-is_empty-clause-most c =
    let many = length_zip (λ (cost : ℕ) (part : TreeValue). min (2 ^ 64 - 1) (length part.remaining) ≤ cost) c.in_ok-costs.costs.items c.deref.result.now
    c.in_ok-costs.ensures.bounds in
    let inside : c.place_of_least.result < length c.args.parts.items =
    omega (arith, many, ap length c.deref.ensures.value, ap length c.deref-2.ensures.value, c.place_of_least.ensures.inside) in
    let none : c.remove-lead.new.self.items ≡ [] =
    nil_from_length c.remove-lead.new.self.items (omega (arith, eqb-true c.remove-lead.new.self.len 0 (sym c.is_empty.ensures ∙ c.if-is_empty.true))) in
    omega (
      arith,
      ap (λ (s : TreeValue). most_at s.bound None) c.remove-lead.ensures.value,
      ap all_most (sym none ∙ c.remove-lead.ensures.items),
      all_most-led c.args.parts.items c.place_of_least.result c.remove-lead.result inside,
    )
