use Rattle.std.proofs.Common.{◌<◌, ◌+◌, ℕ, All, None, take, ap, subst, sym, ◌∙◌, arith}
use Rattle.std.specs.List.Sorted.{IsStrictlyIncreasing}
use Rattle.std.specs.Prelude.{List}
use Rattle.std.proofs.lemmas.List.{take_more, take_all, length-take-le}
use Rattle.std.proofs.lemmas.List.Elements.{All-push, All-weaker}
use Rattle.std.proofs.lemmas.List.Quantifiers.{all_pairs_push}
use Rattle.std.proofs.lemmas.List.Sorted.{All-permutation}
use Rattle.fts_segment.specs.Segments.{numbers_where}
use Rattle.fts_segment.specs.Numbers.{is_number}
use Rattle.fts_segment.proofs.HoldingLemmas.{numbers_rise}
use Rattle.fts_segment.proofs.NumberLemmas.{numbered-some, numbered-none, numbers_up, ranks_up, sorted_docs}
use Rattle.fts_segment.proofs.number_index.sorted_pairs.Goals.{in-Some+in_ok-push, in_default}
use Rattle.fts_segment.proofs.number_index.sorted_pairs.Goals as goal

pub loop-doc-preserved : goal.loop-doc-preserved
loop-doc-preserved c =
    let vs = c.args.values.now in
    let i = c.loop-doc.doc in
    let old = c.loop-doc.pairs.items in
    let R : ℕ × ℕ → ℕ × ℕ → Type 0 = λ a b. a.1 < b.1 in
    let low : All (λ (p : ℕ × ℕ). p.1 < i + 1) old =
    All-weaker (λ (p : ℕ × ℕ). p.1 < i) (λ (p : ℕ × ℕ). p.1 < i + 1) (λ p less. omega (arith, less)) old c.loop-doc.invariant.2 in
    elim c.match-value.branch [
      | in-Some+in_ok-push w ↦
          let p : ℕ × ℕ = (w.in-Some.number, i) in (
            λ x. rw w.pairs-is (rw w.in_ok-push.ensures.items (rw (take_more vs i None c.loop-doc-test.true) (rw w.in-Some.is
                (numbered-some x old (take i vs) w.in-Some.number i (sym (length-take-le i vs (omega arith))) (c.loop-doc.invariant.0 x))))),
            rw w.pairs-is (rw w.in_ok-push.ensures.items (all_pairs_push R old p c.loop-doc.invariant.1 c.loop-doc.invariant.2)),
            rw w.pairs-is (rw w.in_ok-push.ensures.items (All-push (λ (p : ℕ × ℕ). p.1 < i + 1) old p low (omega arith))),
          )
      | in_default w ↦ (
        λ x. rw w.pairs-is (rw (take_more vs i None c.loop-doc-test.true) (rw w.in_default.is (c.loop-doc.invariant.0 x ∙ numbered-none x (take i vs)))),
        rw w.pairs-is c.loop-doc.invariant.1,
        rw w.pairs-is low,
      )
    ]

pub returns-clause-rise : goal.returns-clause-rise
returns-clause-rise c =
    let old = c.loop-doc.pairs.items in
    let new = c.sort_unstable.new.self.items in
    let P : ℕ × ℕ → Type 0 = λ p. p.1 < 4294967296 in
    let small = All-weaker (λ (p : ℕ × ℕ). p.1 < c.loop-doc.doc) P (λ p less. omega (arith, less)) old c.loop-doc.invariant.2 in
    let moved = All-permutation P old new c.sort_unstable.ensures.permutation small in
    numbers_up new moved (ranks_up new moved c.sort_unstable.ensures.sorted)

pub returns-clause-docs : goal.returns-clause-docs
returns-clause-docs c x =
    let old = c.loop-doc.pairs.items in
    let new = c.sort_unstable.new.self.items in
    let P : ℕ × ℕ → Type 0 = λ p. p.1 < 4294967296 in
    let Q : List ℕ → Type 0 = IsStrictlyIncreasing in
    let small = All-weaker (λ (p : ℕ × ℕ). p.1 < c.loop-doc.doc) P (λ p less. omega (arith, less)) old c.loop-doc.invariant.2 in
    let moved = All-permutation P old new c.sort_unstable.ensures.permutation small in
    let rise = subst Q (sym (c.loop-doc.invariant.0 x)) (numbers_rise (is_number x) 0 (take c.loop-doc.doc c.args.values.now)) in
    sorted_docs x old new c.sort_unstable.ensures.permutation c.loop-doc.invariant.1 (ranks_up new moved c.sort_unstable.ensures.sorted) rise
    ∙ c.loop-doc.invariant.0 x ∙ ap (λ vs. numbers_where (is_number x) 0 vs) (take_all c.loop-doc.doc c.args.values.now (omega arith))
