-- A row is counted, and the others are left.
use Rattle.std.proofs.Common.{◌≡◌, ◌&&◌, ◌+◌, ◌-◌, ◌*◌, ◌/◌, ◌∙◌, ℕ, Bool, get_or, length, nat_le, ap, subst, sym, arith, rules}
use Rattle.fts_postings.specs.Remaining.{at_least}
use Rattle.fts_postings.specs.Sets.{has}
use Rattle.fts_postings.specs.Windows.{passing}
use Rattle.fts_postings.proofs.WindowLemmas.{passing-same}
use Rattle.fts_sets.specs.Rows.{Tells}
use Rattle.fts_sets.proofs.SetLemmas.{left-here, left-row, length-from, nothing_left}
use Rattle.fts_sets.proofs.doc_id_set.DocIdSet.count_words.Goals as goal

abbrev wanted : ℕ → (ℕ → Bool) → ℕ → Bool
wanted from test d = nat_le from d && test d

pub returns-in-Some : goal.returns-in-Some
returns-in-Some c =
    let set = c.args.self.now in
    let t = 64 * c.args.index in
    let end = 64 * (c.docs.result / 64 + 1) in
    let all = left-here set t end c.docs.ensures.rises (λ d far. c.docs.ensures.past d (omega (arith, far))) in
    c.count_within.ensures ∙ ap length (passing-same _ (has set) t (end - t) (λ d high low. sym (c.in-Some.ensures d)) ∙ all)

pub loop-index-preserved : goal.loop-index-preserved
loop-index-preserved c =
    let l = c.loop-index in
    let set = c.args.self.now in
    let t = 64 * l.index in
    let row = c.row-row.result in
    let long : length row ≡ 16 = search rules in
    let counted : c.ones-count.result ≡ length (passing (wanted t (has set)) t (64 * length row)) = c.ones-count.ensures (wanted t (has set)) t
    (λ k low. subst (λ at. Tells (wanted t (has set)) at (get_or row k 0)) (omega arith) (c.row-row.ensures k low)) in
    let rest = left-row set t t (64 * length row) c.docs.result c.docs.ensures.rises c.docs.ensures.past (omega arith) (omega (arith, long)) in
    let at : t + 64 * length row ≡ 64 * (l.index + 16) = omega (arith, long) in
    record {
      near = omega (arith, c.loop-index-test.true, c.docs.ensures.few);
      sum = omega (arith, l.invariant.sum, counted, rest, ap (λ n. length (at_least n set)) at);
    }

pub overflow_add-count : goal.overflow_add-count
overflow_add-count c =
    let few = length-from c.args.self.now c.docs.result (64 * c.args.index) c.docs.ensures.rises c.docs.ensures.past in
    omega (arith, (loop-index-preserved c).sum, few, c.docs.ensures.few)

pub returns : goal.returns
returns c =
    let l = c.loop-index in
    let none = nothing_left c.args.self.now (64 * l.index) c.docs.ensures.rises (λ d far. c.docs.ensures.past d (omega (arith, far, c.loop-index-test.false))) in
    omega (arith, l.invariant.sum, ap length none)
