-- The first row is counted, and what is left after it.
use Rattle.std.proofs.Common.{◌≡◌, ◌&&◌, ◌+◌, ◌*◌, ◌/◌, ℕ, Bool, get_or, length, nat_le, ap, subst, sym, arith, rules}
use Rattle.fts_postings.specs.Remaining.{at_least}
use Rattle.fts_postings.specs.Sets.{has}
use Rattle.fts_postings.specs.Windows.{passing}
use Rattle.fts_sets.specs.Rows.{Tells}
use Rattle.fts_sets.proofs.SetLemmas.{left-row, length-from, nothing_left}
use Rattle.fts_sets.proofs.doc_id_set.DocIdSet.count_from.Goals as goal

abbrev wanted : ℕ → (ℕ → Bool) → ℕ → Bool
wanted from test d = nat_le from d && test d

pub returns-then-from-docs : goal.returns-then-from-docs
returns-then-from-docs c =
    sym (ap length (nothing_left c.args.self.now c.args.from c.docs.ensures.rises (λ d far. c.docs.ensures.past d (omega (arith, far, c.if-from-docs.true)))))

pub returns : goal.returns
returns c =
    let set = c.args.self.now in
    let from = c.args.from in
    let t = 64 * (from / 64) in
    let row = c.row-row.result in
    let long : length row ≡ 16 = search rules in
    let counted : c.ones.result ≡ length (passing (wanted from (has set)) t (64 * length row)) = c.ones.ensures (wanted from (has set)) t
    (λ k low. subst (λ at. Tells (wanted from (has set)) at (get_or row k 0)) (omega arith) (c.row-row.ensures k low)) in
    let rest = left-row set from t (64 * length row) c.docs.result c.docs.ensures.rises c.docs.ensures.past (omega arith) (omega (arith, long)) in
    let at : t + 64 * length row ≡ 64 * (from / 64 + 16) = omega (arith, long) in
    omega (arith, counted, rest, c.count_words.ensures, ap (λ n. length (at_least n set)) at)

pub overflow_add-result : goal.overflow_add-result
overflow_add-result c =
    let set = c.args.self.now in
    let from = c.args.from in
    let few = length-from set c.docs.result from c.docs.ensures.rises c.docs.ensures.past in
    omega (arith, returns c, few, c.docs.ensures.few)
