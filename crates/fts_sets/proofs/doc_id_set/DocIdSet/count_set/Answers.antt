-- There is no test, so as many are counted as bits are set.
use Rattle.std.proofs.Common.{◌≡◌, length, sym, ap, ◌∙◌, arith}
use Rattle.std.specs.List.{filter, range_with_len}
use Rattle.fts_postings.specs.Windows.{is_set}
use Rattle.fts_sets.proofs.SetLemmas.{count-set}
use Rattle.fts_sets.proofs.doc_id_set.DocIdSet.count_set.Goals as goal

pub returns : goal.returns
returns c =
    let bits = c.args.bits.now in
    let all = c.in_ok-untested.ensures in
    let same : length bits ≡ c.in_ok-untested.field-0 = omega (arith, c.len.ensures, c.if-branch.false) in
    c.count_ones.ensures ∙ count-set bits ∙ ap (λ n. length (filter (is_set bits) (range_with_len 0 n))) same
    ∙ ap (λ xs. length (filter (is_set bits) xs)) (sym all.0)
