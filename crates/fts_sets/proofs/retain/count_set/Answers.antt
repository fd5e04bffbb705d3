-- One document more is looked at.
use Rattle.std.proofs.Common.{◌+◌, get_or, take, ap, arith}
use Rattle.std.proofs.lemmas.List.{get_or_default, length-take-le}
use Rattle.fts_postings.proofs.CostLemmas.{length-filter-le}
use Rattle.fts_postings.specs.Windows.{is_set}
use Rattle.fts_sets.proofs.KeptLemmas.{byte_few, counted_more}
use Rattle.fts_sets.proofs.retain.count_set.Goals as goal

pub overflow_add-count : goal.overflow_add-count
overflow_add-count c =
    let l = c.loop-doc in
    let docs = c.args.docs.now in
    omega (
      arith,
      l.invariant,
      length-filter-le (is_set c.args.bits.now) (take l.doc-index docs),
      length-take-le l.doc-index docs (omega arith),
      byte_few c.contains.result,
      c.from-count.ensures,
    )

pub loop-doc-preserved : goal.loop-doc-preserved
loop-doc-preserved c =
    let l = c.loop-doc in
    let docs = c.args.docs.now in
    let doc = get_or docs l.doc-index 0 in
    counted_more (is_set c.args.bits.now) docs l.doc-index doc l.count _ c.contains.result c.loop-doc-test.true
    (get_or_default docs l.doc-index 0 doc c.loop-doc-test.true) c.contains.ensures l.invariant (ap (λ n. l.count + n) c.from-count.ensures)
