use Rattle.std.proofs.Common.{◌≡◌, true, length, sym, ap, ◌∙◌}
use Rattle.std.specs.List.{range_with_len}
use Rattle.std.proofs.lemmas.List.FromFn.{length-range_with_len}
use Rattle.std.proofs.lemmas.Result.{IfOk-weaker}
use Rattle.fts_model.specs.QueryValues.{every}
use Rattle.fts_cursor.specs.Hits.{segment_hits}
use Rattle.fts_cursor.specs.TreeValues.{TreeValue}
use Rattle.fts_cursor.proofs.HitsLemmas.{at_true, passing_are}
use Rattle.fts_sets.proofs.SetLemmas.{filter-every}
use Rattle.fts_cursor.proofs.query_tree.of_all.Goals as goal

pub new-requires : goal.new-requires
new-requires c = sym (ap length c.every-every.ensures ∙ length-range_with_len 0 c.docs-docs.result)

pub returns-clause-remaining : goal.returns-clause-remaining
returns-clause-remaining c =
    let documents = c.args.segment.now.documents in
    let docs = c.docs-docs.result in
    IfOk-weaker c.scan.result (λ (t : TreeValue). t.remaining ≡ c.new.result) (λ t. t.remaining ≡ segment_hits c.args.segment.now every)
    (λ t is. is ∙ c.new.ensures ∙ c.every-every.ensures ∙ ap (range_with_len 0) c.docs-docs.ensures.len ∙ sym (filter-every (range_with_len 0 (length documents)))
    ∙ passing_are (λ e. true) documents (λ d. true) (λ d inside. at_true documents d inside))
    c.scan.ensures.remaining
