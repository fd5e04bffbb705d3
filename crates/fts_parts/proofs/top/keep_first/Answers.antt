use Rattle.std.proofs.Common.{◌∙◌, rules}
use Rattle.std.specs.Ordering.{is_lt}
use Rattle.std.proofs.lemmas.List.Sorted.{ranks_by}
use Rattle.std.proofs.lemmas.Fn.{always_returns_same}
use Rattle.fts_model.specs.declared.answer.Hit.{Hit}
use Rattle.fts_scan.proofs.AnswersTop.{rank_total}
use Rattle.fts_parts.specs.Internals.Joins.{rank}
use Rattle.fts_parts.proofs.FirstLemmas.{first_of-sorted}
use Rattle.fts_parts.proofs.top.keep_first.Goals as goal

pub returns : goal.returns
returns c = λ apart.
    let order = c.args.wanted.order in
    c.truncate.ensures.items
    ∙ first_of-sorted c.args.wanted.k order c.args.list.now.items c.sort_unstable_by.new.self.items apart c.sort_unstable_by.ensures.permutation
    (c.sort_unstable_by.ensures.sorted (λ a b. is_lt (rank order a b)) (ranks_by (rank_total order) (λ (h : Hit). h))
    (always_returns_same _ _ _ (λ a r g k. search rules)))
