-- The groups are sorted, and then cut.
use Rattle.std.proofs.Common.{◌∙◌, ap, take, rules}
use Rattle.std.proofs.lemmas.Fn.{always_returns_same}
use Rattle.fts_script.proofs.SortLemmas.{frequency_tied, frequency_weak, is_ahead, sorted-is}
use Rattle.fts_script.proofs.session.group_search.most_frequent.Goals as goal

pub returns : goal.returns
returns c =
    c.truncate.ensures.items
    ∙ ap (take c.args.limit) (sorted-is is_ahead frequency_weak frequency_tied c.args.groups.items c.sort_unstable_by.new.self.items
    c.sort_unstable_by.ensures.permutation
    (c.sort_unstable_by.ensures.sorted is_ahead frequency_weak (always_returns_same _ _ _ (λ a r g k. search rules))))
