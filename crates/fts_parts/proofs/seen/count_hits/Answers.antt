use Rattle.std.proofs.Common.{◌++◌, ℕ, List}
use Rattle.std.proofs.lemmas.Result.{IfOk-weaker, on_err_weaker}
use Rattle.fts_parts.specs.Collected.{HasCounted}
use Rattle.fts_parts.specs.Tallies.{IsTally, present_at}
use Rattle.fts_parts.proofs.CollectLemmas.{counted-more, counted-same}
use Rattle.fts_parts.proofs.seen.count_hits.Goals as goal

pub returns-in-Some-clause-counted : goal.returns-in-Some-clause-counted
returns-in-Some-clause-counted c =
    IfOk-weaker c.take.result
    (λ _. (numbers : List ℕ) → IsTally numbers c.args.tally.now → IsTally (numbers ++ present_at c.column_of.result.now c.args.docs.now) c.take.new.self)
    (λ _. (before : List ℕ) → HasCounted c.args.segment.now c.args.field before c.args.tally.now → HasCounted c.args.segment.now c.args.field
    (before ++ c.args.docs.now) c.take.new.self)
    (λ _ more. counted-more c.args.segment.now c.args.field c.in-Some.field c.column_of.result.now c.args.docs.now c.args.tally.now c.take.new.self c.in-Some.is
    c.column_of.ensures more) c.take.ensures.taken

pub returns-in-Some-clause-kept : goal.returns-in-Some-clause-kept
returns-in-Some-clause-kept c =
    on_err_weaker c.take.result
    (λ same. counted-same c.args.segment.now c.args.field c.in-Some.field c.args.tally.now c.take.new.self c.in-Some.is same) c.take.ensures.kept
