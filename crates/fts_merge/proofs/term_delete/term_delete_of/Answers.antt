use Rattle.std.proofs.Common.{◌≡◌, ◌∙◌, ap, get_or}
use Rattle.fts_merge.specs.Internals.Deletes.{strikes_by_term}
use Rattle.fts_merge.proofs.FoundLemmas.{if_none, struck-none}
use Rattle.fts_merge.proofs.term_delete.term_delete_of.Goals as goal

pub returns-in_err-list-in-Delete-clause-none : goal.returns-in_err-list-in-Delete-clause-none
returns-in_err-list-in-Delete-clause-none c =
    let s = c.args.segment.now in
    let op = c.args.op.now in
    if_none c.from_residual.result (λ k d h.
    ap (λ v. strikes_by_term s.schema op.stamp v (get_or s.documents k d)) c.in-Delete.is
    ∙ struck-none s op.stamp c.in-Delete.term c.in_err-list-in-Delete.ensures.none k d h)

pub returns-in-Add-clause-none : goal.returns-in-Add-clause-none
returns-in-Add-clause-none c = λ k d h. ap (λ v. strikes_by_term c.args.segment.now.schema c.args.op.now.stamp v (get_or c.args.segment.now.documents k d))
    c.in-Add.is

pub returns-in-DeleteAll-clause-none : goal.returns-in-DeleteAll-clause-none
returns-in-DeleteAll-clause-none c =
    λ k d h. ap (λ v. strikes_by_term c.args.segment.now.schema c.args.op.now.stamp v (get_or c.args.segment.now.documents k d)) c.in-DeleteAll.is
