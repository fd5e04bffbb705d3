-- The rest of the proof of `made_merges::end_or_merge`.
use Rattle.std.proofs.Common.{◌≤◌, inl, length, refl, sym, ap, subst, ◌∙◌}
use Rattle.std.specs.Prelude.{IfOk}
use Rattle.fts_snapshots.specs.Candidates.{after_candidate}
use Rattle.fts_snapshots.specs.MadeMerges.{IsMadeFor}
use Rattle.fts_snapshots.proofs.MadeLemmas.{made_ids}
use Rattle.fts_snapshots.proofs.made_merges.end_or_merge.Goals as goal

pub end_candidate-requires : goal.end_candidate-requires
end_candidate-requires g c =
    let s = g.S.Mergeable.left c.args.index.now in
    let m = c.in-Ok.merged in
    let made = subst (λ r. IfOk r (IsMadeFor c.args.ids.now s)) c.in-Ok.is c.requires in
    subst (λ ids. IsMadeFor ids s m) (sym (made_ids c.args.ids.now s m made)) made

pub returns-in-Ok-end_candidate-clause-merged : goal.returns-in-Ok-end_candidate-clause-merged
returns-in-Ok-end_candidate-clause-merged g c =
    let s = g.S.Mergeable.left c.args.index.now in
    let made = subst (λ r. IfOk r (IsMadeFor c.args.ids.now s)) c.in-Ok.is c.requires in
    inl (refl, c.in-Ok-end_candidate.ensures.merged ∙ ap (λ ids. after_candidate ids s) (made_ids c.args.ids.now s c.in-Ok.merged made))

pub returns-in-Ok-end_candidate-clause-several : goal.returns-in-Ok-end_candidate-clause-several
returns-in-Ok-end_candidate-clause-several g c = λ enough.
    let s = g.S.Mergeable.left c.args.index.now in
    let made = subst (λ r. IfOk r (IsMadeFor c.args.ids.now s)) c.in-Ok.is c.requires in
    c.in-Ok-end_candidate.ensures.several (subst (λ ids. 2 ≤ length ids) (sym (made_ids c.args.ids.now s c.in-Ok.merged made)) enough)
