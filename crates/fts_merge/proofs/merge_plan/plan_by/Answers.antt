use Rattle.std.proofs.Common.{◌≡◌, ◌++◌, ◌∙◌, ap, ap₂, map}
use Rattle.std.proofs.lemmas.List.{map-append}
use Rattle.fts_merge.specs.Levels.{alone, live_sizes, together}
use Rattle.fts_merge.proofs.merge_plan.plan_by.Goals as goal

pub returns-clause-candidates : goal.returns-clause-candidates
returns-clause-candidates c =
    let policy = c.args.policy.now in
    let segments = c.args.segments.now in
    let sizes : c.deref.result.now ≡ live_sizes segments = c.deref.ensures.value ∙ c.in_ok-sizes.ensures in
    let found : map (λ v. v.items) c.in_ok-found.found.items ≡ together policy (live_sizes segments) = c.in_ok-found.ensures ∙ ap (together policy) sizes in
    let seen : map (λ v. v.items) c.deref-2.result.now ≡ together policy (live_sizes segments) = ap (map (λ v. v.items)) c.deref-2.ensures.value ∙ found in
    ap (map (λ v. v.items)) c.in_ok-append.ensures.items
    ∙ map-append (λ v. v.items) c.in_ok-found.found.items c.in_ok-more.more.items
    ∙ ap₂ (λ xs ys. xs ++ ys) found (c.in_ok-more.ensures ∙ ap (λ xs. alone policy.dead xs segments) seen)
