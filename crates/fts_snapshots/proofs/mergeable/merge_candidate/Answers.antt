-- The rest of the proof of `mergeable::merge_candidate`.
use Rattle.std.proofs.Common.{arith}
use Rattle.fts_snapshots.specs.LateMerges.{after_merge}
use Rattle.fts_snapshots.specs.Snapshots.{merge_fault}
use Rattle.fts_snapshots.proofs.ChangeLemmas.{merges_any, merges_made}
use Rattle.fts_snapshots.proofs.SourceLemmas.{unless_ok}
use Rattle.fts_snapshots.proofs.mergeable.merge_candidate.Goals as goal

pub returns-in-Ok-clause-several : goal.returns-in-Ok-clause-several
returns-in-Ok-clause-several g c = λ enough.
    let left = g.S.Mergeable.left in
    let ids = c.args.ids.now in
    let old = left c.args.index.now in
    let new = left c.merge_segments.new.self in
    let both = unless_ok (merge_fault ids old) (after_merge ids old) new c.in-Ok.ensures.snapshot in
    merges_made 0 ids old new both.1 both.0 (omega (arith, enough)) c.in-Ok.ensures.content

pub returns-in-Ok-clause-merges : goal.returns-in-Ok-clause-merges
returns-in-Ok-clause-merges g c =
    let left = g.S.Mergeable.left in
    let ids = c.args.ids.now in
    let old = left c.args.index.now in
    let new = left c.merge_segments.new.self in
    let both = unless_ok (merge_fault ids old) (after_merge ids old) new c.in-Ok.ensures.snapshot in
    merges_any ids old new both.1 both.0 c.in-Ok.ensures.content
