-- The rest of the proof of `made_merges::end_candidate`.
use Rattle.std.proofs.Common.{rules, ◌≡◌, ◌≢◌, ⊎_elim, ap, sym, ◌∙◌, arith}
use Rattle.fts_base.specs.declared.refusal.Refusal.TheVariants.{Memory}
use Rattle.fts_snapshots.proofs.ChangeLemmas.{merges_any, merges_made}
use Rattle.fts_snapshots.proofs.LateBeginLemmas.{merge_here}
use Rattle.fts_snapshots.proofs.MadeLemmas.{left_candidate, merged_candidate, merges_none}
use Rattle.fts_snapshots.proofs.made_merges.end_candidate.Goals as goal

pub returns-in-Ok-clause-merged : goal.returns-in-Ok-clause-merged
returns-in-Ok-clause-merged g c =
    let s = g.S.Mergeable.left c.args.index.now in
    let m = c.args.merged.now in
    let made = c.requires in
    let given = sym (merge_here s m.ids m made.named made.few made.merged) ∙ c.in-Ok.ensures.snapshot in
    (merged_candidate m.ids s (g.S.Mergeable.left c.replace_sources.new.self) given).2

pub returns-in-Ok-clause-several : goal.returns-in-Ok-clause-several
returns-in-Ok-clause-several g c = λ enough.
    let s = g.S.Mergeable.left c.args.index.now in
    let m = c.args.merged.now in
    let made = c.requires in
    let new = g.S.Mergeable.left c.replace_sources.new.self in
    let given = merged_candidate m.ids s new (sym (merge_here s m.ids m made.named made.few made.merged) ∙ c.in-Ok.ensures.snapshot) in
    merges_made 0 m.ids s new given.1 given.0 (omega (arith, enough)) c.in-Ok.ensures.content

pub returns-in-Ok-clause-merges : goal.returns-in-Ok-clause-merges
returns-in-Ok-clause-merges g c =
    let s = g.S.Mergeable.left c.args.index.now in
    let m = c.args.merged.now in
    let made = c.requires in
    let new = g.S.Mergeable.left c.replace_sources.new.self in
    let given = merged_candidate m.ids s new (sym (merge_here s m.ids m made.named made.few made.merged) ∙ c.in-Ok.ensures.snapshot) in
    merges_any m.ids s new given.1 given.0 c.in-Ok.ensures.content

pub returns-in-Err : goal.returns-in-Err
returns-in-Err g c =
    let s = g.S.Mergeable.left c.args.index.now in
    let m = c.args.merged.now in
    let made = c.requires in
    let new = g.S.Mergeable.left c.replace_sources.new.self in
    let same : new ≡ s = ap g.S.Mergeable.left c.in-Err.ensures.same in
    let other : c.in-Err.field-0 ≢ Memory = search rules in
    record {
      merged = ⊎_elim (λ memory. absurd (other memory))
          (λ refused. same ∙ left_candidate m.ids s c.in-Err.field-0 (sym (merge_here s m.ids m made.named made.few made.merged) ∙ refused))
          c.in-Err.ensures.snapshot;
      same = tt;
      several = λ _. merges_none 0 s new same;
      merges = merges_none 1 s new same;
      keeps = c.in-Err.ensures.keeps;
      memory = tt;
    }
