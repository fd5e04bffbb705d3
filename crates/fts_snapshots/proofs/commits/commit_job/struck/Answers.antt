-- The rest of the proof of `commits::commit_job::struck`.
use Rattle.std.proofs.Common.{sym, ap, subst, ◌∙◌, arith}
use Rattle.std.proofs.lemmas.Bool.Decides.{nat_tests}
use Rattle.fts_merge.specs.Strikes.{bits_after}
use Rattle.fts_snapshots.specs.Entries.{IsEntry}
use Rattle.fts_snapshots.specs.Commits.{struck}
use Rattle.fts_snapshots.proofs.CutLemmas.{none_left}
use Rattle.fts_snapshots.proofs.EntryLemmas.{same_entry, entry_struck, struck_none}
use Rattle.fts_snapshots.proofs.commits.commit_job.struck.Goals as goal

pub returns-then-is_empty-clause-ok : goal.returns-then-is_empty-clause-ok
returns-then-is_empty-clause-ok c =
    let test = c.if-is_empty.ensures in
    let none = none_left c.args.ops.now (grind (arith, nat_tests)) in
    c.in_ok-clone.ensures.cases ∙ sym (struck_none c.args.entry.now c.live-live.ensures.bits) ∙ ap (λ ops. struck ops c.args.entry.now) (sym none)

pub new-requires : goal.new-requires
new-requires c =
    let e = c.args.entry.now in
    let ops = c.args.ops.now in
    let bits =
    c.in_ok-live.ensures.ok
    ∙ ap (λ s. bits_after s.schema ops s.documents c.live-live.result.now) c.segment.ensures.segment
    ∙ ap (bits_after e.segment.schema ops e.segment.documents) c.live-live.ensures.live in
    subst IsEntry
    (sym (same_entry c.id.result e.id c.in_ok-segment.segment e.segment c.in_ok-live.live (struck ops e).live c.id.ensures
    (c.in_ok-segment.ensures.cases ∙ c.segment-2.ensures.segment) bits))
    (entry_struck ops e c.live-live.ensures.bits)
