-- The rest of the proof of `commits::commit_job::push_builds`.
use Rattle.std.proofs.Common.{◌≤◌, ◌+◌, ◌++◌, ◌∷◌, [], ℕ, length, map, take, subst, sym, ap, ◌∙◌, append_assoc, arith}
use Rattle.std.specs.List.{enumerate_from}
use Rattle.std.proofs.lemmas.List.{get_or-map, length-map, map-append, map_more, take_all}
use Rattle.std.proofs.lemmas.List.FromFn.{get_or-enumerate_from, length-enumerate_from}
use Rattle.fts_segment.specs.Segments.{BuilderValue}
use Rattle.fts_snapshots.specs.Entries.{EntryValue}
use Rattle.fts_snapshots.specs.Groups.{built}
use Rattle.fts_snapshots.specs.Jobs.{entry_of}
use Rattle.fts_snapshots.proofs.commits.commit_job.push_builds.Goals as goal

pub invariant_of-task : goal.invariant_of-task
invariant_of-task c =
    let groups = c.args.groups.now in
    let i = c.loop-builder.builder-index in
    let documents : BuilderValue → _ = λ b. b.segment.documents in
    record {
      few = subst (λ ds. length ds ≤ 65536)
          (get_or-map documents groups i c.builder-item.result [] (omega arith) ∙ ap documents (sym c.builder-item.is))
          (c.requires.few i [] (omega (arith, length-map groups documents)));
    }

pub loop-builder-preserved : goal.loop-builder-preserved
loop-builder-preserved c =
    let first = c.args.first in
    let i = c.loop-builder.builder-index in
    let builder = c.builder-item.result in
    let all = enumerate_from first c.args.groups.now in
    let made : ℕ × BuilderValue → EntryValue = λ b. built c.args.ops.now b.0 b.1 in
    let before = map entry_of c.args.jobs.now.items in
    let number = ap (λ id. (id, builder)) c.loop-builder.invariant.next ∙ ap (λ b. (first + i, b)) c.builder-item.is
    ∙ sym (get_or-enumerate_from first c.args.groups.now i (0, builder) (omega arith)) in
    record {
      made =
          ap (map entry_of) c.in_ok-push.ensures.items
          ∙ map-append entry_of c.loop-builder.jobs.items _
          ∙ ap (λ es. es ++ made (c.loop-builder.id, builder) ∷ []) c.loop-builder.invariant.made
          ∙ append_assoc before (map made (take i all)) (made (c.loop-builder.id, builder) ∷ [])
          ∙ ap (λ b. before ++ (map made (take i all) ++ made b ∷ [])) number
          ∙ ap (λ es. before ++ es) (sym (map_more made all i (0, builder) (omega (arith, length-enumerate_from first c.args.groups.now))));
      next = omega arith;
    }

pub returns : goal.returns
returns c =
    let all = enumerate_from c.args.first c.args.groups.now in
    let whole = take_all c.loop-builder.builder-index all (omega (arith, length-enumerate_from c.args.first c.args.groups.now)) in
    cc
