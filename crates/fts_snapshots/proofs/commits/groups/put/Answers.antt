-- The rest of the proof of `commits::groups::put`.
use Rattle.std.proofs.Common.{◌≤◌, ◌++◌, ◌∷◌, [], length, set, ap, ◌∙◌, arith}
use Rattle.std.proofs.lemmas.List.Elements.{recursion_from_All}
use Rattle.std.proofs.lemmas.Result.{on_ok_weaker}
use Rattle.fts_model.specs.Documents.{DocumentValue}
use Rattle.fts_model.specs.declared.operation.Stamped.{Stamped}
use Rattle.fts_snapshots.specs.Groups.{documents_in}
use Rattle.fts_snapshots.proofs.CountLemmas.{never_full}
use Rattle.fts_snapshots.proofs.CutLemmas.{put_beyond, put_there, room_there}
use Rattle.fts_snapshots.proofs.commits.groups.put.Goals as goal

pub returns-then-at-len-clause-ok : goal.returns-then-at-len-clause-ok
returns-then-at-len-clause-ok c =
    let bs = c.args.groups.now.items in
    on_ok_weaker c.add.result
    (λ added. ap (λ b. documents_in (set bs c.args.at b)) added
    ∙ put_there bs c.args.at (record { stamp = c.args.stamp; value = c.args.document.now }) c.index_mut.result.now (omega arith) c.index_mut.ensures.value)
    c.add.ensures.ok

pub returns-then-at-len-clause-memory : goal.returns-then-at-len-clause-memory
returns-then-at-len-clause-memory c =
    never_full c.add.result c.index_mut.result.now c.add.ensures.full
    (room_there 65536 c.args.groups.now.items c.args.at _ c.index_mut.result.now (omega arith) c.index_mut.ensures.value
    (recursion_from_All (λ group. length group ≤ 65536) _ c.requires.few))
    c.add.ensures.other

pub returns-clause-ok : goal.returns-clause-ok
returns-clause-ok c =
    let x : Stamped DocumentValue = record { stamp = c.args.stamp; value = c.args.document.now } in
    ap documents_in c.in_ok-push.ensures.items
    ∙ put_beyond c.args.groups.now.items c.args.at x c.add-2.new.self (omega arith)
    (ap (λ b. b.segment.documents) c.in_ok-add.ensures.ok ∙ ap (λ b. b.segment.documents ++ x ∷ []) c.in_ok-group.ensures.ok)
