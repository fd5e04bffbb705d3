use Rattle.std.proofs.Common.{◌≡◌, ◌∙◌, ◌≤◌, sym, ap, arith, length, sum_by, vec_capacity}
use Rattle.std.proofs.lemmas.List.{take_all}
use Rattle.std.proofs.lemmas.List.Concat.{length-flat_map}
use Rattle.std.proofs.lemmas.Result.{IfOk-weaker}
use Rattle.fts_parts.specs.Parts.{PartValue}
use Rattle.fts_parts.specs.Internals.Joins.{all_hits, hits_in}
use Rattle.fts_parts.proofs.top.room_for_hits.Goals as goal

pub returns-clause-room : goal.returns-clause-room
returns-clause-room c =
    let parts = c.args.parts.now in
    let f = λ (part : PartValue). length (hits_in part) in
    let whole = take_all c.loop-part.part-index parts c.loop-part-test.false in
    let count = c.loop-part.invariant ∙ ap (sum_by f) whole ∙ sym (length-flat_map hits_in parts) in
    IfOk-weaker c.with_capacity.result (λ v. vec_capacity v ≡ c.loop-part.count) (λ v. length (all_hits parts) ≤ vec_capacity v)
    (λ v h. omega (arith, count, h)) c.with_capacity.ensures.exact
