use Rattle.std.proofs.Common.{◌≡◌, sym, ap, ◌∙◌, take, arith}
use Rattle.std.specs.List.{insert}
use Rattle.fts_scan.specs.Scans.{hit_place}
use Rattle.fts_scan.proofs.AnswersSteps.{put_hit-insert, hit_place-le}
use Rattle.fts_scan.proofs.answers.put_hit.Goals as goal

pub insert-requires : goal.insert-requires
insert-requires c = omega (arith, hit_place-le c.args.order c.deref.result.now c.args.hit, c.hit_place-place.ensures, c.deref.ensures.len)

pub returns : goal.returns
returns c =
    let items = c.args.hits.now.items in
    let order = c.args.order in
    let hit = c.args.hit in
    let placed : c.hit_place-place.result ≡ hit_place order items hit = c.hit_place-place.ensures ∙ ap (λ hs. hit_place order hs hit) c.deref.ensures.value in
    c.truncate.ensures.items
    ∙ ap (take c.args.k) (c.in_ok-insert.ensures.items ∙ ap (λ p. insert items p hit) placed ∙ sym (put_hit-insert order items hit))
