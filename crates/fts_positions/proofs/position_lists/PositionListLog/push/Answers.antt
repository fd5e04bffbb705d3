use Rattle.std.proofs.Common.{◌≡◌, ◌<◌, ◌++◌, ◌^◌, length, ap, ap₂, ◌∙◌, arith}
use Rattle.std.proofs.Math.Facts.{Fits-lt-pow}
use Rattle.std.proofs.lemmas.List.{get_or_default}
use Rattle.fts_pack.specs.Documents.{gaps}
use Rattle.fts_positions.specs.PositionLists.{position_lists_at}
use Rattle.fts_positions.proofs.PackedLemmas.{AreLogged-push, position_lists_at-push}
use Rattle.fts_positions.proofs.position_lists.PositionListLog.push.Goals as goal

pub returns-clause-is : goal.returns-clause-is
returns-clause-is c =
    let log = c.args.self.now in
    let list = c.args.list.now in
    let put : c.push_gaps.new.numbers.items ≡ log.gaps.items ++ gaps 0 list = c.in_ok-push_gaps.ensures.ok in
    let few : length (log.gaps.items ++ gaps 0 list) < 2 ^ 64 = omega (arith, ap length put, c.push_gaps.new.numbers.ok.0) in
    rw (c.in_ok-push.ensures.items, put)
    (AreLogged-push log.counts.items log.gaps.items list c.requires.is c.requires.list
    (λ k d inside. rw (get_or_default list k d 0 inside) (Fits-lt-pow (c.type_inv.list k))) few)

pub returns-clause-pushed : goal.returns-clause-pushed
returns-clause-pushed c =
    let log = c.args.self.now in
    ap₂ position_lists_at c.in_ok-push.ensures.items c.in_ok-push_gaps.ensures.ok ∙ position_lists_at-push log.counts.items log.gaps.items c.args.list.now
    c.requires.is.whole c.requires.list
