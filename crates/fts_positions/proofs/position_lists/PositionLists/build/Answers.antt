use Rattle.std.proofs.Common.{◌*◌, length, sum, take, ap, ap₂, ◌∙◌, arith}
use Rattle.fts_pack.specs.Documents.{block_count}
use Rattle.fts_positions.specs.PositionLists.{position_lists_at}
use Rattle.fts_positions.proofs.PackedLemmas.{ArePacked-logged}
use Rattle.fts_positions.proofs.position_lists.PositionLists.build.Goals as goal

pub starts_of-requires : goal.starts_of-requires
starts_of-requires c = omega (arith, ap sum c.deref.ensures.value, c.requires.whole, c.requires.few)

pub invariant_of-result : goal.invariant_of-result
invariant_of-result c =
    let log = c.args.log in
    rw (c.in_ok-counts.ensures, c.in_ok-gaps.ensures) (ArePacked-logged log.counts.items c.in_ok-starts.starts.items log.gaps.items c.requires
    (c.in_ok-starts.ensures.many ∙ ap (λ ns. block_count (length ns)) c.deref.ensures.value)
    (λ block below. c.in_ok-starts.ensures.starts block below ∙ ap (λ ns. sum (take (block * 128) ns)) c.deref.ensures.value))

pub returns : goal.returns
returns c = ap₂ position_lists_at c.in_ok-counts.ensures c.in_ok-gaps.ensures
