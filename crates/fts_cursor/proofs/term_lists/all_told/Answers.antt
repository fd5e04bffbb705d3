-- By words: the first's bits and those of the others.
use Rattle.std.proofs.Common.{◌≤◌, length, ap, ◌∙◌, arith}
use Rattle.std.specs.List.{filter, range_with_len}
use Rattle.fts_pack.specs.ListRef.{listed}
use Rattle.fts_pack.specs.Documents.{block_count}
use Rattle.fts_pack.specs.SourceLaws.{length-blocks_of}
use Rattle.fts_cursor.specs.Hits.{is_live}
use Rattle.fts_cursor.specs.TreeValues.{TreeValue}
use Rattle.fts_sets.specs.Leaves.{all_have, in_each}
use Rattle.fts_cursor.proofs.SplitLemmas.{FindsAll-told, both_of}
use Rattle.fts_cursor.proofs.term_lists.all_told.Goals as goal

pub returns : goal.returns
returns c =
    let one = c.openings.result in
    let p = c.cursor_over.ensures in
    let first = c.args.first in
    let leaves = c.in_ok-leaves.leaves.items in
    let few : one ≤ block_count (length (listed c.args.shortest)) =
    omega (arith, c.openings.ensures.bound, ap length p.blocks, length-blocks_of (listed c.args.shortest)) in
    let set = c.new.ensures ∙ c.in_ok-with_each.ensures ∙ ap (λ ls. filter (all_have ls) c.with.new.self) c.deref-2.ensures.value
    ∙ ap (filter (all_have leaves)) (c.in_ok-with.ensures.kept ∙ ap (filter (is_live first.now)) (c.every-set.ensures ∙ ap (range_with_len 0) c.len.ensures)) in
    both_of c.dense.result _ _ _ (λ (t : TreeValue) remaining counts lists split.
    FindsAll-told (listed c.args.shortest) lists first c.args.bits.items leaves c.args.opened one c.requires.rises c.requires.tells split
    (λ d. c.in_ok-leaves.ensures.all d ∙ ap (λ bs. in_each bs d) c.deref.ensures.value) t.standing c.saturating_add-opened.result few
    (λ some. c.openings.ensures.opened ∙ p.enters some)
    (omega (arith, c.saturating_add-opened.ensures, split.few, c.args.bits.small, c.args.bits.ok, p.opened, p.tied, c.openings.ensures.opened))
    (remaining ∙ set) counts.0 counts.1) c.dense.ensures.remaining c.dense.ensures.counts
