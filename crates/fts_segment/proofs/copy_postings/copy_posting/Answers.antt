use Rattle.std.proofs.Common.{◌++◌, [], ap, ◌∙◌, get_or, arith}
use Rattle.std.specs.Prelude.{slice_get}
use Rattle.fts_segment.specs.Postings.{posting_at}
use Rattle.fts_positions.specs.PositionListLogs.{logged_position_lists}
use Rattle.fts_positions.specs.PositionCopiers.{lists_in}
use Rattle.fts_segment.proofs.MovingLemmas.{placed-none, placed-some}
use Rattle.fts_positions.proofs.PackedLemmas.{length-position_lists_at}
use Rattle.fts_segment.proofs.PutsLemmas.{puts-as, puts-none}
use Rattle.fts_positions.proofs.UnpackedLemmas.{range_one}
use Rattle.fts_segment.proofs.copy_postings.copy_posting.Goals as goal

pub overflow_add-list : goal.overflow_add-list
overflow_add-list c =
    let l = c.args.lists.now in omega (arith, c.requires.within, length-position_lists_at l.counts.numbers.now l.gaps.numbers.now, l.counts.few)

pub returns-in_ok-move_lists-in-Some-clause-puts : goal.returns-in_ok-move_lists-in-Some-clause-puts
returns-in_ok-move_lists-in-Some-clause-puts c =
    let lists = lists_in c.args.lists.now in
    let posting = posting_at c.args.doc (get_or lists c.args.list []) in
    puts-as (placed-some (slice_get c.args.numbers.now c.args.doc) c.in-Some.number posting c.in-Some.ensures) (record {
      is = c.in_ok-move_lists-in-Some.ensures.is;
      documents_are = c.in_ok-push-in-Some.ensures.items;
      positions_are = c.in_ok-move_lists-in-Some.ensures.moved ∙ ap (λ ls. logged_position_lists c.args.log.now ++ ls)
          (range_one lists c.args.list [] c.requires.within);
    })

pub returns-in-None-clause-puts : goal.returns-in-None-clause-puts
returns-in-None-clause-puts c =
    puts-as (placed-none (slice_get c.args.numbers.now c.args.doc) (posting_at c.args.doc (get_or (lists_in c.args.lists.now) c.args.list []))
    c.in-None.ensures) (puts-none c.requires.is)
