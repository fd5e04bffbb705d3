use Rattle.std.proofs.Common.{◌+◌, ◌≤◌, [], List, ℕ, get_or, length, drop, refl, ap, sym, subst, ◌∙◌, arith}
use Rattle.std.specs.Prelude.{slice_get}
use Rattle.std.proofs.lemmas.List.{take_all}
use Rattle.fts_segment.specs.Parts.{moved, placed}
use Rattle.fts_segment.specs.Postings.{posting_at, postings_of}
use Rattle.fts_segment.specs.Puts.{Puts}
use Rattle.fts_positions.specs.PositionCopiers.{lists_in}
use Rattle.fts_segment.proofs.MovingLemmas.{moved-one}
use Rattle.fts_positions.proofs.PackedLemmas.{length-position_lists_at}
use Rattle.fts_segment.proofs.PutsLemmas.{puts-as, puts-more, puts-none}
use Rattle.fts_segment.proofs.copy_postings.copy_block.Goals as goal

pub loop-index-init : goal.loop-index-init
loop-index-init c = record { same = refl; puts = puts-none c.requires.is }

pub loop-index-preserved : goal.loop-index-preserved
loop-index-preserved c =
    let l = c.loop-index in
    let block = c.args.block.now in
    let d = get_or block l.index 0 in
    let lists = lists_in c.args.lists.now in
    let same = l.invariant.same in
    let P : List (List ℕ) → Type 0 = λ ls. Puts (placed (slice_get c.args.numbers.now d) (posting_at d (get_or ls (c.args.start + l.index) []))) l.docs.items
    l.log c.copy_posting.new.docs.items c.copy_posting.new.log in
    record {
      same = c.copy_posting.ensures.same ∙ same;
      puts = puts-more (moved-one c.args.numbers.now lists block c.args.start l.index d 0 c.loop-index-test.true refl c.requires.within) l.invariant.puts
          (subst P same c.in_ok-copy_posting.ensures.puts);
    }

pub copy_posting-requires-clause-is : goal.copy_posting-requires-clause-is
copy_posting-requires-clause-is c = c.loop-index.invariant.puts.is

pub copy_posting-requires-clause-within : goal.copy_posting-requires-clause-within
copy_posting-requires-clause-within c = omega (arith, c.loop-index-test.true, c.requires.within, ap length c.loop-index.invariant.same)

pub overflow_add-start : goal.overflow_add-start
overflow_add-start c =
    let l = c.args.lists.now in
    omega (arith, c.loop-index-test.true, c.requires.within, length-position_lists_at l.counts.numbers.now l.gaps.numbers.now, l.counts.few)

pub returns-clause-puts : goal.returns-clause-puts
returns-clause-puts c =
    let block = c.args.block.now in
    let beyond : length block ≤ c.loop-index.index = omega (arith, c.loop-index-test.false) in
    puts-as (ap (λ ds. moved c.args.numbers.now (postings_of ds (drop c.args.start (lists_in c.args.lists.now))))
    (sym (take_all c.loop-index.index block beyond))) c.loop-index.invariant.puts
