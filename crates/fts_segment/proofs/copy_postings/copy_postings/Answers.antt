use Rattle.std.proofs.Common.{◌≡◌, ◌++◌, ◌+◌, ◌-◌, ◌*◌, ◌^◌, ◌≤◌, ◌<◌, ℕ, List, [], length, length-drop, take, drop, get_or, refl, ap, sym, subst, ◌∙◌, arith}
use Rattle.std.proofs.lemmas.List.{take_all}
use Rattle.std.proofs.lemmas.List.Elements.{All-weaker}
use Rattle.fts_pack.specs.ListRef.{listed}
use Rattle.fts_pack.specs.Documents.{block_at, block_count, blocks_of}
use Rattle.fts_pack.specs.SourceLaws.{length-block_at, length-blocks_of, get_or-blocks_of}
use Rattle.fts_segment.specs.Parts.{moved}
use Rattle.fts_positions.specs.PositionListLogs.{logged_position_lists}
use Rattle.fts_segment.specs.Postings.{postings_of}
use Rattle.fts_segment.specs.Puts.{Puts}
use Rattle.fts_positions.specs.PositionCopiers.{lists_in}
use Rattle.fts_segment.proofs.MovingLemmas.{documents-shifted, lists-shifted, moved-block}
use Rattle.fts_positions.proofs.PackedLemmas.{length-position_lists_at}
use Rattle.fts_segment.proofs.PutsLemmas.{puts-as, puts-more, puts-none}
use Rattle.fts_segment.proofs.copy_postings.copy_postings.Goals as goal
use Rattle.fts_segment.proofs.copy_postings.copy_postings.Goals.{After-open-count}

-- the number of blocks of a list
blocks : (docs list : List ℕ) → docs ≡ list → length (blocks_of docs) ≡ block_count (length list)
blocks docs list same = ap (λ ds. length (blocks_of ds)) same ∙ length-blocks_of list

opened_of : (c : After-open-count) → take c.open-count.result c.open-count.new.out ≡ block_at (listed c.args.list) c.loop-block.block
opened_of c =
    let list = listed c.args.list in
    let count : c.blocks-block-end.result ≡ block_count (length list) = c.blocks-block-end.ensures ∙ blocks _ list c.source-source.ensures.documents in
    c.open-count.ensures.documents ∙ ap (λ bs. get_or bs c.loop-block.block []) c.loop-block.invariant.source
    ∙ get_or-blocks_of list c.loop-block.block [] (omega (arith, count, c.loop-block-test.true))

pub copy_shifted-requires : goal.copy_shifted-requires
copy_shifted-requires c =
    let numbers = c.args.numbers.now in
    let first = c.in-Some.first in
    All-weaker (λ doc. doc < length numbers) (λ doc. first + doc < 2 ^ 32) (λ doc within. omega (arith, within, c.in-Some.ensures.fit)) (listed c.args.list)
    c.requires.numbered

pub overflow_add-start : goal.overflow_add-start
overflow_add-start c =
    let l = c.args.lists.now in
    omega (arith, c.len.ensures, c.requires.paired, length-position_lists_at l.counts.numbers.now l.gaps.numbers.now, l.counts.few)

pub returns-in-Some-clause-puts : goal.returns-in-Some-clause-puts
returns-in-Some-clause-puts c =
    let numbers = c.args.numbers.now in
    let list = listed c.args.list in
    let lists = drop c.args.start (lists_in c.args.lists.now) in
    let row = c.in-Some.ensures in
    let room : length list ≤ length lists = omega (arith, c.requires.paired, length-drop c.args.start (lists_in c.args.lists.now)) in
    let count : c.args.start + c.len.result - c.args.start ≡ length list = omega (arith, c.len.ensures) in
    record {
      is = c.in_ok-move_lists.ensures.is;
      documents_are = c.in_ok-copy_shifted.ensures
          ∙ ap (λ ds. c.args.docs.now.items ++ ds) (sym (documents-shifted numbers c.in-Some.first list lists row room c.requires.numbered));
      positions_are = c.in_ok-move_lists.ensures.moved
          ∙ ap (λ ls. logged_position_lists c.args.log.now ++ ls)
          (ap (λ n. take n lists) count ∙ sym (lists-shifted numbers c.in-Some.first list lists row room c.requires.numbered));
    }

pub loop-block-init : goal.loop-block-init
loop-block-init c = record { source = ap blocks_of c.source-source.ensures.documents; same = refl; puts = puts-none c.requires.is }

pub overflow_mul-first : goal.overflow_mul-first
overflow_mul-first c =
    let list = listed c.args.list in
    let lists = c.args.lists.now in
    let count : c.blocks-block-end.result ≡ block_count (length list) = c.blocks-block-end.ensures ∙ blocks _ list c.source-source.ensures.documents in
    omega (
      arith,
      count,
      c.loop-block-test.true,
      c.requires.paired,
      length-position_lists_at
          lists.counts.numbers.now lists.gaps.numbers.now,
      lists.counts.few,
    )

pub overflow_add-first : goal.overflow_add-first
overflow_add-first c =
    let list = listed c.args.list in
    let lists = c.args.lists.now in
    let count : c.blocks-block-end.result ≡ block_count (length list) = c.blocks-block-end.ensures ∙ blocks _ list c.source-source.ensures.documents in
    omega (
      arith,
      count,
      c.loop-block-test.true,
      c.requires.paired,
      length-position_lists_at
          lists.counts.numbers.now lists.gaps.numbers.now,
      lists.counts.few,
    )

pub copy_block-requires-clause-is : goal.copy_block-requires-clause-is
copy_block-requires-clause-is c = c.loop-block.invariant.puts.is

pub copy_block-requires-clause-within : goal.copy_block-requires-clause-within
copy_block-requires-clause-within c =
    let a = (goal.at.copy_block-requires-clause-within c).After-open-count in
    omega (
      arith,
      ap length (opened_of a),
      length-block_at (listed c.args.list) c.loop-block.block,
      c.requires.paired,
      ap length c.loop-block.invariant.same,
    )

pub loop-block-preserved : goal.loop-block-preserved
loop-block-preserved c =
    let a = (goal.at.loop-block-preserved c).After-open-count in
    let l = c.loop-block in
    let list = listed c.args.list in
    let numbers = c.args.numbers.now in
    let lists = lists_in c.args.lists.now in
    let start = c.args.start in
    let first = start + l.block * 128 in
    let count : c.blocks-block-end.result ≡ block_count (length list) = c.blocks-block-end.ensures ∙ blocks _ list c.source-source.ensures.documents in
    let within : l.block * 128 ≤ length list = omega (arith, count, c.loop-block-test.true) in
    let P : List ℕ → Type 0 = λ ds. Puts (moved numbers (postings_of ds (drop first (lists_in l.lists)))) l.docs.items l.log c.copy_block.new.docs.items
    c.copy_block.new.log in
    let Q : List (List ℕ) → Type 0 = λ ls. Puts (moved numbers (postings_of (block_at list l.block) (drop first ls))) l.docs.items l.log
    c.copy_block.new.docs.items c.copy_block.new.log in
    record {
      source = c.open-count.ensures.same ∙ l.invariant.source;
      same = c.copy_block.ensures.same ∙ l.invariant.same;
      puts = puts-more (moved-block numbers lists list start l.block within) l.invariant.puts
          (subst Q l.invariant.same (subst P (opened_of a) c.in_ok-copy_block.ensures.puts));
    }

pub returns-clause-puts : goal.returns-clause-puts
returns-clause-puts c =
    let list = listed c.args.list in
    let block = c.loop-block.block in
    let count : c.blocks-block-end.result ≡ block_count (length list) = c.blocks-block-end.ensures ∙ blocks _ list c.source-source.ensures.documents in
    let beyond : length list ≤ block * 128 = omega (arith, count, c.loop-block-test.false) in
    puts-as (ap (λ ds. moved c.args.numbers.now (postings_of ds (drop c.args.start (lists_in c.args.lists.now)))) (sym (take_all (block * 128) list beyond)))
    c.loop-block.invariant.puts
