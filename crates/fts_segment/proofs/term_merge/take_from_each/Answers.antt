use Rattle.std.proofs.Common.{◌≡◌, ◌≤◌, Some, flat_map, length, refl, ap, ◌∙◌, sym, arith}
use Rattle.std.specs.Prelude.{slice_get}
use Rattle.std.proofs.lemmas.List.{take_all}
use Rattle.std.proofs.lemmas.Option.{slice_get-get_or}
use Rattle.fts_segment.specs.Parts.{given, passed}
use Rattle.fts_segment.proofs.MovingLemmas.{set-front, given-front}
use Rattle.fts_segment.proofs.PutsLemmas.{puts-as, puts-more, puts-none}
use Rattle.fts_segment.proofs.term_merge.take_from_each.Goals as goal

pub loop-part-init : goal.loop-part-init
loop-part-init c = record { passed_are = refl; puts = puts-none c.requires }

pub take_term-requires : goal.take_term-requires
take_term-requires c = c.loop-part.invariant.puts.is

pub loop-part-preserved : goal.loop-part-preserved
loop-part-preserved c =
    let l = c.loop-part in
    let items = l.part-items in
    let parts = c.args.parts.now in
    let term = c.args.term.now in
    let i = l.part-index in
    let item = c.part-item.result in
    let here : slice_get items i ≡ Some item = slice_get-get_or items i item (omega (arith, c.loop-part-test.true, l.auto.part-items))
    ∙ ap Some (sym c.part-item.is) in
    let step = set-front (passed term) items parts i item c.take_term.new.self l.invariant.passed_are here
    (c.in_ok-take_term.ensures.part ∙ ap (passed term) (sym c.part-item.is)) in
    record {
      passed_are = step.0;
      puts = puts-more (given-front (given term) parts i item step.1) l.invariant.puts (puts-as (ap (given term) c.part-item.is) c.in_ok-take_term.ensures.puts);
    }

pub returns-clause-puts : goal.returns-clause-puts
returns-clause-puts c =
    let l = c.loop-part in
    let parts = c.args.parts.now in
    let beyond : length parts ≤ l.part-index = omega (arith, c.loop-part-test.false, l.auto.part-items) in
    puts-as (ap (flat_map (given c.args.term.now)) (sym (take_all l.part-index parts beyond))) l.invariant.puts
