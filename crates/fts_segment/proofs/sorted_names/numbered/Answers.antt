use Rattle.std.proofs.Common.{◌≡◌, ◌∙◌, refl, map, arith}
use Rattle.std.specs.List.{enumerate_from}
use Rattle.std.proofs.lemmas.List.{take_all}
use Rattle.std.proofs.lemmas.List.FromFn.{length-enumerate_from}
use Rattle.std.proofs.lemmas.List.Sorted.{IsPermutation-map}
use Rattle.fts_segment.proofs.TermOrderLemmas.{shown, shown-push, IsInOrder-sorted}
use Rattle.fts_segment.proofs.sorted_names.numbered.Goals as goal

pub loop-number-preserved : goal.loop-number-preserved
loop-number-preserved c =
    rw c.in_ok-push.ensures.items (shown-push c.args.names.now c.loop-number.order.items (c.get.result, c.loop-number.number) c.loop-number.number
    (omega (arith, c.len-number-end.ensures)) refl c.get.ensures c.loop-number.invariant)

pub returns-clause-in_order : goal.returns-clause-in_order
returns-clause-in_order c = IsInOrder-sorted c.sort_unstable.new.self.items c.sort_unstable.ensures.sorted

pub returns-clause-all : goal.returns-clause-all
returns-clause-all c =
    let all : map shown c.loop-number.order.items ≡ enumerate_from 0 c.args.names.now =
    c.loop-number.invariant ∙ take_all c.loop-number.number (enumerate_from 0 c.args.names.now)
    (omega (arith, length-enumerate_from 0 c.args.names.now, c.len-number-end.ensures)) in
    rw (← all) (IsPermutation-map shown c.loop-number.order.items c.sort_unstable.new.self.items c.sort_unstable.ensures.permutation)
