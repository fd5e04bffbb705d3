use Rattle.std.proofs.Common.{◌≡◌, ◌∙◌, ◌-◌, ◌<◌, length, take, drop, ap, sym, arith}
use Rattle.std.proofs.lemmas.List.{length-drop}
use Rattle.fts_cursor.specs.Standing.{Standing}
use Rattle.fts_cursor.proofs.TreeLemmas.{Walked-trans}
use Rattle.fts_collect.proofs.SeenLemmas.{none_taken, under_way-all, under_way-first, under_way-next}
use Rattle.fts_collect.proofs.collector.see_all.Goals as goal

pub loop-len-init : goal.loop-len-init
loop-len-init c =
    let taken = c.take-len.ensures.taken in
    let n = c.take-len.result in
    let all = c.args.cursor.now.remaining in
    let same : c.count_alone.new.cursor ≡ c.args.cursor.now = c.in_default.ensures.counted in
    record {
      under_way = under_way-first c.args.segment.now c.args.request.now all _ _ c.args.seen.now n c.requires.none
          (taken.taken ∙ ap (λ (s : Standing). take n s.remaining) same) (taken.left_is ∙ ap (λ (s : Standing). drop n s.remaining) same)
          (λ none. sym (ap (λ (s : Standing). s.remaining) same) ∙ none_taken _ _ _ n taken none);
      within = taken.few;
      walked = Walked-trans _ _ _ c.count_alone.ensures.walked c.take-len.ensures.walked;
    }

pub see-requires-clause-within : goal.see-requires-clause-within
see-requires-clause-within c =
    under_way-all (λ doc. doc < length c.args.segment.now.documents) c.args.segment.now c.args.request.now c.args.cursor.now.remaining _ _ _
    c.loop-len.invariant.under_way c.requires.within

pub loop-len-smaller : goal.loop-len-smaller
loop-len-smaller c =
    let taken = c.take-len-in-loop-len.ensures.taken in
    let old = c.loop-len.cursor.remaining in
    let n = c.take-len-in-loop-len.result in
    let long : length c.take-len-in-loop-len.new.self.remaining ≡ length old - n = ap length taken.left_is ∙ length-drop n old in
    omega (arith, taken.within, long)

pub loop-len-preserved : goal.loop-len-preserved
loop-len-preserved c =
    let taken = c.take-len-in-loop-len.ensures.taken in
    record {
      under_way = under_way-next c.args.segment.now c.args.request.now c.args.cursor.now.remaining _ _ _ _ _ _ c.take-len-in-loop-len.result
          c.loop-len.invariant.under_way c.in_ok-see.ensures.ok taken.taken taken.left_is
          (none_taken _ _ _ c.take-len-in-loop-len.result taken);
      within = taken.few;
      walked = Walked-trans _ _ _ c.loop-len.invariant.walked c.take-len-in-loop-len.ensures.walked;
    }
