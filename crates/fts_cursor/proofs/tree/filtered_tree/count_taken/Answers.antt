-- Each turn counts those of what is taken that are of the set.
use Rattle.std.proofs.Common.{◌≡◌, [], length, take, sym, ap, subst, ◌∙◌, arith}
use Rattle.std.specs.List.{filter}
use Rattle.std.proofs.lemmas.List.{length-drop}
use Rattle.std.proofs.lemmas.Option.{slice_get_within}
use Rattle.fts_postings.proofs.RemainingLemmas.{nothing_first}
use Rattle.fts_postings.specs.Sets.{FirstPasses, has}
use Rattle.fts_cursor.proofs.LiveLemmas.{live_split}
use Rattle.fts_cursor.proofs.TreeLemmas.{Walked-trans}
use Rattle.fts_cursor.proofs.tree.filtered_tree.count_taken.Goals as goal

pub loop-first-preserved : goal.loop-first-preserved
loop-first-preserved c =
    let test = has c.args.set.now in
    let before = c.loop-first.tree.remaining in
    let n = c.take-taken.result in
    let t = c.take-taken.ensures.taken in
    let here : c.count_in-kept.result ≡ length (filter test (take n before)) = c.count_in-kept.ensures ∙ ap (λ xs. length (filter test xs)) t.taken in
    record {
      sum = omega (
        arith,
        c.loop-first.invariant.sum,
        here,
        live_split test n before,
        ap (λ xs. length (filter test xs)) t.left_is,
        c.saturating_add-count.ensures,
      );
      fits = omega (arith, c.saturating_add-count.ensures);
      walked = Walked-trans _ _ _ c.loop-first.invariant.walked c.take-taken.ensures.walked;
    }

pub loop-first-smaller : goal.loop-first-smaller
loop-first-smaller c =
    let before = c.loop-first.tree.remaining in
    let t = c.take-taken.ensures.taken in
    let some = slice_get_within before 0 c.in-Some._first (sym (sym c.in-Some.is ∙ c.doc.ensures.first)) in
    omega (arith, ap length t.left_is, length-drop c.take-taken.result before, t.some some, some)

-- nothing remains
none_left : (c : goal.In_default) → c.loop-first.tree.remaining ≡ []
none_left c = nothing_first c.loop-first.tree.remaining (sym c.in_default.is ∙ c.doc.ensures.first)

pub returns-clause-count : goal.returns-clause-count
returns-clause-count c =
    omega (arith, c.loop-first.invariant.sum, ap (λ xs. length (filter (has c.args.set.now) xs)) (none_left c), c.loop-first.invariant.fits)

pub returns-clause-ended : goal.returns-clause-ended
returns-clause-ended c = record {
  first = sym c.in_default.is ∙ c.doc.ensures.first;
  passes = subst (FirstPasses (has c.args.set.now)) (sym (none_left c)) tt;
  rises = c.doc.ensures.rises;
  left = c.doc.ensures.left;
}
