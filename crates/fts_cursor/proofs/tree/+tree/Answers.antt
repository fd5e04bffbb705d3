-- The steps of the tree: each part of a contract from those of the parts.
use Rattle.std.proofs.Common.{◌≡◌, ℕ, [], ◌∷◌, Some, None, ◌+◌, ◌*◌, ◌<◌, ap, subst, sym, ◌∙◌, refl, arith, drop, length, get_or}
use Rattle.std.specs.List.{AllZip, filter, slice_get}
use Rattle.std.specs.List.Sorted.{IsStrictlyIncreasing}
use Rattle.fts_postings.proofs.SetLemmas.{filter-at_least, filter-step}
use Rattle.std.proofs.lemmas.List.{with_items_is}
use Rattle.fts_postings.specs.Sets.{FirstPasses, IsLeast, common, has, in_all, in_some, lacks, union}
use Rattle.fts_cursor.specs.Standing.{OpensOnce}
use Rattle.fts_cursor.specs.TreeValues.{LeavesList, Left, Narrowed, TreeContinues, TreeValue, heights, remains}
use Rattle.fts_cursor.specs.Terms.{AreTied, IsAlone}
use Rattle.fts_cursor.specs.Trees.{IsBuffered, IsNow, gathered, tree_value, value_of}
use Rattle.fts_sets.specs.Rows.{AreMarked, found}
use Rattle.std.specs.Vec.{with_items}
use Rattle.fts_cursor.specs.declared.tree.Node.TheVariants.{Or}
use Rattle.fts_cursor.proofs.GatherLemmas.{TreeContinues-parts, IsMarking-next, IsMarking-none, IsNow-none, IsNow-some, MarkedUpTo-next, MarkedUpTo-none}
use Rattle.fts_cursor.proofs.GatherLemmas.{fill_ahead, filled, filled_buffered, gathered_from, gathered_next, gathered_within, marking_done, marking_ended}
use Rattle.fts_cursor.proofs.GatherLemmas.{marking_left, marking_low, marking_past}
use Rattle.fts_postings.specs.Remaining.{at_least}
use Rattle.fts_cursor.proofs.PartsLemmas.{TreeContinues-beside, TreeContinues-same, TreeContinues-trans, Narrowed-same, Narrowed-seek, NarrowedUpTo-next}
use Rattle.fts_cursor.proofs.PartsLemmas.{UpTo-all, UpTo-exit, ahead-later, ahead-none, all_stand, height_ahead, union-left}
use Rattle.fts_postings.proofs.RemainingLemmas.{nothing_first}
use Rattle.fts_postings.proofs.UnionLemmas.{IsLeast-none, IsLeast-some}
use Rattle.fts_cursor.proofs.TreeLemmas.{IsNow-first, IsNow-met, Left-seek, LeftUpTo-next, Met-end, exclusion-here, exclusion-passed, intersection-continues}
use Rattle.fts_cursor.proofs.TreeLemmas.{filtered_now, intersection-fewer, intersection-here, intersection-none, intersection-sought, stays_from_first}
use Rattle.fts_cursor.proofs.AloneLemmas.{alone-continues, alone-follows, once_kept}
use Rattle.fts_cursor.proofs.TermsLemmas.{opened-continue, terms-continue}
use Rattle.fts_cursor.proofs.tree.+tree.Goals as goal
use Rattle.fts_cursor.proofs.tree.+tree.Goals.{buffered_union::seek_each-in-Some, buffered_union::seek_each-in_default}

pub Tree::seek-returns-else-doc-target-clause-remaining : goal.Tree::seek-returns-else-doc-target-clause-remaining
Tree::seek-returns-else-doc-target-clause-remaining t c =
    let same = ap (λ (s : TreeValue). s.remaining) (ap value_of (sym c.in-Cursor.is) ∙ c.self.view_is) in
    let first = sym c.in-Some.is ∙ c.self.invariant.first ∙ ap (λ s. slice_get s.remaining 0) c.self.view_is in
    let rises = subst (λ (s : TreeValue). IsStrictlyIncreasing s.remaining) c.self.view_is c.self.invariant.rises in
    same ∙ stays_from_first c.args.target c.in-Some.doc c.args.self.now.remaining rises first c.if-doc-target.false

pub Tree::seek-returns-in_default-clause-remaining : goal.Tree::seek-returns-in_default-clause-remaining
Tree::seek-returns-in_default-clause-remaining t c =
    let empty = ap (λ (s : TreeValue). s.remaining) (ap value_of c.in_default.is) in
    let none : c.args.self.now.remaining ≡ [] = ap (λ (s : TreeValue). s.remaining) (sym c.self.view_is) ∙ empty in
    empty ∙ sym (ap (at_least c.args.target) none)

pub Tree::seek-returns-in_default-doc-clause-remaining : goal.Tree::seek-returns-in_default-doc-clause-remaining
Tree::seek-returns-in_default-doc-clause-remaining t c =
    let same = ap (λ (s : TreeValue). s.remaining) (ap value_of (sym c.in-Cursor.is) ∙ c.self.view_is) in
    let none = nothing_first c.args.self.now.remaining (sym c.in_default-doc.is ∙ c.self.invariant.first ∙ ap (λ s. slice_get s.remaining 0) c.self.view_is) in
    same ∙ none ∙ sym (ap (at_least c.args.target) none)

pub intersection::align-returns-in-Some-bring-clause-met : goal.intersection::align-returns-in-Some-bring-clause-met
intersection::align-returns-in-Some-bring-clause-met t c =
    let first = sym c.in-Some.is ∙ c.doc.ensures.first in
    let items = with_items_is c.loop-doc.parts.others c.bring.new.others (omega arith) in
    let ahead = rw c.in-Some-bring.is at c.bring.ensures.next in
    rw items (intersection-here c.args.parts.now c.loop-doc.parts c.deref.result.now c.deref_mut.result.now c.bring.new.others c.in-Some.doc
    c.loop-doc.invariant.same c.deref.ensures c.deref_mut.ensures.value c.doc.ensures.rises first c.bring.ensures.each c.in-Some-bring.next ahead
    c.if-next-doc.true)

pub intersection::align-returns-in-Some-bring-clause-continues : goal.intersection::align-returns-in-Some-bring-clause-continues
intersection::align-returns-in-Some-bring-clause-continues t c =
    let first = sym c.in-Some.is ∙ c.doc.ensures.first in
    let items = with_items_is c.loop-doc.parts.others c.bring.new.others (omega arith) in
    rw items (intersection-continues c.args.parts.now c.loop-doc.parts c.deref.result.now c.deref_mut.result.now c.bring.new.others c.in-Some.doc
    c.loop-doc.invariant.same c.deref.ensures c.deref_mut.ensures.value c.doc.ensures.rises first c.bring.ensures.each c.loop-doc.invariant.continues
    c.loop-doc.parts.lead.value _ (TreeContinues-same c.loop-doc.parts.lead.value))

pub intersection::align-loop-doc-smaller : goal.intersection::align-loop-doc-smaller
intersection::align-loop-doc-smaller t c =
    let first = sym c.in-Some.is ∙ c.doc.ensures.first in
    let items = with_items_is c.loop-doc.parts.others c.bring.new.others (omega arith) in
    let ahead = rw c.in-Some-bring.is at c.bring.ensures.next in
    intersection-fewer c.args.parts.now c.loop-doc.parts c.deref.result.now c.deref_mut.result.now c.bring.new.others c.in-Some.doc c.loop-doc.invariant.same
    c.deref.ensures c.deref_mut.ensures.value c.doc.ensures.rises first c.bring.ensures.each c.in-Some-bring.next c.seek.new.self ahead
    (c.seek.ensures.remaining ∙ ap (λ s. at_least c.in-Some-bring.next s.remaining) c.deref_mut-in-Some-2.ensures.value) c.if-next-doc.false

pub intersection::align-loop-doc-preserved : goal.intersection::align-loop-doc-preserved
intersection::align-loop-doc-preserved t c =
    let first = sym c.in-Some.is ∙ c.doc.ensures.first in
    let items = with_items_is c.loop-doc.parts.others c.bring.new.others (omega arith) in
    let ahead = rw c.in-Some-bring.is at c.bring.ensures.next in
    let moved : TreeContinues c.loop-doc.parts.lead.value c.seek.new.self = rw c.deref_mut-in-Some-2.ensures.value at c.seek.ensures.continues in
    record {
      same = ap (λ os. common c.seek.new.self.remaining (remains os)) items ∙ intersection-sought c.args.parts.now c.loop-doc.parts c.deref.result.now
          c.deref_mut.result.now c.bring.new.others c.in-Some.doc c.loop-doc.invariant.same c.deref.ensures c.deref_mut.ensures.value c.doc.ensures.rises first
          c.bring.ensures.each c.in-Some-bring.next c.seek.new.self ahead (c.seek.ensures.remaining ∙ ap (λ s. at_least c.in-Some-bring.next s.remaining)
          c.deref_mut-in-Some-2.ensures.value);
      continues = rw items (intersection-continues c.args.parts.now c.loop-doc.parts c.deref.result.now c.deref_mut.result.now c.bring.new.others c.in-Some.doc
          c.loop-doc.invariant.same c.deref.ensures c.deref_mut.ensures.value c.doc.ensures.rises first c.bring.ensures.each c.loop-doc.invariant.continues
          c.seek.new.self _ moved);
    }

pub intersection::align-returns-in-None-clause-met : goal.intersection::align-returns-in-None-clause-met
intersection::align-returns-in-None-clause-met t c =
    let first = sym c.in-Some.is ∙ c.doc.ensures.first in
    let items = with_items_is c.loop-doc.parts.others c.bring.new.others (omega arith) in
    let none = rw c.in-None.is at c.bring.ensures.next in
    rw items (intersection-none c.args.parts.now c.loop-doc.parts c.deref.result.now c.deref_mut.result.now c.bring.new.others c.in-Some.doc
    c.loop-doc.invariant.same c.deref.ensures c.deref_mut.ensures.value c.doc.ensures.rises first c.bring.ensures.each none)

pub intersection::align-returns-in-None-clause-continues : goal.intersection::align-returns-in-None-clause-continues
intersection::align-returns-in-None-clause-continues t c =
    let first = sym c.in-Some.is ∙ c.doc.ensures.first in
    let items = with_items_is c.loop-doc.parts.others c.bring.new.others (omega arith) in
    rw items (intersection-continues c.args.parts.now c.loop-doc.parts c.deref.result.now c.deref_mut.result.now c.bring.new.others c.in-Some.doc
    c.loop-doc.invariant.same c.deref.ensures c.deref_mut.ensures.value c.doc.ensures.rises first c.bring.ensures.each c.loop-doc.invariant.continues
    c.loop-doc.parts.lead.value _ (TreeContinues-same c.loop-doc.parts.lead.value))

pub intersection::align-returns-clause-met : goal.intersection::align-returns-clause-met
intersection::align-returns-clause-met t c =
    Met-end _ c.loop-doc.parts.lead.value.remaining (in_all (remains c.loop-doc.parts.others.items)) c.loop-doc.invariant.same
    (sym c.in_default.is ∙ c.doc.ensures.first ∙ ap (λ s. slice_get s.remaining 0) c.deref.ensures)

pub intersection::bring-seek-requires : goal.intersection::bring-seek-requires
intersection::bring-seek-requires t c =
    let ahead = height_ahead (Narrowed c.args.doc) c.args.others.now c.loop-other.others c.loop-other.other-index c.other-item.result
    c.loop-other.invariant.up_to (omega (arith, c.loop-other.invariant.up_to.size)) in
    let less : 8 * (get_or c.loop-other.others c.loop-other.other-index c.other-item.result).height + 2 < t = omega (arith, ahead, c.decreases) in
    (less, tt)

pub intersection::bring-returns-in_err-next-clause-each : goal.intersection::bring-returns-in_err-next-clause-each
intersection::bring-returns-in_err-next-clause-each t c =
    UpTo-exit (Narrowed c.args.doc) c.args.others.now c.loop-other.others c.loop-other.other-index c.loop-other.invariant.up_to _ c.seek.new.self
    (omega (arith, c.loop-other.invariant.up_to.size)) (Narrowed-seek c.args.doc _ c.seek.new.self c.seek.ensures.remaining c.seek.ensures.continues)
    (Narrowed-same c.args.doc)

pub intersection::bring-returns-in_err-next-clause-next : goal.intersection::bring-returns-in_err-next-clause-next
intersection::bring-returns-in_err-next-clause-next t c =
    rw c.from_residual.ensures (ahead-none c.loop-other.others c.loop-other.other-index c.seek.new.self (omega (arith, c.loop-other.invariant.up_to.size))
    c.args.doc (sym c.in_err-next.was ∙ c.doc.ensures.first))

pub intersection::bring-returns-then-next-doc-clause-each : goal.intersection::bring-returns-then-next-doc-clause-each
intersection::bring-returns-then-next-doc-clause-each t c =
    UpTo-exit (Narrowed c.args.doc) c.args.others.now c.loop-other.others c.loop-other.other-index c.loop-other.invariant.up_to _ c.seek.new.self
    (omega (arith, c.loop-other.invariant.up_to.size)) (Narrowed-seek c.args.doc _ c.seek.new.self c.seek.ensures.remaining c.seek.ensures.continues)
    (Narrowed-same c.args.doc)

pub intersection::bring-returns-then-next-doc-clause-next : goal.intersection::bring-returns-then-next-doc-clause-next
intersection::bring-returns-then-next-doc-clause-next t c =
    ahead-later c.loop-other.others c.loop-other.other-index c.seek.new.self (omega (arith, c.loop-other.invariant.up_to.size)) c.args.doc c.in_ok-next.next _
    c.seek.ensures.remaining c.doc.ensures.rises (sym c.in_ok-next.was ∙ c.doc.ensures.first) c.if-next-doc.true

pub intersection::bring-loop-other-preserved : goal.intersection::bring-loop-other-preserved
intersection::bring-loop-other-preserved t c =
    let first = sym c.in_ok-next.was ∙ c.doc.ensures.first in
    NarrowedUpTo-next c.args.doc c.args.others.now c.loop-other.others c.loop-other.other-index c.loop-other.invariant _ c.seek.new.self
    (omega (arith, c.loop-other.invariant.up_to.size)) (Narrowed-seek c.args.doc _ c.seek.new.self c.seek.ensures.remaining c.seek.ensures.continues)
    (rw c.if-next-doc.false at first)

pub intersection::bring-returns-clause-each : goal.intersection::bring-returns-clause-each
intersection::bring-returns-clause-each t c =
    UpTo-all (Narrowed c.args.doc) c.args.others.now c.loop-other.others c.loop-other.other-index c.loop-other.invariant.up_to
    (omega (arith, c.loop-other.invariant.up_to.size))

pub intersection::bring-returns-clause-next : goal.intersection::bring-returns-clause-next
intersection::bring-returns-clause-next t c = (
  omega arith,
  λ _. all_stand c.args.doc c.args.others.now c.loop-other.others c.loop-other.other-index c.loop-other.invariant
      (omega (arith, c.loop-other.invariant.up_to.size)),
  λ d high low. absurd (omega (arith, high, low)),
)

pub buffered_union::seek_each-seek-requires : goal.buffered_union::seek_each-seek-requires
buffered_union::seek_each-seek-requires t c =
    let ahead = height_ahead (Left c.args.target) c.args.parts.now c.loop-part.parts c.loop-part.part-index c.part-item.result c.loop-part.invariant.up_to
    (omega (arith, c.loop-part.invariant.up_to.size)) in
    let less : 8 * (get_or c.loop-part.parts c.loop-part.part-index c.part-item.result).height + 2 < t = omega (arith, ahead, c.decreases) in
    (less, tt)

pub buffered_union::seek_each-loop-part-preserved : goal.buffered_union::seek_each-loop-part-preserved
buffered_union::seek_each-loop-part-preserved t c =
    let inside : c.loop-part.part-index < length c.loop-part.parts = omega (arith, c.loop-part.invariant.up_to.size) in
    LeftUpTo-next c.args.target c.args.parts.now c.loop-part.parts c.loop-part.least c.match-doc.least c.loop-part.part-index c.loop-part.invariant
    c.part-item.result c.seek.new.self inside (Left-seek c.args.target _ c.seek.new.self c.seek.ensures.remaining c.seek.ensures.continues)
    (elim c.match-doc.branch [
      | buffered_union::seek_each-in-Some w ↦ rw (w.least-is, w.lesser-least.ensures) (IsLeast-some c.loop-part.least _ c.seek.new.self.remaining _
          c.loop-part.invariant.least_is c.doc.ensures.rises (sym w.in-Some.is ∙ c.doc.ensures.first))
      | buffered_union::seek_each-in_default w ↦ rw w.least-is (IsLeast-none c.loop-part.least _ c.seek.new.self.remaining c.loop-part.invariant.least_is
          (sym w.in_default.is ∙ c.doc.ensures.first))
    ])

pub buffered_union::seek_each-returns-clause-each : goal.buffered_union::seek_each-returns-clause-each
buffered_union::seek_each-returns-clause-each t c =
    UpTo-all (Left c.args.target) c.args.parts.now c.loop-part.parts c.loop-part.part-index c.loop-part.invariant.up_to
    (omega (arith, c.loop-part.invariant.up_to.size))

pub exclusion::settle-returns-then-not-is_at-clause-met : goal.exclusion::settle-returns-then-not-is_at-clause-met
exclusion::settle-returns-then-not-is_at-clause-met t c =
    exclusion-here c.args.parts.now c.loop-doc.parts c.deref.result.now c.deref_mut.result.now c.seek.new.self c.in-Some.doc c.loop-doc.invariant.same
    c.deref.ensures c.deref_mut.ensures.value c.doc.ensures.rises (sym c.in-Some.is ∙ c.doc.ensures.first) c.seek.ensures.remaining c.doc-found.result
    (c.doc-found.ensures.first ∙ ap (λ s. slice_get s.remaining 0) c.deref-in-Some.ensures) c.if-not-is_at.ensures
    (subst (λ (s : TreeValue). IsStrictlyIncreasing s.remaining) c.deref-in-Some.ensures c.doc-found.ensures.rises)

pub exclusion::settle-loop-doc-preserved : goal.exclusion::settle-loop-doc-preserved
exclusion::settle-loop-doc-preserved t c =
    let there = sym c.if-not-is_at.ensures ∙ c.doc-found.ensures.first ∙ ap (λ s. slice_get s.remaining 0) c.deref-in-Some.ensures in
    let kept : TreeContinues c.loop-doc.parts.kept.value c.advance.new.self = record {
      continues = rw c.deref_mut-in-Some.ensures.value at c.advance.ensures.walked.continues;
      height = rw c.deref_mut-in-Some.ensures.value at c.advance.ensures.height;
    } in
    let dropped : TreeContinues c.loop-doc.parts.dropped.value c.seek.new.self = rw c.deref_mut.ensures.value at c.seek.ensures.continues in
    record {
      same = exclusion-passed c.args.parts.now c.loop-doc.parts c.deref.result.now c.deref_mut.result.now c.seek.new.self c.in-Some.doc
          c.loop-doc.invariant.same c.deref.ensures c.deref_mut.ensures.value c.doc.ensures.rises (sym c.in-Some.is ∙ c.doc.ensures.first)
          c.seek.ensures.remaining c.advance.new.self there (c.advance.ensures.remaining ∙ ap (λ s. drop 1 s.remaining) c.deref_mut-in-Some.ensures.value);
      continues = TreeContinues-trans _ _ _ c.loop-doc.invariant.continues (TreeContinues-beside c.loop-doc.parts.kept.value c.loop-doc.parts.dropped.value
          c.advance.new.self c.seek.new.self _ _ kept dropped);
    }

pub exclusion::settle-returns-clause-met : goal.exclusion::settle-returns-clause-met
exclusion::settle-returns-clause-met t c =
    Met-end _ c.loop-doc.parts.kept.value.remaining (lacks c.loop-doc.parts.dropped.value.remaining) c.loop-doc.invariant.same
    (sym c.in_default.is ∙ c.doc.ensures.first ∙ ap (λ s. slice_get s.remaining 0) c.deref.ensures)

pub skip-returns-in-Postings-clause-now : goal.skip-returns-in-Postings-clause-now
skip-returns-in-Postings-clause-now t c =
    let tied : IsAlone c.in-Postings.postings = rw c.in-Postings.is at c.requires.1.tied in
    IsNow-first c.doc-in-Postings.result _ _ c.doc-in-Postings.ensures.first c.doc-in-Postings.ensures.rises tt
    (alone-follows c.in-Postings.postings c.seek-in-Postings.new.self c.seek-in-Postings.ensures.follows tied)
    (rw c.in-Postings.is c.seek-in-Postings.ensures.remaining)

pub skip-returns-in-Postings-clause-continues : goal.skip-returns-in-Postings-clause-continues
skip-returns-in-Postings-clause-continues t c =
    rw c.in-Postings.is (alone-continues c.in-Postings.postings c.seek-in-Postings.new.self c.seek-in-Postings.ensures.follows)

pub skip-returns-in-Postings-clause-once : goal.skip-returns-in-Postings-clause-once
skip-returns-in-Postings-clause-once t c =
    rw c.in-Postings.is (λ documents is. omega (arith, c.seek-in-Postings.ensures.once, c.seek-in-Postings.ensures.follows.counted))

pub skip-returns-in-Terms-clause-now : goal.skip-returns-in-Terms-clause-now
skip-returns-in-Terms-clause-now t c =
    let tied : AreTied c.in-Terms.terms = rw c.in-Terms.is at c.requires.1.tied in
    IsNow-first c.doc-in-Terms.result _ _ c.doc-in-Terms.ensures.first c.doc-in-Terms.ensures.rises tt (terms-continue c.in-Terms.terms c.seek-in-Terms.new.self
    c.seek-in-Terms.ensures.follows tied).1 (rw c.in-Terms.is c.seek-in-Terms.ensures.remaining)

pub skip-returns-in-Terms-clause-continues : goal.skip-returns-in-Terms-clause-continues
skip-returns-in-Terms-clause-continues t c =
    let tied : AreTied c.in-Terms.terms = rw c.in-Terms.is at c.requires.1.tied in
    rw c.in-Terms.is (record {
      continues = opened-continue c.in-Terms.terms c.seek-in-Terms.new.self c.in-Terms.field-1 _ _ c.seek-in-Terms.ensures.follows tied;
      height =
          refl;
    })

pub skip-returns-in-And-clause-now : goal.skip-returns-in-And-clause-now
skip-returns-in-And-clause-now t c =
    let test = in_all (remains c.in-And.parts.others.items) in
    IsNow-met c.align.result _ _ _ (in_all (remains c.align.new.parts.others.items)) c.align.new.parts.lead.value.remaining c.align.ensures.met refl
    c.align.ensures.met.passes tt
    (ap (filter test) (c.seek-in-And.ensures.remaining ∙ ap (λ s. at_least c.args.target s.remaining) c.deref_mut.ensures.value)
    ∙ filter-at_least c.args.target test c.in-And.parts.lead.value.remaining
    ∙ ap (λ n. at_least c.args.target (tree_value n).remaining) (sym c.in-And.is))

pub skip-returns-in-Without-clause-now : goal.skip-returns-in-Without-clause-now
skip-returns-in-Without-clause-now t c =
    let test = lacks c.in-Without.parts.dropped.value.remaining in
    IsNow-met c.settle.result _ _ _ (lacks c.settle.new.parts.dropped.value.remaining) c.settle.new.parts.kept.value.remaining c.settle.ensures.met refl
    c.settle.ensures.met.passes tt
    (ap (filter test) (c.seek-in-Without.ensures.remaining ∙ ap (λ s. at_least c.args.target s.remaining) c.deref_mut-in-Without.ensures.value)
    ∙ filter-at_least c.args.target test c.in-Without.parts.kept.value.remaining
    ∙ ap (λ n. at_least c.args.target (tree_value n).remaining) (sym c.in-Without.is))

pub skip-returns-in-Filtered-clause-now : goal.skip-returns-in-Filtered-clause-now
skip-returns-in-Filtered-clause-now t c =
    let f = c.in-Filtered.filtered in
    let test = has f.set in
    filtered_now c.settle-in-Filtered.result _ _ c.settle-in-Filtered.ensures.settled
    (c.settle-in-Filtered.ensures.same
    ∙ ap (λ (s : TreeValue). filter test s.remaining) c.deref_mut-in-Filtered-2.ensures.value
    ∙ ap (filter test) (c.seek-in-Filtered.ensures.remaining ∙ ap (λ s. at_least c.args.target s.remaining) c.deref_mut-in-Filtered.ensures.value)
    ∙ filter-at_least c.args.target test f.tree.value.remaining
    ∙ ap (λ n. at_least c.args.target (tree_value n).remaining) (sym c.in-Filtered.is))

pub skip-returns-in-Filtered-clause-once : goal.skip-returns-in-Filtered-clause-once
skip-returns-in-Filtered-clause-once t c =
    let f = c.in-Filtered.filtered in
    let test = has f.set in
    let sought = c.seek-in-Filtered.new.self in
    let after = c.settle-in-Filtered.new.tree in
    let begins = c.deref_mut-in-Filtered.ensures.value in
    let parts : FirstPasses test f.tree.value.remaining = rw c.in-Filtered.is at c.requires.1.parts in
    let left : LeavesList f.tree.value = rw c.in-Filtered.is at c.requires.1.tied in
    let still : FirstPasses test sought.remaining → after ≡ sought =
    subst (λ (s : TreeValue). FirstPasses test s.remaining → after ≡ s) c.deref_mut-in-Filtered-2.ensures.value c.settle-in-Filtered.ensures.still in
    rw c.in-Filtered.is (once_kept c.args.target test f.tree.value sought after parts left
    (subst (λ (s : TreeValue). OpensOnce c.args.target s.standing sought.standing) begins c.seek-in-Filtered.ensures.once)
    (c.seek-in-Filtered.ensures.remaining ∙ ap (λ s. at_least c.args.target s.remaining) begins)
    (c.settle-in-Filtered.ensures.same ∙ ap (λ (s : TreeValue). filter test s.remaining) c.deref_mut-in-Filtered-2.ensures.value) still)

pub step-returns-in-Filtered-clause-now : goal.step-returns-in-Filtered-clause-now
step-returns-in-Filtered-clause-now t c =
    let f = c.in-Filtered.filtered in
    let test = has f.set in
    let parts : FirstPasses test f.tree.value.remaining = rw c.in-Filtered.is at c.requires.1.parts in
    filtered_now c.settle-in-Filtered.result _ _ c.settle-in-Filtered.ensures.settled
    (c.settle-in-Filtered.ensures.same
    ∙ ap (λ (s : TreeValue). filter test s.remaining) c.deref_mut-in-Filtered-2.ensures.value
    ∙ ap (filter test) (c.advance-in-Filtered.ensures.remaining ∙ ap (λ s. drop 1 s.remaining) c.deref_mut-in-Filtered.ensures.value)
    ∙ filter-step test f.tree.value.remaining parts
    ∙ ap (λ n. drop 1 (tree_value n).remaining) (sym c.in-Filtered.is))

pub step-returns-in-Postings-clause-now : goal.step-returns-in-Postings-clause-now
step-returns-in-Postings-clause-now t c =
    let tied : IsAlone c.in-Postings.postings = rw c.in-Postings.is at c.requires.1.tied in
    IsNow-first c.doc-in-Postings.result _ _ c.doc-in-Postings.ensures.first c.doc-in-Postings.ensures.rises tt
    (alone-follows c.in-Postings.postings c.advance-in-Postings.new.self c.advance-in-Postings.ensures.walks.follows tied)
    (rw c.in-Postings.is c.advance-in-Postings.ensures.remaining)

pub step-returns-in-Terms-clause-now : goal.step-returns-in-Terms-clause-now
step-returns-in-Terms-clause-now t c =
    let tied : AreTied c.in-Terms.terms = rw c.in-Terms.is at c.requires.1.tied in
    IsNow-first c.doc-in-Terms.result _ _ c.doc-in-Terms.ensures.first c.doc-in-Terms.ensures.rises tt
    (terms-continue c.in-Terms.terms c.advance-in-Terms.new.self c.advance-in-Terms.ensures.follows tied).1
    (rw c.in-Terms.is c.advance-in-Terms.ensures.remaining)

pub step-returns-in-Terms-clause-walked : goal.step-returns-in-Terms-clause-walked
step-returns-in-Terms-clause-walked t c =
    let tied : AreTied c.in-Terms.terms = rw c.in-Terms.is at c.requires.1.tied in
    rw c.in-Terms.is (record {
      continues = opened-continue c.in-Terms.terms c.advance-in-Terms.new.self c.in-Terms.field-1 _ _ c.advance-in-Terms.ensures.follows tied;
      whole =
          λ h. h;
    })

pub buffered_union::gather-returns-in-Some-clause-now : goal.buffered_union::gather-returns-in-Some-clause-now
buffered_union::gather-returns-in-Some-clause-now t c =
    let b = c.args.buffered.now in
    let w = c.first.new.self in
    let first : Some c.in-Some.doc ≡ slice_get (found w) 0 = sym c.in-Some.is ∙ c.first.ensures.first ∙ ap (λ xs. slice_get xs 0) (sym c.first.ensures.same) in
    let last = c.first.ensures.last ∙ c.seek.ensures.last in
    let beyond = c.requires in
    IsNow-some (record { parts = b.parts; window = w }) _
    (gathered_within c.args.target c.in-Some.doc b.window w (remains b.parts.items) beyond (c.first.ensures.same ∙ c.seek.ensures.marked) last first)
    c.in-Some.doc
    (record { first = first; beyond = λ d within. beyond d (omega (arith, within, last)) })

pub buffered_union::refill-returns-in_err-least-clause-now : goal.buffered_union::refill-returns-in_err-least-clause-now
buffered_union::refill-returns-in_err-least-clause-now t c =
    let b = c.args.buffered.now in
    let w = b.window in
    let after = c.seek_each.new.parts in
    let items = with_items_is b.parts after (omega arith) in
    let each : AllZip (Left c.args.target) b.parts.items after = rw c.deref_mut.ensures.value at c.seek_each.ensures.each in
    let none : None ≡ slice_get (found w) 0 = sym (ap (λ xs. slice_get xs 0) c.requires) in
    rw c.from_residual.ensures (IsNow-none (record { parts = with_items b.parts after; window = w }) _
    (ap (λ ps. union (found w ∷ remains ps)) items
    ∙ ap (λ xs. union (xs ∷ remains after)) c.requires
    ∙ union-left c.args.target b.parts.items after each)
    none
    (subst (λ ps. IsLeast None (remains ps)) (sym items) c.in_err-least.ensures.least))

pub buffered_union::refill-returns-in_err-least-clause-continues : goal.buffered_union::refill-returns-in_err-least-clause-continues
buffered_union::refill-returns-in_err-least-clause-continues t c =
    let b = c.args.buffered.now in
    let after = c.seek_each.new.parts in
    let items = with_items_is b.parts after (omega arith) in
    let each : AllZip (Left c.args.target) b.parts.items after = rw c.deref_mut.ensures.value at c.seek_each.ensures.each in
    rw items (TreeContinues-parts c.args.target b.parts.items after _ _ each)

pub buffered_union::refill-mark_each-requires : goal.buffered_union::refill-mark_each-requires
buffered_union::refill-mark_each-requires t c =
    let b = c.args.buffered.now in
    let after = c.seek_each.new.parts in
    let items = with_items_is b.parts after (omega arith) in
    let now : c.deref_mut-2.result.now ≡ after = c.deref_mut-2.ensures.value ∙ items in
    let each : AllZip (Left c.args.target) b.parts.items after = rw c.deref_mut.ensures.value at c.seek_each.ensures.each in
    let same = TreeContinues-parts c.args.target b.parts.items after [] [] each in
    let less : 8 * heights c.deref_mut-2.result.now + 6 < t = omega (arith, c.decreases, ap heights now, same.height) in
    (less, rw (now, c.begin.ensures.from) (fill_ahead after c.in_ok-least.least c.in_ok-least.ensures.least))

pub buffered_union::refill-returns-clause-now : goal.buffered_union::refill-returns-clause-now
buffered_union::refill-returns-clause-now t c =
    let b = c.args.buffered.now in
    let after = c.seek_each.new.parts in
    let last = c.mark_each.new.parts in
    let w = c.mark_each.new.window in
    let items = with_items_is b.parts after (omega arith) in
    let now : c.deref_mut-2.result.now ≡ after = c.deref_mut-2.ensures.value ∙ items in
    let all = with_items_is (with_items b.parts after) last (omega (arith, ap length now, ap length items)) in
    let each : AllZip (Left c.args.target) b.parts.items after = rw c.deref_mut.ensures.value at c.seek_each.ensures.each in
    let marks : AllZip (Left (c.begin.new.self.last + 1)) after last = rw now at c.mark_each.ensures.each in
    let marked : AreMarked (in_some (remains after)) c.begin.new.self w =
    subst (λ ps. AreMarked (in_some (remains ps)) c.begin.new.self w) now c.mark_each.ensures.marked in
    let least = c.in_ok-least.ensures.least in
    IsNow-some (record { parts = with_items (with_items b.parts after) last; window = w }) _
    (ap (λ ps. union (found w ∷ remains ps)) all
    ∙ filled after c.in_ok-least.least least last c.begin.new.self w c.begin.ensures.last c.begin.ensures.nothing c.mark_each.ensures.place.1 marks marked
    ∙ union-left c.args.target b.parts.items after each)
    c.in_ok-least.least
    (subst (λ ps. IsBuffered (Some c.in_ok-least.least) w (remains ps)) (sym all)
    (filled_buffered after c.in_ok-least.least least last c.begin.new.self w c.begin.ensures.last c.begin.ensures.nothing c.mark_each.ensures.place.1 marks
    marked))

pub buffered_union::refill-returns-clause-continues : goal.buffered_union::refill-returns-clause-continues
buffered_union::refill-returns-clause-continues t c =
    let b = c.args.buffered.now in
    let after = c.seek_each.new.parts in
    let last = c.mark_each.new.parts in
    let items = with_items_is b.parts after (omega arith) in
    let now : c.deref_mut-2.result.now ≡ after = c.deref_mut-2.ensures.value ∙ items in
    let all = with_items_is (with_items b.parts after) last (omega (arith, ap length now, ap length items)) in
    let each : AllZip (Left c.args.target) b.parts.items after = rw c.deref_mut.ensures.value at c.seek_each.ensures.each in
    let marks : AllZip (Left (c.begin.new.self.last + 1)) after last = rw now at c.mark_each.ensures.each in
    let sought = TreeContinues-parts c.args.target b.parts.items after (gathered b) [] each in
    rw all (TreeContinues-trans _ _ _ sought (TreeContinues-parts (c.begin.new.self.last + 1) after last [] _ marks))

pub buffered_union::mark_each-mark_part-requires : goal.buffered_union::mark_each-mark_part-requires
buffered_union::mark_each-mark_part-requires t c =
    let h = c.loop-part.invariant in
    let place = c.loop-part.part-index in
    let part = get_or c.loop-part.parts place c.part-item.result in
    let inside : place < length c.args.parts.now = omega (arith, h.up_to.size) in
    let deep = height_ahead (Left (c.args.window.now.last + 1)) c.args.parts.now c.loop-part.parts place c.part-item.result h.up_to
    (omega (arith, h.up_to.size)) in
    let less : 8 * part.height + 5 < t = omega (arith, deep, c.decreases) in
    (less, rw (h.up_to.rest place c.part-item.result (omega arith), h.place.0) (c.requires place c.part-item.result inside))

pub buffered_union::mark_each-returns-clause-each : goal.buffered_union::mark_each-returns-clause-each
buffered_union::mark_each-returns-clause-each t c = UpTo-all (Left (c.args.window.now.last + 1)) c.args.parts.now c.loop-part.parts c.loop-part.part-index
    c.loop-part.invariant.up_to (omega (arith, c.loop-part.invariant.up_to.size))

pub buffered_union::mark_each-loop-part-preserved : goal.buffered_union::mark_each-loop-part-preserved
buffered_union::mark_each-loop-part-preserved t c =
    let h = c.loop-part.invariant in
    let inside : c.loop-part.part-index < length c.loop-part.parts = omega (arith, h.up_to.size) in
    MarkedUpTo-next c.args.parts.now c.loop-part.parts c.args.window.now c.loop-part.window c.loop-part.part-index h c.part-item.result c.mark_part.new.part
    c.mark_part.new.window inside c.mark_part.ensures.left c.mark_part.ensures.place c.mark_part.ensures.marked

pub buffered_union::mark_each-loop-part-init : goal.buffered_union::mark_each-loop-part-init
buffered_union::mark_each-loop-part-init t c = MarkedUpTo-none c.args.parts.now c.args.window.now

pub buffered_union::mark_any-loop-doc-init : goal.buffered_union::mark_any-loop-doc-init
buffered_union::mark_any-loop-doc-init t c =
    record { continues = TreeContinues-same c.args.part.now; marking = IsMarking-none c.args.part.now.remaining c.args.window.now c.requires }

pub buffered_union::mark_any-mark-requires-clause-low : goal.buffered_union::mark_any-mark-requires-clause-low
buffered_union::mark_any-mark-requires-clause-low t c =
    marking_low c.args.part.now.remaining c.loop-doc.part.remaining c.args.window.now c.loop-doc.window c.loop-doc.invariant.marking c.doc.ensures.rises
    c.in-Some.doc (sym c.in-Some.is ∙ c.doc.ensures.first)

pub buffered_union::mark_any-loop-doc-preserved : goal.buffered_union::mark_any-loop-doc-preserved
buffered_union::mark_any-loop-doc-preserved t c =
    record {
      continues = TreeContinues-trans _ _ _ c.loop-doc.invariant.continues
          (record { continues = c.advance.ensures.walked.continues; height = c.advance.ensures.height });
      marking = IsMarking-next c.args.part.now.remaining c.loop-doc.part.remaining c.args.window.now c.loop-doc.window c.loop-doc.invariant.marking
          c.doc.ensures.rises c.in-Some.doc (sym c.in-Some.is ∙ c.doc.ensures.first) c.if-not-covers.ensures c.advance.new.self.remaining c.mark.new.self
          c.advance.ensures.remaining c.mark.ensures.place c.mark.ensures.marked;
    }

past : (t : ℕ) (c : goal.buffered_union::mark_any-Then-not-covers t) →
    c.loop-doc.part.remaining ≡ at_least (c.args.window.now.last + 1) c.loop-doc.part.remaining
past t c = marking_past c.args.part.now.remaining c.loop-doc.part.remaining c.args.window.now c.loop-doc.window c.loop-doc.invariant.marking c.doc.ensures.rises
    c.in-Some.doc (sym c.in-Some.is ∙ c.doc.ensures.first) c.if-not-covers.ensures

pub buffered_union::mark_any-returns-then-not-covers-clause-left : goal.buffered_union::mark_any-returns-then-not-covers-clause-left
buffered_union::mark_any-returns-then-not-covers-clause-left t c =
    record {
      remaining = marking_left c.args.part.now.remaining c.loop-doc.part.remaining c.args.window.now c.loop-doc.window c.loop-doc.invariant.marking
          c.doc.ensures.rises (past t c);
      continues = c.loop-doc.invariant.continues;
    }

pub buffered_union::mark_any-returns-then-not-covers-clause-marked : goal.buffered_union::mark_any-returns-then-not-covers-clause-marked
buffered_union::mark_any-returns-then-not-covers-clause-marked t c =
    marking_done c.args.part.now.remaining c.loop-doc.part.remaining c.args.window.now c.loop-doc.window c.loop-doc.invariant.marking c.doc.ensures.rises
    (past t c)

ended : (t : ℕ) (c : goal.buffered_union::mark_any-In_default t) → c.loop-doc.part.remaining ≡ at_least (c.args.window.now.last + 1) c.loop-doc.part.remaining
ended t c = marking_ended c.loop-doc.part.remaining (c.args.window.now.last + 1) (sym c.in_default.is ∙ c.doc.ensures.first)

pub buffered_union::mark_any-returns-clause-left : goal.buffered_union::mark_any-returns-clause-left
buffered_union::mark_any-returns-clause-left t c =
    record {
      remaining = marking_left c.args.part.now.remaining c.loop-doc.part.remaining c.args.window.now c.loop-doc.window c.loop-doc.invariant.marking
          c.doc.ensures.rises (ended t c);
      continues = c.loop-doc.invariant.continues;
    }

pub buffered_union::mark_any-returns-clause-marked : goal.buffered_union::mark_any-returns-clause-marked
buffered_union::mark_any-returns-clause-marked t c = marking_done c.args.part.now.remaining c.loop-doc.part.remaining c.args.window.now c.loop-doc.window
    c.loop-doc.invariant.marking c.doc.ensures.rises (ended t c)

pub skip-gather-requires : goal.skip-gather-requires
skip-gather-requires t c =
    let less : 8 * heights c.in-Or.buffered.parts.items + 8 < t = omega (arith, c.decreases, ap (λ n. (tree_value n).height) c.in-Or.is) in
    let parts : IsBuffered (Some c.requires.0) c.in-Or.buffered.window (remains c.in-Or.buffered.parts.items) = rw c.in-Or.is at c.requires.1.parts in
    (less, parts.beyond)

pub skip-returns-in-Or-clause-now : goal.skip-returns-in-Or-clause-now
skip-returns-in-Or-clause-now t c =
    subst (IsNow c.gather.result (Or c.gather.new.buffered)) (ap (λ n. at_least c.args.target (tree_value n).remaining) (sym c.in-Or.is)) c.gather.ensures.now

pub skip-returns-in-Or-clause-continues : goal.skip-returns-in-Or-clause-continues
skip-returns-in-Or-clause-continues t c = rw c.in-Or.is c.gather.ensures.continues

pub step-gather-requires : goal.step-gather-requires
step-gather-requires t c =
    let less : 8 * heights c.in-Or.buffered.parts.items + 8 < t = omega (arith, c.decreases, ap (λ n. (tree_value n).height) c.in-Or.is) in
    let parts : IsBuffered (Some c.requires.0) c.in-Or.buffered.window (remains c.in-Or.buffered.parts.items) = rw c.in-Or.is at c.requires.1.parts in
    (less, λ d within. parts.beyond d (omega (arith, within, c.advance-in-Or.ensures.last)))

pub step-returns-in-Or-clause-now : goal.step-returns-in-Or-clause-now
step-returns-in-Or-clause-now t c =
    let b = c.in-Or.buffered in
    let parts : IsBuffered (Some c.requires.0) b.window (remains b.parts.items) = rw c.in-Or.is at c.requires.1.parts in
    subst (IsNow c.gather.result (Or c.gather.new.buffered))
    (gathered_next c.requires.0 b.window c.advance-in-Or.new.self (remains b.parts.items) parts c.advance-in-Or.ensures.marked
    ∙ ap (λ n. drop 1 (tree_value n).remaining) (sym c.in-Or.is))
    c.gather.ensures.now

pub step-returns-in-Or-clause-walked : goal.step-returns-in-Or-clause-walked
step-returns-in-Or-clause-walked t c =
    let k = c.gather.ensures.continues in
    rw c.in-Or.is (record { continues = record { bound = k.bound; list = k.list; more = k.more }; whole = λ h. h })

pub buffered_union::gather-refill-requires : goal.buffered_union::gather-refill-requires
buffered_union::gather-refill-requires t c =
    let less : 8 * heights c.args.buffered.now.parts.items + 7 < t = omega arith in
    (less, c.first.ensures.same ∙ nothing_first (found c.seek.new.self) (sym c.in_default.is ∙ c.first.ensures.first))

pub buffered_union::gather-returns-clause-now : goal.buffered_union::gather-returns-clause-now
buffered_union::gather-returns-clause-now t c =
    let b = c.args.buffered.now in
    let none = nothing_first (found c.seek.new.self) (sym c.in_default.is ∙ c.first.ensures.first) in
    subst (IsNow c.refill.result (Or c.refill.new.buffered)) (gathered_from c.args.target b.window c.seek.new.self (remains b.parts.items) c.seek.ensures.marked
    none) c.refill.ensures.now

pub buffered_union::gather-returns-clause-continues : goal.buffered_union::gather-returns-clause-continues
buffered_union::gather-returns-clause-continues t c =
    let k = c.refill.ensures.continues in
    record { continues = record { bound = k.bound; list = k.list; more = k.more }; height = k.height }
