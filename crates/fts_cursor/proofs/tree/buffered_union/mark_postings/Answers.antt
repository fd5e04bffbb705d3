-- The list is marked a block at a time, up to the window's end.
use Rattle.std.proofs.Common.{◌≡◌, ◌+◌, length, ap, sym, ◌∙◌, arith}
use Rattle.std.proofs.lemmas.List.{length-drop}
use Rattle.std.proofs.lemmas.Option.{get_or_from_slice_get, slice_get_within}
use Rattle.fts_postings.specs.Posting.{remaining_of}
use Rattle.fts_postings.specs.Remaining.{at_least}
use Rattle.fts_cursor.proofs.GatherLemmas.{IsMarking-none, IsMarking-stretch, marking_done, marking_ended, marking_left, marking_past, marking_up}
use Rattle.fts_postings.proofs.PostingLemmas.{Follows-same, Follows-trans}
use Rattle.fts_cursor.proofs.tree.buffered_union.mark_postings.Goals as goal

pub loop-doc-init : goal.loop-doc-init
loop-doc-init c = record {
  follows = Follows-same c.args.postings.now;
  marking = IsMarking-none (remaining_of c.args.postings.now) c.args.window.now c.requires;
}

pub mark_open-requires-clause-some : goal.mark_open-requires-clause-some
mark_open-requires-clause-some c = slice_get_within (remaining_of c.loop-doc.postings) 0 c.in-Some.doc (sym (sym c.in-Some.is ∙ c.doc.ensures.first))

pub mark_open-requires-clause-low : goal.mark_open-requires-clause-low
mark_open-requires-clause-low c = marking_up (remaining_of c.args.postings.now) (remaining_of c.loop-doc.postings) c.args.window.now c.loop-doc.window
    c.loop-doc.invariant.marking c.doc.ensures.rises

pub mark_open-requires-clause-place : goal.mark_open-requires-clause-place
mark_open-requires-clause-place c =
    omega (
      arith,
      get_or_from_slice_get (remaining_of c.loop-doc.postings) 0 c.in-Some.doc 0 (sym (sym c.in-Some.is ∙ c.doc.ensures.first)),
      c.if-not-covers.ensures,
    )

pub loop-doc-smaller : goal.loop-doc-smaller
loop-doc-smaller c =
    let e = c.mark_open.ensures in
    omega (arith, ap length e.remaining, length-drop c.mark_open.result (remaining_of c.loop-doc.postings), e.some, e.within)

pub loop-doc-preserved : goal.loop-doc-preserved
loop-doc-preserved c =
    let e = c.mark_open.ensures in
    record {
      follows = Follows-trans _ _ _ c.loop-doc.invariant.follows e.walks.follows;
      marking = IsMarking-stretch (remaining_of c.args.postings.now) (remaining_of c.loop-doc.postings) c.args.window.now c.loop-doc.window
          c.loop-doc.invariant.marking c.doc.ensures.rises c.mark_open.result (remaining_of c.mark_open.new.self) c.mark_open.new.window e.remaining e.place
          e.places e.marked;
    }

past : (c : goal.Then-not-covers) → remaining_of c.loop-doc.postings ≡ at_least (c.args.window.now.last + 1) (remaining_of c.loop-doc.postings)
past c = marking_past (remaining_of c.args.postings.now) (remaining_of c.loop-doc.postings) c.args.window.now c.loop-doc.window c.loop-doc.invariant.marking
    c.doc.ensures.rises c.in-Some.doc (sym c.in-Some.is ∙ c.doc.ensures.first) c.if-not-covers.ensures

pub returns-then-not-covers-clause-remaining : goal.returns-then-not-covers-clause-remaining
returns-then-not-covers-clause-remaining c = marking_left (remaining_of c.args.postings.now) (remaining_of c.loop-doc.postings) c.args.window.now
    c.loop-doc.window c.loop-doc.invariant.marking c.doc.ensures.rises (past c)

pub returns-then-not-covers-clause-marked : goal.returns-then-not-covers-clause-marked
returns-then-not-covers-clause-marked c = marking_done (remaining_of c.args.postings.now) (remaining_of c.loop-doc.postings) c.args.window.now c.loop-doc.window
    c.loop-doc.invariant.marking c.doc.ensures.rises (past c)

ended : (c : goal.In_default) → remaining_of c.loop-doc.postings ≡ at_least (c.args.window.now.last + 1) (remaining_of c.loop-doc.postings)
ended c = marking_ended (remaining_of c.loop-doc.postings) (c.args.window.now.last + 1) (sym c.in_default.is ∙ c.doc.ensures.first)

pub returns-clause-remaining : goal.returns-clause-remaining
returns-clause-remaining c = marking_left (remaining_of c.args.postings.now) (remaining_of c.loop-doc.postings) c.args.window.now c.loop-doc.window
    c.loop-doc.invariant.marking c.doc.ensures.rises (ended c)

pub returns-clause-marked : goal.returns-clause-marked
returns-clause-marked c = marking_done (remaining_of c.args.postings.now) (remaining_of c.loop-doc.postings) c.args.window.now c.loop-doc.window
    c.loop-doc.invariant.marking c.doc.ensures.rises (ended c)
