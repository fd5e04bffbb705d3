use Rattle.std.proofs.Common.{◌-◌, ◌++◌, length, take, drop, refl, sym, subst, arith}
use Rattle.fts_segment.specs.declared.term_groups.DocPosition.{DocPosition}
use Rattle.fts_positions.specs.PositionLists.{IsPositionList}
use Rattle.fts_positions.specs.PositionListLogs.{logged_position_lists}
use Rattle.fts_segment.specs.Positions.{position_lists_of}
use Rattle.fts_segment.proofs.PositionListsLemmas.{position_lists-step, ArePositionLists-step, ArePositionLists-end}
use Rattle.fts_segment.proofs.postings_writer.push_position_lists.Goals as goal

pub push_place-requires-clause-list : goal.push_place-requires-clause-list
push_place-requires-clause-list c =
    let d : DocPosition = record { doc = 0; position = 0 } in
    let rest = take (length c.args.places.now - 1) (drop 1 c.args.places.now) in
    (ArePositionLists-step c.loop-place.doc c.loop-place.list.items _ rest c.loop-place.place-index d _ c.loop-place-test.true refl refl
    c.loop-place.invariant.1).0

pub loop-place-preserved : goal.loop-place-preserved
loop-place-preserved c =
    let d : DocPosition = record { doc = 0; position = 0 } in
    let l = c.loop-place in
    let rest = take (length c.args.places.now - 1) (drop 1 c.args.places.now) in (
      position_lists-step (logged_position_lists c.args.lists.now ++ position_lists_of c.args.places.now) (logged_position_lists l.lists)
          (logged_position_lists c.push_place.new.lists) l.doc l.list.items c.push_place.new.list.items rest l.place-index d _ c.loop-place-test.true refl
          c.in_ok-push_place.ensures.positions c.in_ok-push_place.ensures.list l.invariant.0,
      (ArePositionLists-step l.doc l.list.items c.push_place.new.list.items rest l.place-index d _ c.loop-place-test.true refl c.in_ok-push_place.ensures.list
          l.invariant.1).1,
      c.in_ok-push_place.ensures.is,
    )

pub push-requires-2-clause-list : goal.push-requires-2-clause-list
push-requires-2-clause-list c =
    let rest = take (length c.args.places.now - 1) (drop 1 c.args.places.now) in
    subst IsPositionList (sym c.deref.ensures.value) (ArePositionLists-end c.loop-place.doc c.loop-place.list.items rest c.loop-place.place-index (omega arith)
    c.loop-place.invariant.1)
