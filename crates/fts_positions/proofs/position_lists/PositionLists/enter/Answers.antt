-- The sums of the counts of a block are the bounds of its lists.
use Rattle.std.proofs.Common.{length, ap, arith}
use Rattle.std.proofs.lemmas.List.{get_or_read}
use Rattle.fts_positions.proofs.PackedLemmas.{IsUnpacked, unpacked, bounds_are, length-position_lists_at}
use Rattle.fts_positions.proofs.position_lists.PositionLists.enter.Goals as goal
use Rattle.fts_positions.proofs.position_lists.PositionLists.enter.Goals.{After-open-many}

pub open-many-requires : goal.open-many-requires
open-many-requires c = let s = c.self.inside in
    omega (arith, c.requires.within, length-position_lists_at s.counts s.gaps, ap length c.self.view_is)

-- the block is unpacked
here : (c : After-open-many) → IsUnpacked c.self.inside.counts c.self.inside.starts.items c.args.block c.open-many.result c.open-many.new.out
here c = let s = c.self.inside in
    unpacked s.counts s.starts.items s.gaps c.args.block c.open-many.result c.open-many.new.out c.self.invariant
    (omega (arith, c.requires.within, length-position_lists_at s.counts s.gaps, ap length c.self.view_is)) c.open-many.ensures.count c.open-many.ensures.numbers

pub index-requires : goal.index-requires
index-requires c = omega (arith, (here (goal.at.index-requires c).After-open-many).near, c.self.inside.starts.ok.0)

pub add_up-requires-clause-fits : goal.add_up-requires-clause-fits
add_up-requires-clause-fits c =
    let s = c.self.inside in
    let h = here (goal.at.add_up-requires-clause-fits c).After-open-many in
    omega (arith, get_or_read s.starts.items c.args.block c.index.result.now h.near c.index.ensures 0, h.sum_fits)

pub returns-clause-bounds : goal.returns-clause-bounds
returns-clause-bounds c =
    let s = c.self.inside in
    let h = here (goal.at.returns-clause-bounds c).After-open-many in
    let first = get_or_read s.starts.items c.args.block c.index.result.now h.near c.index.ensures 0 in
    bounds_are s.counts s.starts.items s.gaps c.args.self.now c.args.block c.open-many.result c.open-many.new.out c.add_up.new.out c.self.invariant
    c.self.view_is h
    (rw first at c.add_up.ensures)
