use Rattle.std.proofs.Common.{length, sym, arith}
use Rattle.std.proofs.lemmas.List.{get_or_past}
use Rattle.fts_base.proofs.PiecesLemmas.{length-pieces, get_or-pieces, end_at}
use Rattle.fts_base.proofs.pieces.piece.Goals as goal

pub returns-then-number-ends : goal.returns-then-number-ends
returns-then-number-ends g c =
    sym (get_or_past _ c.args.number _ (omega (arith, length-pieces 0 c.args.buffer.now c.args.ends.now, c.if-number-ends.true)))

pub offset_bounds-buffer-start : goal.offset_bounds-buffer-start
offset_bounds-buffer-start g c =
    let at = end_at 0 c.args.ends.now (length c.args.buffer.now) c.args.number c.requires c.if-number-ends.false in
    omega (arith, at.0, at.1, c.start_of-start.ensures)

pub slice_bounds-result-count : goal.slice_bounds-result-count
slice_bounds-result-count g c =
    omega (arith, (end_at 0 c.args.ends.now (length c.args.buffer.now) c.args.number c.requires c.if-number-ends.false).0, c.start_of-start.ensures)

pub slice_bounds-result-start : goal.slice_bounds-result-start
slice_bounds-result-start g c =
    omega (arith, (end_at 0 c.args.ends.now (length c.args.buffer.now) c.args.number c.requires c.if-number-ends.false).0, c.start_of-start.ensures)

pub slice_bounds-result-end-2 : goal.slice_bounds-result-end-2
slice_bounds-result-end-2 g c = (end_at 0 c.args.ends.now (length c.args.buffer.now) c.args.number c.requires c.if-number-ends.false).1

pub returns : goal.returns
returns g c =
    rw c.start_of-start.ensures (sym (get_or-pieces 0 c.args.buffer.now c.args.ends.now c.args.number c.if-number-ends.false))
