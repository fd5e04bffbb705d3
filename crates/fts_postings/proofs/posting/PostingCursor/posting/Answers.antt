-- The place in the block, after the blocks before it.
use Rattle.std.proofs.Common.{◌<◌, ◌≤◌, [], length, subst, sym, arith}
use Rattle.fts_postings.specs.Posting.{Posting, remaining_of}
use Rattle.fts_postings.proofs.PostingLemmas.{posting_place, stands_within}
use Rattle.fts_postings.proofs.posting.PostingCursor.posting.Goals as goal

pub overflow_add-result : goal.overflow_add-result
overflow_add-result g c =
    let fields = c.self.inside in
    let p : Posting = record {
      blocks = g.B.Blocks.contents fields.source;
      block = fields.block;
      at = fields.at;
      opened = fields.opened;
      count =
          g.B.Blocks.openings fields.source;
    } in
    let some : 0 < length (remaining_of p) = subst (λ (q : Posting). 0 < length (remaining_of q)) (sym c.self.view_is) c.requires.stands in
    let few : length p.blocks ≤ 4294967296 = subst (λ (q : Posting). length q.blocks ≤ 4294967296) (sym c.self.view_is) c.requires.few in
    let inside = stands_within p some in
    omega (arith, inside, few, c.self.invariant.stands inside, c.self.invariant.size, (g.met.B.Blocks.sized fields.source fields.block [] inside).1)

pub returns : goal.returns
returns g c =
    let fields = c.self.inside in
    let p : Posting = record {
      blocks = g.B.Blocks.contents fields.source;
      block = fields.block;
      at = fields.at;
      opened = fields.opened;
      count =
          g.B.Blocks.openings fields.source;
    } in
    let some : 0 < length (remaining_of p) = subst (λ (q : Posting). 0 < length (remaining_of q)) (sym c.self.view_is) c.requires.stands in
    rw (← c.self.view_is) (λ documents is. posting_place p documents some (omega (arith, c.self.invariant.stands (stands_within p some), c.self.invariant.size))
    is)
