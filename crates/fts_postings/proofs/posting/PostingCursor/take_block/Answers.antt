-- What is copied is the front of what remains.
use Rattle.std.proofs.Common.{[], suc, get_or, drop, ap, sym, subst, ◌∙◌, arith}
use Rattle.std.specs.List.{flat_map}
use Rattle.fts_postings.specs.Takes.{IsStretch}
use Rattle.fts_postings.specs.Posting.{Posting, remaining_of}
use Rattle.fts_postings.proofs.TakesLemmas.{no_stretch, stretch_copied}
use Rattle.fts_postings.proofs.PostingLemmas.{stands_within}
use Rattle.fts_postings.proofs.posting.PostingCursor.take_block.Goals as goal

pub returns-then-self-clause-taken : goal.returns-then-self-clause-taken
returns-then-self-clause-taken g c =
    let fields = c.self.inside in
    let p : Posting = record {
      blocks = g.B.Blocks.contents fields.source;
      block = fields.block;
      at = fields.at;
      opened = fields.opened;
      count =
          g.B.Blocks.openings fields.source;
    } in
    rw (← c.self.view_is) (no_stretch (remaining_of p) c.args.out.now c.args.filled
    (λ some. omega (arith, c.self.invariant.stands (stands_within p some), c.if-self.true)) (omega arith))

pub returns-clause-taken : goal.returns-clause-taken
returns-clause-taken g c =
    let s = c.self.inside in
    let blocks = g.B.Blocks.contents s.source in
    let is = ap remaining_of c.self.view_is in
    subst (λ left. IsStretch left (remaining_of c.leave.new.self) c.args.out.now c.copy_part.new.out c.args.filled c.min-count.result) is
    (stretch_copied s.numbers (get_or blocks s.block []) (flat_map (λ block. block) (drop (suc s.block) blocks)) (remaining_of c.leave.new.self) c.args.out.now
    c.copy_part.new.out s.at s.len c.args.filled c.min-count.result
    c.self.invariant.numbers_are c.self.invariant.size c.if-self.false c.requires c.min-count.ensures c.copy_part.ensures
    (c.leave.ensures.remaining ∙ ap (drop c.min-count.result) (sym is)))
