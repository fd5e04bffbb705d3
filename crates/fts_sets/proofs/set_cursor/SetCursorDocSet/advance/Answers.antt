-- The document where it is is passed.
use Rattle.std.proofs.Common.{◌+◌, drop, sym, ap, ◌∙◌, arith}
use Rattle.fts_sets.proofs.CursorLemmas.{IsSetCursor-found, stepped}
use Rattle.fts_sets.proofs.SetLemmas.{at_least-at_least_of}
use Rattle.fts_sets.proofs.set_cursor.SetCursorDocSet.advance.Goals as goal

pub find-self-inside-requires : goal.find-self-inside-requires
find-self-inside-requires c d high low = c.self.invariant.holds d (omega (arith, high)) low

pub invariant_of-self : goal.invariant_of-self
invariant_of-self c =
    let s = c.self.inside in
    IsSetCursor-found s.set (s.at + 1) c.find-self-inside.result _ c.find-self-inside.new.window c.find-self-inside.ensures tt

pub returns : goal.returns
returns c =
    let s = c.self.inside in
    record {
      remaining = c.find-self-inside.ensures.same ∙ sym (at_least-at_least_of s.set s.at (s.at + 1) (omega arith))
          ∙ stepped s.set s.at s.window c.self.invariant.found_is ∙ ap (drop 1) c.self.view_is;
    }
