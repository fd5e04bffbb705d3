-- What is left begins at the place of the target.
use Rattle.std.proofs.Common.{◌≡◌, [], ap, sym, ◌∙◌, arith}
use Rattle.std.proofs.lemmas.List.{drop_all}
use Rattle.fts_postings.specs.Remaining.{at_least}
use Rattle.fts_cursor.proofs.ListedLemmas.{left_from}
use Rattle.fts_cursor.proofs.list_union.ListedCursorDocSet.seek.Goals as goal

pub returns-then-self-len : goal.returns-then-self-len
returns-then-self-len c =
    let s = c.self.inside in
    let none : c.args.self.now ≡ [] = sym c.self.view_is ∙ drop_all s.at s.documents.items (omega (arith, c.len.ensures, c.if-self-len.true)) in
    record { remaining = none ∙ sym (ap (at_least c.args.target) none) }

pub returns : goal.returns
returns c =
    let s = c.self.inside in
    let is = rw c.deref.ensures.value at c.place_of-self-inside.ensures in
    record {
      remaining = left_from s.documents.items s.at c.len-2.result c.args.target c.place_of-self-inside.result c.self.invariant
          (omega (arith, c.len-2.ensures)) (omega (arith, c.len.ensures, c.if-self-len.false)) is ∙ ap (at_least c.args.target) c.self.view_is;
    }
