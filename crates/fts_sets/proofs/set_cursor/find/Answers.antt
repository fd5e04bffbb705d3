-- A window has its first document, or has none.
use Rattle.std.proofs.Common.{◌≡◌, None, sym, ◌∙◌, arith}
use Rattle.std.specs.List.{slice_get}
use Rattle.fts_sets.proofs.CursorLemmas.{end_found, none_found, some_found}
use Rattle.fts_sets.proofs.set_cursor.find.Goals as goal

pub returns-in-Some : goal.returns-in-Some
returns-in-Some c =
    let d = c.docs-docs.ensures in
    some_found c.args.set.now c.loop-at.at c.cover.new.window c.seek.new.self c.first.new.self d.rises c.cover.ensures.holds c.seek.ensures.last
    c.seek.ensures.marked c.first.ensures.last c.first.ensures.same c.in-Some.doc (sym c.in-Some.is ∙ c.first.ensures.first) c.docs-docs.result c.args.from
    d.few d.past (omega arith) c.loop-at.invariant.same

pub loop-at-preserved : goal.loop-at-preserved
loop-at-preserved c =
    let w = c.first.new.self in
    let none : None ≡ slice_get _ 0 = sym c.in_default.is ∙ c.first.ensures.first in
    record {
      same = none_found c.args.set.now c.loop-at.at c.cover.new.window c.seek.new.self w c.docs-docs.ensures.rises c.cover.ensures.holds c.seek.ensures.last
          c.seek.ensures.marked c.first.ensures.last c.first.ensures.same none c.cover.ensures.within ∙ c.loop-at.invariant.same;
      near = omega arith;
      holds = λ d high low. absurd (omega (arith, high, low));
    }

pub returns : goal.returns
returns c =
    let d = c.docs-docs.ensures in
    end_found c.args.set.now c.loop-at.at c.args.from c.docs-docs.result c.loop-at.window d.rises d.few d.past c.loop-at-test.false c.loop-at.invariant.same
