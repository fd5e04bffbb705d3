-- What the window has is taken, or numbers of all.
use Rattle.std.proofs.Common.{◌+◌, ◌-◌, get_or, refl, sym, subst, ◌∙◌, arith}
use Rattle.fts_postings.specs.Remaining.{at_least}
use Rattle.fts_postings.specs.Takes.{Takes}
use Rattle.fts_sets.proofs.CursorLemmas.{below_end, holds_next, some_window, takes_nothing, takes_numbers, takes_window}
use Rattle.fts_sets.proofs.SetLemmas.{nothing_left}
use Rattle.fts_sets.proofs.set_cursor.SetCursorDocSet.take.Goals as goal

pub returns-then-self-ge-END : goal.returns-then-self-ge-END
returns-then-self-ge-END c =
    let s = c.self.inside in
    record {
      taken = takes_nothing c.args.self.now c.args.out.now (sym c.self.view_is
          ∙ nothing_left s.set s.at c.self.invariant.rises (λ d far. c.self.invariant.few d (omega (arith, far, c.if-self-ge-END.true))));
    }

pub write_numbers-count-requires-clause-order : goal.write_numbers-count-requires-clause-order
write_numbers-count-requires-clause-order c =
    let s = c.self.inside in
    below_end s.set s.at c.in-Some.end c.in-Some.ensures.0 (c.self.invariant.stands c.if-self-ge-END.false)

pub returns-in-Some : goal.returns-in-Some
returns-in-Some c =
    let s = c.self.inside in
    let w = c.write_numbers-count in
    let inside = below_end s.set s.at c.in-Some.end c.in-Some.ensures.0 (c.self.invariant.stands c.if-self-ge-END.false) in
    let all = takes_numbers s.set w.new.out s.at c.in-Some.end w.result c.in-Some.ensures.0 inside w.ensures.count w.ensures.written in
    let left = subst (λ xs. Takes (at_least s.at s.set) xs w.new.out w.result) (sym c.find_at-self-inside.ensures.same) all in
    record { taken = subst (λ xs. Takes xs (at_least c.find_at-self-inside.result s.set) w.new.out w.result) c.self.view_is left }

pub overflow_sub-count : goal.overflow_sub-count
overflow_sub-count c =
    let s = c.self.inside in
    let t = c.take-count in
    omega (
      arith,
      some_window s.set t.new.out s.at t.result (get_or t.new.out (t.result - 1) 0 + 1) c.cover.new.window c.seek.new.self t.new.self
          c.self.invariant.rises (c.self.invariant.stands c.if-self-ge-END.false) c.cover.ensures.holds c.cover.ensures.within c.seek.ensures.last c.seek.ensures.marked t.ensures.last t.ensures.taken refl,
    )

pub find-self-inside-requires : goal.find-self-inside-requires
find-self-inside-requires c =
    let s = c.self.inside in
    let t = c.take-count in
    holds_next s.set t.new.out s.at t.result (get_or t.new.out (t.result - 1) 0 + 1) c.cover.new.window c.seek.new.self t.new.self
    c.self.invariant.rises (c.self.invariant.stands c.if-self-ge-END.false) c.cover.ensures.holds c.cover.ensures.within c.seek.ensures.last c.seek.ensures.marked t.ensures.last t.ensures.taken refl

pub returns : goal.returns
returns c =
    let s = c.self.inside in
    let t = c.take-count in
    let next = get_or t.new.out (t.result - 1) 0 + 1 in
    let all = takes_window s.set t.new.out s.at t.result next c.cover.new.window c.seek.new.self t.new.self
    c.self.invariant.rises (c.self.invariant.stands c.if-self-ge-END.false) c.cover.ensures.holds c.cover.ensures.within c.seek.ensures.last c.seek.ensures.marked t.ensures.last t.ensures.taken refl in
    let left = subst (λ xs. Takes (at_least s.at s.set) xs t.new.out t.result) (sym c.find-self-inside.ensures.same) all in
    record { taken = subst (λ xs. Takes xs (at_least c.find-self-inside.result s.set) t.new.out t.result) c.self.view_is left }
