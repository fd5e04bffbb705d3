use Rattle.std.proofs.Common.{◌≡◌, ◌+◌, ◌-◌, ◌<◌, ◌≤◌, ◌^◌, ◌++◌, ℕ, List, [], All, length, take, drop, sum, min, ap, ap₂, sym, subst, ◌∙◌, arith, append-nil}
use Rattle.std.proofs.Common.{length-append}
use Rattle.std.specs.Prelude.{slice_range}
use Rattle.std.proofs.lemmas.List.{drop_at, take_all}
use Rattle.std.proofs.lemmas.List.Elements.{All-take, All-drop}
use Rattle.fts_positions.specs.PositionLists.{position_lists_at}
use Rattle.fts_positions.specs.PositionListLogs.{logged_position_lists}
use Rattle.fts_positions.specs.PositionCopiers.{lists_in}
use Rattle.fts_positions.proofs.PackedLemmas.{AreLogged-append, length-position_lists_at, position_lists_at-append, range-position_lists_at}
use Rattle.fts_positions.proofs.UnpackedLemmas.{length-range, range_min, range_none, sum-range, sum-within}
use Rattle.fts_positions.proofs.position_copier.PositionCopier.move_lists.Goals as goal
use Rattle.fts_positions.proofs.position_copier.PositionCopier.move_lists.Goals.{After-deref}

pub returns-then-start-end-clause-moved : goal.returns-then-start-end-clause-moved
returns-then-start-end-clause-moved c =
    let self = c.args.self.now in
    let lists = lists_in self in
    let none : slice_range lists c.args.start c.args.end ≡ [] =
    sym (range_min lists c.args.start c.args.end)
    ∙ range_none lists c.args.start (min c.args.end (length lists))
    (omega (arith, c.if-start-end.true, c.min-end.ensures, c.len.ensures, length-position_lists_at self.counts.numbers.now self.gaps.numbers.now)) in
    sym (ap (λ ls. logged_position_lists c.args.log.now ++ ls) none ∙ append-nil (logged_position_lists c.args.log.now))

-- the counts that were copied
some_of : (c : After-deref) → take (length c.deref.result.now - c.len-first.result) (drop c.len-first.result c.deref.result.now)
    ≡ slice_range c.seek.new.self.counts.numbers.now c.args.start c.min-end.result
some_of c =
    let old = c.args.log.now.counts in
    let some = slice_range c.seek.new.self.counts.numbers.now c.args.start c.min-end.result in
    let all : c.deref.result.now ≡ old.items ++ some = c.deref.ensures.value ∙ c.in_ok-copy.ensures.copied in
    let first : length old.items ≡ c.len-first.result = omega (arith, c.len-first.ensures, old.ok.0) in
    ap (λ xs. take (length c.deref.result.now - c.len-first.result) (drop c.len-first.result xs)) all
    ∙ ap (take (length c.deref.result.now - c.len-first.result)) (drop_at old.items some c.len-first.result first)
    ∙ take_all (length c.deref.result.now - c.len-first.result) some (omega (arith, ap length all, length-append old.items some, first))

-- the positions of these lists are within the gaps
within_of : (c : After-deref) → c.seek.new.self.start + sum (take (length c.deref.result.now - c.len-first.result) (drop c.len-first.result c.deref.result.now))
    ≤ length c.seek.new.self.gaps.numbers.now
within_of c =
    let s = c.seek.new.self in
    let counts = s.counts.numbers.now in
    omega (
      arith,
      ap sum (some_of c),
      sum-range counts c.args.start c.min-end.result (omega (arith, c.if-start-end.false)),
      s.begins,
      ap
          (λ n. sum (take n counts)) c.seek.ensures.there,
      sum-within counts c.min-end.result,
      s.whole,
    )

pub total-positions-requires : goal.total-positions-requires
total-positions-requires c =
    let a = (goal.at.total-positions-requires c).After-deref in omega (arith, within_of a, c.seek.new.self.gaps.few)

pub overflow_add-self : goal.overflow_add-self
overflow_add-self c =
    let a = (goal.at.overflow_add-self c).After-deref in omega (arith, c.total-positions.ensures, within_of a, c.seek.new.self.gaps.few)

pub copy-requires-2 : goal.copy-requires-2
copy-requires-2 c =
    let a = (goal.at.copy-requires-2 c).After-deref in omega (arith, c.total-positions.ensures, within_of a)

pub overflow_add-self-2 : goal.overflow_add-self-2
overflow_add-self-2 c =
    let a = (goal.at.overflow_add-self-2 c).After-deref in omega (arith, c.total-positions.ensures, within_of a, c.seek.new.self.gaps.few)

pub invariant_of-self-2 : goal.invariant_of-self-2
invariant_of-self-2 c =
    let a = (goal.at.invariant_of-self-2 c).After-deref in
    let s = c.seek.new.self in
    let counts = s.counts.numbers.now in
    let one = c.copy.ensures.same in
    let two = c.copy-2.ensures.same in
    let Fit : List (List ℕ) → Type 0 = All (λ list. All (λ p. p < 2 ^ 32) list) in
    record {
      whole = ap sum one ∙ s.whole ∙ sym (ap length two);
      fit = subst Fit (sym (ap₂ position_lists_at one two)) s.fit;
      within = omega (arith, ap length one, c.min-end.ensures, c.len.ensures, ap length c.seek.ensures.counts);
      begins = omega (
        arith,
        c.total-positions.ensures,
        ap sum (some_of a),
        sum-range counts c.args.start c.min-end.result (omega (arith, c.if-start-end.false)),
        s.begins,
        ap (λ n. sum (take n counts)) c.seek.ensures.there,
        ap (λ ns. sum (take c.min-end.result ns)) one,
      );
    }

-- the lists that are copied, if `many` is the number of their positions
moved_of : (c : After-deref) (many : ℕ) → many ≡ sum (take (length c.deref.result.now - c.len-first.result) (drop c.len-first.result c.deref.result.now)) →
    let s = c.seek.new.self in
    position_lists_at (slice_range s.counts.numbers.now c.args.start c.min-end.result) (slice_range s.gaps.numbers.now s.start (s.start + many))
    ≡ slice_range (position_lists_at s.counts.numbers.now s.gaps.numbers.now) c.args.start c.min-end.result
moved_of c many is =
    let s = c.seek.new.self in
    let counts = s.counts.numbers.now in
    range-position_lists_at c.args.start c.min-end.result s.start many counts s.gaps.numbers.now (s.begins ∙ ap (λ n. sum (take n counts)) c.seek.ensures.there)
    (is ∙ ap sum (some_of c))

pub returns-clause-is : goal.returns-clause-is
returns-clause-is c =
    let a = (goal.at.returns-clause-is c).After-deref in
    let s = c.seek.new.self in
    let log = c.args.log.now in
    let counts = s.counts.numbers.now in
    let gaps = s.gaps.numbers.now in
    let some = slice_range counts c.args.start c.min-end.result in
    let others = slice_range gaps s.start (s.start + c.total-positions.result) in
    let Each : List ℕ → Type 0 = λ list. All (λ p. p < 2 ^ 32) list in
    let within : s.start + c.total-positions.result ≤ length gaps = omega (arith, c.total-positions.ensures, within_of a) in
    let whole : sum some ≡ length others = sym (ap sum (some_of a)) ∙ sym c.total-positions.ensures
    ∙ sym (length-range gaps s.start c.total-positions.result within) in
    let few : length (log.gaps.items ++ others) < 2 ^ 64 = omega (arith, ap length c.in_ok-copy-2.ensures.copied, c.copy-2.new.out.ok.0) in
    let fit = subst (All Each) (sym (moved_of a c.total-positions.result c.total-positions.ensures))
    (All-take Each (c.min-end.result - c.args.start) (drop c.args.start (position_lists_at counts gaps))
    (All-drop Each c.args.start (position_lists_at counts gaps) s.fit)) in
    rw (c.in_ok-copy.ensures.copied, c.in_ok-copy-2.ensures.copied) (AreLogged-append log.counts.items some log.gaps.items others c.requires whole few fit)

pub returns-clause-moved : goal.returns-clause-moved
returns-clause-moved c =
    let s = c.seek.new.self in
    let log = c.args.log.now in
    let counts = s.counts.numbers.now in
    let gaps = s.gaps.numbers.now in
    let some = slice_range counts c.args.start c.min-end.result in
    let others = slice_range gaps s.start (s.start + c.total-positions.result) in
    let lists = position_lists_at counts gaps in
    let end : c.min-end.result ≡ min c.args.end (length lists) =
    omega (arith, c.min-end.ensures, c.len.ensures, ap length c.seek.ensures.counts, length-position_lists_at counts gaps) in
    ap₂ position_lists_at c.in_ok-copy.ensures.copied c.in_ok-copy-2.ensures.copied
    ∙ position_lists_at-append log.counts.items some log.gaps.items others c.requires.whole
    ∙ ap (λ ls. logged_position_lists log ++ ls)
    (moved_of (goal.at.returns-clause-moved c).After-deref c.total-positions.result c.total-positions.ensures ∙ ap (slice_range lists c.args.start) end
    ∙ range_min lists c.args.start c.args.end
    ∙ ap (λ ls. slice_range ls c.args.start c.args.end) (ap₂ position_lists_at c.seek.ensures.counts c.seek.ensures.gaps))
