-- The lowest mark is the next document.
use Rattle.std.proofs.Common.{◌+◌, ◌^◌, ◌<◌, ◌++◌, take, length, ap, sym, ◌∙◌, arith}
use Rattle.std.proofs.Math.Facts.{Fits-lt-pow}
use Rattle.std.proofs.lemmas.List.{append-nil}
use Rattle.fts_postings.proofs.MarksLemmas.{lowest_below, lowest_written, marked-lowest, none_marked, others_below}
use Rattle.fts_postings.proofs.marks.write.Goals as goal

pub overflow_add-out : goal.overflow_add-out
overflow_add-out c = omega (
  arith,
  lowest_below c.args.from (c.args.from + 63) c.loop-marks.marks (omega (arith, c.loop-marks-test.true))
      (Fits-lt-pow c.loop-marks.auto.marks-fits) (2 ^ 32) c.loop-marks.invariant.few,
)

pub overflow_cast-out-in-loop-marks : goal.overflow_cast-out-in-loop-marks
overflow_cast-out-in-loop-marks c =
    omega (
      arith,
      lowest_below c.args.from (c.args.from + 63) c.loop-marks.marks (omega (arith, c.loop-marks-test.true))
          (Fits-lt-pow c.loop-marks.auto.marks-fits) (2 ^ 32) c.loop-marks.invariant.few,
    )

pub offset_bounds-out-count : goal.offset_bounds-out-count
offset_bounds-out-count c =
    let last = c.args.from + 63 in
    let more = marked-lowest c.args.from last c.loop-marks.marks (omega (arith, c.loop-marks-test.true)) (Fits-lt-pow c.loop-marks.auto.marks-fits)
    (omega arith) in
    omega (arith, c.requires.room, c.loop-marks.invariant.size, ap length more)

pub overflow_add-count : goal.overflow_add-count
overflow_add-count c =
    let last = c.args.from + 63 in
    let more = marked-lowest c.args.from last c.loop-marks.marks (omega (arith, c.loop-marks-test.true)) (Fits-lt-pow c.loop-marks.auto.marks-fits)
    (omega arith) in
    omega (arith, c.requires.room, c.loop-marks.invariant.size, ap length more)

pub bounds-out-count : goal.bounds-out-count
bounds-out-count c =
    let last = c.args.from + 63 in
    let more = marked-lowest c.args.from last c.loop-marks.marks (omega (arith, c.loop-marks-test.true)) (Fits-lt-pow c.loop-marks.auto.marks-fits)
    (omega arith) in
    omega (arith, c.requires.room, c.loop-marks.invariant.size, ap length more)

pub loop-marks-preserved : goal.loop-marks-preserved
loop-marks-preserved c =
    let last = c.args.from + 63 in
    let marks = c.loop-marks.marks in
    let some : 0 < marks = omega (arith, c.loop-marks-test.true) in
    let more = marked-lowest c.args.from last marks some (Fits-lt-pow c.loop-marks.auto.marks-fits) (omega arith) in
    let room : c.loop-marks.count < 128 = omega (arith, c.requires.room, c.loop-marks.invariant.size, ap length more) in
    record {
      few = others_below c.args.from marks (2 ^ 32) c.loop-marks.invariant.few;
      size = omega (arith, c.loop-marks.invariant.size, ap length more);
      front = lowest_written c.loop-marks.out c.loop-marks.count c.args.from last marks some (Fits-lt-pow c.loop-marks.auto.marks-fits) (omega arith)
          (omega (arith, room)) ∙ c.loop-marks.invariant.front;
    }

pub returns-clause-count : goal.returns-clause-count
returns-clause-count c =
    let none = none_marked c.args.from (c.args.from + 63) c.loop-marks.marks (omega (arith, c.loop-marks-test.false)) in
    omega (arith, c.loop-marks.invariant.size, ap length none)

pub returns-clause-written : goal.returns-clause-written
returns-clause-written c =
    let none = none_marked c.args.from (c.args.from + 63) c.loop-marks.marks (omega (arith, c.loop-marks-test.false)) in
    sym (append-nil (take c.loop-marks.count c.loop-marks.out)) ∙ ap (λ xs. take c.loop-marks.count c.loop-marks.out ++ xs) (sym none)
    ∙ c.loop-marks.invariant.front
