-- A word without marks is passed over, and otherwise the places before its lowest mark.
use Rattle.std.proofs.Common.{◌≡◌, ◌+◌, ◌-◌, ◌*◌, ◌%◌, ◌^◌, ◌<◌, ap, sym, arith}
use Rattle.std.proofs.lemmas.Nat.{and_le_r}
use Rattle.std.specs.Int.RustNames.{bit_and}
use Rattle.std.specs.Int.{w64, trailing_zeros}
use Rattle.std.proofs.lemmas.Nat.Bits.{ones_shl}
use Rattle.fts_postings.proofs.WindowLemmas.{found-ahead, lowest_from, lowest_is, none_before, none_here}
use Rattle.fts_postings.proofs.window.Window.pass_word.Goals as goal

pub returns-then-marks-eq0-clause-same : goal.returns-then-marks-eq0-clause-same
returns-then-marks-eq0-clause-same c =
    let w = c.args.self.now in
    let at = (w.from - w.base) % 64 in
    let word = c.word.result in
    let marks = bit_and word ((2 ^ 64 - 1) * 2 ^ at % 2 ^ 64) in
    let is = ap (bit_and word) (ones_shl 64 at (omega arith)) in
    let none : marks ≡ 0 = c.if-marks-eq0.true in
    sym (found-ahead w.base w.from (w.from - at + 64) w.last w.words (omega arith) (none_here w.words w.base w.from word w.order c.word.ensures
    marks is none))

pub returns-clause-same : goal.returns-clause-same
returns-clause-same c =
    let w = c.args.self.now in
    let at = (w.from - w.base) % 64 in
    let word = c.word.result in
    let marks = bit_and word ((2 ^ 64 - 1) * 2 ^ at % 2 ^ 64) in
    let is = ap (bit_and word) (ones_shl 64 at (omega arith)) in
    let some : 0 < marks = omega arith in
    let fits : marks < 2 ^ 64 = omega (arith, and_le_r word ((2 ^ 64 - 1) * 2 ^ at % 2 ^ 64)) in
    let low = lowest_from w.words w.base w.from word w.order c.word.ensures marks is some fits in
    sym (found-ahead w.base w.from (w.from - at + trailing_zeros w64 marks) w.last w.words (omega (arith, low))
    (none_before w.words w.base w.from word w.order c.word.ensures marks is some fits))

pub returns-clause-marked : goal.returns-clause-marked
returns-clause-marked c _ =
    let w = c.args.self.now in
    let at = (w.from - w.base) % 64 in
    let word = c.word.result in
    let marks = bit_and word ((2 ^ 64 - 1) * 2 ^ at % 2 ^ 64) in
    let is = ap (bit_and word) (ones_shl 64 at (omega arith)) in
    let some : 0 < marks = omega arith in
    let fits : marks < 2 ^ 64 = omega (arith, and_le_r word ((2 ^ 64 - 1) * 2 ^ at % 2 ^ 64)) in
    lowest_is w.words w.base w.from word w.order c.word.ensures marks is some fits
