-- One document, or those of a word.
use Rattle.std.proofs.Common.{◌+◌, ◌-◌, ◌*◌, ◌%◌, ◌^◌, ◌<◌, refl, ap, sym, ◌∙◌, arith}
use Rattle.std.proofs.lemmas.Nat.{and_le_r}
use Rattle.std.specs.Int.RustNames.{bit_and}
use Rattle.std.proofs.lemmas.Nat.Bits.{ones_shl}
use Rattle.fts_postings.specs.Windows.{found_in}
use Rattle.fts_postings.proofs.TakingLemmas.{marked-ones, marked_few, taken_word}
use Rattle.fts_postings.proofs.WindowLemmas.{word_split}
use Rattle.fts_postings.proofs.window.Window.take_next.Goals as goal

pub write-requires-clause-room : goal.write-requires-clause-room
write-requires-clause-room c =
    let w = c.first.new.self in
    let at = (w.from - w.base) % 64 in
    let word = c.word.result in
    let marks = bit_and word ((2 ^ 64 - 1) * 2 ^ at % 2 ^ 64) in
    let fits : marks < 2 ^ 64 = omega (arith, and_le_r word ((2 ^ 64 - 1) * 2 ^ at % 2 ^ 64)) in
    omega (arith, c.if-filled-count-gt128.false, marked-ones (w.from - at) marks fits)

pub write-requires-clause-few : goal.write-requires-clause-few
write-requires-clause-few c =
    let w = c.first.new.self in
    let at = (w.from - w.base) % 64 in
    let word = c.word.result in
    let marks = bit_and word ((2 ^ 64 - 1) * 2 ^ at % 2 ^ 64) in
    let fits : marks < 2 ^ 64 = omega (arith, and_le_r word ((2 ^ 64 - 1) * 2 ^ at % 2 ^ 64)) in
    marked_few (w.from - at) marks (2 ^ 32) fits (omega (arith, c.if-start-self.false, w.fits))

pub returns-clause-taken : goal.returns-clause-taken
returns-clause-taken c =
    let old = c.args.self.now in
    let w = c.first.new.self in
    let at = (w.from - w.base) % 64 in
    let start = w.from - at in
    let word = c.word.result in
    let marks = bit_and word ((2 ^ 64 - 1) * 2 ^ at % 2 ^ 64) in
    let fits : marks < 2 ^ 64 = omega (arith, and_le_r word ((2 ^ 64 - 1) * 2 ^ at % 2 ^ 64)) in
    let is = ap (bit_and word) (ones_shl 64 at (omega arith)) in
    let stands = c.in-Some.ensures.stands in
    taken_word (found_in old.base old.from old.last old.words) (found_in w.base (start + 64) w.last w.words) c.args.out.now c.write.new.out w.base
    start c.in-Some.doc w.last marks c.args.filled c.write.result _ w.words _
    (sym c.first.ensures.same ∙ stands.1) (omega (arith, stands.0)) refl
    (sym c.first.ensures.same ∙ word_split w.words w.base w.from word w.order c.word.ensures marks is w.last (omega (arith, c.if-start-self.false)))
    (marked-ones start marks fits) c.if-filled-count-gt128.false c.write.ensures.count c.write.ensures.written
