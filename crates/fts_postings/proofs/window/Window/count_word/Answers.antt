-- The bits of a word before the first place and after the last don't count.
use Rattle.std.proofs.Common.{◌+◌, ◌-◌, ◌*◌, ◌/◌, ◌%◌, ◌^◌, ap, ◌∙◌, arith}
use Rattle.std.specs.Int.RustNames.{bit_and}
use Rattle.std.proofs.lemmas.Nat.Bits.{ones_shl, ones_shr}
use Rattle.fts_postings.proofs.TakingLemmas.{counted_word}
use Rattle.fts_postings.proofs.window.Window.count_word.Goals as goal

pub returns-clause-count : goal.returns-clause-count
returns-clause-count c =
    let w = c.args.self.now in
    let at = (w.from - w.base) % 64 in
    let start = w.from - at in
    let word = c.word.result in
    let marks = bit_and word ((2 ^ 64 - 1) * 2 ^ at % 2 ^ 64) in
    let is = ap (bit_and word) (ones_shl 64 at (omega arith)) in
    let mask = ap (λ k. (2 ^ 64 - 1) / 2 ^ k) c.saturating_sub-behind.ensures ∙ ones_shr 64 (start + 63 - w.last) (omega (arith, c.requires)) in
    counted_word w.words w.base w.from word w.order c.word.ensures marks is w.last _ c.requires mask
