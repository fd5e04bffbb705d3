use Rattle.std.proofs.Common.{◌≡◌, true, replicate, rules, sym, ◌∙◌, arith}
use Rattle.fts_pack.specs.bits.Digits.{word_count}
use Rattle.fts_pack.proofs.BitsLemmas.{all_ones, AreFull, AreFull-whole, AreFull-rest, IsBits-full, flags-full, ones_replicated, rest_inside}
use Rattle.fts_pack.proofs.bits.bits.Bits.filled.Goals as goal
use Rattle.fts_pack.proofs.bits.bits.Bits.filled.Goals.{then-rest-gt0, else-rest-gt0}

filled : (c : goal.Joined-rest-gt0) → AreFull c.args.len c.if-rest-gt0.words.items
filled c =
    let words : c.in_ok-words.words.items ≡ replicate (word_count 64 c.args.len) all_ones = search rules in
    elim c.if-rest-gt0.branch [
      | then-rest-gt0 w ↦ (rw (w.words-is, words) (AreFull-rest c.args.len w.if-rest-gt0.true))
      | else-rest-gt0 w ↦ (rw (w.words-is, words) (AreFull-whole c.args.len (omega (arith, w.if-rest-gt0.false))))
    ]

pub index_mut-requires : goal.index_mut-requires
index_mut-requires c =
    omega (arith, c.in_ok-words.ensures.len, c.word_count_64.ensures, rest_inside c.args.len c.if-rest-gt0.true)

pub invariant_of-result : goal.invariant_of-result
invariant_of-result c = record {
  bits = IsBits-full c.args.len _ c.ranges.len.fits (filled c);
  ones_are = sym (sym (ones_replicated _ c.args.len true (flags-full c.args.len _ (filled c))) ∙ omega arith);
}

pub returns : goal.returns
returns c = flags-full c.args.len _ (filled c)
